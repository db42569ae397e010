-- What a test of every entry of a part says of the rest of a table. Assumes nothing.
use mathlib.Core.Path.{◌≡◌}
use mathlib.Core.Bool.{Bool}
use mathlib.Core.List.{List}
use Prim.Native.Nat.{ℕ, ◌-◌, ◌<◌}
use lib.ListN.{length, get_or, take, drop}
use lib.Dec.{eqb}
use borrow.Author.Tests.{eq-eqb, eqb-true}
use Rattle.std.specs.Prelude.{◌↔◌, IsTrue}
use Rattle.written.specs.Lists.{all}
use Rattle.laws.proofs.Basics.{same_tests}
use Rattle.laws.proofs.All.{all_get_d, all-by}
use Rattle.machine.specs.Judging.{rest_right}
use Rattle.machine.proofs.Rest.{rest-is}

each_zero : (xs : List ℕ) {r : Bool} → (IsTrue r ↔ ((k : ℕ) → k < length xs → get_or xs k 0 ≡ 0)) → r ≡ all (λ x. eqb x 0) xs
each_zero xs h =
    same_tests _ _ (λ e. all-by (λ x. eqb x 0) xs 0 (λ k l. eq-eqb _ _ (h.0 e k l)))
    (λ e. h.1 (λ k l. eqb-true _ _ (all_get_d (λ x. eqb x 0) xs k 0 l e)))

pub rest_zeros : (a b : ℕ) (xs : List ℕ) {r : Bool}
    → (IsTrue r ↔ ((k : ℕ) → k < length (take (b - a) (drop a xs)) → get_or (take (b - a) (drop a xs)) k 0 ≡ 0)) → r ≡ rest_right a b xs
rest_zeros a b xs h = rest-is a b xs (each_zero (take (b - a) (drop a xs)) h)
