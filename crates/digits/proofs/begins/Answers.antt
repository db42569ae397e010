-- `digits::begins` meets its contract: the standard library compares the key with the bytes as the paper does the bytes with the key. Assumes nothing.
use mathlib.Core.Path.{◌≡◌, refl, sym, ap₂, ◌∙◌}
use mathlib.Core.Bool.{Bool, ◌&&◌}
use mathlib.Core.List.{List, [], ◌∷◌}
use Prim.Native.Nat.{ℕ}
use lib.Dec.{eqb}
use lib.ListN.{length, take}
use lib.Pointwise.{pointwise}
use borrow.Author.Tests.{eqb-true, eq-eqb}
use Rattle.written.specs.Lists.{same}
use Rattle.laws.proofs.Basics.{same_tests}
use Rattle.digits.proofs.begins.Goals as goal

pointwise-same : (key xs : List ℕ) → pointwise eqb key xs ≡ same xs key
pointwise-same [] [] = refl
pointwise-same [] (x ∷ xs) = refl
pointwise-same (k ∷ key) [] = refl
pointwise-same (k ∷ key) (x ∷ xs) =
    ap₂ (λ (a b : Bool). a && b) (same_tests _ _ (λ h. eq-eqb x k (sym (eqb-true k x h))) (λ h. eq-eqb k x (sym (eqb-true x k h)))) (pointwise-same key xs)

pub returns : goal.returns
returns c = let key = c.args.key.now in c.starts_with.ensures.value ∙ pointwise-same key (take (length key) c.args.rest.now)
