-- Starts that cut entries into parts: each part can be read, and how long it is. Assumes nothing.
use mathlib.Core.Path.{◌≡◌, ap}
use mathlib.Core.Bool.{true}
use mathlib.Core.List.{List}
use Prim.Native.Nat.{ℕ, zero, suc, ◌+◌, ◌-◌, ◌≤◌, ◌<◌}
use native.Mathlib.Omega.{arith}
use lib.ListN.{length, get_or, drop, length-drop}
use lib.Seq.{length-take-le}
use lib.Dec.{eqb, ltb}
use borrow.Author.Tests.{eqb-true, ltb-true}
use Rattle.written.specs.Lists.{all, below}
use Rattle.written.specs.Agreement.{part_of}
use Rattle.laws.proofs.Basics.{both_first, both-second}
use Rattle.laws.proofs.All.{all-below}
use Rattle.machine.specs.Moving.{CanPart}
use Rattle.machine.specs.Judging.{starts_right}
use Rattle.machine.specs.Cuts.{Cuts}

pub length_part : (ss xs : List ℕ) (k : ℕ) → CanPart ss xs k → length (part_of ss xs k) ≡ get_or ss (k + 1) 0 - get_or ss k 0
unfolding part_of
length_part ss xs k p =
    let a = get_or ss k 0 in
    let e = get_or ss (k + 1) 0 in
    length-take-le (e - a) (drop a xs) (omega (arith, length-drop a xs, p.order, p.within))

module _ (n L : ℕ) (ss : List ℕ) (h : Cuts n L ss) where
  up_from : (j k : ℕ) → k + j ≡ n → get_or ss k 0 ≤ L
  up_from zero k e = omega (arith, ap (λ (i : ℕ). get_or ss i 0) (let q : k ≡ n = omega arith in q), h.last)
  up_from (suc j) k e = omega (arith, h.rise k (omega arith), up_from j (k + 1) (omega arith))

  -- no start is past the last
  pub start-low : (k : ℕ) → k ≤ n → get_or ss k 0 ≤ L
  start-low k l = up_from (n - k) k (omega arith)

  pub can-cut : (xs : List ℕ) → L ≤ length xs → (k : ℕ) → k < n → CanPart ss xs k
  can-cut xs f k l =
      record { start = omega (arith, h.size); order = h.rise k l; within = omega (arith, start-low (k + 1) (omega arith)) }

  pub short-part : (xs : List ℕ) → L ≤ length xs → (k : ℕ) → k < n → length (part_of ss xs k) ≤ L
  short-part xs f k l = omega (arith, length_part ss xs k (can-cut xs f k l), start-low (k + 1) (omega arith))

-- clause starts that are right cut the literals
pub right-cuts : (C L : ℕ) (ss : List ℕ) → C < length ss → starts_right C L ss ≡ true → Cuts C L ss
unfolding starts_right
right-cuts C L ss size h =
    let a = eqb (get_or ss 0 0) 0 in
    let b = all (λ c. ltb (get_or ss c 0) (get_or ss (c + 1) 0)) (below C) in
    let d = eqb (get_or ss C 0) L in
    record {
      first = eqb-true _ _ (search (both_first, both-second));
      rise = λ k l. (let r : get_or ss k 0 < get_or ss (k + 1) 0 = ltb-true _ _ (all-below (λ c. ltb (get_or ss c 0) (get_or ss (c + 1) 0)) C k l (search (both_first, both-second))) in omega arith);
      last = eqb-true _ _ (search (both_first, both-second));
      size = size;
    }
