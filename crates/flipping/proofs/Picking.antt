-- The break count that is raised in place of a branch is within its table. Assumes nothing.
use mathlib.Core.Path.{◌≡◌, refl}
use mathlib.Core.Bool.{Bool, true, false, cond}
use Prim.Native.Nat.{ℕ, ◌<◌}
use native.Mathlib.Omega.{arith}
use lib.ListN.{length, get_or}
use lib.Dec.{ltb}
use lib.Bits.{bit_xor}
use borrow.Author.Tests.{ltb-true}
use Rattle.machine.specs.Tallies.{Tallies, pick_of, CanLose}

either-within : (b : Bool) {n p v : ℕ} → (b ≡ true → p < n) → v < n → cond b p v < n
either-within true h l = h refl
either-within false h l = l

pub picked_within : (top v c : ℕ) (t : Tallies) {i : ℕ} → CanLose top v c t → (get_or t.trues c 0 ≡ 1 → ⊥)
    → i ≡ pick_of (get_or t.trues c 0) 3 (bit_xor (get_or t.uncovered.places c 0) v) v → i < length t.breaks
unfolding pick_of
picked_within top v c t h k e = rw e (either-within (ltb (get_or t.trues c 0) 3) (λ q. (h.second (omega (arith, h.count.some, k, ltb-true _ _ q))).within) h.term)
