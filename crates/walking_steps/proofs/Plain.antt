-- Whether a term of a file is pinned, mark by mark. Assumes nothing.
use Prim.Native.Nat.{ℕ, zero, suc, ◌+◌, ◌<◌}
use mathlib.Core.Path.{◌≡◌, ◌∙◌}
use mathlib.Core.Bool.{Bool, true, false, cond, ◌||◌}
use mathlib.Core.List.{List}
use native.Mathlib.Omega.{arith}
use lib.ListN.{get_or, take}
use lib.Dec.{ltb}
use borrow.Author.Tests.{lt-ltb}
use Rattle.std.proofs.Common.{get_or-take}
use Rattle.laws.proofs.Basics.{by_cases, by-lt}
use Rattle.walking_steps.specs.Stepping.{any_pinned}

module _ (ms : List ℕ) where
  -- where none is, each mark is 0
  here : (k : ℕ) → any_pinned ms (suc k) ≡ false → get_or ms k 0 ≡ 0
  unfolding any_pinned
  here k q =
      by_cases (any_pinned ms k) (λ r. absurd_true (rw r at q))
      (λ r. by-lt 0 (get_or ms k 0) (λ l. absurd_true (rw (r, lt-ltb 0 (get_or ms k 0) l) at q)) (λ l. omega arith))
    where
      absurd_true : true ≡ false → get_or ms k 0 ≡ 0
      absurd_true e = search e

  before : (k : ℕ) → any_pinned ms (suc k) ≡ false → any_pinned ms k ≡ false
  unfolding any_pinned
  before k q = by_cases (any_pinned ms k) (λ r. r ∙ (rw r at q)) (λ r. r)

  pub none-pinned : (n : ℕ) → any_pinned ms n ≡ false → (t : ℕ) → t < n → get_or ms t 0 ≡ 0
  none-pinned zero q t l = absurd (omega arith)
  none-pinned (suc k) q t l =
      by-lt t k (λ m. none-pinned k (before k q) t m) (λ m. let e : t ≡ k = omega arith in rw e (here k q))

  -- one mark more, of the first n: that one is pinned already is remembered
  pub see-more : (n k : ℕ) (any : Bool) → any ≡ any_pinned ms k → k < n → (any || ltb 0 (get_or (take n ms) k 0)) ≡ any_pinned ms (k + 1)
  unfolding any_pinned
  see-more n k any i l =
      let e : k + 1 ≡ suc k = omega arith in
      rw (e, get_or-take, i) (by_cases (any_pinned ms k) (λ q. rw q) (λ q. rw q))
