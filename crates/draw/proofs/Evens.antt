-- How an even choice goes on, and that it is below its number. Assumes nothing.
use mathlib.Core.Path.{◌≡◌, refl, ap}
use mathlib.Core.Bool.{Bool, true, false, cond}
use Prim.Native.Nat.{ℕ, zero, suc, ◌-◌, ◌*◌, ◌/◌, ◌≤◌, ◌<◌}
use native.Mathlib.Omega.{arith}
use native.Mathlib.Nat.{mod-lt}
use lib.Dec.{ltb, eqb-suc-zero}
use borrow.Author.Tests.{lt-ltb, le-ltb, ne_eqb}
use Rattle.draw.specs.declared.Drawn.{Drawn}
use Rattle.draw.specs.Xorshift.{next_of}
use Rattle.draw.specs.Even.{less_one, even_from, even_of}

-- the draw n is taken at once, or drawn again where more may follow, or taken as the last
pub even-taken : (k m n : ℕ) → n - 1 < m * (4294967295 / m) → even_from k m n ≡ less_one m n
unfolding even_from
even-taken zero m n h = refl
even-taken (suc k) m n h = simp (lt-ltb _ _ h)

pub even-again : (k m n : ℕ) → 0 < k → m * (4294967295 / m) ≤ n - 1 → even_from k m n ≡ even_from (k - 1) m (next_of n)
unfolding even_from
even-again zero m n p h = absurd (omega arith)
even-again (suc k) m n p h = simp (le-ltb _ _ h) (ap (λ (j : ℕ). even_from j m (next_of n)) {x = k} {y = suc k - 1} (omega arith))

pub even-last : (k m n : ℕ) → k ≤ 0 → even_from k m n ≡ less_one m n
unfolding even_from
even-last zero m n h = refl
even-last (suc k) m n h = absurd (omega arith)

-- what holds of every draw that may be taken holds of the one that is
from_all : (P : Drawn → Type 0) (m : ℕ) → ((n : ℕ) → P (less_one m n)) → (k n : ℕ) → P (even_from k m n)
unfolding even_from
from_all P m h zero n = h n
from_all P m h (suc k) n = by-taken (ltb (n - 1) (m * (4294967295 / m))) (h n) (from_all P m h k (next_of n))
  where
    by-taken : (b : Bool) → P (less_one m n) → P (even_from k m (next_of n)) → P (cond b (less_one m n) (even_from k m (next_of n)))
    by-taken true t a = t
    by-taken false t a = a

pub even-lt : (m y : ℕ) → 0 < m → (even_of m y).number < m
unfolding even_of
even-lt m zero l = l
even-lt m (suc y) l = simp (eqb-suc-zero y, ne_eqb m 0 (λ e. omega arith)) (from_all (λ d. d.number < m) m (λ n. mod-lt (n - 1) l) _ (next_of (suc y)))
