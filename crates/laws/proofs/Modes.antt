-- A choice of a walk in both modes: by the remainder it is the choice of document 01, it is below its number, and made by few draws. Assumes nothing.
use Prim.Native.Nat.{ℕ, zero, suc, ◌≤◌, ◌<◌}
use mathlib.Core.Path.{◌≡◌, refl, ap, ◌∙◌}
use mathlib.Core.Bool.{◌||◌}
use native.Mathlib.Omega.{arith}
use lib.Dec.{eqb}
use Rattle.draw.specs.Xorshift.{next_of}
use Rattle.draw.specs.Draw.{choice_of}
use Rattle.draw.specs.Even.{is_even, even_from, even_of}
use Rattle.draw.specs.declared.Drawn.{Drawn}
use Rattle.draw.proofs.Laws.{choice-lt}
use Rattle.draw.proofs.Evens.{even-lt}
use Rattle.words.specs.Words.{state_after}
use Rattle.written.specs.declared.Order.{Order}
use Rattle.written.specs.Drawing.{choice}
use Rattle.laws.proofs.Basics.{by_test}

-- "Without the line all stays"
pub remainder : (o : Order) (m y : ℕ) → o.even ≡ 0 → choice o m y ≡ choice_of m y
unfolding choice
remainder o m y e = rw e

-- what holds of both, holds of the one that the mode asks for
by_mode : (P : Drawn → Type 0) (o : Order) (m y : ℕ) → P (even_of m y) → P (choice_of m y) → P (choice o m y)
unfolding choice
by_mode P o m y e r = by_test P (eqb o.even 1) (λ _. e) (λ _. r)

pub choice-below : (o : Order) (m y : ℕ) → 0 < m → (choice o m y).number < m
choice-below o m y l = by_mode (λ d. d.number < m) o m y (even-lt m y l) (choice-lt m y l)

-- ---- the draws of a choice

-- from the state y at most so many draws led to the one that is left
pub record DrawnWithin (y most : ℕ) (d : Drawn) : Type 0 where
  pub draws : ℕ
  pub few : draws ≤ most
  pub state : d.next.state ≡ state_after y draws

-- a state one draw later
after_one : (y k : ℕ) → state_after (next_of y) k ≡ state_after y (suc k)
unfolding state_after
after_one y zero = refl
after_one y (suc k) = ap next_of (after_one y k)

none-drawn : (y : ℕ) {d : Drawn} → d.next.state ≡ y → DrawnWithin y 8 d
unfolding state_after
none-drawn y e = record { draws = 0; few = omega arith; state = e }

one-drawn : (y : ℕ) {d : Drawn} → d.next.state ≡ next_of y → DrawnWithin y 8 d
unfolding state_after
one-drawn y e = record { draws = 1; few = omega arith; state = e }

from-drawn : (k m y : ℕ) → DrawnWithin y (suc k) (even_from k m (next_of y))
unfolding even_from state_after
from-drawn zero m y = record { draws = 1; few = omega arith; state = refl }
from-drawn (suc k) m y =
    by_test (DrawnWithin y (suc (suc k))) (is_even m (next_of y)) (λ _. record { draws = 1; few = omega arith; state = refl })
    (λ _. let d = from-drawn k m (next_of y) in
    record { draws = suc d.draws; few = omega (arith, d.few); state = d.state ∙ after_one y d.draws })

-- a choice takes at most eight draws
pub choice-state : (o : Order) (m y : ℕ) → DrawnWithin y 8 (choice o m y)
unfolding even_of choice_of
choice-state o m y =
    by_mode (DrawnWithin y 8) o m y
    (by_test (DrawnWithin y 8) (eqb y 0 || eqb m 0) (λ _. none-drawn y refl) (λ _. from-drawn 7 m y))
    (by_test (DrawnWithin y 8) (eqb y 0 || eqb m 0) (λ _. none-drawn y refl) (λ _. one-drawn y refl))
