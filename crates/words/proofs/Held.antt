-- What holding a term by its mark does to each term's value. Assumes nothing.
use mathlib.Core.Path.{◌≡◌, refl, sym, ap, ◌∙◌}
use mathlib.Core.Logic.{◌≢◌}
use mathlib.Core.Bool.{Bool, true, false, cond}
use mathlib.Core.List.{List}
use Prim.Native.Nat.{ℕ, ◌-◌, ◌/◌, ◌<◌}
use native.Mathlib.Omega.{arith}
use native.Mathlib.Decide.{ℕ_discrete, dec_lt}
use lib.ListN.{length}
use lib.Dec.{eqb}
use borrow.Author.Tests.{eq-eqb, ne_eqb}
use Rattle.words.specs.Words.{bit_at, turn_at, hold_at}
use Rattle.words.proofs.Laws.{by_cases, bit_lt, turn-length, turn-same, turn-other, turn-past}

-- what is chosen by a test, whichever way it goes
either : {A : Type 0} (P : A → Type 0) (b : Bool) {x y : A} → P x → P y → P (cond b x y)
either P true f g = f
either P false f g = g

-- of two values the one that is not the other
other-value : (v w : ℕ) → v < 2 → w < 2 → (v ≡ w → ⊥) → 1 - v ≡ w
other-value v w h l n = omega (arith, n)

module _ (ws : List ℕ) (t m : ℕ) where
  -- the words stay, or the term is turned
  held_by : (P : List ℕ → Type 0) → P ws → P (turn_at ws t) → P (hold_at ws t m)
  unfolding hold_at
  held_by P f g = either P (eqb m 0) f (either P (eqb (bit_at ws t) (cond (eqb m 1) 0 1)) f g)

  pub hold-length : length (hold_at ws t m) ≡ length ws
  hold-length = held_by (λ vs. length vs ≡ length ws) refl (turn-length ws t)

  -- the term has the value of its mark
  pub hold-same : t / 32 < length ws → bit_at (hold_at ws t m) t ≡ cond (eqb m 0) (bit_at ws t) (cond (eqb m 1) 0 1)
  unfolding hold_at
  hold-same h =
      let v : ℕ = cond (eqb m 1) 0 1 in
      let small : v < 2 = either (λ k. k < 2) (eqb m 1) (omega arith) (omega arith) in
      by_cases (ℕ_discrete m 0) (λ e. rw (eq-eqb m 0 e))
      (λ n. rw (ne_eqb m 0 n)
      (by_cases (ℕ_discrete (bit_at ws t) v) (λ e. rw (eq-eqb (bit_at ws t) v e) e)
      (λ d. rw (ne_eqb (bit_at ws t) v d) (turn-same ws t h ∙ other-value (bit_at ws t) v (unfold bit_at in bit_lt _ _) small d))))

  -- and the others keep theirs
  pub hold-other : (u : ℕ) → u ≢ t → bit_at (hold_at ws t m) u ≡ bit_at ws u
  hold-other u n =
      held_by (λ vs. bit_at vs u ≡ bit_at ws u) refl
      (by_cases (dec_lt (t / 32) (length ws)) (λ h. turn-other ws t u h n)
      (λ h. ap (λ (vs : List ℕ). bit_at vs u) (sym (turn-past ws t (omega (arith, h))))))
