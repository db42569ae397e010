-- A flip, the passes and a flip list, each put together from what its calls gave. Assumes nothing.
use mathlib.Core.Path.{◌≡◌, refl, ap, ◌∙◌}
use mathlib.Core.List.{List, [], ◌∷◌}
use Prim.Native.Nat.{ℕ}
use native.Mathlib.Omega.{arith}
use lib.Bits.{bit_xor}
use Rattle.words.specs.Words.{bit_of, bit_at, turn_at}
use Rattle.written.specs.Lists.{steps}
use Rattle.written.specs.Agreement.{part_of}
use Rattle.machine.specs.Tallies.{Tallies, tallies, CanSteps, CanGain, CanLose, gain_one, lose_one}
use Rattle.machine.specs.Moving.{Fixed, occurring, Moving, view, CanPart, up_of, down_of, gained, lost, flip_term, CanFlip}
use Rattle.machine.specs.Passes.{rewritten, zeroed, walk_place, rest_place, with_places, opened, closed, CanClose, applied, CanApply, blank}
use Rattle.machine.proofs.Xor.{xor_one}

-- the literal that becomes false is the other one of the term
pub other-down : (ws : List ℕ) (v : ℕ) {k : ℕ} → k ≡ up_of ws v → bit_xor k 1 ≡ down_of ws v
unfolding up_of down_of bit_at bit_of
other-down ws v e = rw e (xor_one v (bit_at ws v) (omega arith))

module _ (x : Fixed) (v : ℕ) (w : Moving) where
  pub can-up : {top : ℕ} → CanFlip top x v w → {k : ℕ} → k ≡ up_of w.words v → CanPart x.occurrence_starts x.occurrences k
  can-up h e = rw e h.up

  pub can-down : {top : ℕ} → CanFlip top x v w → {k : ℕ} → k ≡ down_of w.words v → CanPart x.occurrence_starts x.occurrences k
  can-down h e = rw e h.down

  pub can_gain : {top : ℕ} → CanFlip top x v w → {run : List ℕ} {k : ℕ} → run ≡ part_of x.occurrence_starts x.occurrences k → k ≡ up_of w.words v
      → CanSteps (CanGain top v) (gain_one v) run w.tallies
  can_gain h e₁ e₂ = rw (e₁, e₂) h.gains

  pub is-gained : {t : Tallies} {run : List ℕ} {k : ℕ} → t ≡ steps (gain_one v) run w.tallies
      → run ≡ part_of x.occurrence_starts x.occurrences k → k ≡ up_of w.words v → t ≡ gained x v w.words w.tallies
  unfolding gained
  is-gained e₀ e₁ e₂ = rw (e₀, e₁, e₂)

  pub can_lose : {top : ℕ} → CanFlip top x v w → {t : Tallies} {run : List ℕ} {k : ℕ} → t ≡ gained x v w.words w.tallies
      → run ≡ part_of x.occurrence_starts x.occurrences k → k ≡ down_of w.words v
      → CanSteps (CanLose top v) (lose_one v) run t
  can_lose h e₀ e₁ e₂ = rw (e₀, e₁, e₂) h.loses

  pub is-flipped : {t t' : Tallies} {ws run : List ℕ} {k : ℕ} → t ≡ gained x v w.words w.tallies → ws ≡ turn_at w.words v
      → run ≡ part_of x.occurrence_starts x.occurrences k → k ≡ down_of w.words v
      → t' ≡ steps (lose_one v) run t → ◌≡◌ {A = Moving} (record { words = ws; tallies = t' }) (flip_term x v w)
  unfolding flip_term lost
  is-flipped e₀ e e₁ e₂ e₃ = rw (e₃, e₀, e, e₁, e₂)

-- a flip reads no clause: what it does and what it asks are said by the occurrences alone
module _ (x : Fixed) where
  abbrev y : Fixed
  y = occurring x.occurrence_starts x.occurrences

  pub flip-occurring : (v : ℕ) (w : Moving) → flip_term y v w ≡ flip_term x v w
  unfolding flip_term gained lost
  flip-occurring v w = refl

  pub can-occurring : (top v : ℕ) (w : Moving) → CanFlip top x v w → CanFlip top y v w
  unfolding gained
  can-occurring top v w h = record { word = h.word; small = h.small; up = h.up; down = h.down; gains = h.gains; loses = h.loses }

  pub flips-occurring : (ts : List ℕ) (w : Moving) → steps (flip_term y) ts w ≡ steps (flip_term x) ts w
  flips-occurring [] w = refl
  flips-occurring (v ∷ ts) w = rw (flip-occurring v w) (flips-occurring ts (flip_term x v w))

  pub can-flips-occurring : (top : ℕ) (ts : List ℕ) (w : Moving) → CanSteps (CanFlip top x) (flip_term x) ts w → CanSteps (CanFlip top y) (flip_term y) ts w
  unfolding CanSteps
  can-flips-occurring top [] w h = tt
  can-flips-occurring top (v ∷ ts) w h = (can-occurring top v w h.0, rw (flip-occurring v w) (can-flips-occurring top ts (flip_term x v w) h.1))

pub is-opened : (n : ℕ) (x : Fixed) (w : Moving) {ps : List ℕ}
    → ps ≡ rewritten (walk_place (view w.words x.starts x.literals) w.tallies.trues) n w.tallies.uncovered.places
    → with_places ps w ≡ opened n x w
unfolding opened
is-opened n x w e = ap (λ (ps : List ℕ). with_places ps w) e

pub is-closed : (n : ℕ) (w : Moving) {ps : List ℕ} → ps ≡ rewritten (rest_place w.tallies.trues) n w.tallies.uncovered.places → with_places ps w ≡ closed n w
unfolding closed
is-closed n w e = ap (λ (ps : List ℕ). with_places ps w) e

pub is-blank : (C T : ℕ) (t : Tallies) {bs us : List ℕ} → bs ≡ zeroed T t.breaks → us ≡ zeroed C t.uncovered.list
    → tallies t.trues bs us t.uncovered.places 0 ≡ blank C T t
unfolding blank
is-blank C T t eb eu = rw (eb, eu)

-- a flip list put together from its calls
module _ (top n : ℕ) (x : Fixed) (ts : List ℕ) (w : Moving) (h : CanApply top n x ts w) {ps : List ℕ}
    (o : ps ≡ rewritten (walk_place (view w.words x.starts x.literals) w.tallies.trues) n w.tallies.uncovered.places) where
  pub can-flip-all : CanSteps (CanFlip top (occurring x.occurrence_starts x.occurrences)) (flip_term (occurring x.occurrence_starts x.occurrences)) ts (with_places ps w)
  can-flip-all = rw (is-opened n x w o) (can-flips-occurring x top ts (opened n x w) h.flips)

  module _ {m : Moving} (e : m ≡ steps (flip_term (occurring x.occurrence_starts x.occurrences)) ts (with_places ps w)) where
    walked : m ≡ steps (flip_term x) ts (opened n x w)
    walked = e ∙ flips-occurring x ts (with_places ps w) ∙ ap (steps (flip_term x) ts) (is-opened n x w o)

    pub can_close_all : CanClose n m.tallies.trues m.tallies.uncovered.places
    can_close_all = rw walked h.closes

    pub is-applied : {qs : List ℕ} → qs ≡ rewritten (rest_place m.tallies.trues) n m.tallies.uncovered.places → with_places qs m ≡ applied n x ts w
    unfolding applied
    is-applied q = is-closed n m q ∙ ap (closed n) walked
