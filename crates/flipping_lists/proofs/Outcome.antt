-- A flip list on the lent tables of a valid state leaves the tables that are written for its outcome. Assumes nothing.
use mathlib.Core.Path.{◌≡◌, refl, ap, ◌∙◌}
use mathlib.Core.Bool.{true}
use mathlib.Core.List.{List, [], ◌∷◌}
use Prim.Native.Nat.{ℕ, ◌+◌, ◌*◌, ◌<◌}
use lib.ListN.{length}
use Rattle.words.specs.Words.{turn_at}
use Rattle.written.specs.Lists.{steps, padded}
use Rattle.written.specs.Limits.{Limits}
use Rattle.written.specs.Clauses.{State}
use Rattle.written.specs.Flips.{flip, flipped}
use Rattle.written.specs.Tables.{Tables, each, full_sizes, words_of, in_use, tables_of, over, holding}
use Rattle.laws.specs.Valid.{Bits, Valid}
use Rattle.laws.proofs.Turning.{turned-bits}
use Rattle.laws.proofs.Flips.{flipped-file}
use Rattle.laws.proofs.Parity.{flipped-length}
use Rattle.laws.proofs.Values.{turn-over}
use Rattle.machine.specs.Moving.{Fixed, Moving, flip_term}
use Rattle.machine.specs.Passes.{opened, closed}
use Rattle.machine.specs.Holds.{Resting, Walking}
use Rattle.machine.specs.Lent.{fixed_in, moving_in}
use Rattle.machine.proofs.Standings.{kept_trans}
use Rattle.flipping_lists.proofs.FlipLists.{terms_of, terms-first, terms-rest, flips-walking, flips-kept}
use Rattle.machine.proofs.Sizes.{sizes_trans, flips-sizes, opened-sizes}
use Rattle.machine.proofs.Opened.{opened-walking, opened-kept}
use Rattle.machine.proofs.Laid.{laid-resting, holding-laid}
use Rattle.machine.proofs.Tallied.{closed-outcome}

-- a flip list turns the words to those that are written for its outcome
words-flipped : (n : ℕ) (old : List ℕ) (x : Fixed) (ts : List ℕ) (s : State) (w : Moving) → Bits s.values → terms_of (length s.values) ts ≡ true
    → w.words ≡ over (padded n (words_of s.values)) old → (steps (flip_term x) ts w).words ≡ over (padded n (words_of (flipped ts s).values)) old
unfolding flipped flip flip_term
words-flipped n old x [] s w h b e = e
words-flipped n old x (v ∷ ts) s w h b e =
    words-flipped n old x ts (flip v s) (flip_term x v w) (turned-bits v s.values h) (terms-rest v ts s b)
    (ap (λ (ws : List ℕ). turn_at ws v) e ∙ turn-over n s.values old v h (terms-first v ts s b))

module _ (lim : Limits) (top : ℕ) (fc : lim.clauses + 1 < top) (ft : 2 * lim.terms < top) (fl : lim.literals < top) (t : Tables) (ts : List ℕ)
    (s : State) (vs : Valid lim s) (b : terms_of (length s.values) ts ≡ true) where
  abbrev C : ℕ
  C = length s.file.clauses

  abbrev r : State
  r = flipped ts s

  abbrev x : Fixed
  x = fixed_in (holding lim s t)

  abbrev w : Moving
  w = moving_in (length s.uncovered) (holding lim s t)

  abbrev walked : Moving
  walked = steps (flip_term x) ts (opened C x w)

  resting : Resting top s x w
  resting = laid-resting lim top fc ft fl s (holding lim s t) vs (holding-laid lim s vs.proper.few-clauses t)

  walking : Walking top s x (opened C x w)
  walking = opened-walking top s x w (λ c. 0) resting

  words_are : walked.words ≡ (holding lim r t).values
  unfolding holding tables_of each in_use
  words_are = words-flipped (full_sizes lim).values t.values x ts s (opened C x w) vs.bits b (unfold opened in refl)

  -- what a flip writes is what is written
  pub flips-outcome : closed C walked ≡ moving_in (length r.uncovered) (holding lim r t)
  flips-outcome =
      closed-outcome lim top fc ft fl t s r vs (flipped-file ts s) (flipped-length ts s) x walked (flips-walking top ts s x (opened C x w) walking b)
      (sizes_trans (flips-sizes x ts (opened C x w)) (opened-sizes C x w))
      (kept_trans (opened-kept C (length s.values) x w) (flips-kept top ts s x (opened C x w) walking b))
      words_are
