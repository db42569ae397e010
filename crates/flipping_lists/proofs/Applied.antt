-- A flip list on lent tables that agree: it can be applied, and leaves what is written. Assumes nothing.
use mathlib.Core.Path.{◌≡◌, ap, sym, subst, subst₂, ◌∙◌}
use mathlib.Core.Bool.{true}
use mathlib.Core.List.{List}
use Prim.Native.Nat.{ℕ, ◌+◌, ◌*◌, ◌≤◌, ◌<◌}
use lib.ListN.{length}
use Rattle.written.specs.declared.Counts.{Counts}
use Rattle.written.specs.Lists.{steps}
use Rattle.written.specs.Limits.{Limits}
use Rattle.written.specs.Clauses.{State}
use Rattle.written.specs.Tables.{Tables, lent, are_full, counts_of, holding}
use Rattle.written.specs.Agreement.{state_in, agree}
use Rattle.written.specs.Flips.{flipped}
use Rattle.laws.specs.Valid.{Valid}
use Rattle.laws.proofs.Flips.{flipped-file}
use Rattle.laws.proofs.Kept.{flipped-valid}
use Rattle.laws.proofs.Sizes.{valid-fit}
use Rattle.machine.specs.Moving.{Moving, view, flip_term}
use Rattle.machine.specs.Passes.{opened, closed, CanOpen, CanClose, applied, CanApply}
use Rattle.machine.specs.Holds.{Resting, Walking}
use Rattle.machine.specs.Lent.{fixed_in, moving_in}
use Rattle.flipping_lists.proofs.FlipLists.{terms_of, flips-can, flips-walking}
use Rattle.machine.proofs.Opened.{opened-walking, open_can, close_can}
use Rattle.flipping_lists.proofs.Outcome.{flips-outcome}
use Rattle.machine.proofs.Agreed as agreed

module _ (lim : Limits) (top : ℕ) (fc : lim.clauses + 1 < top) (ft : 2 * lim.terms < top) (fl : lim.literals < top)
    (n : Counts) (t : Tables) (full : are_full lim t ≡ true) (ok : agree lim n t ≡ true) where
  abbrev s : State
  s = state_in n t

  abbrev C : ℕ
  C = n.clauses

  valid : Valid lim s
  valid = agreed.valid lim n t full ok

  clauses_are : length s.file.clauses ≡ C
  clauses_are = agreed.clauses_are lim n t full ok

  resting : Resting top s (fixed_in t) (moving_in n.uncovered t)
  resting = agreed.resting lim n t full ok top fc ft fl

  module _ (ts : List ℕ) (b : terms_of n.terms ts ≡ true) where
    abbrev r : State
    r = flipped ts s

    -- the tables as they are walked on, at first and at the end
    abbrev ready : Moving
    ready = opened C (fixed_in t) (moving_in n.uncovered t)

    abbrev walked : Moving
    walked = steps (flip_term (fixed_in t)) ts ready

    known : terms_of (length s.values) ts ≡ true
    known = subst (λ (k : ℕ). terms_of k ts ≡ true) (sym (valid.one_each ∙ agreed.terms_are lim n t full ok)) b

    walking : Walking top s (fixed_in t) ready
    walking =
        subst (λ (c : ℕ). Walking top s (fixed_in t) (opened c (fixed_in t) (moving_in n.uncovered t))) clauses_are
        (opened-walking top s (fixed_in t) (moving_in n.uncovered t) (λ c. 0) resting)

    pub agree_applies : CanApply top C (fixed_in t) ts (moving_in n.uncovered t)
    agree_applies =
        record {
          opens =
              subst (λ (c : ℕ). CanOpen c (view t.values t.starts t.literals) t.trues t.places) clauses_are
              (open_can top s (fixed_in t) (moving_in n.uncovered t) (λ c. 0) resting);
          flips = flips-can top ts s (fixed_in t) ready walking known;
          closes =
              subst (λ (c : ℕ). CanClose c walked.tallies.trues walked.tallies.uncovered.places)
              (ap (λ f. length f.clauses) (flipped-file ts s) ∙ clauses_are)
              (close_can top r (fixed_in t) walked _ (flips-walking top ts s (fixed_in t) ready walking known));
        }

    -- what is written to
    pub agree-outcome : applied C (fixed_in t) ts (moving_in n.uncovered t) ≡ moving_in (length r.uncovered) (holding lim r t)
    unfolding applied
    agree-outcome =
        subst (λ (u : Tables). closed C (steps (flip_term (fixed_in u)) ts (opened C (fixed_in u) (moving_in n.uncovered u))) ≡ moving_in (length r.uncovered) (holding lim r t))
        (agreed.held lim n t full ok)
        (subst₂
        (λ (c k : ℕ). closed c (steps (flip_term (fixed_in (holding lim s t))) ts (opened c (fixed_in (holding lim s t)) (moving_in k (holding lim s t)))) ≡ moving_in (length r.uncovered) (holding lim r t))
        clauses_are (agreed.number_is lim n t full ok) (flips-outcome lim top fc ft fl t ts s valid known))

    -- all ten tables, of which some were only read
    pub agree-leaves : {w : Moving} → w ≡ moving_in (length r.uncovered) (holding lim r t)
        → lent t.names w.words t.starts t.literals t.occurrence_starts t.occurrences w.tallies.trues w.tallies.breaks
        w.tallies.uncovered.list w.tallies.uncovered.places ≡ holding lim r t
    agree-leaves e = agreed.leaves_are lim n t full ok r (flipped-file ts s) e

    r-valid : Valid lim r
    r-valid = flipped-valid lim ts s valid (subst (λ (k : ℕ). terms_of k ts ≡ true) valid.one_each known)

    -- the number of uncovered clauses is within the limit
    pub agree-few : length r.uncovered ≤ lim.clauses
    unfolding counts_of
    agree-few = (valid-fit lim r r-valid).uncovered

    -- the counts are those given, with that number
    pub agree-counted : {k : ℕ} → k ≡ length r.uncovered → ◌≡◌ {A = Counts} (record { terms = n.terms; clauses = n.clauses; literals = n.literals; uncovered = k }) (counts_of r)
    agree-counted e = agreed.counted_are lim n t full ok r (flipped-file ts s) e
