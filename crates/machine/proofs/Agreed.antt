-- Lent tables that agree: they are written tables of the state they hold, and what is written over them for another state of its file. Assumes nothing.
use mathlib.Core.Path.{◌≡◌, ap, sym, subst₂, ◌∙◌}
use mathlib.Core.Bool.{true}
use Prim.Native.Nat.{ℕ, ◌+◌, ◌*◌, ◌<◌}
use lib.ListN.{length}
use Rattle.written.specs.declared.Counts.{Counts}
use Rattle.written.specs.Limits.{Limits}
use Rattle.written.specs.Clauses.{File, State}
use Rattle.written.specs.Tables.{Tables, lent, each, are_full, in_use, tables_of, counts_of, holding}
use Rattle.written.specs.Agreement.{state_in, agree}
use Rattle.laws.specs.Valid.{Valid}
use Rattle.laws.proofs.Agreeing.{agree-valid, agree-counts, agree-holding}
use Rattle.machine.specs.Moving.{Moving}
use Rattle.machine.specs.Holds.{Resting}
use Rattle.machine.specs.Lent.{fixed_in, moving_in}
use Rattle.machine.proofs.Laid.{laid-resting, holding-laid}

module _ (lim : Limits) (n : Counts) (t : Tables) (full : are_full lim t ≡ true) (ok : agree lim n t ≡ true) where
  abbrev s : State
  s = state_in n t

  pub valid : Valid lim s
  valid = agree-valid lim n t ok full

  pub held : holding lim s t ≡ t
  held = agree-holding lim n t ok full

  pub terms_are : length s.file.names ≡ n.terms
  unfolding counts_of
  terms_are = ap (λ (m : Counts). m.terms) (agree-counts lim n t ok full)

  pub clauses_are : length s.file.clauses ≡ n.clauses
  unfolding counts_of
  clauses_are = ap (λ (m : Counts). m.clauses) (agree-counts lim n t ok full)

  pub number_is : length s.uncovered ≡ n.uncovered
  unfolding counts_of
  number_is = ap (λ (m : Counts). m.uncovered) (agree-counts lim n t ok full)

  pub resting : (top : ℕ) → lim.clauses + 1 < top → 2 * lim.terms < top → lim.literals < top → Resting top s (fixed_in t) (moving_in n.uncovered t)
  resting top fc ft fl =
      subst₂ (λ (u : Tables) (k : ℕ). Resting top s (fixed_in u) (moving_in k u)) held number_is
      (laid-resting lim top fc ft fl s (holding lim s t) valid (holding-laid lim s valid.proper.few-clauses t))

  -- another state of the same file
  module _ (r : State) (same : r.file ≡ s.file) where
    abbrev at : File → State
    at f = record { file = f; values = r.values; uncovered = r.uncovered }

    names-kept : (holding lim r t).names ≡ t.names
    unfolding holding tables_of each in_use
    names-kept = ap (λ (f : File). (holding lim (at f) t).names) same ∙ ap (λ (u : Tables). u.names) held

    fixed_kept : fixed_in (holding lim r t) ≡ fixed_in t
    unfolding holding tables_of each in_use
    fixed_kept = ap (λ (f : File). fixed_in (holding lim (at f) t)) same ∙ ap fixed_in held

    -- all ten tables, of which some were only read
    pub leaves_are : {w : Moving} → w ≡ moving_in (length r.uncovered) (holding lim r t)
        → lent t.names w.words t.starts t.literals t.occurrence_starts t.occurrences w.tallies.trues w.tallies.breaks
        w.tallies.uncovered.list w.tallies.uncovered.places ≡ holding lim r t
    leaves_are e =
        let f : fixed_in t ≡ fixed_in (holding lim r t) = sym fixed_kept in
        let m = sym names-kept in
        λ i. lent (m i) (e i).words (f i).starts (f i).literals (f i).occurrence_starts (f i).occurrences (e i).tallies.trues (e i).tallies.breaks
        (e i).tallies.uncovered.list (e i).tallies.uncovered.places

    -- the counts are those given, with its number of uncovered clauses
    pub counted_are : {k : ℕ} → k ≡ length r.uncovered → ◌≡◌ {A = Counts} (record { terms = n.terms; clauses = n.clauses; literals = n.literals; uncovered = k }) (counts_of r)
    unfolding counts_of
    counted_are e =
        let a = sym (agree-counts lim n t ok full) ∙ ap (λ (f : File). counts_of (record { file = f; values = s.values; uncovered = s.uncovered })) (sym same) in
        λ i. record { terms = (a i).terms; clauses = (a i).clauses; literals = (a i).literals; uncovered = e i }
