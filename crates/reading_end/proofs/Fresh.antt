-- A proper file laid down in cleared tables: turned round and counted, it leaves the tables written for it at values of 0. Assumes nothing.
use mathlib.Core.Path.{◌≡◌, refl, ap, sym, ◌∙◌}
use mathlib.Core.Bool.{true}
use mathlib.Core.List.{List}
use Prim.Native.Nat.{ℕ, ◌+◌, ◌*◌, ◌≤◌, ◌<◌}
use native.Mathlib.Omega.{arith}
use lib.ListN.{length, get_or, length-replicate}
use Rattle.written.specs.Lists.{total}
use Rattle.written.specs.Limits.{Limits}
use Rattle.written.specs.Clauses.{File, State, afresh, as_read}
use Rattle.written.specs.Tables.{Tables, sizes, full_sizes, are_full, turned_round, in_use, over, counts_of, holding, cleared}
use Rattle.written.specs.Agreement.{file_in, state_in}
use Rattle.laws.specs.Valid.{Proper, Valid}
use Rattle.laws.proofs.Parts.{parts-back}
use Rattle.laws.proofs.Each.{Table, at}
use Rattle.laws.proofs.Each.Table.{Values, Starts, Literals, OccurrenceStarts, Occurrences, Trues, Breaks, Uncovered, Places}
use Rattle.laws.proofs.Counted.{listed-few}
use Rattle.laws.proofs.Sizes.{in_use_lem, valid-fit, sizes-fit}
use Rattle.laws.proofs.Holding.{full_at, tables-at, holding-at, holding-length}
use Rattle.laws.proofs.Points.{agree-points}
use Rattle.laws.proofs.Agrees.{holding-agrees}
use Rattle.laws.proofs.Readings.{as_read-valid, file-words}
use Rattle.machine.specs.Tallies.{SameSizes}
use Rattle.machine.specs.Moving.{Moving}
use Rattle.machine.specs.Passes.{closed, recounted}
use Rattle.machine.specs.Holds.{Resting, Walking, Ready, Kept}
use Rattle.machine.specs.Lent.{fixed_in, moving_in}
use Rattle.machine.specs.Judging.{clauses_in, clause_right, literals_right}
use Rattle.machine.specs.Filling.{rounds_in, CanRound}
use Rattle.machine.proofs.Laid.{laid-resting, holding-laid}
use Rattle.machine.proofs.Recounted.{recounted-walking, recounted-kept}
use Rattle.machine.proofs.Sizes.{sizes_trans, recounted-sizes}
use Rattle.machine.proofs.Standings.{kept_trans}
use Rattle.machine.proofs.Tallied.{tallies_for, closed-outcome}
use Rattle.reading_end.proofs.Bare.{bare-at, bare-over, bare-zero, bare-past}

-- ---- a file in cleared tables

module _ (lim : Limits) (t : Tables) (full : are_full lim t ≡ true) (bare : cleared lim t ≡ t) (f : File) (proper : Proper lim f) where
  abbrev s : State
  s = as_read f

  abbrev h : Tables
  h = holding lim s t

  pub fresh-valid : Valid lim s
  fresh-valid = as_read-valid lim f proper

  -- the entries in use are within the full size
  use_few : (k : Table) → length (at k (in_use s)) ≤ at k (full_sizes lim)
  use_few k = omega (arith, in_use_lem lim s fresh-valid k, sizes-fit lim (counts_of s) (valid-fit lim s fresh-valid) k)

  held : (k : Table) → over (at k (in_use s)) (at k t) ≡ at k h
  held k = bare-over lim t bare k (at k (in_use s)) (use_few k) ∙ sym (holding-at lim s t k ∙ ap (λ (u : List ℕ). over u (at k t)) (tables-at lim s k))

  -- a table into which the entries in use are written is the one that is written
  pub fresh-held : (k : Table) {xs : List ℕ} → xs ≡ over (at k (in_use s)) (at k t) → xs ≡ at k h
  fresh-held k e = e ∙ held k

  past : (k : Table) (j : ℕ) → at k (sizes (counts_of s)) ≤ j → get_or (at k t) j 0 ≡ get_or (at k h) j 0
  past k j l =
      sym
      (ap (λ (xs : List ℕ). get_or xs j 0) (holding-at lim s t k ∙ ap (λ (u : List ℕ). over u (at k t)) (tables-at lim s k))
      ∙ bare-past lim t bare k (at k (in_use s)) j (use_few k) (omega (arith, in_use_lem lim s fresh-valid k)))

  -- values of 0 are words of 0
  fresh-values : t.values ≡ h.values
  fresh-values =
      bare-at lim t bare Values
      ∙ sym (holding-at lim s t Values ∙ ap (λ (u : List ℕ). over u t.values) (tables-at lim s Values ∙ file-words lim f fresh-valid))

  -- the clauses are had back, and the literals turned round from the tables are those of the file
  clauses-back : clauses_in (length f.clauses) h.starts h.literals ≡ f.clauses
  unfolding clauses_in in_use as_read afresh
  clauses-back =
      let b = holding-laid lim s proper.few-clauses t in
      rw (b.starts.is, b.literals.is) (parts-back f.clauses b.starts.rest b.literals.rest)

  pub fresh-rounds : rounds_in (length f.names) (length f.clauses) h.starts h.literals ≡ turned_round f
  unfolding turned_round
  fresh-rounds = rw clauses-back refl

  pub fresh-can-round : (top : ℕ) → lim.clauses + 1 < top → lim.literals < top → 2 * lim.terms ≤ lim.clauses
      → CanRound top (length f.names) (length f.clauses) (total length f.clauses) h.starts h.literals t.occurrence_starts t.occurrences t.uncovered
  unfolding counts_of state_in file_in as_read afresh full_sizes sizes clauses_in literals_right clause_right
  fresh-can-round top fc fl fu =
      let g = agree-points lim (counts_of s) h (holding-agrees lim s t fresh-valid) in
      let a = proper.few-terms in
      let c = proper.few-clauses in
      let l = proper.few-literals in
      record {
        cut =
            record {
              first = g.first;
              rise = λ k m. omega (arith, g.rise k m);
              last = g.last;
              size = omega (arith, holding-length lim s t Starts fresh-valid full, full_at lim t Starts full);
            };
        right = g.clauses-valid;
        few-clauses = omega arith;
        few-literals = omega arith;
        literals = omega (arith, holding-length lim s t Literals fresh-valid full, full_at lim t Literals full);
        starts-room = omega (arith, full_at lim t OccurrenceStarts full);
        room = omega (arith, full_at lim t Occurrences full);
        cursors-room = omega (arith, full_at lim t Uncovered full);
        zero = λ k m. bare-zero lim t bare Uncovered k (omega arith);
      }

  -- ---- counts afresh
  module _ (top : ℕ) (fc : lim.clauses + 1 < top) (ft : 2 * lim.terms < top) (fl : lim.literals < top) where
    resting : Resting top s (fixed_in h) (moving_in (length s.uncovered) h)
    unfolding as_read afresh
    resting = laid-resting lim top fc ft fl s h fresh-valid (holding-laid lim s proper.few-clauses t)

    pub fresh-ready : Ready top f s.values (fixed_in h) (moving_in 0 t)
    unfolding as_read afresh full_sizes sizes
    fresh-ready =
        let many = length-replicate {A = ℕ} (length f.names) 0 in
        let a = proper.few-terms in
        let c = proper.few-clauses in
        record {
          holds = resting.holds;
          words = rw fresh-values resting.words;
          trues-room = omega (arith, full_at lim t Trues full);
          breaks-room = omega (arith, full_at lim t Breaks full);
          list-room = omega (arith, full_at lim t Uncovered full);
          places-room = omega (arith, full_at lim t Places full);
        }

    abbrev pub fresh_counts : Moving
    fresh_counts = recounted (length f.clauses) (length s.values) (fixed_in h) (moving_in 0 t)

    pub fresh-walking : Walking top s (fixed_in h) fresh_counts
    unfolding as_read afresh
    fresh-walking = recounted-walking top f s.values (fixed_in h) (moving_in 0 t) fresh-ready

    first-sizes : SameSizes (moving_in 0 t).tallies (tallies_for lim t s)
    first-sizes =
        record {
          trues-size = sym (holding-length lim s t Trues fresh-valid full);
          breaks-size = sym (holding-length lim s t Breaks fresh-valid full);
          list-size = sym (holding-length lim s t Uncovered fresh-valid full);
          places-size = sym (holding-length lim s t Places fresh-valid full);
        }

    first-kept : Kept (length f.clauses) (length s.values) (tallies_for lim t s) (moving_in 0 t).tallies
    unfolding sizes counts_of as_read afresh
    first-kept =
        let a = fresh-valid.one_each in
        record {
          trues-kept = λ j l. past Trues j l;
          breaks-kept = λ j l. past Breaks j (omega arith);
          list-kept = λ j l. past Uncovered j (omega (arith, listed-few s fresh-valid.listed));
          places-kept = λ j l. past Places j l;
        }

    pub fresh-outcome : closed (length f.clauses) fresh_counts ≡ moving_in (length s.uncovered) h
    unfolding as_read afresh recounted
    fresh-outcome =
        closed-outcome lim top fc ft fl t s s fresh-valid refl refl (fixed_in h) fresh_counts fresh-walking
        (sizes_trans (recounted-sizes (length f.clauses) (length s.values) (fixed_in h) (moving_in 0 t)) first-sizes)
        (kept_trans first-kept (recounted-kept top f s.values (fixed_in h) (moving_in 0 t) fresh-ready)) fresh-values
