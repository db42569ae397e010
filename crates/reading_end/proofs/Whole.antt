-- A file laid in cleared tables: it can be finished, and the tables are then those written for it; wiped, they are 0 again. Assumes nothing.
use mathlib.Core.Path.{◌≡◌, ap, sym, ◌∙◌, subst, subst₂}
use mathlib.Core.List.{List, [], ◌++◌, flatten}
use Prim.Native.Nat.{ℕ, ◌+◌, ◌*◌, ◌≤◌, ◌<◌}
use native.Mathlib.Omega.{arith}
use lib.ListN.{length, drop}
use Rattle.std.specs.Prelude.{Ok}
use Rattle.written.specs.declared.Counts.{Counts}
use Rattle.written.specs.Lists.{padded}
use Rattle.written.specs.Limits.{Limits}
use Rattle.written.specs.Clauses.{File, State, afresh, as_read}
use Rattle.written.specs.Tables.{Tables, lent, sizes, full_sizes, starts_from, turned_round, in_use, over, counts_of, holding}
use Rattle.written.specs.Reading.{accepted}
use Rattle.written.specs.Outcomes.{ten, ten_of, read_leaves}
use Rattle.laws.specs.Valid.{Proper, Valid}
use Rattle.laws.proofs.Lists.{padded-length}
use Rattle.laws.proofs.Parts.{flatten-length}
use Rattle.laws.proofs.Each.Table.{Names, Starts, Literals, OccurrenceStarts, Occurrences, Breaks, Places}
use Rattle.laws.proofs.Holding.{tables-at, holding-at}
use Rattle.machine.specs.Tallies.{tallies}
use Rattle.machine.specs.Moving.{Fixed, fixed, Moving, moving, view}
use Rattle.machine.specs.Passes.{zeroed, closed, recounted, CanClose, CanRecount}
use Rattle.machine.specs.Holds.{Walking}
use Rattle.machine.specs.Lent.{fixed_in, moving_in}
use Rattle.machine.specs.Filling.{rounds_in, CanRound}
use Rattle.machine.proofs.Recounted.{recount_can}
use Rattle.machine.proofs.Opened.{close_can}
use Rattle.reading_lines.specs.declared.Place.{Place}
use Rattle.reading_lines.specs.Drafting.{Desk, desk}
use Rattle.reading_end.specs.Clearing.{desk_in, wiped, rest_zeroed}
use Rattle.reading_end.specs.Finishing.{finishing, tidy_clauses, tidy_moving, turned, laid_out, counted_out, counts_at, finished, CanFinish}
use Rattle.reading_end.specs.Laid.{PastOn, LaidOn}
use Rattle.reading_end.specs.Bare.{Bare}
use Rattle.reading_end.proofs.Bare.{bare-back}
use Rattle.reading_end.proofs.Fresh.{fresh-valid, fresh-held, fresh-rounds, fresh-can-round, fresh-ready, fresh_counts, fresh-walking, fresh-outcome}

-- what is asked of tables is asked of those that are equal to them
round_by : {top T C L T' C' L' : ℕ} {ss ls ss' ls' os oc cu : List ℕ} → T ≡ T' → C ≡ C' → L ≡ L' → ss ≡ ss' → ls ≡ ls'
    → CanRound top T' C' L' ss' ls' os oc cu → CanRound top T C L ss ls os oc cu
round_by et ec el es en h = rw (et, ec, el, es, en) h

recount_by : {top C T C' T' : ℕ} {ws ss ls ss' ls' : List ℕ} {m m' : Moving} → C ≡ C' → T ≡ T' → ss ≡ ss' → ls ≡ ls' → m ≡ m'
    → CanRecount top C' T' (view ws ss' ls') m'.tallies → CanRecount top C T (view ws ss ls) m.tallies
recount_by ec et es en em h = rw (ec, et, es, en, em) h

-- what a draft used, wiped, is what was lent
pub wiped-back : (lim : Limits) (t : Tables) → Bare lim t → (w : Desk) → PastOn lim (desk_in t) w → wiped lim w ≡ desk_in t
unfolding wiped full_sizes sizes
wiped-back lim t b w far =
    let n = bare-back lim t b.zero Names b.full w.names far.names-room far.names-past in
    let s = bare-back lim t b.zero Starts b.full w.starts far.starts-room far.starts-past in
    let l = bare-back lim t b.zero Literals b.full w.literals far.literals_room far.literals-past in
    let m = bare-back lim t b.zero Breaks b.full w.stamps far.stamps-room far.stamps-past in
    let o = bare-back lim t b.zero Places b.full w.slots far.slots-room far.slots-past in
    λ i. desk (n i) (s i) (l i) (m i) (o i)

-- a proper file f, laid in the tables w of a draft that was made in the lent tables t
module _ (lim : Limits) (t : Tables) (b : Bare lim t) (f : File) (proper : Proper lim f) (w : Desk) (p : Place) (laid : LaidOn lim (desk_in t) w p f) where
  abbrev s : State
  s = as_read f

  abbrev h : Tables
  h = holding lim s t

  abbrev x : Fixed
  x = fixed w.starts w.literals t.occurrence_starts t.occurrences

  abbrev m : Moving
  m = moving t.values (tallies t.trues w.stamps t.uncovered w.slots 0)

  valid : Valid lim s
  valid = fresh-valid lim t b.full b.zero f proper

  -- ---- the tables of the draft, once what it used on its way is cleared

  names_are : w.names ≡ h.names
  unfolding in_use as_read afresh
  names_are = fresh-held lim t b.full b.zero f proper Names laid.names_are

  starts_are : w.starts ≡ h.starts
  unfolding in_use as_read afresh
  starts_are = fresh-held lim t b.full b.zero f proper Starts laid.starts_are

  literals_are : rest_zeroed lim.literals p.from w.literals ≡ h.literals
  unfolding rest_zeroed in_use as_read afresh full_sizes sizes
  literals_are =
      let n = padded-length lim.literals (flatten f.clauses) (omega (arith, flatten-length f.clauses, proper.few-literals)) in
      ap (λ (xs : List ℕ). over (padded lim.literals xs) w.literals) laid.kept_are
      ∙ ap (λ (r : List ℕ). padded lim.literals (flatten f.clauses) ++ r)
      (ap (λ (k : ℕ). drop k w.literals) n ∙ laid.past.literals-past ∙ ap (λ (k : ℕ). drop k t.literals) (sym n))
      ∙ sym (holding-at lim s t Literals ∙ ap (λ (u : List ℕ). over u t.literals) (tables-at lim s Literals))

  stamps_are : zeroed lim.terms w.stamps ≡ t.breaks
  unfolding full_sizes sizes
  stamps_are = bare-back lim t b.zero Breaks b.full w.stamps laid.past.stamps-room laid.past.stamps-past

  slots_are : zeroed lim.clauses w.slots ≡ t.places
  unfolding full_sizes sizes
  slots_are = bare-back lim t b.zero Places b.full w.slots laid.past.slots-room laid.past.slots-past

  -- ---- the literals turned round

  rounds_are : rounds_in p.terms p.clauses w.starts (rest_zeroed lim.literals p.from w.literals) ≡ turned_round f
  rounds_are = rw (laid.terms_are, laid.clauses_are, starts_are, literals_are) (fresh-rounds lim t b.full b.zero f proper)

  laid_out_lem : laid_out lim p x ≡ fixed_in h
  unfolding laid_out turned tidy_clauses in_use as_read afresh
  laid_out_lem =
      let os = fresh-held lim t b.full b.zero f proper OccurrenceStarts (ap (λ (r : List (List ℕ)). over (starts_from 0 r) t.occurrence_starts) rounds_are) in
      let oc = fresh-held lim t b.full b.zero f proper Occurrences (ap (λ (r : List (List ℕ)). over (flatten r) t.occurrences) rounds_are) in
      λ i. fixed (starts_are i) (literals_are i) (os i) (oc i)

  tidied : tidy_moving lim m ≡ moving_in 0 t
  unfolding tidy_moving
  tidied = λ i. moving t.values (tallies t.trues (stamps_are i) t.uncovered (slots_are i) 0)

  -- ---- the counts, and all of it; top is 2 to the width of an entry
  module _ (top : ℕ) (fc : lim.clauses + 1 < top) (ft : 2 * lim.terms < top) (fl : lim.literals < top) (cursors-fit : 2 * lim.terms ≤ lim.clauses) where
    abbrev counts : Moving
    counts = fresh_counts lim t b.full b.zero f proper top fc ft fl

    terms_are : p.terms ≡ length s.values
    unfolding as_read afresh
    terms_are = laid.terms_are ∙ sym valid.one_each

    counted-out : counted_out lim p x m ≡ counts
    unfolding counted_out
    counted-out = λ i. recounted (laid.clauses_are i) (terms_are i) (laid_out_lem i) (tidied i)

    walking : Walking top s (fixed_in h) counts
    walking = fresh-walking lim t b.full b.zero f proper top fc ft fl

    pub can-finish : CanFinish top lim p x m
    unfolding tidy_clauses as_read afresh
    can-finish =
        let d = laid in
        record {
          few-terms = omega (arith, d.terms_are, proper.few-terms);
          few-clauses = omega (arith, d.clauses_are, proper.few-clauses);
          few-literals = omega (arith, d.from_is, proper.few-literals);
          room = d.past.literals_room;
          rounds =
              round_by d.terms_are d.clauses_are d.from_is starts_are literals_are
              (fresh-can-round lim t b.full b.zero f proper top fc fl cursors-fit);
          recounts =
              recount_by d.clauses_are terms_are starts_are literals_are tidied
              (recount_can top f s.values (fixed_in h) (moving_in 0 t) (fresh-ready lim t b.full b.zero f proper top fc ft fl));
          closes =
              subst₂ (λ (n : ℕ) (k : Moving). CanClose n k.tallies.trues k.tallies.uncovered.places) (sym d.clauses_are) (sym counted-out)
              (close_can top s (fixed_in h) counts _ walking);
          few-uncovered =
              subst (λ (k : Moving). k.tallies.uncovered.number ≤ lim.clauses) (sym counted-out)
              (omega (arith, walking.places.fits, proper.few-clauses));
        }

    finished-is : finished lim p x m ≡ finishing (counts_of s) (fixed_in h) (moving_in (length s.uncovered) h)
    unfolding finished counts_at counts_of as_read afresh
    finished-is =
        let o = ap (closed p.clauses) counted-out ∙ ap (λ (k : ℕ). closed k counts) laid.clauses_are
        ∙ fresh-outcome lim t b.full b.zero f proper top fc ft fl in
        let n = ap (λ (k : Moving). k.tallies.uncovered.number) counted-out ∙ walking.number in
        λ i. finishing (record { terms = laid.terms_are i; clauses = laid.clauses_are i; literals = laid.from_is i; uncovered = n i }) (laid_out_lem i) (o i)

    -- what the reading answers and leaves
    module _ {r : Counts} {y : Fixed} {v : Moving} (e : finishing r y v ≡ finished lim p x m) where
      ended : finishing r y v ≡ finishing (counts_of s) (fixed_in h) (moving_in (length s.uncovered) h)
      ended = e ∙ finished-is

      pub whole-leaves : ten (Ok r) (lent w.names v.words y.starts y.literals y.occurrence_starts y.occurrences v.tallies.trues
          v.tallies.breaks v.tallies.uncovered.list v.tallies.uncovered.places) ≡ ten_of (read_leaves lim t [] (accepted f))
      unfolding read_leaves
      whole-leaves =
          let g = ended in
          let n = names_are in
          λ i. ten (Ok (g i).counts) (lent (n i) (g i).moved.words (g i).clauses.starts (g i).clauses.literals (g i).clauses.occurrence_starts
          (g i).clauses.occurrences (g i).moved.tallies.trues (g i).moved.tallies.breaks (g i).moved.tallies.uncovered.list (g i).moved.tallies.uncovered.places)
