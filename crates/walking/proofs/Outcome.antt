-- Walks on lent tables that agree: they can be made, and the tables are then closed to those that are written for their outcome. Assumes nothing.
use Prim.Native.Nat.{ℕ, zero, suc, ◌+◌, ◌*◌, ◌≤◌, ◌<◌}
use mathlib.Core.Path.{◌≡◌, refl, ap, sym, subst, subst₂, ◌∙◌}
use mathlib.Core.Bool.{true, false}
use mathlib.Core.List.{List}
use native.Mathlib.Omega.{arith}
use native.Mathlib.Nat.{mul-le-mul}
use lib.ListN.{length}
use borrow.Author.Tests.{leb-true}
use Rattle.std.specs.Prelude.{Ok}
use Rattle.written.specs.declared.Counts.{Counts}
use Rattle.written.specs.declared.Order.{Order}
use Rattle.written.specs.declared.Tour.{Tour}
use Rattle.written.specs.declared.Walked.TheVariants as W
use Rattle.written.specs.Limits.{Limits}
use Rattle.written.specs.Clauses.{File, State, afresh, as_read}
use Rattle.written.specs.Marks.{marks_full}
use Rattle.written.specs.Tables.{Tables, lent, are_full, each, full_sizes, in_use, tables_of, holding}
use Rattle.written.specs.Agreement.{file_in, state_in, agree}
use Rattle.written.specs.Orders.{flips_each, walks_all}
use Rattle.written.specs.Walk.{Moment, Outcome, start, walks_from, walk_over}
use Rattle.written.specs.Outcomes.{leaves, tour, walk_leaves}
use Rattle.laws.specs.Valid.{Valid}
use Rattle.laws.specs.WalkCalls.{Allowed}
use Rattle.laws.proofs.Sheets.{ranged}
use Rattle.laws.proofs.Leaves.{both_left}
use Rattle.laws.proofs.Marks.{full-tables, full-marks, agree-tables}
use Rattle.laws.proofs.Endings.{end-file, end-values}
use Rattle.machine.specs.Tallies.{Tallies, SameSizes}
use Rattle.machine.specs.Moving.{Moving}
use Rattle.machine.specs.Passes.{rewritten, rest_place, closed, CanClose}
use Rattle.machine.specs.Holds.{Kept}
use Rattle.machine.specs.Lent.{fixed_in, moving_in}
use Rattle.machine.proofs.Sizes.{sizes-refl}
use Rattle.machine.proofs.Calls.{is-closed}
use Rattle.machine.proofs.Opened.{close_can}
use Rattle.machine.proofs.Tallied.{tallies_for, closed-outcome}
use Rattle.machine.proofs.Agreed as agreed
use Rattle.walking_steps.specs.Stepping.{Stand}
use Rattle.walking_steps.specs.Following.{Follows, at_rest, walking}
use Rattle.walking.specs.Walking.{End, walks_in, CanWalks}
use Rattle.walking.specs.Made.{walk_made}
use Rattle.walking.proofs.Followed.{Sized, Ends, walks_follow}

-- a walk draws its values: those that stand make no difference
any-values : (o : Order) (ms : List ℕ) (k n : ℕ) (s r : State) (y f : ℕ) → 0 < k → s.file ≡ r.file
    → walks_from o ms k n (record { state = s; generator = y; flips = f }) ≡ walks_from o ms k n (record { state = r; generator = y; flips = f })
unfolding walks_from start
any-values o ms zero n s r y f l e = absurd (omega arith)
any-values o ms (suc k) n s r y f l e = ap (λ (g : File). walks_from o ms (suc k) n (record { state = record { file = g; values = r.values; uncovered = r.uncovered }; generator = y; flips = f })) e

module _ (lim : Limits) (o : Order) (n : Counts) (t : Tables) (ms : List ℕ) (ok : Allowed lim o n t ms) {y : ℕ} (seeded : y ≡ o.seed) where
  full : are_full lim t ≡ true
  full = full-tables lim t ms ok.full

  agrees : agree lim n t ≡ true
  agrees = agree-tables lim t ms n ok.agrees

  abbrev s : State
  s = state_in n t

  -- where the walks begin, on the tables and as written
  abbrev v : Stand
  v = record { tables = moving_in n.uncovered t; generator = y; flips = 0 }

  abbrev m : Moment
  m = record { state = s; generator = o.seed; flips = 0 }

  -- how they end
  abbrev out : Outcome
  out = walk_over o ms (file_in n t)

  valid : Valid lim s
  valid = agreed.valid lim n t full agrees

  held : holding lim s t ≡ t
  held = agreed.held lim n t full agrees

  sized : Sized n.terms n.clauses m
  sized = record { terms = agreed.terms_are lim n t full agrees; clauses = agreed.clauses_are lim n t full agrees }

  marks-room : n.terms ≤ length ms
  unfolding marks_full
  marks-room = omega (arith, sized.terms, valid.proper.few-terms, leb-true lim.terms (length ms) (full-marks lim t ms ok.full))

  out-is : out ≡ walks_from o ms o.walks 0 m
  unfolding walk_over as_read afresh state_in
  out-is = any-values o ms o.walks 0 (as_read (file_in n t)) s o.seed 0 (ranged o ok.range).walks-pos refl

  module _ (top : ℕ) (fc : lim.clauses + 1 < top) (ft : 2 * lim.terms < top) (fl : lim.literals < top) where
    begins : Follows at_rest top (full_sizes lim).values (fixed_in t) (moving_in n.uncovered t) m v
    unfolding holding tables_of each in_use
    begins =
        record {
          tables = agreed.resting lim n t full agrees top fc ft fl;
          one_each = valid.one_each;
          bits = valid.bits;
          words = sym (ap (λ (u : Tables). u.values) held);
          sizes = sizes-refl (moving_in n.uncovered t).tallies;
          kept = record { trues-kept = λ j l. refl; breaks-kept = λ j l. refl; list-kept = λ j l. refl; places-kept = λ j l. refl };
          generator = seeded;
          flips = refl;
        }

    -- they can be made, if all their flips can be counted
    pub can-walk : (most : ℕ) → walks_all.most * flips_each.most < most → CanWalks top most n.terms n.clauses o.walks o ms (fixed_in t) v
    can-walk most few =
        let range = ranged o ok.range in
        record {
          begin =
              record {
                place = at_rest;
                full = (full_sizes lim).values;
                base = moving_in n.uncovered t;
                moment = m;
                follows = begins;
                terms = sized.terms;
                clauses = sized.clauses;
                marks = marks-room;
              };
          few = let made = mul-le-mul range.walks-most range.flips-most in omega arith;
        }

    -- and have then come to e
    module _ {e : End} (h : e ≡ walks_in o ms n.terms n.clauses (fixed_in t) o.walks 0 v) where
      ends : Ends top (full_sizes lim).values (fixed_in t) (moving_in n.uncovered t) out e
      ends =
          rw (h, out-is)
          (walks_follow top (full_sizes lim).values (fixed_in t) (moving_in n.uncovered t) o ms n.terms n.clauses at_rest o.walks 0 m v (ranged o ok.range).walks-pos begins sized)

      abbrev r : State
      r = out.last.state

      same-file : r.file ≡ s.file
      unfolding state_in
      same-file = end-file o ms (file_in n t)

      same-values : length r.values ≡ length s.values
      unfolding state_in
      same-values = end-values o ms (file_in n t) ∙ sym valid.one_each

      clauses_are : length r.file.clauses ≡ n.clauses
      clauses_are = ap (λ (f : File). length f.clauses) same-file ∙ sized.clauses

      -- the tables were those that are written for the state at first
      lent_are : (moving_in n.uncovered t).tallies ≡ tallies_for lim t s
      lent_are = let number = sym (agreed.number_is lim n t full agrees) in let u = sym held in λ i. (moving_in (number i) (u i)).tallies

      pub can_close : CanClose n.clauses e.last.tables.tallies.trues e.last.tables.tallies.uncovered.places
      can_close =
          subst (λ (c : ℕ). CanClose c e.last.tables.tallies.trues e.last.tables.tallies.uncovered.places) clauses_are
          (close_can top r (fixed_in t) e.last.tables (walking r) ends.follows.tables)

      closed_now : closed n.clauses e.last.tables ≡ moving_in (length r.uncovered) (holding lim r t)
      unfolding holding tables_of each in_use
      closed_now =
          subst (λ (c : ℕ). closed c e.last.tables ≡ moving_in (length r.uncovered) (holding lim r t)) sized.clauses
          (closed-outcome lim top fc ft fl t s r valid same-file same-values (fixed_in t) e.last.tables ends.follows.tables
          (subst (SameSizes e.last.tables.tallies) lent_are ends.follows.sizes)
          (subst₂ (λ (c k : ℕ). Kept c k (tallies_for lim t s) e.last.tables.tallies) (ap (λ (f : File). length f.clauses) same-file) same-values
          (subst (λ (a : Tallies). Kept (length r.file.clauses) (length r.values) a e.last.tables.tallies) lent_are ends.follows.kept))
          ends.follows.words)

      number_is : e.last.tables.tallies.uncovered.number ≡ length r.uncovered
      unfolding closed
      number_is = ap (λ (w : Moving). w.tallies.uncovered.number) closed_now

      pub number-low : e.last.tables.tallies.uncovered.number ≤ lim.clauses
      number-low = omega (arith, ends.follows.tables.places.fits, clauses_are, sized.clauses, valid.proper.few-clauses)

      -- what is then answered
      abbrev made : Tour
      made =
          record {
            walks = e.walks;
            flips = e.last.flips;
            counts = record { terms = n.terms; clauses = n.clauses; literals = n.literals; uncovered = e.last.tables.tallies.uncovered.number };
          }

      tour-is : made ≡ tour out
      tour-is =
          let a = ends.walks in
          let b = ends.follows.flips in
          let c = agreed.counted_are lim n t full agrees r same-file number_is in
          λ i. record { walks = a i; flips = b i; counts = c i }

      found-answer : e.found ≡ true → Ok (W.Found made) ≡ (walk_made lim o n t ms).answer
      unfolding walk_leaves
      found-answer q = rw (sym ends.found ∙ q) (ap (λ (x : Tour). Ok (W.Found x)) tour-is)

      gave_up-answer : e.found ≡ false → Ok (W.GaveUp made) ≡ (walk_made lim o n t ms).answer
      unfolding walk_leaves
      gave_up-answer q = rw (sym ends.found ∙ q) (ap (λ (x : Tour). Ok (W.GaveUp x)) tour-is)

      -- and what is left, once the places are those of written tables
      module _ {ps : List ℕ} (q : ps ≡ rewritten (rest_place e.last.tables.tallies.trues) n.clauses e.last.tables.tallies.uncovered.places) where
        abbrev after : Tables
        after =
            lent t.names e.last.tables.words t.starts t.literals t.occurrence_starts t.occurrences e.last.tables.tallies.trues
            e.last.tables.tallies.breaks e.last.tables.tallies.uncovered.list ps

        tables_are : after ≡ (walk_made lim o n t ms).tables
        unfolding walk_leaves
        tables_are = agreed.leaves_are lim n t full agrees r same-file (is-closed n.clauses e.last.tables q ∙ closed_now)

        pub has-found : e.found ≡ true → leaves (Ok (W.Found made)) after ms ≡ walk_made lim o n t ms
        unfolding walk_leaves
        has-found so = both_left (found-answer so) tables_are refl

        pub has-given-up : e.found ≡ false → leaves (Ok (W.GaveUp made)) after ms ≡ walk_made lim o n t ms
        unfolding walk_leaves
        has-given-up so = both_left (gave_up-answer so) tables_are refl
