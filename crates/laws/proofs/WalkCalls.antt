-- Demands 1 and 2 of the library's call: it finds or gives up exactly as the written walk does, or is refused; each reason is given exactly when.
-- The values that stood before make no difference. Assumes nothing.
use Prim.Native.Nat.{ℕ, ◌*◌, ◌≤◌, ◌<◌}
use mathlib.Core.Logic.{◌↔◌, ◌⊎◌, inl, inr}
use mathlib.Core.Path.{◌≡◌, refl, ap, ap₂, sym, subst, subst₂, ◌∙◌}
use mathlib.Core.Bool.{true, false}
use mathlib.Core.List.{List, []}
use native.Mathlib.Omega.{arith}
use lib.ListN.{length, get_or, take, drop}
use borrow.Author.Tests.{eqb-false}
use Rattle.std.specs.Prelude.{Result, Ok, Err}
use Rattle.written.specs.declared.Counts.{Counts}
use Rattle.written.specs.declared.Order.{Order}
use Rattle.written.specs.declared.Reason.{Reason}
use Rattle.written.specs.declared.Reason.TheVariants.{TableTooShort}
use Rattle.written.specs.declared.Refusal.{Refusal}
use Rattle.written.specs.declared.Tour.{Tour}
use Rattle.written.specs.declared.Walked.{Walked}
use Rattle.written.specs.declared.Walked.TheVariants as W
use Rattle.written.specs.Limits.{Limits}
use Rattle.written.specs.Reasons.{number_of}
use Rattle.written.specs.Clauses.{File, State, true_count, afresh, as_read}
use Rattle.written.specs.Reading.{accepted, read_text}
use Rattle.written.specs.Walk.{Outcome, is_found, walk_over}
use Rattle.written.specs.Orders.{in_range}
use Rattle.written.specs.Tables.{Tables, each, full_sizes, are_full, tables_of, counts_of, holding}
use Rattle.written.specs.Agreement.{file_in, state_in, agree}
use Rattle.written.specs.Marks.{full_marked, unmarked, agree_marked}
use Rattle.written.specs.Outcomes.{Leaves, tour, walk_refused, walk_leaves, walk_of, walk_values, reading_of, flips_of, flip_values}
use Rattle.laws.specs.Valid.{Proper, Bits, Valid}
use Rattle.laws.specs.Calls.{Marked, Stands, OneOfThree}
use Rattle.laws.specs.ReadCalls.{Filled, counts_given}
use Rattle.laws.specs.WalkCalls.{Comes, written, Allowed, Fails, reason_given, Given, Ended, values_left, clause_kept, Found, GaveUp, Refused, IsFound, IsGivenUp, IsRefused, WalksOver}
use Rattle.laws.specs.WalkCalls.Fails.{short, outside, disagree}
use Rattle.laws.proofs.Basics.{by_cases}
use Rattle.laws.proofs.Literals.{some-true}
use Rattle.laws.proofs.Counted.{none-listed, some-listed}
use Rattle.laws.proofs.Marks.{free-mark, holds_at, rest-by, unmarked_get, full-tables, full-marks, agree-tables, agree-hold, agree-rest}
use Rattle.laws.proofs.Holding.{holding-by}
use Rattle.laws.proofs.Agreeing.{agree-valid, agree-counts}
use Rattle.laws.proofs.Flips.{flipped-file}
use Rattle.laws.proofs.Readings.{as_read-valid}
use Rattle.laws.proofs.Walks.{found-covers, gave_up_misses, walks-most, some_walk, gave_up-walks, flips-few}
use Rattle.laws.proofs.Pins.{held_after, unpinned, gave_up-flips}
use Rattle.laws.proofs.Leaves.{both_left}
use Rattle.laws.proofs.Endings.{end-file, end-values}
use Rattle.laws.proofs.Valids.{end-valid}
use Rattle.laws.proofs.Sheets.{ranged}
use Rattle.laws.proofs.Moments.{comes-to-end, draws_in_range}
use Rattle.laws.proofs.Stands.{stands_in_lem, stands-allowed, same-file}
use Rattle.laws.proofs.ReadCalls.{marks-left, reading-filled}
use Rattle.laws.proofs.FlipCalls.{accepted-exactly, flips-accepted, flips-refused, flips-either}

-- ---- what a call answers

abbrev result_in : Result Walked Refusal → ℕ
result_in a = (walk_values a).result

abbrev tour_in : Result Walked Refusal → Tour
tour_in (Ok (W.Found e)) = e
tour_in (Ok (W.GaveUp e)) = e
tour_in (Err e) = record { walks = 0; flips = 0; counts = e.counts }

abbrev refusal_in : Result Walked Refusal → Refusal
refusal_in (Ok (W.Found e)) = record { reason = TableTooShort; counts = e.counts }
refusal_in (Ok (W.GaveUp e)) = record { reason = TableTooShort; counts = e.counts }
refusal_in (Err e) = e

module _ (lim : Limits) (o : Order) (n : Counts) (t : Tables) (ms : List ℕ) where
  -- all tests are passed, or one fails
  tests : {A : Type 0} → (Allowed lim o n t ms → A) → ((r : Reason) → Fails lim o n t ms r → A) → A
  tests pass fail =
      by_cases (full_marked lim t ms)
      (λ a. by_cases (in_range o)
      (λ b. by_cases (agree_marked lim n t ms) (λ c. pass (record { full = a; range = b; agrees = c })) (λ c. fail _ (disagree a b c)))
      (λ b. fail _ (outside a b)))
      (λ a. fail _ (short a))

  pub failed : (r : Reason) → Fails lim o n t ms r → walk_of lim o n t ms ≡ walk_refused n t ms r
  unfolding walk_of
  failed _ (short a) = rw a refl
  failed _ (outside a b) = rw (a, b) refl
  failed _ (disagree a b c) = rw (a, b, c) refl

  pub passed : Allowed lim o n t ms → walk_of lim o n t ms ≡ walk_leaves lim t ms (written o n t ms)
  unfolding walk_of
  passed h = rw (h.full, h.range, h.agrees) refl

  -- a refused call leaves the next one what it was given
  unmoved : (p : Order) (r : Reason) → Fails lim o n t ms r → walk_of lim p (walk_values (walk_of lim o n t ms).answer).counts (walk_of lim o n t ms).tables ms ≡ walk_of lim p n t ms
  unmoved p r f = ap (λ (l : Leaves (Result Walked Refusal)). walk_of lim p (walk_values l.answer).counts l.tables ms) (failed r f)

  -- one of three
  refused-answer : (r : Reason) → Fails lim o n t ms r → (walk_of lim o n t ms).answer ≡ Err (record { reason = r; counts = n })
  refused-answer r f = ap (λ (l : Leaves (Result Walked Refusal)). l.answer) (failed r f)

  found-answer : Allowed lim o n t ms → (written o n t ms).found ≡ true → (walk_of lim o n t ms).answer ≡ Ok (W.Found (tour (written o n t ms)))
  unfolding walk_leaves
  found-answer h q = ap (λ (l : Leaves (Result Walked Refusal)). l.answer) (passed h) ∙ rw q refl

  up-answer : Allowed lim o n t ms → (written o n t ms).found ≡ false → (walk_of lim o n t ms).answer ≡ Ok (W.GaveUp (tour (written o n t ms)))
  unfolding walk_leaves
  up-answer h q = ap (λ (l : Leaves (Result Walked Refusal)). l.answer) (passed h) ∙ rw q refl

  by-outcome : {A : Type 0} → (Allowed lim o n t ms → (written o n t ms).found ≡ true → A) → (Allowed lim o n t ms → (written o n t ms).found ≡ false → A)
      → ((r : Reason) → Fails lim o n t ms r → A) → A
  by-outcome finds ups fails = tests (λ h. by_cases (written o n t ms).found (finds h) (ups h)) fails

  -- an answer tells which
  was-found : (e : Tour) → (walk_of lim o n t ms).answer ≡ Ok (W.Found e) → Allowed lim o n t ms × ((written o n t ms).found ≡ true)
  was-found e a =
      by-outcome (λ h q. (h, q)) (λ h q. absurd (omega (arith, ap result_in (sym (up-answer h q) ∙ a))))
      (λ r f. absurd (omega (arith, ap result_in (sym (refused-answer r f) ∙ a))))

  was-up : (e : Tour) → (walk_of lim o n t ms).answer ≡ Ok (W.GaveUp e) → Allowed lim o n t ms × ((written o n t ms).found ≡ false)
  was-up e a =
      by-outcome (λ h q. absurd (omega (arith, ap result_in (sym (found-answer h q) ∙ a)))) (λ h q. (h, q))
      (λ r f. absurd (omega (arith, ap result_in (sym (refused-answer r f) ∙ a))))

  was-refused : (e : Refusal) → (walk_of lim o n t ms).answer ≡ Err e → Fails lim o n t ms e.reason × (e.counts ≡ n)
  was-refused e a =
      by-outcome (λ h q. absurd (omega (arith, ap result_in (sym (found-answer h q) ∙ a))))
      (λ h q. absurd (omega (arith, ap result_in (sym (up-answer h q) ∙ a))))
      (λ r f.
      let same = ap refusal_in (sym (refused-answer r f) ∙ a) in
      (subst (λ (x : Refusal). Fails lim o n t ms x.reason) same f, ap (λ (x : Refusal). x.counts) (sym same)))

  -- no mark is moved, whatever is answered
  pub walk-marks : (walk_of lim o n t ms).marks ≡ ms
  unfolding walk_leaves
  walk-marks = tests (λ h. ap (λ (l : Leaves (Result Walked Refusal)). l.marks) (passed h)) (λ r f. ap (λ (l : Leaves (Result Walked Refusal)). l.marks) (failed r f))

  -- found exactly where the written walk finds, given up exactly where it gives up
  pub found-exactly : ((walk_of lim o n t ms).answer ≡ Ok (W.Found (tour (written o n t ms)))) ↔ (Allowed lim o n t ms × ((written o n t ms).found ≡ true))
  found-exactly = (was-found (tour (written o n t ms)), λ h. found-answer h.0 h.1)

  pub gave_up-exactly : ((walk_of lim o n t ms).answer ≡ Ok (W.GaveUp (tour (written o n t ms)))) ↔ (Allowed lim o n t ms × ((written o n t ms).found ≡ false))
  gave_up-exactly = (was-up (tour (written o n t ms)), λ h. up-answer h.0 h.1)

  -- refused exactly where a test fails
  pub refused-exactly : (e : Refusal) → ((walk_of lim o n t ms).answer ≡ Err e) ↔ (Fails lim o n t ms e.reason × (e.counts ≡ n))
  refused-exactly e = (
    was-refused e,
    λ h. refused-answer e.reason h.0 ∙ ap (λ (m : Counts). Err (record { reason = e.reason; counts = m })) (sym h.1),
  )

-- ---- what the written walk ends with, in tables that are allowed

module _ (lim : Limits) (o : Order) (n : Counts) (t : Tables) (ms : List ℕ) (h : Allowed lim o n t ms) where
  abbrev final : State
  final = (written o n t ms).last.state

  -- what the call leaves
  abbrev after : Tables
  after = (walk_of lim o n t ms).tables

  left : after ≡ holding lim final t
  unfolding walk_leaves
  left = ap (λ (l : Leaves (Result Walked Refusal)). l.tables) (passed lim o n t ms h)

  pub tables-full : are_full lim t ≡ true
  tables-full = full-tables lim t ms h.full

  pub tables_agree : agree lim n t ≡ true
  tables_agree = agree-tables lim t ms n h.agrees

  before-valid : Valid lim (state_in n t)
  before-valid = agree-valid lim n t tables_agree tables-full

  proper : Proper lim (file_in n t)
  unfolding state_in
  proper = before-valid.proper

  valid : Valid lim final
  valid = end-valid lim o ms (file_in n t) proper

  clauses-given : length (file_in n t).clauses ≡ n.clauses
  unfolding counts_of state_in
  clauses-given = ap (λ (m : Counts). m.clauses) (agree-counts lim n t tables_agree tables-full)

  clauses-kept : length final.file.clauses ≡ length (file_in n t).clauses
  clauses-kept = ap (λ (f : File). length f.clauses) (end-file o ms (file_in n t))

  names-given : length (file_in n t).names ≡ n.terms
  unfolding counts_of state_in
  names-given = ap (λ (m : Counts). m.terms) (agree-counts lim n t tables_agree tables-full)

  -- each mark is 0 to 2
  small : (k : ℕ) → k < length (file_in n t).names → get_or ms k 0 ≤ 2
  unfolding state_in
  small k l = (holds_at ms (state_in n t).values (agree-hold lim t ms n h.agrees) k (omega (arith, before-valid.one_each))).small

  -- "each pinned value is as marked"
  marked : Marked lim final ms
  unfolding counts_of
  marked =
      record {
        full = full-marks lim t ms h.full;
        hold = held_after o ms (file_in n t) small (omega (arith, (ranged o h.range).walks-pos));
        rest = rest-by lim n (counts_of final) ms (sym (ap (λ (f : File). length f.names) (end-file o ms (file_in n t)) ∙ names-given))
            (agree-rest lim t ms n h.agrees);
      }

  pub stands : Stands lim final t (counts_of final) after ms
  stands = subst (λ u. Stands lim final t (counts_of final) u ms) (sym left) (stands_in_lem lim final t ms valid marked tables-full)

  counts-left : (walk_values (walk_of lim o n t ms).answer).counts ≡ counts_of final
  counts-left =
      by_cases (written o n t ms).found (λ q. ap (λ (a : Result Walked Refusal). (walk_values a).counts) (found-answer lim o n t ms h q))
      (λ q. ap (λ (a : Result Walked Refusal). (walk_values a).counts) (up-answer lim o n t ms h q))

  values-left : values_left (tour (written o n t ms)) after ≡ final.values
  values-left = ap (λ (s : State). s.values) stands.state

  ended : Ended lim o n t ms (tour (written o n t ms)) after
  unfolding state_in
  ended =
      record {
        allowed = h;
        made = refl;
        comes = let c = comes-to-end o ms (file_in n t) in (c.0, c.1);
        stands = stands;
        file = ap (λ (s : State). s.file) stands.state ∙ end-file o ms (file_in n t);
        counts = same-file lim n t final tables_agree tables-full (end-file o ms (file_in n t));
        some_walk = some_walk o ms (file_in n t) (omega (arith, (ranged o h.range).walks-pos));
        walks-most = walks-most o ms (file_in n t);
        flips-most = flips-few o ms (file_in n t);
        draws = draws_in_range o ms (file_in n t) h.range;
      }

  module _ (q : (written o n t ms).found ≡ true) where
    covered : (c : ℕ) → c < n.clauses → 0 < true_count (values_left (tour (written o n t ms)) after) (clause_kept n t c)
    covered c l =
        subst₂ (λ (vs : List ℕ) (f : File). 0 < true_count vs (get_or f.clauses c [])) (sym values-left) (end-file o ms (file_in n t))
        (none-listed final valid.listed (found-covers o ms (file_in n t) q) c (omega (arith, clauses-given, clauses-kept)))

    found : Found lim o n t ms (tour (written o n t ms)) after
    unfolding counts_of
    found =
        record {
          ended = ended;
          finds = q;
          none-uncovered = ap length (found-covers o ms (file_in n t) q);
          covered = covered;
          true-literal = λ c l. some-true _ (clause_kept n t c) (covered c l);
          names-differ = proper.names-differ;
          one-name-each = names-given;
          one-value-each = ap length values-left ∙ end-values o ms (file_in n t) ∙ names-given;
          bits = subst Bits (sym values-left) valid.bits;
        }

  module _ (q : (written o n t ms).found ≡ false) where
    some-uncovered : 0 < length final.uncovered
    unfolding is_found
    some-uncovered =
        let none = gave_up_misses o ms (file_in n t) (omega (arith, (ranged o h.range).walks-pos)) q in
        let not_None = eqb-false (length final.uncovered) 0 none in
        omega arith

    given-up : GaveUp lim o n t ms (tour (written o n t ms)) after
    unfolding counts_of
    given-up =
        let missed = some-listed final valid.listed some-uncovered in
        let c = comes-to-end o ms (file_in n t) in
        record {
          ended = ended;
          gives_up = q;
          all-walks = gave_up-walks o ms (file_in n t) q;
          few-flips = subst (λ w. (tour (written o n t ms)).flips ≤ w * o.flips) (gave_up-walks o ms (file_in n t) q) (flips-few o ms (file_in n t));
          all-flips-free = λ free. gave_up-flips lim o ms (file_in n t) proper (λ k l. free-mark ms k (free k (omega (arith, names-given)))) q;
          some-uncovered = some-uncovered;
          no_true-literal = (
            missed.0,
            omega (arith, missed.1, clauses-given, clauses-kept),
            subst₂ (λ (vs : List ℕ) (f : File). true_count vs (get_or f.clauses missed.0 []) ≡ 0) (sym values-left) (end-file o ms (file_in n t)) missed.2,
          );
          last_end = subst₂ (λ w j. Comes o ms (file_in n t) w j (written o n t ms).last) (gave_up-walks o ms (file_in n t) q) (c.2 q) c.1;
        }

-- ---- the call

module _ (lim : Limits) (o : Order) (n : Counts) (t : Tables) (ms : List ℕ) where
  -- demand 2
  pub walk-found : (e : Tour) → (walk_of lim o n t ms).answer ≡ Ok (W.Found e) → Found lim o n t ms e (walk_of lim o n t ms).tables
  walk-found e a =
      let w = was-found lim o n t ms e a in
      subst (λ x. Found lim o n t ms x (walk_of lim o n t ms).tables) (ap tour_in (sym (found-answer lim o n t ms w.0 w.1) ∙ a)) (found lim o n t ms w.0 w.1)

  pub walk_gave_up : (e : Tour) → (walk_of lim o n t ms).answer ≡ Ok (W.GaveUp e) → GaveUp lim o n t ms e (walk_of lim o n t ms).tables
  walk_gave_up e a =
      let w = was-up lim o n t ms e a in
      subst (λ x. GaveUp lim o n t ms x (walk_of lim o n t ms).tables) (ap tour_in (sym (up-answer lim o n t ms w.0 w.1) ∙ a)) (given-up lim o n t ms w.0 w.1)

  -- "each refusal fixes what stands in each lent table afterwards"
  pub walk_refused_lem : (e : Refusal) → (walk_of lim o n t ms).answer ≡ Err e → Refused lim o n t ms e (walk_of lim o n t ms).tables
  walk_refused_lem e a =
      let w = was-refused lim o n t ms e a in
      record {
        fails = w.0;
        left = ap (λ (l : Leaves (Result Walked Refusal)). l.tables) (failed lim o n t ms e.reason w.0);
        values = ap (λ (m : Counts). record { result = 0; reason = number_of e.reason; line = 0; walks = 0; flips = 0; counts = m }) w.1;
      }

  -- demand 1
  pub walk-outcome : OneOfThree (IsFound lim o n t ms) (IsGivenUp lim o n t ms) (IsRefused lim o n t ms)
  walk-outcome =
      record {
        one = by-outcome lim o n t ms (λ h q. let a = found-answer lim o n t ms h q in inl (tour (written o n t ms), a, walk-found _ a))
            (λ h q. let a = up-answer lim o n t ms h q in inr (inl (tour (written o n t ms), a, walk_gave_up _ a)))
            (λ r f. let a = refused-answer lim o n t ms r f in inr (inr (record { reason = r; counts = n }, a, walk_refused_lem _ a)));
        not-first-and-second = λ a b. absurd (omega (arith, ap result_in (sym a.1 ∙ b.1)));
        not-first-and-third = λ a b. absurd (omega (arith, ap result_in (sym a.1 ∙ b.1)));
        not-second-and-third = λ a b. absurd (omega (arith, ap result_in (sym a.1 ∙ b.1)));
      }

  -- which reason is given

  allowed-reason : Allowed lim o n t ms → reason_given lim o n t ms ≡ 0
  allowed-reason h =
      by_cases (written o n t ms).found (λ q. ap (λ (a : Result Walked Refusal). (walk_values a).reason) (found-answer lim o n t ms h q))
      (λ q. ap (λ (a : Result Walked Refusal). (walk_values a).reason) (up-answer lim o n t ms h q))

  failed-reason : (r : Reason) → Fails lim o n t ms r → reason_given lim o n t ms ≡ number_of r
  failed-reason r f = ap (λ (a : Result Walked Refusal). (walk_values a).reason) (refused-answer lim o n t ms r f)

  by-reason : {A : Type 0} → (reason_given lim o n t ms ≡ 0 → Allowed lim o n t ms → A) → (reason_given lim o n t ms ≡ 1 → full_marked lim t ms ≡ false → A)
      → (reason_given lim o n t ms ≡ 11 → full_marked lim t ms ≡ true → in_range o ≡ false → A)
      → (reason_given lim o n t ms ≡ 12 → full_marked lim t ms ≡ true → in_range o ≡ true → agree_marked lim n t ms ≡ false → A) → A
  by-reason {A} pass one eleven twelve = tests lim o n t ms (λ h. pass (allowed-reason h) h) by-failed
    where
      by-failed : (r : Reason) → Fails lim o n t ms r → A
      by-failed _ (short a) = one (failed-reason _ (short a)) a
      by-failed _ (outside a b) = eleven (failed-reason _ (outside a b)) a b
      by-failed _ (disagree a b c) = twelve (failed-reason _ (disagree a b c)) a b c

  pub walk-given : Given lim o n t ms
  walk-given =
      record {
        reason_1 = (
          λ q. by-reason (λ z _. absurd (omega arith)) (λ z a. a) (λ z _ _. absurd (omega arith)) (λ z _ _ _. absurd (omega arith)),
          λ a. failed-reason _ (short a),
        );
        reason_11 = (
          λ q. by-reason (λ z _. absurd (omega arith)) (λ z _. absurd (omega arith)) (λ z a b. (a, b)) (λ z _ _ _. absurd (omega arith)),
          λ a. failed-reason _ (outside a.0 a.1),
        );
        reason_12 = (
          λ q. by-reason (λ z _. absurd (omega arith)) (λ z _. absurd (omega arith)) (λ z _ _. absurd (omega arith)) (λ z a b c. (a, b, c)),
          λ a. failed-reason _ (disagree a.0 a.1 a.2),
        );
        no_reason = (
          λ q. by-reason (λ z h. h) (λ z _. absurd (omega arith)) (λ z _ _. absurd (omega arith)) (λ z _ _ _. absurd (omega arith)),
          allowed-reason,
        );
        no_other = by-reason (λ z _. inl (inl z)) (λ z _. inl (inr z)) (λ z _ _. inr (inl z)) (λ z _ _ _. inr (inr z));
      }

-- ---- what stood before makes no difference

module _ (lim : Limits) (o : Order) where
  -- lent tables that are the same past their full sizes are left alike
  leaves_by : (f : File) (t u : Tables) (ms : List ℕ) → Proper lim f → each drop (full_sizes lim) t ≡ each drop (full_sizes lim) u
      → walk_leaves lim t ms (walk_over o ms f) ≡ walk_leaves lim u ms (walk_over o ms f)
  unfolding walk_leaves
  leaves_by f t u ms p same = both_left refl (holding-by lim (walk_over o ms f).last.state t u (end-valid lim o ms f p) same) refl

  -- where a state stands, the walks go over its file
  pub walk-stands : (s : State) (t : Tables) (m : Counts) (u : Tables) (ms : List ℕ) → Stands lim s t m u ms → in_range o ≡ true
      → walk_of lim o m u ms ≡ walk_leaves lim t ms (walk_over o ms s.file)
  unfolding state_in
  walk-stands s t m u ms h range =
      passed lim o m u ms (stands-allowed lim s t m u ms h o range) ∙ ap (λ (r : State). walk_leaves lim u ms (walk_over o ms r.file)) h.state
      ∙ leaves_by s.file u t ms h.valid.proper h.beyond

  -- the values that stood make no difference: tables that hold the same file under the same marks are answered alike, and left alike up to the full sizes
  module _ (n m : Counts) (t u : Tables) (ms : List ℕ) (h : Allowed lim o n t ms) (k : Allowed lim o m u ms) (same : file_in n t ≡ file_in m u) where
    pub same_answer : (walk_of lim o n t ms).answer ≡ (walk_of lim o m u ms).answer
    unfolding walk_leaves
    same_answer =
        ap (λ (l : Leaves (Result Walked Refusal)). l.answer) (passed lim o n t ms h) ∙ ap (λ (f : File). (walk_leaves lim t ms (walk_over o ms f)).answer) same
        ∙ ap (λ (l : Leaves (Result Walked Refusal)). l.answer) (sym (passed lim o m u ms k))

    pub same_left : each take (full_sizes lim) (walk_of lim o n t ms).tables ≡ each take (full_sizes lim) (walk_of lim o m u ms).tables
    same_left =
        (stands lim o n t ms h).in_full-sizes ∙ ap (λ (f : File). tables_of lim (walk_over o ms f).last.state) same ∙ sym (stands lim o m u ms k).in_full-sizes

    -- and so whole, where they are the same past these
    pub same-walk : each drop (full_sizes lim) t ≡ each drop (full_sizes lim) u → walk_of lim o n t ms ≡ walk_of lim o m u ms
    same-walk beyond =
        passed lim o n t ms h ∙ leaves_by (file_in n t) t u ms (proper lim o n t ms h) beyond ∙ ap (λ (f : File). walk_leaves lim u ms (walk_over o ms f)) same
        ∙ sym (passed lim o m u ms k)

-- ---- calls after one another

module _ (lim : Limits) (o : Order) (n : Counts) (t : Tables) (ms : List ℕ) (range : in_range o ≡ true) where
  -- a walk where another state stands on the file is the walk before that
  walk_after : (s : State) (m : Counts) (u : Tables) → agree_marked lim n t ms ≡ true → full_marked lim t ms ≡ true → Stands lim s t m u ms → s.file ≡ file_in n t
      → walk_of lim o m u ms ≡ walk_of lim o n t ms
  walk_after s m u ok full h same =
      walk-stands lim o s t m u ms h range ∙ ap (λ (f : File). walk_leaves lim t ms (walk_over o ms f)) same
      ∙ sym (passed lim o n t ms (record { full = full; range = range; agrees = ok }))

  -- so a walk can follow a walk, and gives what it gives without that
  pub walk-over : (p : Order) → walk_of lim o (walk_values (walk_of lim p n t ms).answer).counts (walk_of lim p n t ms).tables ms ≡ walk_of lim o n t ms
  walk-over p =
      tests lim p n t ms
      (λ h.
      ap (λ (m : Counts). walk_of lim o m (walk_of lim p n t ms).tables ms) (counts-left lim p n t ms h)
      ∙ walk_after _ _ _ h.agrees h.full (stands lim p n t ms h) (end-file p ms (file_in n t)))
      (unmoved lim p n t ms o)

  -- and a flip list
  pub walk-flipped : (ts : List ℕ) → walk_of lim o (flip_values (flips_of lim ts n t ms).answer).counts (flips_of lim ts n t ms).tables ms ≡ walk_of lim o n t ms
  unfolding state_in
  walk-flipped ts = after (flips-either lim ts n t ms)
    where
      after : ((m : Counts) × ((flips_of lim ts n t ms).answer ≡ Ok m)) ⊎ ((e : Refusal) × ((flips_of lim ts n t ms).answer ≡ Err e))
          → walk_of lim o (flip_values (flips_of lim ts n t ms).answer).counts (flips_of lim ts n t ms).tables ms ≡ walk_of lim o n t ms
      after (inl (m, a)) =
          let h = (accepted-exactly lim ts n t ms).0 (m, a) in
          ap (λ (x : Result Counts Refusal). walk_of lim o (flip_values x).counts (flips_of lim ts n t ms).tables ms) a
          ∙ walk_after _ m _ h.agrees h.full (flips-accepted lim ts n m t ms a).stands (flipped-file ts (state_in n t))
      after (inr (e, a)) =
          let u = flips-refused lim ts n t ms e a in
          ap₂ (λ (x : Result Counts Refusal) (w : Tables). walk_of lim o (flip_values x).counts w ms) a u.left ∙ ap (λ (m : Counts). walk_of lim o m t ms) u.counts

-- walked again by the same order, the same: what stood before makes no difference
pub walk-twice : (lim : Limits) (o : Order) (n : Counts) (t : Tables) (ms : List ℕ)
    → walk_of lim o (walk_values (walk_of lim o n t ms).answer).counts (walk_of lim o n t ms).tables ms ≡ walk_of lim o n t ms
walk-twice lim o n t ms = tests lim o n t ms (λ h. walk-over lim o n t ms h.range o) (unmoved lim o n t ms o)

-- a file laid down in full tables and walked over under marks that go with it, whatever kind of text it was read from
pub walk-file : (lim : Limits) (f : File) (o : Order) (t : Tables) (ms : List ℕ) → Proper lim f → Marked lim (as_read f) ms → are_full lim t ≡ true → in_range o ≡ true
    → walk_of lim o (counts_of (as_read f)) (holding lim (as_read f) t) ms ≡ walk_leaves lim t ms (walk_over o ms f)
unfolding as_read afresh
walk-file lim f o t ms proper marked full range =
    walk-stands lim o (as_read f) t _ _ ms (stands_in_lem lim (as_read f) t ms (as_read-valid lim f proper) marked full) range

-- over what a reading has filled, whatever kind of text it read, the walks go over the file, and no term is pinned
pub filled-walks : (lim : Limits) (f : File) (o : Order) (t : Tables) (ms : List ℕ) (n : Counts) (u : Tables) (us : List ℕ) → Filled lim f t ms n u us → in_range o ≡ true
    → WalksOver lim f o t n u us
unfolding as_read afresh state_in
filled-walks lim f o t ms n u us filled range =
    record {
      left = walk-stands lim o (as_read f) t n u us filled.stands range ∙ ap (walk_leaves lim t us) free;
      file = file;
      made = made;
      finds = λ q.
          let a = subst (λ e. (walk_of lim o n u us).answer ≡ Ok (W.Found (tour e))) made (found-answer lim o n u us allowed (ap (λ (e : Outcome). e.found) made ∙ q)) in
          (a, walk-found lim o n u us _ a);
      gives_up = λ q.
          let a = subst (λ e. (walk_of lim o n u us).answer ≡ Ok (W.GaveUp (tour e))) made (up-answer lim o n u us allowed (ap (λ (e : Outcome). e.found) made ∙ q)) in
          (a, walk_gave_up lim o n u us _ a);
      found-only = λ e a. ap (λ (x : Outcome). x.found) (sym made) ∙ (was-found lim o n u us e a).1;
      up-only = λ e a. ap (λ (x : Outcome). x.found) (sym made) ∙ (was-up lim o n u us e a).1;
    }
  where
    allowed : Allowed lim o n u us
    allowed = stands-allowed lim (as_read f) t n u us filled.stands o range

    file : file_in n u ≡ f
    file = ap (λ (s : State). s.file) filled.stands.state

    free : walk_over o us f ≡ walk_over o [] f
    free =
        let p = filled.stands.valid.proper in
        unpinned lim o us f p (λ k l. ap (λ (xs : List ℕ). get_or xs k 0) filled.marks ∙ unmarked_get lim ms k (omega (arith, p.few-terms)))

    made : written o n u us ≡ walk_over o [] f
    made = ap (walk_over o us) file ∙ free

-- a text that is read and walked: the walks go over the file that it says, and no term is pinned
pub walk-read : (lim : Limits) (text : List ℕ) (f : File) (o : Order) (t : Tables) (ms : List ℕ) → read_text lim text ≡ accepted f → full_marked lim t ms ≡ true → in_range o ≡ true
    → walk_of lim o (counts_given lim text t ms) (reading_of lim text t ms).tables (reading_of lim text t ms).marks ≡ walk_leaves lim t (unmarked lim ms) (walk_over o [] f)
walk-read lim text f o t ms e full range =
    (filled-walks lim f o t ms _ _ _ (reading-filled lim text t ms full f e) range).left
    ∙ ap (λ (us : List ℕ). walk_leaves lim t us (walk_over o [] f)) (marks-left lim text t ms full)
