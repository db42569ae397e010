-- Demand 3 of the library's call: a flip list is applied whole, which leaves what is demanded in any order, or refused whole, each reason exactly when.
-- Assumes nothing.
use Prim.Native.Nat.{ℕ, ◌+◌, ◌-◌, ◌≤◌, ◌<◌}
use mathlib.Core.Logic.{◌↔◌, ◌⊎◌, inl, inr}
use mathlib.Core.Path.{◌≡◌, refl, ap, sym, subst, subst₂, ◌∙◌}
use mathlib.Core.Bool.{Bool, true, false, false≢true, true≢false}
use mathlib.Core.List.{List, []}
use native.Mathlib.Omega.{arith}
use lib.ListN.{length, get_or, take, drop, length-drop}
use lib.Seq.{ext_get_or, get_or-drop, get_or-take}
use lib.Dec.{ltb}
use borrow.Author.Tests.{le-ltb, lt-ltb, ltb-true, eq-eqb}
use Rattle.std.specs.Prelude.{Result, Ok, Err}
use Rattle.written.specs.declared.Counts.{Counts}
use Rattle.written.specs.declared.Reason.{Reason}
use Rattle.written.specs.declared.Reason.TheVariants.{TableTooShort}
use Rattle.written.specs.declared.Refusal.{Refusal}
use Rattle.written.specs.Lists.{all, total, list_of, has, times}
use Rattle.written.specs.Limits.{Limits}
use Rattle.written.specs.Reasons.{number_of}
use Rattle.written.specs.Clauses.{File, State, break_count, afresh, as_read}
use Rattle.written.specs.Reading.{accepted, read_text}
use Rattle.written.specs.Flips.{flipped}
use Rattle.written.specs.Tables.{Tables, each, sizes, are_full, in_use, tables_of, place_in, counts_of, holding}
use Rattle.written.specs.Agreement.{state_in, agree}
use Rattle.written.specs.Marks.{is_free, full_marked, agree_marked}
use Rattle.written.specs.Outcomes.{Leaves, flips_refused, flips_leave, flips_of, flip_values}
use Rattle.laws.specs.Valid.{Proper, Bits, Valid}
use Rattle.laws.specs.Calls.{Marked, Stands, SameFile}
use Rattle.laws.specs.ReadCalls.{Filled}
use Rattle.laws.specs.FlipCalls.{Fails, reason_given, Given, Refused}
use Rattle.laws.specs.FlipCalls.Fails.{short, long, disagree, unknown, pinned}
use Rattle.laws.specs.Demands.{SameButOrder, AfterFlips, Acceptable, SameButList, WorkedOut, Accepted}
use Rattle.laws.proofs.Basics.{by_cases, by-lt}
use Rattle.laws.proofs.Lists.{get_or-list_of}
use Rattle.laws.proofs.All.{all_implied}
use Rattle.laws.proofs.Times.{has-is, reordered-length, reordered-all}
use Rattle.laws.proofs.Flips.{flipped-file}
use Rattle.laws.proofs.Kept.{flipped-valid}
use Rattle.laws.proofs.AnyOrder.{demand_three, afresh-listed}
use Rattle.laws.proofs.Marks.{unmarked_get, flips-hold, rest-by, full-tables, full-marks, agree-tables, agree-hold, agree-rest}
use Rattle.laws.proofs.Each.Table.{Uncovered, Places}
use Rattle.laws.proofs.Holding.{holding-used, holding-sizes, holding-past}
use Rattle.laws.proofs.Agreeing.{agree-valid, agree-counts}
use Rattle.laws.proofs.Stands.{stands_in_lem, stands-acceptable, same-file}
use Rattle.laws.proofs.Readings.{reading-proper}

-- ---- lent tables into which a state is written, and another that differs from it in the order of its list alone

-- lists as long that are the same from k on
pub drop-by : (k : ℕ) (xs ys : List ℕ) → length xs ≡ length ys → ((j : ℕ) → k ≤ j → get_or xs j 0 ≡ get_or ys j 0) → drop k xs ≡ drop k ys
drop-by k xs ys e h =
    ext_get_or 0 (drop k xs) (drop k ys) (length-drop k xs ∙ ap (λ (m : ℕ). m - k) e ∙ sym (length-drop k ys))
    (λ j l. get_or-drop k xs j 0 ∙ h (k + j) (omega arith) ∙ sym (get_or-drop k ys j 0))

module _ (lim : Limits) (s : State) (t : Tables) (v : Valid lim s) where
  list_back : take (length s.uncovered) (holding lim s t).uncovered ≡ s.uncovered
  unfolding each sizes counts_of in_use
  list_back = ap (λ (u : Tables). u.uncovered) (holding-used lim s t v)

  -- the counts and the list are those worked out afresh
  pub worked_out : (n : Counts) → SameFile n (counts_of s) → WorkedOut n (counts_of s) s (holding lim s t)
  unfolding each sizes counts_of in_use
  worked_out n e =
      record {
        trues = ap (λ (k : ℕ). take k (holding lim s t).trues) (sym e.clauses) ∙ ap (λ (u : Tables). u.trues) (holding-used lim s t v);
        breaks = subst (λ (k : ℕ). take k (holding lim s t).breaks ≡ list_of k (break_count s.values s.file.clauses)) e.terms
            (ap (λ (u : Tables). u.breaks) (holding-used lim s t v));
        listed = λ c. ap (times c) list_back ∙ v.listed.same-times c;
      }

  -- a clause that is not in the list has no place
  no_place : (c : ℕ) → c < length s.file.clauses → has c s.uncovered ≡ false → get_or (holding lim s t).places c 0 ≡ 0
  unfolding each sizes counts_of in_use place_in
  no_place c l e =
      sym (get_or-take (length s.file.clauses) (holding lim s t).places c 0 l) ∙ ap (λ (u : Tables). get_or u.places c 0) (holding-used lim s t v)
      ∙ get_or-list_of (length s.file.clauses) c (place_in s.uncovered) 0 l ∙ rw e refl

module _ (lim : Limits) (a b : State) (t : Tables) (va : Valid lim a) (vb : Valid lim b) (o : SameButOrder a b) where
  pub same-counts : counts_of a ≡ counts_of b
  unfolding counts_of
  same-counts =
      λ i. record {
        terms = length (o.file i).names;
        clauses = length (o.file i).clauses;
        literals = total length (o.file i).clauses;
        uncovered = o.uncovered-count i;
      }

  other-places : (c : ℕ) → has c a.uncovered ≡ false → get_or (holding lim a t).places c 0 ≡ get_or (holding lim b t).places c 0
  unfolding sizes counts_of
  other-places c e =
      let n = ap (λ (f : File). length f.clauses) o.file in
      let has_no = sym (has-is c a.uncovered ∙ ap (λ (k : ℕ). ltb 0 k) (o.uncovered c) ∙ sym (has-is c b.uncovered)) ∙ e in
      by-lt c (length a.file.clauses) (λ l. no_place lim a t va c l e ∙ sym (no_place lim b t vb c (omega arith) has_no))
      (λ l. holding-past lim a b t Places va vb c l (omega arith))

  pub same_tables : SameButList (length a.uncovered) (holding lim a t) (holding lim b t)
  unfolding holding tables_of each in_use sizes counts_of
  same_tables =
      record {
        names = λ i. (between i).names;
        values = λ i. (between i).values;
        starts = λ i. (between i).starts;
        literals = λ i. (between i).literals;
        occurrence_starts = λ i. (between i).occurrence_starts;
        occurrences = λ i. (between i).occurrences;
        trues = λ i. (between i).trues;
        breaks = λ i. (between i).breaks;
        listed = λ c. ap (times c) (list_back lim a t va) ∙ o.uncovered c ∙ sym (ap (times c) in_b);
        past-list = drop-by (length a.uncovered) (holding lim a t).uncovered (holding lim b t).uncovered (holding-sizes lim a b t Uncovered va vb)
            (λ j l. holding-past lim a b t Uncovered va vb j l (omega (arith, o.uncovered-count)));
        places_count = holding-sizes lim a b t Places va vb;
        other-places = λ c e. other-places c (ap (has c) (sym (list_back lim a t va)) ∙ e);
      }
    where
      between : 𝕀 → Tables
      between i = holding lim (record { file = o.file i; values = o.values i; uncovered = [] }) t

      in_b : take (length a.uncovered) (holding lim b t).uncovered ≡ b.uncovered
      in_b = ap (λ (k : ℕ). take k (holding lim b t).uncovered) o.uncovered-count ∙ list_back lim b t vb

-- ---- what a call answers

abbrev is_applied : Result Counts Refusal → Bool
is_applied (Ok m) = true
is_applied (Err e) = false

abbrev counts_in : Result Counts Refusal → Counts
counts_in (Ok m) = m
counts_in (Err e) = e.counts

abbrev refusal_in : Result Counts Refusal → Refusal
refusal_in (Ok m) = record { reason = TableTooShort; counts = m }
refusal_in (Err e) = e

module _ (lim : Limits) (ts : List ℕ) (n : Counts) (t : Tables) (ms : List ℕ) where
  -- all tests are passed, or one fails
  pub tests : {A : Type 0} → (Acceptable lim ts n t ms → A) → ((r : Reason) → Fails lim ts n t ms r → A) → A
  tests pass fail =
      by_cases (full_marked lim t ms)
      (λ a. by-lt lim.list (length ts) (λ b. fail _ (long a b))
      (λ b. by_cases (agree_marked lim n t ms)
      (λ d. by_cases (all (λ v. ltb v n.terms) ts) (λ e. by_cases (all (is_free ms) ts) (λ g. pass (record { full = a; short = b; agrees = d; known = e; free = g })) (λ g. fail _ (pinned a b d e g)))
      (λ e. fail _ (unknown a b d e)))
      (λ d. fail _ (disagree a b d))))
      (λ a. fail _ (short a))

  pub failed : (r : Reason) → Fails lim ts n t ms r → flips_of lim ts n t ms ≡ flips_refused n t ms r
  unfolding flips_of
  failed _ (short a) = rw a refl
  failed _ (long a b) = rw (a, lt-ltb lim.list (length ts) b) refl
  failed _ (disagree a b d) = rw (a, le-ltb lim.list (length ts) b, d) refl
  failed _ (unknown a b d e) = rw (a, le-ltb lim.list (length ts) b, d, e) refl
  failed _ (pinned a b d e g) = rw (a, le-ltb lim.list (length ts) b, d, e, g) refl

  refused-answer : (r : Reason) → Fails lim ts n t ms r → (flips_of lim ts n t ms).answer ≡ Err (record { reason = r; counts = n })
  refused-answer r f = ap (λ (l : Leaves (Result Counts Refusal)). l.answer) (failed r f)

  pub passed : Acceptable lim ts n t ms → flips_of lim ts n t ms ≡ flips_leave lim t ms (flipped ts (state_in n t))
  unfolding flips_of
  passed h = rw (h.full, le-ltb lim.list (length ts) h.short, h.agrees, h.known, h.free) refl

  module _ (h : Acceptable lim ts n t ms) where
    pub applied : (flips_of lim ts n t ms).answer ≡ Ok (counts_of (flipped ts (state_in n t)))
    unfolding flips_leave
    applied = ap (λ (l : Leaves (Result Counts Refusal)). l.answer) (passed h)

    pub left : (flips_of lim ts n t ms).tables ≡ holding lim (flipped ts (state_in n t)) t
    unfolding flips_leave
    left = ap (λ (l : Leaves (Result Counts Refusal)). l.tables) (passed h)

    pub tables-full : are_full lim t ≡ true
    tables-full = full-tables lim t ms h.full

    pub tables_agree : agree lim n t ≡ true
    tables_agree = agree-tables lim t ms n h.agrees

    -- the state that was flipped, and the state that stands
    pub before-valid : Valid lim (state_in n t)
    before-valid = agree-valid lim n t tables_agree tables-full

    pub before-counts : counts_of (state_in n t) ≡ n
    before-counts = agree-counts lim n t tables_agree tables-full

    pub names-known : all (λ v. ltb v (length (state_in n t).file.names)) ts ≡ true
    unfolding counts_of
    names-known = ap (λ (m : Counts). all (λ v. ltb v m.terms) ts) before-counts ∙ h.known

    pub after-valid : Valid lim (flipped ts (state_in n t))
    after-valid = flipped-valid lim ts (state_in n t) before-valid names-known

    -- pinned terms keep their marked values
    pub after-marked : Marked lim (flipped ts (state_in n t)) ms
    unfolding counts_of
    after-marked =
        record {
          full = full-marks lim t ms h.full;
          hold = flips-hold ms ts (state_in n t) h.free (agree-hold lim t ms n h.agrees);
          rest = rest-by lim n (counts_of (flipped ts (state_in n t))) ms
              (sym (ap (λ (f : File). length f.names) (flipped-file ts (state_in n t)) ∙ ap (λ (m : Counts). m.terms) before-counts))
              (agree-rest lim t ms n h.agrees);
        }

  -- no mark is moved, whatever is answered
  pub flips-marks : (flips_of lim ts n t ms).marks ≡ ms
  unfolding flips_leave
  flips-marks = tests (λ h. ap (λ (l : Leaves (Result Counts Refusal)). l.marks) (passed h)) (λ r f. ap (λ (l : Leaves (Result Counts Refusal)). l.marks) (failed r f))

  -- accepted exactly if all that is asked of a call holds
  pub accepted-exactly : ((m : Counts) × ((flips_of lim ts n t ms).answer ≡ Ok m)) ↔ Acceptable lim ts n t ms
  accepted-exactly = (λ a. was-acceptable a.0 a.1, λ h. (counts_of (flipped ts (state_in n t)), applied h))
    where
      was-acceptable : (m : Counts) → (flips_of lim ts n t ms).answer ≡ Ok m → Acceptable lim ts n t ms
      was-acceptable m e = tests (λ h. h) (λ r f. absurd (false≢true (ap is_applied (sym (refused-answer r f) ∙ e))))

  -- a refused list leaves all as it was
  pub flips-refused : (e : Refusal) → (flips_of lim ts n t ms).answer ≡ Err e → Refused lim ts n t ms e (flips_of lim ts n t ms).tables
  flips-refused e q =
      tests (λ h. absurd (true≢false (ap is_applied (sym (applied h) ∙ q))))
      (λ r f.
      let same = ap refusal_in (sym (refused-answer r f) ∙ q) in
      record {
        fails = subst (λ (x : Refusal). Fails lim ts n t ms x.reason) same f;
        left = ap (λ (l : Leaves (Result Counts Refusal)). l.tables) (failed r f);
        counts = ap (λ (x : Refusal). x.counts) (sym same);
        values = ap (λ (m : Counts). flip_values (Err (record { reason = e.reason; counts = m }))) (ap (λ (x : Refusal). x.counts) (sym same));
      })

  -- every list is applied or refused
  pub flips-either : ((m : Counts) × ((flips_of lim ts n t ms).answer ≡ Ok m)) ⊎ ((e : Refusal) × ((flips_of lim ts n t ms).answer ≡ Err e))
  flips-either = tests (λ h. inl (counts_of (flipped ts (state_in n t)), applied h)) (λ r f. inr (record { reason = r; counts = n }, refused-answer r f))

  -- which reason is given

  failed-reason : (r : Reason) → Fails lim ts n t ms r → reason_given lim ts n t ms ≡ number_of r
  failed-reason r f = ap (λ (a : Result Counts Refusal). (flip_values a).reason) (refused-answer r f)

  passed-reason : Acceptable lim ts n t ms → reason_given lim ts n t ms ≡ 0
  passed-reason h = ap (λ (a : Result Counts Refusal). (flip_values a).reason) (applied h)

  by-reason : {A : Type 0} → (reason_given lim ts n t ms ≡ 0 → Acceptable lim ts n t ms → A) → (reason_given lim ts n t ms ≡ 1 → full_marked lim t ms ≡ false → A)
      → (reason_given lim ts n t ms ≡ 14 → full_marked lim t ms ≡ true → lim.list < length ts → A)
      → (reason_given lim ts n t ms ≡ 12 → full_marked lim t ms ≡ true → length ts ≤ lim.list → agree_marked lim n t ms ≡ false → A)
      → (reason_given lim ts n t ms ≡ 13 → full_marked lim t ms ≡ true → length ts ≤ lim.list → agree_marked lim n t ms ≡ true → all (λ v. ltb v n.terms) ts ≡ false → A)
      → (reason_given lim ts n t ms ≡ 20 → full_marked lim t ms ≡ true → length ts ≤ lim.list → agree_marked lim n t ms ≡ true → all (λ v. ltb v n.terms) ts ≡ true
      → all (is_free ms) ts ≡ false → A) → A
  by-reason {A} pass one fourteen twelve thirteen twenty = tests (λ h. pass (passed-reason h) h) by-failed
    where
      by-failed : (r : Reason) → Fails lim ts n t ms r → A
      by-failed _ (short a) = one (failed-reason _ (short a)) a
      by-failed _ (long a b) = fourteen (failed-reason _ (long a b)) a b
      by-failed _ (disagree a b d) = twelve (failed-reason _ (disagree a b d)) a b d
      by-failed _ (unknown a b d e) = thirteen (failed-reason _ (unknown a b d e)) a b d e
      by-failed _ (pinned a b d e g) = twenty (failed-reason _ (pinned a b d e g)) a b d e g

  pub flips-given : Given lim ts n t ms
  flips-given =
      record {
        reason_1 = (
          λ q. by-reason (λ z _. absurd (omega arith)) (λ z a. a) (λ z _ _. absurd (omega arith)) (λ z _ _ _. absurd (omega arith))
              (λ z _ _ _ _. absurd (omega arith)) (λ z _ _ _ _ _. absurd (omega arith)),
          λ a. failed-reason _ (short a),
        );
        reason_14 = (
          λ q. by-reason (λ z _. absurd (omega arith)) (λ z _. absurd (omega arith)) (λ z a b. (a, b)) (λ z _ _ _. absurd (omega arith))
              (λ z _ _ _ _. absurd (omega arith)) (λ z _ _ _ _ _. absurd (omega arith)),
          λ a. failed-reason _ (long a.0 a.1),
        );
        reason_12 = (
          λ q. by-reason (λ z _. absurd (omega arith)) (λ z _. absurd (omega arith)) (λ z _ _. absurd (omega arith)) (λ z a b d. (a, b, d))
              (λ z _ _ _ _. absurd (omega arith)) (λ z _ _ _ _ _. absurd (omega arith)),
          λ a. failed-reason _ (disagree a.0 a.1 a.2),
        );
        reason_13 = (
          λ q. by-reason (λ z _. absurd (omega arith)) (λ z _. absurd (omega arith)) (λ z _ _. absurd (omega arith)) (λ z _ _ _. absurd (omega arith))
              (λ z a b d e. (a, b, d, e)) (λ z _ _ _ _ _. absurd (omega arith)),
          λ a. failed-reason _ (unknown a.0 a.1 a.2 a.3),
        );
        reason_20 = (
          λ q. by-reason (λ z _. absurd (omega arith)) (λ z _. absurd (omega arith)) (λ z _ _. absurd (omega arith)) (λ z _ _ _. absurd (omega arith))
              (λ z _ _ _ _. absurd (omega arith)) (λ z a b d e g. (a, b, d, e, g)),
          λ a. failed-reason _ (pinned a.0 a.1 a.2 a.3 a.4),
        );
        no_reason = (
          λ q. by-reason (λ z h. h) (λ z _. absurd (omega arith)) (λ z _ _. absurd (omega arith)) (λ z _ _ _. absurd (omega arith))
              (λ z _ _ _ _. absurd (omega arith)) (λ z _ _ _ _ _. absurd (omega arith)),
          passed-reason,
        );
        no_other =
            by-reason (λ z _. inl (inl z)) (λ z _. inl (inr z)) (λ z _ _. inr (inl z)) (λ z _ _ _. inr (inr (inl z))) (λ z _ _ _ _. inr (inr (inr (inl z))))
            (λ z _ _ _ _ _. inr (inr (inr (inr z))));
      }

-- ---- what an accepted call leaves

-- a list that names each term equally often is as acceptable
reordered : (lim : Limits) (ts us : List ℕ) (n : Counts) (t : Tables) (ms : List ℕ) → ((v : ℕ) → times v ts ≡ times v us) → Acceptable lim ts n t ms → Acceptable lim us n t ms
reordered lim ts us n t ms same h =
    record {
      full = h.full;
      short = omega (arith, reordered-length ts us same, h.short);
      agrees = h.agrees;
      known = reordered-all ts us same (λ v. ltb v n.terms) h.known;
      free = reordered-all ts us same (is_free ms) h.free;
    }

acceptable-leaves : (lim : Limits) (ts : List ℕ) (n : Counts) (t : Tables) (ms : List ℕ) → Acceptable lim ts n t ms → Accepted lim ts n (counts_of (flipped ts (state_in n t))) t ms
unfolding counts_of
acceptable-leaves lim ts n t ms h =
    record {
      stands = subst (λ u. Stands lim after t (counts_of after) u ms) (sym out) (stands_in_lem lim after t ms valid (after-marked lim ts n t ms h) (tables-full lim ts n t ms h));
      worked_out = subst (λ u. WorkedOut n (counts_of after) after u) (sym out) (worked_out lim after t valid n kept);
      after = demanded;
      counts = kept;
      any_order = λ us same.
          let k = reordered lim ts us n t ms same h in
          let o = demanded.any_order us same in
          let w = after-valid lim us n t ms k in (
            applied lim us n t ms k ∙ ap Ok (sym (same-counts lim after (flipped us (state_in n t)) t valid w o)),
            subst₂ (λ a b. SameButList (length after.uncovered) a b) (sym out) (sym (left lim us n t ms k))
                (same_tables lim after (flipped us (state_in n t)) t valid w o),
          );
    }
  where
    after : State
    after = flipped ts (state_in n t)

    out : (flips_of lim ts n t ms).tables ≡ holding lim after t
    out = left lim ts n t ms h

    valid : Valid lim after
    valid = after-valid lim ts n t ms h

    kept : SameFile n (counts_of after)
    kept = same-file lim n t after (tables_agree lim ts n t ms h) (tables-full lim ts n t ms h) (flipped-file ts (state_in n t))

    demanded : AfterFlips ts (state_in n t)
    demanded = demand_three lim ts (state_in n t) (before-valid lim ts n t ms h) (names-known lim ts n t ms h)

-- demand 3
pub flips-accepted : (lim : Limits) (ts : List ℕ) (n m : Counts) (t : Tables) (ms : List ℕ) → (flips_of lim ts n t ms).answer ≡ Ok m → Accepted lim ts n m t ms
flips-accepted lim ts n m t ms e =
    let h = (accepted-exactly lim ts n t ms).0 (m, e) in
    subst (λ (k : Counts). Accepted lim ts n k t ms) (ap counts_in (sym (applied lim ts n t ms h) ∙ e)) (acceptable-leaves lim ts n t ms h)

-- so where all that is asked of a call holds
pub acceptable-flips : (lim : Limits) (ts : List ℕ) (n : Counts) (t : Tables) (ms : List ℕ) → Acceptable lim ts n t ms
    → (m : Counts) × ((flips_of lim ts n t ms).answer ≡ Ok m) × Accepted lim ts n m t ms
acceptable-flips lim ts n t ms h = (counts_of (flipped ts (state_in n t)), applied lim ts n t ms h, acceptable-leaves lim ts n t ms h)

-- "Take one [..] clause file, any starting values and any list of up to 65,536 flips of known terms", which document 02 makes "known and free terms", the
-- values "any that give each pinned term its marked value": such a call is accepted, whatever kind of text it was read from
pub file-acceptable : (lim : Limits) (f : File) (vs ts : List ℕ) (t : Tables) (ms : List ℕ) → Proper lim f
    → length vs ≡ length f.names → Bits vs → Marked lim (afresh f vs) ms → length ts ≤ lim.list → all (λ v. ltb v (length f.names)) ts ≡ true
    → all (is_free ms) ts ≡ true → are_full lim t ≡ true → Acceptable lim ts (counts_of (afresh f vs)) (holding lim (afresh f vs) t) ms
unfolding counts_of afresh
file-acceptable lim f vs ts t ms proper one_each bits marked few known free full =
    let s = afresh f vs in
    stands-acceptable lim s t (counts_of s) (holding lim s t) ms (stands_in_lem lim s t ms valid marked full) ts few known free
  where
    valid : Valid lim (afresh f vs)
    valid = record { proper = proper; one_each = one_each; bits = bits; listed = afresh-listed f vs }

-- "one accepted clause file"
pub text-acceptable : (lim : Limits) (text : List ℕ) (f : File) (vs ts : List ℕ) (t : Tables) (ms : List ℕ) → read_text lim text ≡ accepted f
    → length vs ≡ length f.names → Bits vs → Marked lim (afresh f vs) ms → length ts ≤ lim.list → all (λ v. ltb v (length f.names)) ts ≡ true
    → all (is_free ms) ts ≡ true → are_full lim t ≡ true → Acceptable lim ts (counts_of (afresh f vs)) (holding lim (afresh f vs) t) ms
text-acceptable lim text f vs ts t ms e = file-acceptable lim f vs ts t ms (reading-proper lim text f e)

-- what a reading has filled, whatever kind of text it read, takes any list of up to the most flips of known terms: none is pinned
pub filled-acceptable : (lim : Limits) (f : File) (ts : List ℕ) (t : Tables) (ms : List ℕ) (n : Counts) (u : Tables) (us : List ℕ) → Filled lim f t ms n u us
    → length ts ≤ lim.list → all (λ v. ltb v n.terms) ts ≡ true → Acceptable lim ts n u us
unfolding is_free counts_of as_read afresh
filled-acceptable lim f ts t ms n u us filled few known =
    stands-acceptable lim (as_read f) t n u us filled.stands ts few known (all_implied (λ v. ltb v n.terms) (is_free us) free ts known)
  where
    free : (v : ℕ) → ltb v n.terms ≡ true → is_free us v ≡ true
    free v l =
        ap (λ (xs : List ℕ). is_free xs v) filled.marks
        ∙ eq-eqb _ 0 (unmarked_get lim ms v (omega (arith, ltb-true v n.terms l, ap (λ (m : Counts). m.terms) filled.stands.counts, filled.stands.valid.proper.few-terms)))
