-- Pins and lifts of the library's calls: what they do where the term is known and the tables agree, and each reason exactly when. Assumes nothing.
use Prim.Native.Nat.{ℕ, ◌+◌, ◌≤◌, ◌<◌, min}
use mathlib.Core.Logic.{inl, inr}
use mathlib.Core.Path.{◌≡◌, refl, ap, sym, subst, subst₂, ◌∙◌}
use mathlib.Core.Bool.{Bool, true, false, false≢true, true≢false}
use mathlib.Core.List.{List}
use native.Mathlib.Omega.{arith}
use lib.ListN.{length, get_or, set, take, length-set, length-take, get_or-eq_default}
use lib.Seq.{get_or-take, get_or-set_same, get_or-set_other}
use lib.Dec.{eqb, ltb}
use borrow.Author.Tests.{eq-eqb, ne_eqb, eqb-true, eqb-false, lt-ltb, le-ltb, leb-true}
use Rattle.std.specs.Prelude.{Result, Ok, Err}
use Rattle.written.specs.declared.Counts.{Counts}
use Rattle.written.specs.declared.Reason.{Reason}
use Rattle.written.specs.declared.Reason.TheVariants.{TableTooShort}
use Rattle.written.specs.declared.Refusal.{Refusal}
use Rattle.written.specs.Lists.{all}
use Rattle.written.specs.Limits.{Limits}
use Rattle.written.specs.Reasons.{number_of}
use Rattle.written.specs.Clauses.{File, State}
use Rattle.written.specs.Flips.{flip, flipped}
use Rattle.written.specs.Tables.{Tables, are_full, counts_of, holding}
use Rattle.written.specs.Agreement.{state_in, agree}
use Rattle.written.specs.Marks.{held_at, marks_full, full_marked, marks_hold, marks_rest, agree_marked}
use Rattle.written.specs.Outcomes.{Leaves, flips_refused, flips_leave, term_tested, flip_values, value_asked, flips_for, pin_of, lift_of}
use Rattle.laws.specs.Valid.{Valid}
use Rattle.laws.specs.Calls.{Marked, SameFile}
use Rattle.laws.specs.PinCalls.{Known, Fails, reason_in, Given, Refused, MarkedAt, state_pinned, Pinned, Lifted}
use Rattle.laws.specs.PinCalls.Fails.{short, disagree, unknown}
use Rattle.laws.proofs.Basics.{by_cases, by-eq, by-lt}
use Rattle.laws.proofs.Turning.{bit_at_lem, turned_same, turned-other}
use Rattle.laws.proofs.Flips.{flipped-file}
use Rattle.laws.proofs.Parity.{flipped-length}
use Rattle.laws.proofs.Kept.{flipped-valid}
use Rattle.laws.proofs.Agreeing.{agree-valid, agree-counts, agree-holding}
use Rattle.laws.proofs.Marks.{HoldsAt, holds_at, at-holds, rest-by, full-tables, full-marks, full-both, agree-tables, agree-hold, agree-rest, agree-all}
use Rattle.laws.proofs.Stands.{stands_in_lem, same-file}
use Rattle.laws.proofs.FlipCalls.{drop-by, worked_out}

-- ---- one mark changed

module _ (k m : ℕ) (ms : List ℕ) where
  pub marked-at : k < length ms → MarkedAt k m ms (set ms k m)
  marked-at l = record { mark = get_or-set_same ms k m 0 l; others = λ j d. get_or-set_other ms k j m 0 d; as_many = length-set ms k m }

  set_full : (lim : Limits) → marks_full lim ms ≡ true → marks_full lim (set ms k m) ≡ true
  unfolding marks_full
  set_full lim h = rw (length-set ms k m) h

  -- past the terms nothing changes
  set_rest : (lim : Limits) (n : Counts) → k < n.terms → marks_rest lim n ms ≡ true → marks_rest lim n (set ms k m) ≡ true
  unfolding marks_rest
  set_rest lim n l h = ap (all (λ x. eqb x 0)) (drop-by n.terms (take lim.terms (set ms k m)) (take lim.terms ms) sizes entries) ∙ h
    where
      sizes : length (take lim.terms (set ms k m)) ≡ length (take lim.terms ms)
      sizes = length-take lim.terms (set ms k m) ∙ ap (λ j. min lim.terms j) (length-set ms k m) ∙ sym (length-take lim.terms ms)

      entries : (j : ℕ) → n.terms ≤ j → get_or (take lim.terms (set ms k m)) j 0 ≡ get_or (take lim.terms ms) j 0
      entries j p =
          by-lt j lim.terms
          (λ q. get_or-take lim.terms (set ms k m) j 0 q ∙ get_or-set_other ms k j m 0 (λ e. omega arith) ∙ sym (get_or-take lim.terms ms j 0 q))
          (λ q. get_or-eq_default (take lim.terms (set ms k m)) 0 {n = j} (omega (arith, length-take lim.terms (set ms k m)))
          ∙ sym (get_or-eq_default (take lim.terms ms) 0 {n = j} (omega (arith, length-take lim.terms ms))))

-- ---- the tests

abbrev is_applied : Result Counts Refusal → Bool
is_applied (Ok m) = true
is_applied (Err e) = false

abbrev refusal_in : Result Counts Refusal → Refusal
refusal_in (Ok m) = record { reason = TableTooShort; counts = m }
refusal_in (Err e) = e

-- of a call that leaves l where all tests are passed
module _ (lim : Limits) (k : ℕ) (n : Counts) (t : Tables) (ms : List ℕ) (l : Leaves (Result Counts Refusal)) where
  abbrev call : Leaves (Result Counts Refusal)
  call = term_tested lim k n t ms l

  pub tests : {A : Type 0} → (Known lim k n t ms → A) → ((r : Reason) → Fails lim k n t ms r → A) → A
  tests pass fail =
      by_cases (full_marked lim t ms)
      (λ a. by_cases (agree_marked lim n t ms)
      (λ b. by-lt k n.terms (λ d. pass (record { full = a; agrees = b; known = d })) (λ d. fail _ (unknown a b d)))
      (λ b. fail _ (disagree a b)))
      (λ a. fail _ (short a))

  pub failed : (r : Reason) → Fails lim k n t ms r → call ≡ flips_refused n t ms r
  unfolding term_tested
  failed _ (short a) = rw a refl
  failed _ (disagree a b) = rw (a, b) refl
  failed _ (unknown a b d) = rw (a, b, le-ltb k n.terms d) refl

  pub passed : Known lim k n t ms → call ≡ l
  unfolding term_tested
  passed h = rw (h.full, h.agrees, lt-ltb k n.terms h.known) refl

  failed-reason : (r : Reason) → Fails lim k n t ms r → reason_in call ≡ number_of r
  failed-reason r f = ap reason_in (failed r f)

  refused-answer : (r : Reason) → Fails lim k n t ms r → call.answer ≡ Err (record { reason = r; counts = n })
  refused-answer r f = ap (λ (x : Leaves (Result Counts Refusal)). x.answer) (failed r f)

  -- what is left by a call that is refused
  module _ {m : Counts} (applied : l.answer ≡ Ok m) where
    passed-reason : Known lim k n t ms → reason_in call ≡ 0
    passed-reason h = ap reason_in (passed h) ∙ ap (λ (a : Result Counts Refusal). (flip_values a).reason) applied

    passed-answer : Known lim k n t ms → call.answer ≡ Ok m
    passed-answer h = ap (λ (x : Leaves (Result Counts Refusal)). x.answer) (passed h) ∙ applied

    was-known : {c : Counts} → call.answer ≡ Ok c → Known lim k n t ms
    was-known e = tests (λ h. h) (λ r f. absurd (false≢true (ap is_applied (sym (refused-answer r f) ∙ e))))

    refused : (e : Refusal) → call.answer ≡ Err e → Refused lim k n t ms e call
    refused e q =
        tests (λ h. absurd (true≢false (ap is_applied (sym (passed-answer h) ∙ q))))
        (λ r f.
        let same = ap refusal_in (sym (refused-answer r f) ∙ q) in
        record {
          fails = subst (λ (x : Refusal). Fails lim k n t ms x.reason) same f;
          left = ap (λ (x : Leaves (Result Counts Refusal)). x.tables) (failed r f);
          marks = ap (λ (x : Leaves (Result Counts Refusal)). x.marks) (failed r f);
          values = ap (λ (m : Counts). flip_values (Err (record { reason = e.reason; counts = m }))) (ap (λ (x : Refusal). x.counts) (sym same));
        })

    by-reason : {A : Type 0} → (reason_in call ≡ 0 → Known lim k n t ms → A) → (reason_in call ≡ 1 → full_marked lim t ms ≡ false → A)
        → (reason_in call ≡ 12 → full_marked lim t ms ≡ true → agree_marked lim n t ms ≡ false → A)
        → (reason_in call ≡ 13 → full_marked lim t ms ≡ true → agree_marked lim n t ms ≡ true → n.terms ≤ k → A) → A
    by-reason {A} pass one twelve thirteen = tests (λ h. pass (passed-reason h) h) by-failed
      where
        by-failed : (r : Reason) → Fails lim k n t ms r → A
        by-failed _ (short a) = one (failed-reason _ (short a)) a
        by-failed _ (disagree a b) = twelve (failed-reason _ (disagree a b)) a b
        by-failed _ (unknown a b d) = thirteen (failed-reason _ (unknown a b d)) a b d

    given : Given lim k n t ms call
    given =
        record {
          reason_1 = (
            λ q. by-reason (λ z _. absurd (omega arith)) (λ z a. a) (λ z _ _. absurd (omega arith)) (λ z _ _ _. absurd (omega arith)),
            λ a. failed-reason _ (short a),
          );
          reason_12 = (
            λ q. by-reason (λ z _. absurd (omega arith)) (λ z _. absurd (omega arith)) (λ z a b. (a, b)) (λ z _ _ _. absurd (omega arith)),
            λ a. failed-reason _ (disagree a.0 a.1),
          );
          reason_13 = (
            λ q. by-reason (λ z _. absurd (omega arith)) (λ z _. absurd (omega arith)) (λ z _ _. absurd (omega arith)) (λ z a b d. (a, b, d)),
            λ a. failed-reason _ (unknown a.0 a.1 a.2),
          );
          no_reason = (
            λ q. by-reason (λ z h. h) (λ z _. absurd (omega arith)) (λ z _ _. absurd (omega arith)) (λ z _ _ _. absurd (omega arith)),
            passed-reason,
          );
          no_other = by-reason (λ z _. inl (inl z)) (λ z _. inl (inr z)) (λ z _ _. inr (inl z)) (λ z _ _ _. inr (inr z));
        }

-- ---- what a pin and a lift leave

module _ (lim : Limits) (k : ℕ) (n : Counts) (t : Tables) (ms : List ℕ) (h : Known lim k n t ms) where
  ten-full : are_full lim t ≡ true
  ten-full = full-tables lim t ms h.full

  ten-agree : agree lim n t ≡ true
  ten-agree = agree-tables lim t ms n h.agrees

  before-valid : Valid lim (state_in n t)
  before-valid = agree-valid lim n t ten-agree ten-full

  before-counts : counts_of (state_in n t) ≡ n
  before-counts = agree-counts lim n t ten-agree ten-full

  names_are : length (state_in n t).file.names ≡ n.terms
  unfolding counts_of
  names_are = ap (λ (m : Counts). m.terms) before-counts

  in_values : k < length (state_in n t).values
  in_values = omega (arith, before-valid.one_each, names_are, h.known)

  in_marks : k < length ms
  unfolding marks_full
  in_marks = omega (arith, in_values, before-valid.one_each, before-valid.proper.few-terms, leb-true lim.terms (length ms) (full-marks lim t ms h.full))

  before-hold : marks_hold ms (state_in n t).values ≡ true
  before-hold = agree-hold lim t ms n h.agrees

  -- a lift: the term is free, and no other mark moves
  lifted-hold : marks_hold (set ms k 0) (state_in n t).values ≡ true
  unfolding held_at
  lifted-hold =
      at-holds (set ms k 0) (state_in n t).values
      (λ j l. by-eq j k
      (λ e. let none : get_or (set ms k 0) j 0 ≡ 0 = rw e (get_or-set_same ms k 0 0 in_marks) in record { small = omega (arith, none); value = rw none refl })
      (λ d. let other = get_or-set_other ms k j 0 0 d in
      let was = holds_at ms (state_in n t).values before-hold j l in
      record { small = omega (arith, other, was.small); value = rw other was.value }))

  lifted : Lifted lim k n t ms (record { answer = Ok n; tables = t; marks = set ms k 0 })
  lifted =
      record {
        known = h;
        answer = refl;
        left = refl;
        marked = marked-at k 0 ms in_marks;
        full = full-both lim t (set ms k 0) ten-full (set_full k 0 ms lim (full-marks lim t ms h.full));
        agrees = agree-all lim t (set ms k 0) n ten-agree lifted-hold (set_rest k 0 ms lim n h.known (agree-rest lim t ms n h.agrees));
      }

-- a pin: where the term has the value already nothing is flipped, else it is
module _ (lim : Limits) (k v : ℕ) (n : Counts) (t : Tables) (ms : List ℕ) (h : Known lim k n t ms) where
  abbrev s : State
  s = state_in n t

  abbrev b : ℕ
  b = value_asked v

  abbrev r : State
  r = state_pinned k v n t

  -- what holds of both
  by_value : (P : State → Type 0) → (get_or s.values k 0 ≡ b → P s) → ((get_or s.values k 0 ≡ b → ⊥) → P (flip k s)) → P r
  unfolding flips_for flipped
  by_value P same other =
      by_cases (eqb (get_or s.values k 0) b) (λ q. rw q (same (eqb-true (get_or s.values k 0) b q))) (λ q. rw q (other (eqb-false (get_or s.values k 0) b q)))

  asked_bit : b < 2
  unfolding value_asked
  asked_bit = by_cases (eqb v 0) (λ q. rw q (omega arith)) (λ q. rw q (omega arith))

  valid : Valid lim s
  valid = before-valid lim k n t ms h

  value : get_or r.values k 0 ≡ b
  unfolding flip
  value =
      by_value (λ (x : State). get_or x.values k 0 ≡ b) (λ e. e)
      (λ d. turned_same k s.values (in_values lim k n t ms h) ∙ (let small = bit_at_lem s.values k valid.bits in let one = asked_bit in omega arith))

  other-values : (j : ℕ) → (j ≡ k → ⊥) → get_or r.values j 0 ≡ get_or s.values j 0
  unfolding flip
  other-values j d = by_value (λ (x : State). get_or x.values j 0 ≡ get_or s.values j 0) (λ e. refl) (λ _. turned-other k j s.values d)

  -- what is flipped is known
  known : all (λ j. ltb j (length s.file.names)) (flips_for k b s) ≡ true
  unfolding flips_for
  known =
      let one : ltb k (length s.file.names) ≡ true = lt-ltb k _ (omega (arith, names_are lim k n t ms h, h.known)) in
      by_cases (eqb (get_or s.values k 0) b) (λ q. rw q refl) (λ q. rw (q, one) refl)

  after-valid : Valid lim r
  after-valid = flipped-valid lim (flips_for k b s) s valid known

  -- the mark is the value's, and no other value or mark moves
  after-hold : marks_hold (set ms k (1 + b)) r.values ≡ true
  after-hold = at-holds (set ms k (1 + b)) r.values (λ j l. by-eq j k (λ e. rw e here) (λ d. there j l d))
    where
      here : HoldsAt (set ms k (1 + b)) r.values k
      here = rest (get_or-set_same ms k (1 + b) 0 (in_marks lim k n t ms h))
        where
          held_one : (c : ℕ) → c < 2 → c ≡ held_at (1 + c) c
          held_one c l = unfold held_at in rw (ne_eqb (1 + c) 0 (λ e. omega arith)) (by-eq c 0 (λ e. rw e refl) (λ d. rw (ne_eqb (1 + c) 1 (λ e. omega arith)) (omega arith)))

          rest : get_or (set ms k (1 + b)) k 0 ≡ 1 + b → HoldsAt (set ms k (1 + b)) r.values k
          rest e = record { small = omega (arith, e, asked_bit); value = rw (e, value) (held_one b asked_bit) }

      there : (j : ℕ) → j < length r.values → (j ≡ k → ⊥) → HoldsAt (set ms k (1 + b)) r.values j
      there j l d =
          let other = get_or-set_other ms k j (1 + b) 0 d in
          let was = holds_at ms s.values (before-hold lim k n t ms h) j (omega (arith, l, flipped-length (flips_for k b s) s)) in
          record { small = omega (arith, other, was.small); value = rw (other, other-values j d) was.value }

  marked : Marked lim r (set ms k (1 + b))
  unfolding counts_of
  marked =
      record {
        full = set_full k (1 + b) ms lim (full-marks lim t ms h.full);
        hold = after-hold;
        rest = rest-by lim n (counts_of r) (set ms k (1 + b))
            (sym (ap (λ (f : File). length f.names) (flipped-file (flips_for k b s) s) ∙ names_are lim k n t ms h))
            (set_rest k (1 + b) ms lim n h.known (agree-rest lim t ms n h.agrees));
      }

  kept : SameFile n (counts_of r)
  kept = same-file lim n t r (ten-agree lim k n t ms h) (ten-full lim k n t ms h) (flipped-file (flips_for k b s) s)

  unflipped : get_or s.values k 0 ≡ b → (holding lim r t ≡ t) × (counts_of r ≡ n)
  unfolding flips_for flipped
  unflipped e = rw (eq-eqb _ _ e) (agree-holding lim n t (ten-agree lim k n t ms h) (ten-full lim k n t ms h), before-counts lim k n t ms h)

  pub pinned : Pinned lim k v n t ms (counts_of r) (flips_leave lim t (set ms k (1 + b)) r)
  unfolding flips_leave
  pinned =
      record {
        known = h;
        value = value;
        other-values = other-values;
        marked = marked-at k (1 + b) ms (in_marks lim k n t ms h);
        stands = stands_in_lem lim r t (set ms k (1 + b)) after-valid marked (ten-full lim k n t ms h);
        worked_out = worked_out lim r t after-valid n kept;
        counts = kept;
        standing = unflipped;
      }

-- ---- the calls

abbrev counts_in : Result Counts Refusal → Counts
counts_in (Ok m) = m
counts_in (Err e) = e.counts

module _ (lim : Limits) (k v : ℕ) (n : Counts) (t : Tables) (ms : List ℕ) where
  abbrev pin_leaves : Leaves (Result Counts Refusal)
  pin_leaves = flips_leave lim t (set ms k (1 + value_asked v)) (state_pinned k v n t)

  pin_applies : pin_leaves.answer ≡ Ok (counts_of (state_pinned k v n t))
  unfolding flips_leave
  pin_applies = refl

  -- "Pinning a term marks it and flips it if its value differs"
  pub pin_does : (m : Counts) → (pin_of lim k v n t ms).answer ≡ Ok m → Pinned lim k v n t ms m (pin_of lim k v n t ms)
  unfolding pin_of
  pin_does m e =
      let h = was-known lim k n t ms pin_leaves pin_applies e in
      let is = passed lim k n t ms pin_leaves h in
      let counts = ap counts_in (sym (ap (λ (l : Leaves (Result Counts Refusal)). l.answer) is ∙ pin_applies) ∙ e) in
      subst₂ (λ (c : Counts) (l : Leaves (Result Counts Refusal)). Pinned lim k v n t ms c l) counts (sym is) (pinned lim k v n t ms h)

  pub pin-refused : (e : Refusal) → (pin_of lim k v n t ms).answer ≡ Err e → Refused lim k n t ms e (pin_of lim k v n t ms)
  unfolding pin_of
  pin-refused = refused lim k n t ms pin_leaves pin_applies

  pub pin-given : Given lim k n t ms (pin_of lim k v n t ms)
  unfolding pin_of
  pin-given = given lim k n t ms pin_leaves pin_applies

module _ (lim : Limits) (k : ℕ) (n : Counts) (t : Tables) (ms : List ℕ) where
  abbrev lift_leaves : Leaves (Result Counts Refusal)
  lift_leaves = record { answer = Ok n; tables = t; marks = set ms k 0 }

  -- "lifting a pin clears only the mark"
  pub lift_does : (m : Counts) → (lift_of lim k n t ms).answer ≡ Ok m → Lifted lim k n t ms (lift_of lim k n t ms)
  unfolding lift_of
  lift_does m e =
      let h = was-known lim k n t ms lift_leaves refl e in
      subst (Lifted lim k n t ms) (sym (passed lim k n t ms lift_leaves h)) (lifted lim k n t ms h)

  pub lift-refused : (e : Refusal) → (lift_of lim k n t ms).answer ≡ Err e → Refused lim k n t ms e (lift_of lim k n t ms)
  unfolding lift_of
  lift-refused = refused lim k n t ms lift_leaves refl

  pub lift-given : Given lim k n t ms (lift_of lim k n t ms)
  unfolding lift_of
  lift-given = given lim k n t ms lift_leaves refl
