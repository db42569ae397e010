-- A reading as a call: what is left where it is accepted and where it is refused, and which reason is given exactly when.
-- What stood before makes no difference. Said of any reading, and so of our own text. Assumes nothing.
use Prim.Native.Nat.{ℕ, ◌+◌, ◌-◌, ◌≤◌, ◌<◌}
use mathlib.Core.Logic.{◌↔◌, ◌⊎◌, inl, inr}
use mathlib.Core.Path.{◌≡◌, refl, ap, ap₂, sym, subst, subst₂, ◌∙◌}
use mathlib.Core.Bool.{Bool, true, false, false≢true, true≢false}
use mathlib.Core.List.{List, [], ◌∷◌}
use native.Mathlib.Omega.{arith}
use lib.ListN.{length, get_or, take, drop, length-replicate, get_or-replicate, get_or-append}
use borrow.Author.Tests.{le-ltb, lt-ltb, eqb-false, ne_eqb, not-true}
use Rattle.std.specs.Prelude.{Result, Ok, Err}
use Rattle.scan.specs.Scan.{scan, open_end}
use Rattle.scan.proofs.Laws.{get_d_any}
use Rattle.written.specs.declared.Counts.{Counts}
use Rattle.written.specs.declared.Reason.TheVariants.{TableTooShort, TextTooLong, TextCut, NoClause}
use Rattle.written.specs.declared.Fault.{Fault}
use Rattle.written.specs.Lists.{zeros}
use Rattle.written.specs.Limits.{Limits}
use Rattle.written.specs.Reasons.{number_of, fault}
use Rattle.written.specs.Clauses.{File, State, afresh, as_read}
use Rattle.written.specs.Reading.{Reading, accepted, refused, read_text}
use Rattle.written.specs.Tables.{Tables, each, sizes, full_sizes, are_full, counts_of, holding, cleared, no_counts}
use Rattle.written.specs.Agreement.{state_in, agree}
use Rattle.written.specs.Marks.{full_marked, unmarked, agree_marked}
use Rattle.written.specs.Outcomes.{Leaves, leaves, ten, ten_of, unchanged, read_leaves, read_into, reading_of, read_values}
use Rattle.laws.specs.Valid.{Proper, Valid}
use Rattle.laws.specs.Reasons.{names_line, of_text}
use Rattle.laws.specs.ReadCalls.{Filled, LeftAlone, Zeroed, Emptied, Stopped, reason_into, counts_into, reason_given, counts_given, Given}
use Rattle.laws.proofs.Basics.{by_cases, by-lt}
use Rattle.laws.proofs.Each.{each_at}
use Rattle.laws.proofs.Each.Table.{Values, Starts}
use Rattle.laws.proofs.Holding.{tables-at, cleared_at, holding-full, cleared-full, holding-take, cleared-take, holding-beyond, cleared-beyond, holding-by, cleared_by}
use Rattle.laws.proofs.Back.{holding-back}
use Rattle.laws.proofs.Points.{Points, agree-points}
use Rattle.laws.proofs.Marks.{unmarked-drop, unmarked-full, unmarked-by, unmarked-marked, full-tables, full-marks, full-both, tables-disagree}
use Rattle.laws.proofs.Leaves.{both_left, the_answer, the_tables, the_marks, ten-marked}
use Rattle.laws.proofs.Stands.{stands_in_lem}
use Rattle.laws.proofs.Reasons.{number-pos, line-of-text, line-not-last, late_number}
use Rattle.laws.proofs.Drafts.{Sound}
use Rattle.laws.proofs.Readings.{reading-sound, as_read-valid, file-words}
use Rattle.laws.proofs.Faults.{refusal-line}
use Rattle.laws.proofs.Refusals.{fails_late, stops-exactly}

-- ---- tables in which no clause stands

-- no table agrees with four counts of 0
none-agree : (lim : Limits) (u : Tables) → agree lim no_counts u ≡ false
none-agree lim u = by_cases (agree lim no_counts u) (λ y. absurd (omega (arith, (agree-points lim no_counts u y).some))) (λ n. n)

second-start : (lim : Limits) (t : Tables) → 0 < lim.clauses → get_or (cleared lim t).starts 1 0 ≡ 0
unfolding full_sizes sizes
second-start lim t h =
    let n = lim.clauses + 1 in
    let l = length-replicate {A = ℕ} n 0 in
    ap (λ (xs : List ℕ). get_or xs 1 0) (cleared_at lim t Starts)
    ∙ get_or-append (zeros n) (drop (length (zeros n)) t.starts) 0 1 (omega arith) ∙ get_or-replicate n 1 0 0 (omega arith)

-- and cleared ones with no counts: their starts do not rise
cleared-disagrees : (lim : Limits) (t : Tables) (m : Counts) → agree lim m (cleared lim t) ≡ false
cleared-disagrees lim t m = by_cases (agree lim m (cleared lim t)) (λ y. absurd (not-rising (agree-points lim m (cleared lim t) y))) (λ n. n)
  where
    not-rising : Points lim m (cleared lim t) (state_in m (cleared lim t)) (each take (sizes m) (cleared lim t)) → ⊥
    not-rising p = omega (arith, p.rise 0 p.some, second-start lim t (omega (arith, p.some, p.fit.clauses)))

-- ---- what a text of either form comes to

pub by-reading : {A : Type 0} (r : Reading) → ((f : File) → r ≡ accepted f → A) → ((e : Fault) → r ≡ refused e → A) → A
by-reading (accepted f) a b = a f refl
by-reading (refused e) a b = b e refl

-- the reason's number, and 0 of an accepted reading
abbrev pub reason_in : Reading → ℕ
reason_in (accepted f) = 0
reason_in (refused e) = number_of e.reason

-- it is 0 exactly of an accepted one
pub reason-none : (r : Reading) → (reason_in r ≡ 0) ↔ ((f : File) × (r ≡ accepted f))
reason-none r = (by-reading r (λ f e _. (f, e)) (λ e q z. absurd (omega (arith, number-pos e.reason, ap reason_in q))), λ h. ap reason_in h.1)

-- the file of an accepted reading that is sound is proper, and at values of 0 a valid state
pub sound-proper : (lim : Limits) (r : Reading) → Sound lim r → (f : File) → r ≡ accepted f → Proper lim f
sound-proper lim r sound f e = subst (Sound lim) e sound

pub sound-valid : (lim : Limits) (r : Reading) → Sound lim r → (f : File) → r ≡ accepted f → Valid lim (as_read f)
sound-valid lim r sound f e = as_read-valid lim f (sound-proper lim r sound f e)

-- ---- what a call answers and leaves

abbrev is_accepted : Result Counts Fault → Bool
is_accepted (Ok n) = true
is_accepted (Err e) = false

abbrev fault_in : Result Counts Fault → Fault
fault_in (Ok n) = fault NoClause
fault_in (Err e) = e

leaves-reason : (lim : Limits) (t : Tables) (ms : List ℕ) (r : Reading) → (read_values (read_leaves lim t ms r).answer).reason ≡ reason_in r
unfolding read_leaves
leaves-reason lim t ms (accepted f) = refl
leaves-reason lim t ms (refused e) = refl

leaves-marks : (lim : Limits) (t : Tables) (ms : List ℕ) (r : Reading) → (read_leaves lim t ms r).marks ≡ unmarked lim ms
unfolding read_leaves
leaves-marks lim t ms (accepted f) = refl
leaves-marks lim t ms (refused e) = refl

-- the marks stand beside the answer and the ten tables
pub same-ten : (lim : Limits) (t : Tables) (ms : List ℕ) (r : Reading) → ten_of (read_leaves lim t [] r) ≡ ten_of (read_leaves lim t ms r)
unfolding read_leaves
same-ten lim t ms (accepted f) = refl
same-ten lim t ms (refused e) = refl

module _ (lim : Limits) (r : Reading) (t : Tables) (ms : List ℕ) where
  -- for short tables the answer is reason 1, whatever the text
  pub short_into : full_marked lim t ms ≡ false → read_into lim r t ms ≡ unchanged t ms (Err (fault TableTooShort))
  short_into h = rw h refl

  pub full_into : full_marked lim t ms ≡ true → read_into lim r t ms ≡ read_leaves lim t ms r
  full_into h = rw h refl

  -- one of three
  pub by-outcome : {A : Type 0} → (full_marked lim t ms ≡ false → A) → (full_marked lim t ms ≡ true → (f : File) → r ≡ accepted f → A)
      → (full_marked lim t ms ≡ true → (e : Fault) → r ≡ refused e → A) → A
  by-outcome short told faulty = by_cases (full_marked lim t ms) (λ full. by-reading r (told full) (faulty full)) short

  pub short-answer : full_marked lim t ms ≡ false → (read_into lim r t ms).answer ≡ Err (fault TableTooShort)
  short-answer h = the_answer (short_into h)

  pub file-answer : full_marked lim t ms ≡ true → (f : File) → r ≡ accepted f → (read_into lim r t ms).answer ≡ Ok (counts_of (as_read f))
  unfolding read_leaves
  file-answer h f e = the_answer (full_into h ∙ ap (read_leaves lim t ms) e)

  pub file-tables : full_marked lim t ms ≡ true → (f : File) → r ≡ accepted f → (read_into lim r t ms).tables ≡ holding lim (as_read f) t
  unfolding read_leaves
  file-tables h f e = the_tables (full_into h ∙ ap (read_leaves lim t ms) e)

  pub fault-answer : full_marked lim t ms ≡ true → (e : Fault) → r ≡ refused e → (read_into lim r t ms).answer ≡ Err e
  unfolding read_leaves
  fault-answer h e q = the_answer (full_into h ∙ ap (read_leaves lim t ms) q)

  pub fault-tables : full_marked lim t ms ≡ true → (e : Fault) → r ≡ refused e → (read_into lim r t ms).tables ≡ cleared lim t
  unfolding read_leaves
  fault-tables h e q = the_tables (full_into h ∙ ap (read_leaves lim t ms) q)

  -- the marks are cleared where the tables are full
  pub marks_into : full_marked lim t ms ≡ true → (read_into lim r t ms).marks ≡ unmarked lim ms
  marks_into h = the_marks (full_into h) ∙ leaves-marks lim t ms r

  -- so what was read into the ten tables, with the marks cleared, is what the call leaves
  pub ten_into : full_marked lim t ms ≡ true → {a : Result Counts Fault} {u : Tables} → ten a u ≡ ten_of (read_leaves lim t [] r) → leaves a u (unmarked lim ms) ≡ read_into lim r t ms
  ten_into h e = ten-marked (e ∙ same-ten lim t ms r ∙ sym (ap ten_of (full_into h))) (sym (marks_into h))

-- ---- what an accepted call leaves

-- whatever kind of text the file was read from
pub file-filled : (lim : Limits) (f : File) (t : Tables) (ms : List ℕ) → Proper lim f → full_marked lim t ms ≡ true
    → Filled lim f t ms (counts_of (as_read f)) (holding lim (as_read f) t) (unmarked lim ms)
unfolding counts_of as_read afresh state_in
file-filled lim f t ms proper full =
    record {
      stands = stands_in_lem lim (as_read f) t (unmarked lim ms) v
          (unmarked-marked lim ms (as_read f) (omega (arith, v.one_each, proper.few-terms)) (full-marks lim t ms full))
          (full-tables lim t ms full);
      values = ap (λ (s : State). s.values) back;
      words = zero-words;
      worked_out = back ∙ ap (λ (g : File). afresh g (zeros (length f.names))) (sym (ap (λ (s : State). s.file) back));
      marks = refl;
    }
  where
    v : Valid lim (as_read f)
    v = as_read-valid lim f proper

    back : state_in (counts_of (as_read f)) (holding lim (as_read f) t) ≡ as_read f
    back = holding-back lim (as_read f) t v

    zero-words : take (full_sizes lim).values (holding lim (as_read f) t).values ≡ zeros (full_sizes lim).values
    zero-words =
        sym (each_at take Values (full_sizes lim) (holding lim (as_read f) t)) ∙ ap (λ (u : Tables). u.values) (holding-take lim (as_read f) t v)
        ∙ tables-at lim (as_read f) Values ∙ file-words lim f v

-- ---- what a refused call leaves

pub zeroed : (lim : Limits) (t : Tables) (ms : List ℕ) (e : Fault) → full_marked lim t ms ≡ true → Zeroed lim t ms e (cleared lim t) (unmarked lim ms)
zeroed lim t ms e full =
    record {
      lent-full = full;
      left = refl;
      marks = refl;
      in_full-sizes = cleared-take lim t;
      beyond = cleared-beyond lim t;
      full = full-both lim (cleared lim t) (unmarked lim ms) (cleared-full lim t (full-tables lim t ms full)) (unmarked-full lim ms (full-marks lim t ms full));
      values = refl;
      disagrees = λ m. tables-disagree lim (cleared lim t) (unmarked lim ms) m (cleared-disagrees lim t m);
    }

-- ---- the call, of any reading

module _ (lim : Limits) (r : Reading) (t : Tables) (ms : List ℕ) where
  -- a refusal is the text's where the tables are full
  pub full-fault : full_marked lim t ms ≡ true → (e : Fault) → (read_into lim r t ms).answer ≡ Err e → r ≡ refused e
  full-fault full e q =
      by-reading r (λ f g. absurd (true≢false (ap is_accepted (sym (file-answer lim r t ms full f g) ∙ q))))
      (λ d g. g ∙ ap refused (ap fault_in (sym (fault-answer lim r t ms full d g) ∙ q)))

  -- and reason 1 where one is short
  pub short-fault : full_marked lim t ms ≡ false → (e : Fault) → (read_into lim r t ms).answer ≡ Err e → e ≡ fault TableTooShort
  short-fault short e q = ap fault_in (sym q ∙ short-answer lim r t ms short)

  -- refused, it leaves all unchanged, by reason 1, or tables 0
  pub into_refused : (e : Fault) → (read_into lim r t ms).answer ≡ Err e
      → LeftAlone lim t ms e (read_into lim r t ms).tables (read_into lim r t ms).marks
      ⊎ ((r ≡ refused e) × Zeroed lim t ms e (read_into lim r t ms).tables (read_into lim r t ms).marks)
  into_refused e q =
      by_cases (full_marked lim t ms)
      (λ full.
      let g = full-fault full e q in
      inr (g, subst₂ (λ u us. Zeroed lim t ms e u us) (sym (fault-tables lim r t ms full e g)) (sym (marks_into lim r t ms full)) (zeroed lim t ms e full)))
      (λ short. inl (record {
        short = short;
        reason = short-fault short e q;
        left = the_tables (short_into lim r t ms short);
        marks = the_marks (short_into lim r t ms short);
        values = ap (λ (x : Fault). read_values (Err x)) (short-fault short e q);
        disagrees = tables-disagree lim (read_into lim r t ms).tables (read_into lim r t ms).marks no_counts (none-agree lim (read_into lim r t ms).tables);
      }))

  -- every text is accepted or refused, and none is both
  pub into_either : ((n : Counts) × ((read_into lim r t ms).answer ≡ Ok n)) ⊎ ((e : Fault) × ((read_into lim r t ms).answer ≡ Err e))
  into_either =
      by-outcome lim r t ms (λ s. inr (fault TableTooShort, short-answer lim r t ms s)) (λ full f e. inl (counts_of (as_read f), file-answer lim r t ms full f e))
      (λ full e q. inr (e, fault-answer lim r t ms full e q))

  pub into_not-both : (n : Counts) (e : Fault) → (read_into lim r t ms).answer ≡ Ok n → (read_into lim r t ms).answer ≡ Err e → ⊥
  into_not-both n e a q = true≢false (ap is_accepted (sym a ∙ q))

  -- an accepted call was lent full tables, and a text that says a file
  says-file : (n : Counts) → (read_into lim r t ms).answer ≡ Ok n
      → (f : File) × (full_marked lim t ms ≡ true) × (r ≡ accepted f)
  says-file n q =
      by-outcome lim r t ms (λ s. absurd (false≢true (ap is_accepted (sym (short-answer lim r t ms s) ∙ q)))) (λ full f e. (f, full, e))
      (λ full e g. absurd (false≢true (ap is_accepted (sym (fault-answer lim r t ms full e g) ∙ q))))

  -- accepted exactly if the tables are full and the text says a file
  pub into_accepted-exactly : ((n : Counts) × ((read_into lim r t ms).answer ≡ Ok n)) ↔ ((full_marked lim t ms ≡ true) × ((f : File) × (r ≡ accepted f)))
  into_accepted-exactly = (
    λ a. let h = says-file a.0 a.1 in (h.1, (h.0, h.2)),
    λ h. (counts_of (as_read h.1.0), file-answer lim r t ms h.0 h.1.0 h.1.1),
  )

  -- refused exactly if a table is short, or the tables are full and the text is at fault
  pub into_refused-exactly : (e : Fault)
      → ((read_into lim r t ms).answer ≡ Err e) ↔ (((full_marked lim t ms ≡ false) × (e ≡ fault TableTooShort)) ⊎ ((full_marked lim t ms ≡ true) × (r ≡ refused e)))
  into_refused-exactly e = (λ q. by_cases (full_marked lim t ms) (λ full. inr (full, full-fault full e q)) (λ short. inl (short, short-fault short e q)), back)
    where
      back : ((full_marked lim t ms ≡ false) × (e ≡ fault TableTooShort)) ⊎ ((full_marked lim t ms ≡ true) × (r ≡ refused e)) → (read_into lim r t ms).answer ≡ Err e
      back (inl h) = short-answer lim r t ms h.0 ∙ ap Err (sym h.1)
      back (inr h) = fault-answer lim r t ms h.0 e h.1

  -- which reason is given

  pub full-reason : full_marked lim t ms ≡ true → reason_into lim r t ms ≡ reason_in r
  full-reason h = ap (λ (l : Leaves (Result Counts Fault)). (read_values l.answer).reason) (full_into lim r t ms h) ∙ leaves-reason lim t ms r

  pub short-reason : full_marked lim t ms ≡ false → reason_into lim r t ms ≡ 1
  short-reason h = ap (λ (a : Result Counts Fault). (read_values a).reason) (short-answer lim r t ms h)

  -- a reason of the text is given where the tables are full
  pub where_full : (k : ℕ) {X : Type 0} → (k ≡ 1 → ⊥) → (reason_in r ≡ k) ↔ X → (reason_into lim r t ms ≡ k) ↔ ((full_marked lim t ms ≡ true) × X)
  where_full k other exactly = (
    λ q. by_cases (full_marked lim t ms) (λ full. (full, exactly.0 (sym (full-reason full) ∙ q))) (λ short. absurd (other (sym q ∙ short-reason short))),
    λ h. full-reason h.0 ∙ exactly.1 h.1,
  )

  -- reason 1 is given exactly where a table is short, of a text that does not give it
  pub where_short : (reason_in r ≡ 1 → ⊥) → (reason_into lim r t ms ≡ 1) ↔ (full_marked lim t ms ≡ false)
  where_short other = (λ q. by_cases (full_marked lim t ms) (λ full. absurd (other (sym (full-reason full) ∙ q))) (λ short. short), short-reason)

  -- none is given exactly where the tables are full and the text says a file
  pub where_none : (reason_into lim r t ms ≡ 0) ↔ ((full_marked lim t ms ≡ true) × ((f : File) × (r ≡ accepted f)))
  where_none = where_full 0 (λ e. omega arith) (reason-none r)

  module _ (sound : Sound lim r) where
    -- of full tables and a text that says a file
    pub into_filled : full_marked lim t ms ≡ true → (f : File) → r ≡ accepted f
        → Filled lim f t ms (counts_into lim r t ms) (read_into lim r t ms).tables (read_into lim r t ms).marks
    into_filled full f e =
        subst (λ n. Filled lim f t ms n (read_into lim r t ms).tables (read_into lim r t ms).marks) (sym (ap (λ (a : Result Counts Fault). (read_values a).counts) (file-answer lim r t ms full f e)))
        (subst₂ (λ u us. Filled lim f t ms (counts_of (as_read f)) u us) (sym (file-tables lim r t ms full f e)) (sym (marks_into lim r t ms full))
        (file-filled lim f t ms (sound-proper lim r sound f e) full))

    -- accepted, it leaves the tables of the file that the text says
    pub into_accepted : (n : Counts) → (read_into lim r t ms).answer ≡ Ok n
        → (f : File) × (full_marked lim t ms ≡ true) × (r ≡ accepted f) × Filled lim f t ms n (read_into lim r t ms).tables (read_into lim r t ms).marks
    into_accepted n q =
        let h = says-file n q in (
          h.0,
          h.1,
          h.2,
          subst (λ m. Filled lim h.0 t ms m (read_into lim r t ms).tables (read_into lim r t ms).marks) (ap (λ (a : Result Counts Fault). (read_values a).counts) q) (into_filled h.1 h.0 h.2),
        )

    -- the tables left agree with the counts given exactly where no reason is given
    pub into_agrees : (reason_into lim r t ms ≡ 0) ↔ (agree_marked lim (counts_into lim r t ms) (read_into lim r t ms).tables (read_into lim r t ms).marks ≡ true)
    into_agrees = (
      λ q. let h = where_none.0 q in (into_filled h.0 h.1.0 h.1.1).stands.agrees,
      λ h. by-outcome lim r t ms (λ s. absurd (disagrees (fault TableTooShort) h (short-answer lim r t ms s))) (λ full f e. where_none.1 (full, (f, e)))
          (λ full e q. absurd (disagrees e h (fault-answer lim r t ms full e q))),
    )
      where
        disagrees : (e : Fault) → agree_marked lim (counts_into lim r t ms) (read_into lim r t ms).tables (read_into lim r t ms).marks ≡ true
            → (read_into lim r t ms).answer ≡ Err e → ⊥
        disagrees e h q =
            true≢false
            (sym h ∙ ap (λ (a : Result Counts Fault). agree_marked lim (read_values a).counts (read_into lim r t ms).tables (read_into lim r t ms).marks) q
            ∙ tables-disagree lim (read_into lim r t ms).tables (read_into lim r t ms).marks no_counts (none-agree lim (read_into lim r t ms).tables))

-- ---- what stood before makes no difference

module _ (lim : Limits) (r : Reading) (sound : Sound lim r) where
  leaves_by : (t u : Tables) (ms ns : List ℕ) → each drop (full_sizes lim) t ≡ each drop (full_sizes lim) u → drop lim.terms ms ≡ drop lim.terms ns
      → read_leaves lim t ms r ≡ read_leaves lim u ns r
  unfolding read_leaves
  leaves_by t u ms ns same beyond =
      by-reading r (λ f e. rw e (both_left refl (holding-by lim (as_read f) t u (sound-valid lim r sound f e) same) (unmarked-by lim ms ns beyond)))
      (λ e q. rw q (both_left refl (cleared_by lim t u same) (unmarked-by lim ms ns beyond)))

  -- full tables that are the same past their full sizes are read into alike
  pub into_by : (t u : Tables) (ms ns : List ℕ) → full_marked lim t ms ≡ true → full_marked lim u ns ≡ true → each drop (full_sizes lim) t ≡ each drop (full_sizes lim) u
      → drop lim.terms ms ≡ drop lim.terms ns → read_into lim r t ms ≡ read_into lim r u ns
  into_by t u ms ns ft fu same beyond = full_into lim r t ms ft ∙ leaves_by t u ms ns same beyond ∙ sym (full_into lim r u ns fu)

  -- a reading into tables that another has left, of whatever form, is as one into the tables before it
  pub into_over : (first : Reading) → Sound lim first → (t : Tables) (ms : List ℕ)
      → read_into lim r (read_into lim first t ms).tables (read_into lim first t ms).marks ≡ read_into lim r t ms
  into_over first before t ms =
      by-outcome lim first t ms (λ s. ap (λ (l : Leaves (Result Counts Fault)). read_into lim r l.tables l.marks) (short_into lim first t ms s))
      (λ full f e.
      let v = sound-valid lim first before f e in
      ap₂ (λ u us. read_into lim r u us) (file-tables lim first t ms full f e) (marks_into lim first t ms full)
      ∙ into_by (holding lim (as_read f) t) t (unmarked lim ms) ms (again full (holding lim (as_read f) t) (holding-full lim (as_read f) t v (full-tables lim t ms full))) full
      (holding-beyond lim (as_read f) t v)
      (unmarked-drop lim ms))
      (λ full e q.
      ap₂ (λ u us. read_into lim r u us) (fault-tables lim first t ms full e q) (marks_into lim first t ms full)
      ∙ into_by (cleared lim t) t (unmarked lim ms) ms (again full (cleared lim t) (cleared-full lim t (full-tables lim t ms full))) full
      (cleared-beyond lim t)
      (unmarked-drop lim ms))
    where
      again : full_marked lim t ms ≡ true → (u : Tables) → are_full lim u ≡ true → full_marked lim u (unmarked lim ms) ≡ true
      again full u h = full-both lim u (unmarked lim ms) h (unmarked-full lim ms (full-marks lim t ms full))

  -- read again, the same
  pub into_twice : (t : Tables) (ms : List ℕ) → read_into lim r (read_into lim r t ms).tables (read_into lim r t ms).marks ≡ read_into lim r t ms
  into_twice t ms = into_over r sound t ms

-- ---- the text's own reasons, in their order

-- what the text's own bytes come to: reasons that name a line, and then 9
abbrev Late : Reading → Type 0
Late (accepted f) = Unit {0}
Late (refused e) = (names_line e.reason ≡ true) ⊎ (e ≡ fault NoClause)

late_from : (e : Fault) → Late (refused e) → 4 ≤ number_of e.reason
late_from e (inl h) = late_number e.reason (inl h)
late_from e (inr h) = late_number e.reason (inr (ap (λ (x : Fault). x.reason) h))

-- the reasons by which a text is refused
abbrev Own : Reading → Type 0
Own (accepted f) = Unit {0}
Own (refused e) = (e.reason ≡ TextTooLong) ⊎ (of_text e.reason ≡ true)

late_own : (r : Reading) → Late r → Own r
late_own (accepted f) h = tt
late_own (refused e) (inl h) = inr (line-of-text e.reason h)
late_own (refused e) (inr h) = inr (ap (λ (x : Fault). of_text x.reason) h)

late_some : (r : Reading) → Late r → 0 < reason_in r → 4 ≤ reason_in r
late_some (accepted f) h l = absurd (omega arith)
late_some (refused e) h l = late_from e h

late_last : (r : Reading) → Late r → reason_in r ≡ 9 → r ≡ refused (fault NoClause)
late_last (accepted f) h q = absurd (omega arith)
late_last (refused e) (inl h) q = absurd (line-not-last e.reason h q)
late_last (refused e) (inr h) q = ap refused h

module _ (lim : Limits) (text : List ℕ) where
  abbrev read : Reading
  read = read_text lim text

  abbrev number : ℕ
  number = reason_in read

  pub long-read : lim.text < length text → read_text lim text ≡ refused (fault TextTooLong)
  unfolding read_text
  long-read l = rw (lt-ltb lim.text (length text) l) refl

  pub open_read : length text ≤ lim.text → open_end text ≡ true → read_text lim text ≡ refused (fault TextCut)
  unfolding read_text
  open_read s o = rw (le-ltb lim.text (length text) s, o) refl

  is-long : lim.text < length text → number ≡ 2
  is-long l = ap reason_in (long-read l)

  is_open_lem : length text ≤ lim.text → open_end text ≡ true → number ≡ 3
  is_open_lem s o = ap reason_in (open_read s o)

  is_late : length text ≤ lim.text → open_end text ≡ false → Late (read_text lim text)
  is_late s c =
      by-reading read (λ f e. subst Late (sym e) tt)
      (λ e r. let h = (stops-exactly lim text s c e).0 r in subst Late (sym r) (fails_late lim h.1 (scan text h.0).token e h.3))

  by_tests : {A : Type 0} → (number ≡ 2 → lim.text < length text → A) → (number ≡ 3 → length text ≤ lim.text → open_end text ≡ true → A)
      → (Late (read_text lim text) → A) → A
  by_tests long cut late =
      by-lt lim.text (length text) (λ l. long (is-long l) l)
      (λ s. by_cases (open_end text) (λ o. cut (is_open_lem s o) s o) (λ c. late (is_late s c)))

  pub text-2 : (number ≡ 2) ↔ (lim.text < length text)
  text-2 = (λ q. by_tests (λ _ l. l) (λ n. absurd (omega arith)) (λ h. absurd (omega (arith, late_some read h (omega arith)))), is-long)

  text_3 : (number ≡ 3) ↔ ((length text ≤ lim.text) × (open_end text ≡ true))
  text_3 = (λ q. by_tests (λ n. absurd (omega arith)) (λ _ s o. (s, o)) (λ h. absurd (omega (arith, late_some read h (omega arith)))), λ h. is_open_lem h.0 h.1)

  text_9 : (number ≡ 9) ↔ (read_text lim text ≡ refused (fault NoClause))
  text_9 = (λ q. by_tests (λ n. absurd (omega arith)) (λ n. absurd (omega arith)) (λ h. late_last read h q), ap reason_in)

  text_1 : number ≡ 1 → ⊥
  text_1 q = by_tests (λ n. omega arith) (λ n _. omega arith) (λ h. omega (arith, late_some read h (omega arith)))

  pub text-reason : (e : Fault) → read_text lim text ≡ refused e → (e.reason ≡ TextTooLong) ⊎ (of_text e.reason ≡ true)
  text-reason e r =
      subst Own r (by_tests (λ _ l. subst Own (sym (long-read l)) (inl refl)) (λ _ s o. subst Own (sym (open_read s o)) (inr refl)) (late_own read))

-- "text not empty and last byte not 10"
pub open_exactly : (text : List ℕ) → (open_end text ≡ true) ↔ ((0 < length text) × (get_or text (length text - 1) 0 ≡ 10 → ⊥))
open_exactly [] = (λ e. absurd (false≢true e), λ h. absurd (omega (arith, h.0)))
open_exactly (b ∷ s) =
    let text = b ∷ s in
    let last = get_d_any text 0 10 (length text - 1) (omega arith) in (
      λ e. (omega arith, λ ten. eqb-false (get_or text (length text - 1) 10) 10 (not-true _ e) (sym last ∙ ten)),
      λ h. rw (ne_eqb (get_or text (length text - 1) 10) 10 (λ ten. h.1 (last ∙ ten))) refl,
    )

-- ---- the call, of our own text

module _ (lim : Limits) (text : List ℕ) (t : Tables) (ms : List ℕ) where
  pub short-reading : full_marked lim t ms ≡ false → reading_of lim text t ms ≡ unchanged t ms (Err (fault TableTooShort))
  unfolding reading_of
  short-reading = short_into lim (read_text lim text) t ms

  pub full-reading : full_marked lim t ms ≡ true → reading_of lim text t ms ≡ read_leaves lim t ms (read_text lim text)
  unfolding reading_of
  full-reading = full_into lim (read_text lim text) t ms

  pub accepted-answer : full_marked lim t ms ≡ true → (f : File) → read_text lim text ≡ accepted f → (reading_of lim text t ms).answer ≡ Ok (counts_of (as_read f))
  unfolding reading_of
  accepted-answer = file-answer lim (read_text lim text) t ms

  pub accepted-tables : full_marked lim t ms ≡ true → (f : File) → read_text lim text ≡ accepted f → (reading_of lim text t ms).tables ≡ holding lim (as_read f) t
  unfolding reading_of
  accepted-tables = file-tables lim (read_text lim text) t ms

  pub marks-left : full_marked lim t ms ≡ true → (reading_of lim text t ms).marks ≡ unmarked lim ms
  unfolding reading_of
  marks-left = marks_into lim (read_text lim text) t ms

  pub ten-read : full_marked lim t ms ≡ true → {a : Result Counts Fault} {u : Tables} → ten a u ≡ ten_of (read_leaves lim t [] (read_text lim text))
      → leaves a u (unmarked lim ms) ≡ reading_of lim text t ms
  unfolding reading_of
  ten-read full e = ten_into lim (read_text lim text) t ms full e

  -- of full tables and a text that says a file
  pub reading-filled : full_marked lim t ms ≡ true → (f : File) → read_text lim text ≡ accepted f
      → Filled lim f t ms (counts_given lim text t ms) (reading_of lim text t ms).tables (reading_of lim text t ms).marks
  unfolding reading_of
  reading-filled = into_filled lim (read_text lim text) t ms (reading-sound lim text)

  -- accepted, it leaves the tables of the file that the text says
  pub reading-accepted : (n : Counts) → (reading_of lim text t ms).answer ≡ Ok n
      → (f : File) × (full_marked lim t ms ≡ true) × (read_text lim text ≡ accepted f) × Filled lim f t ms n (reading_of lim text t ms).tables (reading_of lim text t ms).marks
  unfolding reading_of
  reading-accepted = into_accepted lim (read_text lim text) t ms (reading-sound lim text)

  -- refused, it leaves all unchanged, by reason 1, or tables 0
  pub reading-refused : (e : Fault) → (reading_of lim text t ms).answer ≡ Err e
      → LeftAlone lim t ms e (reading_of lim text t ms).tables (reading_of lim text t ms).marks
      ⊎ Emptied lim text t ms e (reading_of lim text t ms).tables (reading_of lim text t ms).marks
  unfolding reading_of
  reading-refused e q = own (into_refused lim (read_text lim text) t ms e q)
    where
      own : {u : Tables} {us : List ℕ} → LeftAlone lim t ms e u us ⊎ ((read_text lim text ≡ refused e) × Zeroed lim t ms e u us)
          → LeftAlone lim t ms e u us ⊎ Emptied lim text t ms e u us
      own (inl h) = inl h
      own (inr (r, z)) =
          let placed = refusal-line lim text e r in
          inr (record {
            lent-full = z.lent-full;
            read = r;
            which = text-reason lim text e r;
            some-line = placed.some;
            last_line_lem = placed.most;
            no_line = placed.none;
            left = z.left;
            marks = z.marks;
            in_full-sizes = z.in_full-sizes;
            beyond = z.beyond;
            full = z.full;
            values = z.values;
            disagrees = z.disagrees;
          })

  -- every text is accepted or refused, and none is both
  pub reading-either : ((n : Counts) × ((reading_of lim text t ms).answer ≡ Ok n)) ⊎ ((e : Fault) × ((reading_of lim text t ms).answer ≡ Err e))
  unfolding reading_of
  reading-either = into_either lim (read_text lim text) t ms

  pub reading-not-both : (n : Counts) (e : Fault) → (reading_of lim text t ms).answer ≡ Ok n → (reading_of lim text t ms).answer ≡ Err e → ⊥
  unfolding reading_of
  reading-not-both = into_not-both lim (read_text lim text) t ms

  -- accepted exactly if the tables are full and the text says a file
  pub accepted-exactly : ((n : Counts) × ((reading_of lim text t ms).answer ≡ Ok n)) ↔ ((full_marked lim t ms ≡ true) × ((f : File) × (read_text lim text ≡ accepted f)))
  unfolding reading_of
  accepted-exactly = into_accepted-exactly lim (read_text lim text) t ms

  -- refused exactly if a table is short, or the tables are full and the text is at fault
  pub refused-exactly : (e : Fault)
      → ((reading_of lim text t ms).answer ≡ Err e)
      ↔ (((full_marked lim t ms ≡ false) × (e ≡ fault TableTooShort)) ⊎ ((full_marked lim t ms ≡ true) × (read_text lim text ≡ refused e)))
  unfolding reading_of
  refused-exactly = into_refused-exactly lim (read_text lim text) t ms

  -- which reason is given

  from-left : (e : Fault) → (names_line e.reason ≡ true) ⊎ (e.reason ≡ NoClause) → ((reading_of lim text t ms).answer ≡ Err e) ↔ Stopped lim text t ms e
  unfolding reading_of
  from-left e late = (
    λ q. by_cases (full_marked lim t ms)
        (λ full.
        let r = full-fault lim (read_text lim text) t ms full e q in
        let n = ap reason_in r in
        let far = late_number e.reason late in
        by-lt lim.text (length text) (λ l. absurd (omega (arith, is-long lim text l)))
        (λ s. by_cases (open_end text) (λ o. absurd (omega (arith, is_open_lem lim text s o)))
        (λ c.
        let h = (stops-exactly lim text s c e).0 r in
        record { full = full; short = s; closed = c; cursor = h.0; draft = h.1; comes = h.2; fails = h.3 })))
        (λ short. absurd (omega (arith, late_number e.reason late, ap (λ (x : Fault). number_of x.reason) (short-fault lim (read_text lim text) t ms short e q)))),
    λ h. fault-answer lim (read_text lim text) t ms h.full e ((stops-exactly lim text h.short h.closed e).1 (h.cursor, h.draft, h.comes, h.fails)),
  )

  pub reading-given : Given lim text t ms
  unfolding reading_of
  reading-given =
      let r = read_text lim text in
      record {
        reason_1 = where_short lim r t ms (text_1 lim text);
        reason-2 = where_full lim r t ms 2 (λ e. omega arith) (text-2 lim text);
        reason_3 = where_full lim r t ms 3 (λ e. omega arith) (text_3 lim text);
        from-left = from-left;
        reason_9 = where_full lim r t ms 9 (λ e. omega arith) (text_9 lim text);
        no_other = λ e q. by_cases (full_marked lim t ms) (λ full. inr (text-reason lim text e (full-fault lim r t ms full e q)))
            (λ short. inl (ap (λ (x : Fault). x.reason) (short-fault lim r t ms short e q)));
        no_reason = where_none lim r t ms;
      }

  -- the tables left agree with the counts given exactly where no reason is given
  pub reading-agrees : (reason_given lim text t ms ≡ 0) ↔ (agree_marked lim (counts_given lim text t ms) (reading_of lim text t ms).tables (reading_of lim text t ms).marks ≡ true)
  unfolding reading_of
  reading-agrees = into_agrees lim (read_text lim text) t ms (reading-sound lim text)

-- full tables that are the same past their full sizes are read into alike
pub reading-by : (lim : Limits) (text : List ℕ) (t u : Tables) (ms ns : List ℕ) → full_marked lim t ms ≡ true → full_marked lim u ns ≡ true
    → each drop (full_sizes lim) t ≡ each drop (full_sizes lim) u → drop lim.terms ms ≡ drop lim.terms ns → reading_of lim text t ms ≡ reading_of lim text u ns
unfolding reading_of
reading-by lim text = into_by lim (read_text lim text) (reading-sound lim text)

-- a reading into tables that another has left is as one into the tables before it
pub reading-over : (lim : Limits) (first second : List ℕ) (t : Tables) (ms : List ℕ)
    → reading_of lim second (reading_of lim first t ms).tables (reading_of lim first t ms).marks ≡ reading_of lim second t ms
unfolding reading_of
reading-over lim first second = into_over lim (read_text lim second) (reading-sound lim second) (read_text lim first) (reading-sound lim first)

-- read again, the same: what stood before makes no difference
pub read_twice : (lim : Limits) (text : List ℕ) (t : Tables) (ms : List ℕ)
    → reading_of lim text (reading_of lim text t ms).tables (reading_of lim text t ms).marks ≡ reading_of lim text t ms
read_twice lim text t ms = reading-over lim text text t ms
