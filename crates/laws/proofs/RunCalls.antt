-- The program's run: what it prints and leaves, refused, found and given up; a found answer covers each clause kept.
-- Such an answer names every term once, and is read back as literals. Assumes nothing.
use Prim.Native.Nat.{ℕ, suc, ◌+◌, ◌*◌, ◌^◌, ◌≤◌, ◌<◌}
use mathlib.Core.Logic.{◌↔◌, ◌⊎◌, inl, inr}
use mathlib.Core.Path.{◌≡◌, refl, ap, sym, subst, ◌∙◌}
use mathlib.Core.Bool.{Bool, true, false, false≢true, true≢false}
use mathlib.Core.List.{List, [], ◌∷◌, ◌++◌, map, append_assoc}
use native.Mathlib.Omega.{arith}
use lib.ListN.{length, get_or, take, drop}
use borrow.Author.Tests.{eqb-false}
use Rattle.std.specs.Prelude.{Result}
use Rattle.scan.specs.declared.Token.TheVariants.{Line}
use Rattle.scan.specs.Scan.{cursor_at}
use Rattle.scan.specs.Text.{bytes}
use Rattle.written.specs.declared.Refusal.{Refusal}
use Rattle.written.specs.declared.Form.TheVariants.{Own}
use Rattle.written.specs.declared.Order.{Order}
use Rattle.written.specs.declared.Sheet.{Sheet}
use Rattle.written.specs.declared.Fault.{Fault}
use Rattle.written.specs.declared.RunAnswer.{RunAnswer}
use Rattle.written.specs.declared.Walked.{Walked}
use Rattle.written.specs.Lists.{list_of, has}
use Rattle.written.specs.Limits.{Limits}
use Rattle.written.specs.Clauses.{File, term_of}
use Rattle.written.specs.Flips.{true_literal}
use Rattle.written.specs.Reading.{accepted, read_text}
use Rattle.written.specs.Walk.{Outcome, is_found, walk_over}
use Rattle.written.specs.Tables.{Tables, each, full_sizes, are_full, over, holding, counts_of}
use Rattle.written.specs.Printed.{decimal, line, answer, chosen, refusal, report}
use Rattle.written.specs.Marks.{marks_full, full_marked, unmarked}
use Rattle.written.specs.Outcomes.{Leaves, walk_leaves, walk_of, reading_of}
use Rattle.written.specs.Program.{Course, unbegun, unread, walked, course_of, said_as, said, printed_as, printed, report_size, tables_after, marks_after, Ran, reported, run_refused, ran_as, ran, run_of}
use Rattle.laws.specs.Valid.{is_clause, Valid}
use Rattle.laws.specs.Calls.{Stands}
use Rattle.laws.specs.ReadCalls.{counts_given}
use Rattle.laws.specs.RunCalls.{Told, Begins, Begun, text_after, Refuses, Refused, Walks, names_at, clauses_at, values_at, tokens, literals, names_in, read_back, before_answer, answer_tokens, answer_literals, FoundAnswer, GaveUpAnswer}
use Rattle.laws.specs.RunCalls.Refuses.{too_long, bad-sheet, bad-text}
use Rattle.laws.proofs.Basics.{by_cases, by-lt}
use Rattle.laws.proofs.Lists.{over-length}
use Rattle.laws.proofs.All.{all_get_d}
use Rattle.laws.proofs.Padding.{over-take, over-drop, over_by}
use Rattle.laws.proofs.Literals.{some-true}
use Rattle.laws.proofs.Counted.{none-listed, some-listed}
use Rattle.laws.proofs.Sizes.{clause-below}
use Rattle.laws.proofs.Marks.{unmarked-full, unmarked-drop, unmarked-by, unmarked-marked, full-tables, full-marks, full-both}
use Rattle.laws.proofs.Holding.{holding-full, cleared-full, holding-beyond, cleared-beyond, holding-by, cleared_by, holding-again, cleared-again}
use Rattle.laws.proofs.Readings.{reading-proper}
use Rattle.laws.proofs.Reasons.{text-not-sheet}
use Rattle.laws.proofs.Faults.{refusal-line}
use Rattle.laws.proofs.Walks.{found-covers, gave_up_misses, gave_up-walks}
use Rattle.laws.proofs.Pins.{gave_up-flips}
use Rattle.laws.proofs.Endings.{end-file}
use Rattle.laws.proofs.Picks.{has-below}
use Rattle.laws.proofs.Valids.{end-valid}
use Rattle.laws.proofs.Sheets.{Judged, ranged, sheet-judged}
use Rattle.laws.proofs.Reports.{printed-fits}
use Rattle.laws.proofs.Reread.{answer-reads}
use Rattle.laws.proofs.Stands.{stands_in_lem}
use Rattle.laws.proofs.WalkCalls.{walk-read}
use Rattle.laws.proofs.Covers.{told_names, told_back, true-terms, true-hold, hold-true, ones-count}
use Rattle.laws.proofs.Forms.{form-short, form-ran}
use Rattle.laws.proofs.Courses.{long-course, sheet-course, text-course, walk-course, by-course, sheet-reasons, text-reasons, prints-refuses, printed-some, run_decides}

-- ---- with a table or the buffer shorter than its full size, and with neither

module _ (lim : Limits) (input : List ℕ) (t : Tables) (ms b : List ℕ) where
  -- nothing is printed, and all is as it was
  pub run_short : (full_marked lim t ms ≡ false) ⊎ (length b < report_size lim) → run_of lim input t ms b ≡ record { answer = run_refused; tables = t; marks = ms; buffer = b }
  run_short = form-short Own lim input t ms b

  pub run_ran : full_marked lim t ms ≡ true → report_size lim ≤ length b → run_of lim input t ms b ≡ ran lim t ms b (course_of lim input)
  run_ran = form-ran Own lim input t ms b

  by-room : {A : Type 0} → (full_marked lim t ms ≡ true → report_size lim ≤ length b → A) → ((full_marked lim t ms ≡ false) ⊎ (length b < report_size lim) → A) → A
  by-room told short = by_cases (full_marked lim t ms) (λ full. by-lt (length b) (report_size lim) (λ l. short (inr l)) (told full)) (λ h. short (inl h))

  abbrev answered : RunAnswer
  answered = (run_of lim input t ms b).answer

  -- a run that was not begun writes nothing, and every other writes something
  pub nothing-exactly : (answered.length ≡ 0) ↔ ((full_marked lim t ms ≡ false) ⊎ (length b < report_size lim))
  unfolding ran_as printed_as
  nothing-exactly = (
    λ q. by-room
        (λ full room. absurd (omega (arith, printed-some lim input, ap (λ (r : Ran). r.answer.length) (run_ran full room), q)))
        (λ h. h),
    λ h. ap (λ (r : Ran). r.answer.length) (run_short h),
  )

  -- it is refused by 1, and no other reason is given
  pub reason-exactly : (answered.reason ≡ 1) ↔ ((full_marked lim t ms ≡ false) ⊎ (length b < report_size lim))
  unfolding ran_as
  reason-exactly = (
    λ q. by-room (λ full room. absurd (omega (arith, ap (λ (r : Ran). r.answer.reason) (run_ran full room), q))) (λ h. h),
    λ h. ap (λ (r : Ran). r.answer.reason) (run_short h),
  )

  -- 1 with a report, 0 with the reason 1
  pub run-answers : ((answered.result ≡ 1) × (answered.reason ≡ 0)) ⊎ ((answered.result ≡ 0) × (answered.reason ≡ 1))
  unfolding ran_as
  run-answers =
      by-room
      (λ full room. let e = run_ran full room in inl (ap (λ (r : Ran). r.answer.result) e, ap (λ (r : Ran). r.answer.reason) e))
      (λ h. let e = run_short h in inr (ap (λ (r : Ran). r.answer.result) e, ap (λ (r : Ran). r.answer.reason) e))

-- ---- how walks came to their end

-- the outcome of a course, and e where it has none
abbrev pub outcome_or : Outcome → Course → Outcome
outcome_or e (unbegun d) = e
outcome_or e (unread d) = e
outcome_or e (walked r) = r

abbrev pub is_walked : Course → Bool
is_walked (unbegun d) = false
is_walked (unread d) = false
is_walked (walked r) = true

module _ (lim : Limits) (input : List ℕ) where
  walks-made : (s : Sheet) (f : File) → Begun lim input s → read_text lim (text_after s input) ≡ accepted f → Walks lim input (walk_over s.order [] f)
  walks-made s f b q =
      record {
        sheet = s;
        begun = b;
        range = (subst (Judged (length input)) b.sheet (sheet-judged input)).0;
        read = q ∙ ap accepted (sym (end-file s.order [] f));
        made = ap (walk_over s.order []) (sym (end-file s.order [] f));
        valid = end-valid lim s.order [] f (reading-proper lim (text_after s input) f q);
      }

  -- walks come to an end exactly if they are those that the sheet orders over the file that the text says
  pub run-walks : (e : Outcome) → (course_of lim input ≡ walked e) ↔ Walks lim input e
  run-walks e = (
    by-course lim input (λ c. c ≡ walked e → Walks lim input e) (λ l q. absurd (false≢true (ap is_walked q))) (λ d h s q. absurd (false≢true (ap is_walked q)))
        (λ s d b r q. absurd (false≢true (ap is_walked q))) (λ s f b r q. subst (Walks lim input) (ap (outcome_or e) q) (walks-made s f b r)),
    λ w. walk-course lim input w.sheet e.last.state.file w.begun w.read ∙ ap walked (sym w.made),
  )

-- ---- what a run leaves

module _ (lim : Limits) (input : List ℕ) where
  abbrev course : Course
  course = course_of lim input

  -- the tables by the course
  abbrev leaves : Tables → Tables
  leaves t = tables_after lim t course

  ends-valid : (s : Sheet) (f : File) → Begun lim input s → read_text lim (text_after s input) ≡ accepted f → Valid lim (walk_over s.order [] f).last.state
  ends-valid s f b q = (walks-made lim input s f b q).valid

  leaves-full : (t : Tables) → are_full lim t ≡ true → are_full lim (leaves t) ≡ true
  unfolding tables_after
  leaves-full t full =
      by-course lim input (λ c. are_full lim (tables_after lim t c) ≡ true) (λ l. cleared-full lim t full) (λ e h q. full)
      (λ s e b q. cleared-full lim t full) (λ s f b q. holding-full lim _ t (ends-valid s f b q) full)

  leaves-beyond : (t : Tables) → each drop (full_sizes lim) (leaves t) ≡ each drop (full_sizes lim) t
  unfolding tables_after
  leaves-beyond t =
      by-course lim input (λ c. each drop (full_sizes lim) (tables_after lim t c) ≡ each drop (full_sizes lim) t) (λ l. cleared-beyond lim t) (λ e h q. refl)
      (λ s e b q. cleared-beyond lim t) (λ s f b q. holding-beyond lim _ t (ends-valid s f b q))

  leaves-again : (t : Tables) → leaves (leaves t) ≡ leaves t
  unfolding tables_after
  leaves-again t =
      by-course lim input (λ c. tables_after lim (tables_after lim t c) c ≡ tables_after lim t c) (λ l. cleared-again lim t) (λ e h q. refl)
      (λ s e b q. cleared-again lim t) (λ s f b q. holding-again lim _ _ t (ends-valid s f b q) (ends-valid s f b q))

  -- once the sheet is accepted, only what lies past the full sizes shows
  leaves_by : (t u : Tables) → each drop (full_sizes lim) t ≡ each drop (full_sizes lim) u → ((a : Result Sheet Fault) → course ≡ unbegun a → ⊥) → leaves t ≡ leaves u
  unfolding tables_after
  leaves_by t u same =
      by-course lim input (λ c. ((a : Result Sheet Fault) → c ≡ unbegun a → ⊥) → tables_after lim t c ≡ tables_after lim u c) (λ l n. cleared_by lim t u same)
      (λ e h q n. absurd (n _ refl)) (λ s e b q n. cleared_by lim t u same) (λ s f b q n. holding-by lim _ t u (ends-valid s f b q) same)

  -- the marks by the course
  abbrev marks : List ℕ → List ℕ
  marks ms = marks_after lim ms course

  marks-full : (ms : List ℕ) → marks_full lim ms ≡ true → marks_full lim (marks ms) ≡ true
  unfolding marks_after
  marks-full ms full =
      by-course lim input (λ c. marks_full lim (marks_after lim ms c) ≡ true) (λ l. unmarked-full lim ms full) (λ e h q. full) (λ s e b q. unmarked-full lim ms full)
      (λ s f b q. unmarked-full lim ms full)

  marks-beyond : (ms : List ℕ) → drop lim.terms (marks ms) ≡ drop lim.terms ms
  unfolding marks_after
  marks-beyond ms =
      by-course lim input (λ c. drop lim.terms (marks_after lim ms c) ≡ drop lim.terms ms) (λ l. unmarked-drop lim ms) (λ e h q. refl)
      (λ s e b q. unmarked-drop lim ms) (λ s f b q. unmarked-drop lim ms)

  marks-again : (ms : List ℕ) → marks (marks ms) ≡ marks ms
  unfolding marks_after
  marks-again ms =
      let again = unmarked-by lim (unmarked lim ms) ms (unmarked-drop lim ms) in
      by-course lim input (λ c. marks_after lim (marks_after lim ms c) c ≡ marks_after lim ms c) (λ l. again) (λ e h q. refl) (λ s e b q. again) (λ s f b q. again)

  -- once the sheet is accepted, only what lies past the full size shows
  marks-by : (ms ns : List ℕ) → drop lim.terms ms ≡ drop lim.terms ns → ((a : Result Sheet Fault) → course ≡ unbegun a → ⊥) → marks ms ≡ marks ns
  unfolding marks_after
  marks-by ms ns same =
      let by = unmarked-by lim ms ns same in
      by-course lim input (λ c. ((a : Result Sheet Fault) → c ≡ unbegun a → ⊥) → marks_after lim ms c ≡ marks_after lim ns c) (λ l n. by) (λ e h q n. absurd (n _ refl))
      (λ s e b q n. by) (λ s f b q n. by)

  ran-twice : (t : Tables) (ms b : List ℕ) → ran lim (ran lim t ms b course).tables (ran lim t ms b course).marks (ran lim t ms b course).buffer course
      ≡ ran lim t ms b course
  unfolding ran_as
  ran-twice t ms b =
      λ i. record {
        answer = reported (length (said course));
        tables = leaves-again t i;
        marks = marks-again ms i;
        buffer = over_by (said course) (over (said course) b) b (length (said course)) refl (over-drop (said course) b (length (said course)) refl) i;
      }

module _ (lim : Limits) (few : lim.terms < 10 ^ 9) (short : lim.text + 1 < 10 ^ 20) (input : List ℕ) where
  -- no run prints more than its buffer holds
  pub run_fits : (t : Tables) (ms b : List ℕ) → (run_of lim input t ms b).answer.length ≤ length b
  unfolding ran_as printed_as
  run_fits t ms b =
      by-room lim input t ms b (λ full room. rw (run_ran lim input t ms b full room) (omega (arith, printed-fits lim few short input)))
      (λ h. rw (run_short lim input t ms b h) (omega arith))

  told : (t : Tables) (ms b : List ℕ) → full_marked lim t ms ≡ true → report_size lim ≤ length b → Told lim input t ms b (ran lim t ms b (course_of lim input))
  unfolding ran_as printed_as
  told t ms b full room =
      let text : List ℕ = said (course_of lim input) in
      record {
        answer = refl;
        first = over-take text b (length text) refl;
        rest = over-drop text b (length text) refl;
        as_long = over-length text b (omega (arith, printed-fits lim few short input));
        tables = refl;
        marks = refl;
        full = full-both lim _ _ (leaves-full lim input t (full-tables lim t ms full)) (marks-full lim input ms (full-marks lim t ms full));
        beyond = leaves-beyond lim input t;
        marks-beyond = marks-beyond lim input ms;
      }

  pub run-told : (t : Tables) (ms b : List ℕ) → full_marked lim t ms ≡ true → report_size lim ≤ length b → Told lim input t ms b (run_of lim input t ms b)
  run-told t ms b full room = rw (run_ran lim input t ms b full room) (told t ms b full room)

  -- what stood in the tables, the marks and the buffer makes no difference to what is printed
  module _ (t u : Tables) (ms ns b c : List ℕ) (ft : full_marked lim t ms ≡ true) (fu : full_marked lim u ns ≡ true)
      (rb : report_size lim ≤ length b) (rc : report_size lim ≤ length c) where
    pub same_print : take (run_of lim input t ms b).answer.length (run_of lim input t ms b).buffer
        ≡ take (run_of lim input u ns c).answer.length (run_of lim input u ns c).buffer
    same_print = (run-told t ms b ft rb).first ∙ sym (run-told u ns c fu rc).first

    -- nor, once the sheet is accepted, to what is left up to the full sizes
    pub same_tables : each drop (full_sizes lim) t ≡ each drop (full_sizes lim) u → ((a : Result Sheet Fault) → course_of lim input ≡ unbegun a → ⊥)
        → (run_of lim input t ms b).tables ≡ (run_of lim input u ns c).tables
    same_tables same begun = (run-told t ms b ft rb).tables ∙ leaves_by lim input t u same begun ∙ sym (run-told u ns c fu rc).tables

    pub same-marks : drop lim.terms ms ≡ drop lim.terms ns → ((a : Result Sheet Fault) → course_of lim input ≡ unbegun a → ⊥)
        → (run_of lim input t ms b).marks ≡ (run_of lim input u ns c).marks
    same-marks same begun = (run-told t ms b ft rb).marks ∙ marks-by lim input ms ns same begun ∙ sym (run-told u ns c fu rc).marks

  -- run again, the same: what stood before makes no difference
  pub run-twice : (t : Tables) (ms b : List ℕ)
      → run_of lim input (run_of lim input t ms b).tables (run_of lim input t ms b).marks (run_of lim input t ms b).buffer ≡ run_of lim input t ms b
  run-twice t ms b =
      by-room lim input t ms b
      (λ full room.
      let e = run_ran lim input t ms b full room in
      let r = run-told t ms b full room in
      run_ran lim input (run_of lim input t ms b).tables (run_of lim input t ms b).marks (run_of lim input t ms b).buffer r.full (omega (arith, r.as_long))
      ∙ ap (λ (x : Ran). ran lim x.tables x.marks x.buffer (course_of lim input)) e ∙ ran-twice lim input t ms b ∙ sym e)
      (λ h. ap (λ (x : Ran). run_of lim input x.tables x.marks x.buffer) (run_short lim input t ms b h))

-- ---- refused

module _ (lim : Limits) (input : List ℕ) (t : Tables) where
  refused : (e : Fault) → Refuses lim input e → Refused lim input t e (tables_after lim t (course_of lim input))
  unfolding tables_after
  refused _ (too_long l) =
      record {
        refuses = too_long l;
        text-line = λ h. absurd (false≢true h);
        sheet-line = λ h. absurd (false≢true h);
        no_line = λ h k. refl;
        emptied = λ h. ap (tables_after lim t) (long-course lim input l);
        unchanged = λ h. absurd (false≢true h);
      }
  refused e (bad-sheet _ h q) =
      let r = sheet-reasons input e q in
      let lined = subst (Judged (length input)) q (sheet-judged input) in
      record {
        refuses = bad-sheet e h q;
        text-line = λ k. lined.0;
        sheet-line = λ k. (lined.0, lined.1);
        no_line = λ k m. absurd (true≢false (sym r ∙ m));
        emptied = λ k. absurd (true≢false (sym r ∙ k));
        unchanged = λ k. ap (tables_after lim t) (sheet-course lim input e h q);
      }
  refused e (bad-text s _ b q) =
      let other = text-not-sheet e.reason (text-reasons lim input s e b q) in
      let lined = refusal-line lim (text_after s input) e q in
      record {
        refuses = bad-text s e b q;
        text-line = lined.some;
        sheet-line = λ k. absurd (false≢true (sym other ∙ k));
        no_line = λ k m. lined.none k;
        emptied = λ k. ap (tables_after lim t) (text-course lim input s e b q);
        unchanged = λ k. absurd (false≢true (sym other ∙ k));
      }

  pub run-refused : (ms b : List ℕ) (e : Fault) → full_marked lim t ms ≡ true → report_size lim ≤ length b → printed lim input ≡ refusal e
      → Refused lim input t e (run_of lim input t ms b).tables
  unfolding ran_as
  run-refused ms b e full room p = rw (run_ran lim input t ms b full room) (refused e (prints-refuses lim input e p))

-- ---- walked

-- the lines of a report
report-found : (e : Outcome) → e.found ≡ true → report e ≡ before_answer e ++ (answer (names_at e) (values_at e) ++ 10 ∷ [])
unfolding report before_answer
report-found e q =
    let lines : List ℕ = line "result=" (bytes "found") ++ line "walks=" (decimal e.walks) ++ line "flips=" (decimal e.last.flips) ++ line "chosen=" (decimal (chosen e.last.state)) in
    rw q (sym (append_assoc lines (bytes "answer=") (answer (names_at e) (values_at e) ++ 10 ∷ [])))

report-up : (e : Outcome) (w f : ℕ) → e.found ≡ false → e.walks ≡ w → e.last.flips ≡ f
    → report e ≡ line "result=" (bytes "gaveup") ++ line "walks=" (decimal w) ++ line "flips=" (decimal f) ++ bytes "chosen=0\nanswer=~?\n"
unfolding report
report-up e w f q hw hf =
    let lines : List ℕ = line "result=" (bytes "gaveup") ++ line "walks=" (decimal w) ++ line "flips=" (decimal f) in
    rw (q, hw, hf) (append_assoc lines (bytes "chosen=0\n") (bytes "answer=~?\n"))

module _ (lim : Limits) (input : List ℕ) (e : Outcome) (w : Walks lim input e) where
  abbrev order : Order
  order = w.sheet.order

  abbrev file : File
  file = e.last.state.file

  valid : Valid lim e.last.state
  valid = w.valid

  prints-report : printed lim input ≡ report e
  unfolding printed_as said_as
  prints-report = ap said ((run-walks lim input e).1 w)

  module _ (t : Tables) (ms b : List ℕ) (full : full_marked lim t ms ≡ true) (room : report_size lim ≤ length b) where
    left : (run_of lim input t ms b).tables ≡ holding lim e.last.state t
    unfolding ran_as tables_after
    left = ap (λ (r : Ran). r.tables) (run_ran lim input t ms b full room) ∙ ap (tables_after lim t) ((run-walks lim input e).1 w)

    marks-left : (run_of lim input t ms b).marks ≡ unmarked lim ms
    unfolding ran_as marks_after
    marks-left = ap (λ (r : Ran). r.marks) (run_ran lim input t ms b full room) ∙ ap (marks_after lim ms) ((run-walks lim input e).1 w)

    -- the tables hold the walks' end, and no term is marked
    pub run-stands : Stands lim e.last.state t (counts_of e.last.state) (run_of lim input t ms b).tables (run_of lim input t ms b).marks
    run-stands =
        let few : length (values_at e) ≤ lim.terms = omega (arith, valid.one_each, valid.proper.few-terms) in
        rw (left, marks-left) (stands_in_lem lim e.last.state t (unmarked lim ms) valid (unmarked-marked lim ms e.last.state few (full-marks lim t ms full)) (full-tables lim t ms full))

    -- and are those that the library's calls leave, a reading and then a walk
    pub run_calls : (run_of lim input t ms b).tables
        ≡ (walk_of lim w.sheet.order (counts_given lim (text_after w.sheet input) t ms) (reading_of lim (text_after w.sheet input) t ms).tables
        (reading_of lim (text_after w.sheet input) t ms).marks).tables
    unfolding walk_leaves
    run_calls =
        left ∙ ap (λ (r : Outcome). holding lim r.last.state t) w.made
        ∙ sym (ap (λ (l : Leaves (Result Walked Refusal)). l.tables) (walk-read lim (text_after w.sheet input) file order t ms w.read full w.range))

  -- found

  module _ (found : e.found ≡ true) where
    none_left : e.last.state.uncovered ≡ []
    none_left =
        ap (λ (r : Outcome). r.last.state.uncovered) w.made ∙ found-covers order [] file (sym (ap (λ (r : Outcome). r.found) w.made) ∙ found)

    reads : answer_tokens lim input e ≡ literals 5 (names_at e) (values_at e) ++ Line 5 ∷ []
    reads =
        ap (λ (text : List ℕ). tokens (suc (length (names_at e))) text (cursor_at (length (before_answer e)) 5)) (prints-report ∙ report-found e found)
        ∙ answer-reads 5 (before_answer e) [] (names_at e) (values_at e) valid.proper.names-valid valid.one_each

    back : answer_literals lim input e ≡ list_of (length (names_at e)) (true_literal (values_at e))
    back = ap (read_back (names_at e)) reads ∙ told_back 5 (names_at e) (values_at e) valid.proper.names-differ valid.one_each

    -- a clause has a true literal, and this stands in the answer
    covers : (c : ℕ) → c < length (clauses_at e) → (l : ℕ) × (has l (get_or (clauses_at e) c []) ≡ true) × (has l (answer_literals lim input e) ≡ true)
    covers c h =
        let n = length (names_at e) in
        let clause = get_or (clauses_at e) c [] in
        let some = some-true (values_at e) clause (none-listed e.last.state valid.listed none_left c h) in
        let ok = all_get_d (is_clause n) (clauses_at e) c [] h valid.proper.clauses-valid in
        let known = has-below (2 * n) some.0 clause some.1 (clause-below n clause ok) in
        (some.0, some.1, ap (has some.0) back ∙ hold-true (values_at e) valid.bits n some.0 known some.2)

    found-answer : FoundAnswer lim input e
    unfolding counts_of chosen
    found-answer =
        let told = ap names_in reads ∙ told_names 5 (names_at e) (values_at e) valid.one_each in
        record {
          walks = w;
          prints = prints-report ∙ report-found e found;
          reads = reads;
          names = told;
          names-differ = valid.proper.names-differ;
          names-count = ap length told;
          terms = ap (map term_of) back ∙ true-terms (values_at e) 0 (length (names_at e));
          hold = λ l h. true-hold (values_at e) valid.bits (length (names_at e)) l (sym (ap (has l) back) ∙ h);
          covers = covers;
          ones = ones-count (values_at e) valid.bits;
        }

  -- given up

  module _ (up : e.found ≡ false) where
    gave_up : (walk_over order [] file).found ≡ false
    gave_up = sym (ap (λ (r : Outcome). r.found) w.made) ∙ up

    some_left : 0 < length e.last.state.uncovered
    unfolding is_found
    some_left =
        let none = gave_up_misses order [] file (omega (arith, (ranged order w.range).walks-pos)) gave_up in
        let not_None = eqb-false (length e.last.state.uncovered) 0 (ap (λ (r : Outcome). is_found r.last.state) w.made ∙ none) in
        omega arith

    up-answer : GaveUpAnswer lim input e
    up-answer =
        let all-walks = ap (λ (r : Outcome). r.walks) w.made ∙ gave_up-walks order [] file gave_up in
        let all-flips = ap (λ (r : Outcome). r.last.flips) w.made ∙ gave_up-flips lim order [] file valid.proper (λ _ _. refl) gave_up in
        record {
          walks = w;
          prints = prints-report ∙ report-up e order.walks (order.walks * order.flips) up all-walks all-flips;
          missed = some-listed e.last.state valid.listed some_left;
        }

module _ (lim : Limits) (input : List ℕ) where
  -- a found answer names every term once and, read back as literals, covers each clause kept
  pub run-found : (e : Outcome) → course_of lim input ≡ walked e → e.found ≡ true → FoundAnswer lim input e
  run-found e c found = found-answer lim input e ((run-walks lim input e).0 c) found

  -- "Giving up is reported only when the written walk gives up."
  pub run_gave_up : (e : Outcome) → course_of lim input ≡ walked e → e.found ≡ false → GaveUpAnswer lim input e
  run_gave_up e c up = up-answer lim input e ((run-walks lim input e).0 c) up

  -- "The result line decides."
  pub says-found : Begins "result=found\n" (printed lim input) → (e : Outcome) × FoundAnswer lim input e
  says-found p = let f = (run_decides lim input).found.0 p in (f.0, run-found f.0 f.1 f.2)

  pub says_gave_up : Begins "result=gaveup\n" (printed lim input) → (e : Outcome) × GaveUpAnswer lim input e
  says_gave_up p = let f = (run_decides lim input).gave_up.0 p in (f.0, run_gave_up f.0 f.1 f.2)
