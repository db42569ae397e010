-- `s SATISFIABLE` is printed only where the written walk has found, and the `v` lines then name every variable once with its value. Assumes nothing.
use Prim.Native.Nat.{ℕ, suc, ◌^◌, ◌≤◌, ◌<◌}
use mathlib.Core.Logic.{◌↔◌, ◌⊎◌, inl, inr}
use mathlib.Core.Path.{◌≡◌, refl, ap, ap₂, sym, subst, ◌∙◌}
use mathlib.Core.Bool.{Bool, true, false, ◌||◌, false≢true, true≢false}
use mathlib.Core.List.{List, [], ◌∷◌, ◌++◌}
use native.Mathlib.Omega.{arith}
use lib.ListN.{length, get_or}
use lib.Dec.{eqb, leb}
use borrow.Author.Tests.{ne_eqb, eqb-false, leb-true}
use Rattle.std.specs.Prelude.{Result, Some}
use Rattle.words.specs.Words.{bit_at}
use Rattle.scan.specs.Text.{bytes}
use Rattle.written.specs.declared.Form.TheVariants.{Numbered}
use Rattle.written.specs.declared.Fault.{Fault}
use Rattle.written.specs.declared.Header.{Header}
use Rattle.written.specs.declared.Numeral.TheVariants.{Number}
use Rattle.written.specs.declared.Order.{Order}
use Rattle.written.specs.declared.Sheet.{Sheet}
use Rattle.written.specs.Lists.{all, has, list_of}
use Rattle.written.specs.Limits.{Limits}
use Rattle.written.specs.Clauses.{File, State}
use Rattle.written.specs.Reading.{accepted}
use Rattle.written.specs.Numerals.{header_at, is_signed, numeral_of}
use Rattle.written.specs.Numbered.{read_numbered, names_to}
use Rattle.written.specs.Walk.{Outcome, is_found, walk_over}
use Rattle.written.specs.Sheet.{is_digit}
use Rattle.written.specs.Tables.{Tables, counts_of, holding}
use Rattle.written.specs.Marks.{full_marked}
use Rattle.written.specs.Agreement.{state_in}
use Rattle.written.specs.Printed.{decimal}
use Rattle.written.specs.Competition.{signed_number, value_lines, tour_told, satisfiable, unknown, competed, competed_not}
use Rattle.written.specs.Program.{Course, unbegun, unread, walked, course_as, said_as, printed_as, competing, report_size, tables_after, Ran, ran_as, run_as}
use Rattle.laws.specs.RunCalls.{Begun, text_after, clauses_at, values_at}
use Rattle.laws.specs.NumberedCalls.{head_at}
use Rattle.laws.specs.Competing.{Prints, WalksNumbered, FoundValues, GaveUpNumbered}
use Rattle.laws.proofs.Basics.{by_cases, both_first, both-second}
use Rattle.laws.proofs.Lists.{list_from-length}
use Rattle.laws.proofs.All.{all_get_d}
use Rattle.laws.proofs.Membership.{has_append}
use Rattle.laws.proofs.Decimals.{decimal-some, decimal-digits, decimal-value, decimal-number}
use Rattle.laws.proofs.Literals.{some-true}
use Rattle.laws.proofs.Counted.{none-listed, some-listed}
use Rattle.laws.proofs.Back.{holding-back}
use Rattle.laws.proofs.Drafts.{Sound}
use Rattle.laws.proofs.Walks.{found-covers, gave_up_misses, gave_up-walks}
use Rattle.laws.proofs.Pins.{gave_up-flips}
use Rattle.laws.proofs.Endings.{end-file}
use Rattle.laws.proofs.Valids.{end-valid}
use Rattle.laws.proofs.Sheets.{Judged, ranged, sheet-judged}
use Rattle.laws.proofs.NumberedReadings.{numbered-sound, every_variable}
use Rattle.laws.proofs.Forms.{walk_as, by_form, form-ran}
use Rattle.laws.proofs.Competition.{each-once}
use Rattle.laws.proofs.Courses.{by_result}
use Rattle.laws.proofs.RunCalls.{outcome_or, is_walked}

-- ---- a printed number, read again

digit_high : (d : ℕ) → is_digit d ≡ true → 48 ≤ d
digit_high d h = leb-true 48 d (both_first (leb 48 d) (leb d 57) h)

no_minus : (k : ℕ) → eqb (get_or (decimal k) 0 0) 45 ≡ false
no_minus k =
    let first = digit_high (get_or (decimal k) 0 0) (all_get_d is_digit (decimal k) 0 0 (decimal-some k) (decimal-digits k)) in
    ne_eqb (get_or (decimal k) 0 0) 45 (λ e. omega arith)

-- it is the number of its variable, negated exactly where the value is 0
pub number-reads : (v k n : ℕ) → 0 < k → k < 10 ^ 10 → numeral_of (signed_number v k) n ≡ Number (record { negated = eqb v 0; number = k; line = n })
unfolding numeral_of is_signed signed_number
number-reads v k n some few =
    by_cases (eqb v 0)
    (λ q. rw (q, decimal-number k few, decimal-value k, ne_eqb k 0 (λ e. omega arith)) refl)
    (λ q. rw (q, no_minus k, decimal-number k few, decimal-value k) refl)

-- ---- byte 83, an S, is printed only by `s SATISFIABLE`

digits-plain : (ds : List ℕ) → all is_digit ds ≡ true → has 83 ds ≡ false
digits-plain [] h = refl
digits-plain (d ∷ ds) h =
    let low = leb-true d 57 (both-second (leb 48 d) (leb d 57) (both_first (is_digit d) (all is_digit ds) h)) in
    rw (ne_eqb 83 d (λ e. omega arith), digits-plain ds (both-second (is_digit d) (all is_digit ds) h)) refl

number-plain : (n : ℕ) → has 83 (decimal n) ≡ false
number-plain n = digits-plain (decimal n) (decimal-digits n)

tour-plain : (w f : ℕ) → has 83 (tour_told w f) ≡ false
tour-plain w f = simp (has_append, number-plain w, number-plain f)

up-plain : (e : Outcome) → e.found ≡ false → has 83 (competed e) ≡ false
unfolding competed
up-plain e q = rw q (has_append 83 (tour_told e.walks e.last.flips) unknown ∙ ap (λ (b : Bool). b || false) (tour-plain e.walks e.last.flips))

refused-plain : (reason at : ℕ) → has 83 (competed_not reason at) ≡ false
unfolding competed_not
refused-plain reason at = simp (has_append, number-plain reason, number-plain at)

prints_capital : (text : List ℕ) → Prints "s SATISFIABLE\n" text → has 83 text ≡ true
prints_capital text p =
    ap (has 83) p.2 ∙ has_append 83 p.0 (bytes "s SATISFIABLE\n" ++ p.1) ∙ by_cases (has 83 p.0) (λ q. rw q refl) (λ q. rw q refl)

-- ---- how walks came to their end

module _ (lim : Limits) (small : lim.terms < 10 ^ 8) (input : List ℕ) where
  walks-made : (s : Sheet) (f : File) → Begun lim input s → read_numbered lim (text_after s input) ≡ accepted f → WalksNumbered lim input (walk_over s.order [] f)
  walks-made s f b q =
      record {
        sheet = s;
        begun = b;
        range = (subst (Judged (length input)) b.sheet (sheet-judged input)).0;
        read = q ∙ ap accepted (sym (end-file s.order [] f));
        made = ap (walk_over s.order []) (sym (end-file s.order [] f));
        valid = end-valid lim s.order [] f (subst (Sound lim) q (numbered-sound lim (text_after s input) small));
      }

  -- walks come to an end exactly if they are those that the sheet orders over the file that the numbered text says
  pub numbered-run-walks : (e : Outcome) → (course_as Numbered lim input ≡ walked e) ↔ WalksNumbered lim input e
  unfolding read_numbered
  numbered-run-walks e = (
    by_form Numbered lim input (λ c. c ≡ walked e → WalksNumbered lim input e) (λ l q. absurd (false≢true (ap is_walked q))) (λ d h s q. absurd (false≢true (ap is_walked q)))
        (λ s d b r q. absurd (false≢true (ap is_walked q))) (λ s f b r q. subst (WalksNumbered lim input) (ap (outcome_or e) q) (walks-made s f b r)),
    λ w. walk_as Numbered lim input w.sheet e.last.state.file w.begun w.read ∙ ap walked (sym w.made),
  )

  module _ (e : Outcome) (w : WalksNumbered lim input e) where
    abbrev order : Order
    order = w.sheet.order

    abbrev file : File
    file = e.last.state.file

    prints-it : competing lim input ≡ competed e
    unfolding printed_as said_as
    prints-it = ap (said_as Numbered) ((numbered-run-walks e).1 w)

    -- the tables hold the walks' end
    left : (t : Tables) (ms b : List ℕ) → full_marked lim t ms ≡ true → report_size lim ≤ length b → (run_as Numbered lim input t ms b).tables ≡ holding lim e.last.state t
    unfolding ran_as tables_after
    left t ms b full room = ap (λ (r : Ran). r.tables) (form-ran Numbered lim input t ms b full room) ∙ ap (tables_after lim t) ((numbered-run-walks e).1 w)

    values-back : (t : Tables) → list_of (counts_of e.last.state).terms (bit_at (holding lim e.last.state t).values) ≡ values_at e
    unfolding state_in
    values-back t = ap (λ (s : State). s.values) (holding-back lim e.last.state t w.valid)

    -- a value for each variable of the header
    variables : (h : Header) → header_at (text_after w.sheet input) (head_at (text_after w.sheet input)).at ≡ Some h → length (values_at e) ≡ h.variables
    unfolding names_to
    variables h q =
        w.valid.one_each ∙ ap length (every_variable lim (text_after w.sheet input) small file w.read h q) ∙ list_from-length 0 h.variables _

    module _ (found : e.found ≡ true) where
      none_left : e.last.state.uncovered ≡ []
      none_left =
          ap (λ (r : Outcome). r.last.state.uncovered) w.made ∙ found-covers order [] file (sym (ap (λ (r : Outcome). r.found) w.made) ∙ found)

      found-lines : competed e ≡ tour_told e.walks e.last.flips ++ (satisfiable ++ value_lines (values_at e))
      unfolding competed
      found-lines = rw found refl

      found-values : FoundValues lim input e
      found-values =
          record {
            walks = w;
            prints = prints-it ∙ found-lines;
            variables = variables;
            numbers = each-once (values_at e);
            reads = λ k n l. number-reads (get_or (values_at e) k 0) (suc k) n (omega arith) (omega (arith, w.valid.one_each, w.valid.proper.few-terms));
            stored = λ t ms b full room.
                ap (λ (u : Tables). list_of (counts_of e.last.state).terms (bit_at u.values)) (left t ms b full room) ∙ values-back t;
            covers = λ c l. some-true (values_at e) (get_or (clauses_at e) c []) (none-listed e.last.state w.valid.listed none_left c l);
          }

    module _ (up : e.found ≡ false) where
      gave_up : (walk_over order [] file).found ≡ false
      gave_up = sym (ap (λ (r : Outcome). r.found) w.made) ∙ up

      some_left : 0 < length e.last.state.uncovered
      unfolding is_found
      some_left =
          let none = gave_up_misses order [] file (omega (arith, (ranged order w.range).walks-pos)) gave_up in
          let not_None = eqb-false (length e.last.state.uncovered) 0 (ap (λ (r : Outcome). is_found r.last.state) w.made ∙ none) in
          omega arith

      up-lines : competed e ≡ tour_told e.walks e.last.flips ++ unknown
      unfolding competed
      up-lines = rw up refl

      up-values : GaveUpNumbered lim input e
      up-values =
          let all-walks = ap (λ (r : Outcome). r.walks) w.made ∙ gave_up-walks order [] file gave_up in
          let all-flips = ap (λ (r : Outcome). r.last.flips) w.made ∙ gave_up-flips lim order [] file w.valid.proper (λ _ _. refl) gave_up in
          record {
            walks = w;
            prints = prints-it ∙ up-lines ∙ ap₂ {C = List ℕ} (λ m n. tour_told m n ++ unknown) all-walks all-flips;
            missed = some-listed e.last.state w.valid.listed some_left;
          }

  -- what a found and a given up run prints
  pub competing-found : (e : Outcome) → course_as Numbered lim input ≡ walked e → e.found ≡ true → FoundValues lim input e
  competing-found e c = found-values e ((numbered-run-walks e).0 c)

  pub competing_gave_up : (e : Outcome) → course_as Numbered lim input ≡ walked e → e.found ≡ false → GaveUpNumbered lim input e
  competing_gave_up e c = up-values e ((numbered-run-walks e).0 c)

  -- no course but one that has found prints it
  plain-refused : (c : Course) → ((a : Result Sheet Fault) × (c ≡ unbegun a)) ⊎ ((e : Fault) × (c ≡ unread e)) → has 83 (said_as Numbered c) ≡ false
  unfolding said_as
  plain-refused c (inl (a, q)) = rw q (refused-plain _ _)
  plain-refused c (inr (e, q)) = rw q (refused-plain _ _)

  plain-up : (c : Course) (e : Outcome) → c ≡ walked e → e.found ≡ false → has 83 (said_as Numbered c) ≡ false
  unfolding said_as
  plain-up c e q up = rw q (up-plain e up)

  finds : has 83 (said_as Numbered (course_as Numbered lim input)) ≡ true → (e : Outcome) × (course_as Numbered lim input ≡ walked e) × (e.found ≡ true)
  finds h =
      by_result (course_as Numbered lim input) (λ e q f. (e, q, f)) (λ e q up. absurd (true≢false (sym h ∙ plain-up _ e q up)))
      (λ r. absurd (true≢false (sym h ∙ plain-refused _ r)))

  -- `s SATISFIABLE` is printed only where the written walk has found, and then the values follow
  pub satisfiable-only : Prints "s SATISFIABLE\n" (competing lim input) → (e : Outcome) × FoundValues lim input e
  unfolding printed_as
  satisfiable-only p = let f = finds (prints_capital _ p) in (f.0, competing-found f.0 f.1 f.2)

  -- and it is printed there
  pub satisfiable-there : (e : Outcome) → course_as Numbered lim input ≡ walked e → e.found ≡ true → Prints "s SATISFIABLE\n" (competing lim input)
  satisfiable-there e c found = (tour_told e.walks e.last.flips, value_lines (values_at e), (competing-found e c found).prints)
