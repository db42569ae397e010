-- How a run goes: the tests in their order, what is printed by each, and that what is printed says which. Assumes nothing.
use Prim.Native.Nat.{ℕ, ◌≤◌, ◌<◌}
use Prim.Native.String.{String}
use mathlib.Core.Logic.{◌⊎◌, inl, inr}
use mathlib.Core.Path.{◌≡◌, refl, ap, ap₂, sym, subst, ◌∙◌}
use mathlib.Core.Bool.{true, false, cond, false≢true}
use mathlib.Core.List.{List, [], ◌∷◌, ◌++◌}
use native.Mathlib.Omega.{arith}
use lib.ListN.{length, get_or, drop, length-drop, get_or-eq_default}
use lib.Seq.{append_snoc, get_or-take}
use lib.Dec.{leb}
use borrow.Author.Tests.{leb-true}
use Rattle.std.specs.Prelude.{Result, Err}
use Rattle.scan.specs.Text.{bytes}
use Rattle.written.specs.declared.Form.TheVariants.{Own}
use Rattle.written.specs.declared.Sheet.{Sheet}
use Rattle.written.specs.declared.Fault.{Fault}
use Rattle.written.specs.declared.Reason.{Reason}
use Rattle.written.specs.declared.Reason.TheVariants.{TableTooShort, TextTooLong}
use Rattle.written.specs.Lists.{all}
use Rattle.written.specs.Limits.{Limits}
use Rattle.written.specs.Reasons.{number_of, fault}
use Rattle.written.specs.Clauses.{File}
use Rattle.written.specs.Reading.{accepted, refused, read_text}
use Rattle.written.specs.Walk.{Outcome, walk_over}
use Rattle.written.specs.Sheet.{is_digit, value_of_digits, sheet_of}
use Rattle.written.specs.Printed.{decimal, line, refused_by, refusal, report}
use Rattle.written.specs.Program.{Course, unbegun, unread, walked, course_of, said_as, said, printed_as, printed}
use Rattle.laws.specs.Reasons.{of_text, of_sheet}
use Rattle.laws.specs.Sheets.{Faulty, Says}
use Rattle.laws.specs.Sheets.Faulty.{wrong_form, out_of_range, not_the_choice}
use Rattle.laws.specs.RunCalls.{Begins, Finds, GivesUp, IsRefused, Decides, Begun, text_after, Refuses, Given}
use Rattle.laws.specs.RunCalls.Refuses.{too_long, bad-sheet, bad-text}
use Rattle.laws.proofs.Basics.{by_cases, by-lt, both_first, both-second}
use Rattle.laws.proofs.Reasons.{reasons, reason-at, text-not-sheet}
use Rattle.laws.proofs.Decimals.{decimal-digits, decimal-value}
use Rattle.laws.proofs.Sheets.{sheet-says}
use Rattle.laws.proofs.ReadCalls.{reason_in, text-2, text-reason}
use Rattle.laws.proofs.Forms.{long_as, sheet_as, text_as, walk_as, by_form}

-- ---- the tests in their order

module _ (lim : Limits) (input : List ℕ) where
  pub long-course : lim.text < length input → course_of lim input ≡ unread (fault TextTooLong)
  long-course = long_as Own lim input

  pub sheet-course : (e : Fault) → length input ≤ lim.text → sheet_of input ≡ Err e → course_of lim input ≡ unbegun (Err e)
  sheet-course = sheet_as Own lim input

  pub text-course : (s : Sheet) (e : Fault) → Begun lim input s → read_text lim (text_after s input) ≡ refused e → course_of lim input ≡ unread e
  unfolding read_text
  text-course = text_as Own lim input

  pub walk-course : (s : Sheet) (f : File) → Begun lim input s → read_text lim (text_after s input) ≡ accepted f → course_of lim input ≡ walked (walk_over s.order [] f)
  unfolding read_text
  walk-course = walk_as Own lim input

  -- what holds of each course that can be gone
  pub by-course : (P : Course → Type 0) → (lim.text < length input → P (unread (fault TextTooLong)))
      → ((e : Fault) → length input ≤ lim.text → sheet_of input ≡ Err e → P (unbegun (Err e)))
      → ((s : Sheet) (e : Fault) → Begun lim input s → read_text lim (text_after s input) ≡ refused e → P (unread e))
      → ((s : Sheet) (f : File) → Begun lim input s → read_text lim (text_after s input) ≡ accepted f → P (walked (walk_over s.order [] f)))
      → P (course_of lim input)
  unfolding read_text
  by-course = by_form Own lim input

-- ---- which reasons

fault-reason : (input : List ℕ) (k : ℕ) (r : Reason) → Faulty input k r → of_sheet r ≡ true
fault-reason input _ _ (wrong_form k few h) = refl
fault-reason input _ _ (out_of_range k few h l) = refl
fault-reason input _ _ (not_the_choice h l) = refl

pub sheet-reasons : (input : List ℕ) (e : Fault) → sheet_of input ≡ Err e → of_sheet e.reason ≡ true
sheet-reasons input e q = let n = subst (Says input) q (sheet-says input) in fault-reason input n.line e.reason n.faulty

-- a text is not too long, since no part of the input is longer than the whole
pub text-reasons : (lim : Limits) (input : List ℕ) (s : Sheet) (e : Fault) → Begun lim input s → read_text lim (text_after s input) ≡ refused e
    → of_text e.reason ≡ true
text-reasons lim input s e b q = own (text-reason lim (text_after s input) e q)
  where
    own : (e.reason ≡ TextTooLong) ⊎ (of_text e.reason ≡ true) → of_text e.reason ≡ true
    own (inl long) =
        absurd (omega (arith, length-drop s.at input, b.short, (text-2 lim (text_after s input)).0 (ap reason_in q ∙ ap number_of long)))
    own (inr h) = h

-- ---- no two faults are printed alike

digit-least : (d : ℕ) (ds : List ℕ) → all is_digit (d ∷ ds) ≡ true → 48 ≤ d
digit-least d ds h = leb-true 48 d (both_first (leb 48 d) (leb d 57) (both_first (is_digit d) (all is_digit ds) h))

-- digits that a byte 10 ends
digits-end : (cs ds x y : List ℕ) → all is_digit cs ≡ true → all is_digit ds ≡ true → cs ++ 10 ∷ x ≡ ds ++ 10 ∷ y → (cs ≡ ds) × (x ≡ y)
digits-end [] [] x y hc hd e = (refl, ap (drop 1) e)
digits-end [] (d ∷ ds) x y hc hd e = absurd (omega (arith, ap (λ (l : List ℕ). get_or l 0 0) e, digit-least d ds hd))
digits-end (c ∷ cs) [] x y hc hd e = absurd (omega (arith, ap (λ (l : List ℕ). get_or l 0 0) e, digit-least c cs hc))
digits-end (c ∷ cs) (d ∷ ds) x y hc hd e =
    let r = digits-end cs ds x y (both-second (is_digit c) _ hc) (both-second (is_digit d) _ hd) (ap (drop 1) e) in
    (ap₂ {C = List ℕ} (λ a r. a ∷ r) (ap (λ (l : List ℕ). get_or l 0 0) e) r.0, r.1)

numbers-end : (m n : ℕ) (x y : List ℕ) → decimal m ++ 10 ∷ x ≡ decimal n ++ 10 ∷ y → (m ≡ n) × (x ≡ y)
numbers-end m n x y e =
    let r = digits-end (decimal m) (decimal n) x y (decimal-digits m) (decimal-digits n) e in
    (sym (decimal-value m) ∙ ap value_of_digits r.0 ∙ decimal-value n, r.1)

pub refusal-one : (d e : Fault) → refusal d ≡ refusal e → d ≡ e
unfolding refused_by
refusal-one d e h =
    let after : Fault → List ℕ = λ f. line "line=" (decimal f.line) in
    let k = numbers-end (number_of d.reason) (number_of e.reason) (after d) (after e)
    (sym (append_snoc (decimal (number_of d.reason)) 10 (after d)) ∙ ap (drop 22) h ∙ append_snoc (decimal (number_of e.reason)) 10 (after e)) in
    let n = numbers-end d.line e.line [] [] (ap (drop 5) k.1) in
    ap₂ (λ (r : Reason) (m : ℕ). record { reason = r; line = m })
    (sym (reason-at d.reason) ∙ ap (λ (m : ℕ). get_or reasons m TableTooShort) k.0 ∙ reason-at e.reason) n.0

-- ---- the result line

-- its first byte after `result=`, by which the three differ
abbrev mark : List ℕ → ℕ
mark text = get_or text 7 0

begins-mark : (s : String) (text : List ℕ) → 7 < length (bytes s) → Begins s text → mark text ≡ mark (bytes s)
begins-mark s text l h = sym (get_or-take (length (bytes s)) text 7 0 l) ∙ ap mark h

-- what a course prints: a line, and what follows from its first byte
module _ (c : Course) where
  found-begins : (e : Outcome) → c ≡ walked e → e.found ≡ true → Begins "result=found\n" (said c)
  unfolding said_as report
  found-begins e q f = rw (q, f) refl

  up_begins : (e : Outcome) → c ≡ walked e → e.found ≡ false → Begins "result=gaveup\n" (said c)
  unfolding said_as report
  up_begins e q f = rw (q, f) refl

  refused-begins : ((a : Result Sheet Fault) × (c ≡ unbegun a)) ⊎ ((e : Fault) × (c ≡ unread e)) → Begins "result=refused\n" (said c)
  unfolding said_as refused_by
  refused-begins (inl (a, q)) = rw q refl
  refused-begins (inr (e, q)) = rw q refl

pub by_result : {A : Type 0} (c : Course) → ((e : Outcome) → c ≡ walked e → e.found ≡ true → A) → ((e : Outcome) → c ≡ walked e → e.found ≡ false → A)
    → (((a : Result Sheet Fault) × (c ≡ unbegun a)) ⊎ ((e : Fault) × (c ≡ unread e)) → A) → A
by_result (unbegun a) f g r = r (inl (a, refl))
by_result (unread e) f g r = r (inr (e, refl))
by_result (walked e) f g r = by_cases e.found (f e refl) (g e refl)

module _ (lim : Limits) (input : List ℕ) where
  abbrev Prints : String → Type 0
  Prints s = Begins s (printed lim input)

  does_find : Finds lim input → Prints "result=found\n"
  unfolding printed_as
  does_find h = found-begins (course_of lim input) h.0 h.1 h.2

  does_give_up : GivesUp lim input → Prints "result=gaveup\n"
  unfolding printed_as
  does_give_up h = up_begins (course_of lim input) h.0 h.1 h.2

  does_refuse : IsRefused lim input → Prints "result=refused\n"
  unfolding printed_as
  does_refuse h = refused-begins (course_of lim input) h

  -- no two of the lines
  apart : (s r : String) → 7 < length (bytes s) → 7 < length (bytes r) → Prints s → Prints r → mark (bytes s) ≡ mark (bytes r)
  apart s r l m a b = sym (begins-mark s (printed lim input) l a) ∙ begins-mark r (printed lim input) m b

  not-both : Prints "result=found\n" → Prints "result=gaveup\n" → ⊥
  not-both a b = omega (arith, apart "result=found\n" "result=gaveup\n" (omega arith) (omega arith) a b)

  not-found-refused : Prints "result=found\n" → Prints "result=refused\n" → ⊥
  not-found-refused a b = omega (arith, apart "result=found\n" "result=refused\n" (omega arith) (omega arith) a b)

  not-up-refused : Prints "result=gaveup\n" → Prints "result=refused\n" → ⊥
  not-up-refused a b = omega (arith, apart "result=gaveup\n" "result=refused\n" (omega arith) (omega arith) a b)

  -- what is printed is never nothing: a byte stands after `result=`
  pub printed-some : 0 < length (printed lim input)
  printed-some =
      by_result (course_of lim input) (λ e q f. some "result=found\n" (omega arith) (omega arith) (does_find (e, q, f)))
      (λ e q f. some "result=gaveup\n" (omega arith) (omega arith) (does_give_up (e, q, f)))
      (λ h. some "result=refused\n" (omega arith) (omega arith) (does_refuse h))
    where
      some : (s : String) → 7 < length (bytes s) → 0 < mark (bytes s) → Prints s → 0 < length (printed lim input)
      some s l m p =
          by-lt 0 (length (printed lim input)) (λ h. h)
          (λ h. absurd (omega (arith, m, begins-mark s (printed lim input) l p, get_or-eq_default (printed lim input) 0 {n = 7} (omega arith))))

  pub run_decides : Decides lim input
  run_decides =
      let c = course_of lim input in
      record {
        found = (
          λ p. by_result c (λ e q f. (e, q, f)) (λ e q f. absurd (not-both p (does_give_up (e, q, f)))) (λ h. absurd (not-found-refused p (does_refuse h))),
          does_find,
        );
        gave_up = (
          λ p. by_result c (λ e q f. absurd (not-both (does_find (e, q, f)) p)) (λ e q f. (e, q, f)) (λ h. absurd (not-up-refused p (does_refuse h))),
          does_give_up,
        );
        refused = (
          λ p. by_result c (λ e q f. absurd (not-found-refused (does_find (e, q, f)) p)) (λ e q f. absurd (not-up-refused (does_give_up (e, q, f)) p)) (λ h. h),
          does_refuse,
        );
        one = record {
          one = by_result c (λ e q f. inl (does_find (e, q, f))) (λ e q f. inr (inl (does_give_up (e, q, f)))) (λ h. inr (inr (does_refuse h)));
          not-first-and-second = not-both;
          not-first-and-third = not-found-refused;
          not-second-and-third = not-up-refused;
        };
      }

-- ---- which refusal is printed exactly when

-- no report is a refusal
report-other : (e : Outcome) (d : Fault) → report e ≡ refusal d → ⊥
unfolding report refused_by
report-other e d h =
    let marked : mark (report e) ≡ cond e.found 102 103 = by_cases e.found (λ q. rw q refl) (λ q. rw q refl) in
    let either : cond e.found 102 103 ≤ 103 = by_cases e.found (λ q. rw q (omega arith)) (λ q. rw q (omega arith)) in
    let refusing : mark (report e) ≡ 114 = ap mark h in
    omega arith

module _ (lim : Limits) (input : List ℕ) where
  -- the first test that fails is the one that is printed
  pub refuses-prints : (e : Fault) → Refuses lim input e → printed lim input ≡ refusal e
  unfolding printed_as said_as
  refuses-prints _ (too_long l) = ap said (long-course lim input l)
  refuses-prints e (bad-sheet _ h q) = ap said (sheet-course lim input e h q)
  refuses-prints e (bad-text s _ b q) = ap said (text-course lim input s e b q)

  pub prints-refuses : (e : Fault) → printed lim input ≡ refusal e → Refuses lim input e
  unfolding printed_as said_as
  prints-refuses e =
      by-course lim input (λ c. said c ≡ refusal e → Refuses lim input e) (λ l h. subst (Refuses lim input) (refusal-one _ e h) (too_long l))
      (λ d few q h. subst (Refuses lim input) (refusal-one d e h) (bad-sheet d few q))
      (λ s d b q h. subst (Refuses lim input) (refusal-one d e h) (bad-text s d b q))
      (λ s f b q h. absurd (report-other _ e h))

  -- which of the three, by the reason
  was-long : (e : Fault) → Refuses lim input e → e.reason ≡ TextTooLong → lim.text < length input
  was-long _ (too_long l) two = l
  was-long e (bad-sheet _ h q) two = absurd (false≢true (sym (ap of_sheet two) ∙ sheet-reasons input e q))
  was-long e (bad-text s _ b q) two = absurd (false≢true (sym (ap of_text two) ∙ text-reasons lim input s e b q))

  was-sheet : (e : Fault) → Refuses lim input e → of_sheet e.reason ≡ true → (length input ≤ lim.text) × (sheet_of input ≡ Err e)
  was-sheet _ (too_long l) own = absurd (false≢true own)
  was-sheet e (bad-sheet _ h q) own = (h, q)
  was-sheet e (bad-text s _ b q) own = absurd (false≢true (sym (text-not-sheet e.reason (text-reasons lim input s e b q)) ∙ own))

  was-text : (e : Fault) → Refuses lim input e → of_text e.reason ≡ true → (s : Sheet) × Begun lim input s × (read_text lim (text_after s input) ≡ refused e)
  was-text _ (too_long l) own = absurd (false≢true own)
  was-text e (bad-sheet _ h q) own = absurd (false≢true (sym (text-not-sheet e.reason own) ∙ sheet-reasons input e q))
  was-text e (bad-text s _ b q) own = (s, b, q)

  refuses-reasons : (e : Fault) → Refuses lim input e → (e.reason ≡ TextTooLong) ⊎ ((of_text e.reason ≡ true) ⊎ (of_sheet e.reason ≡ true))
  refuses-reasons _ (too_long l) = inl refl
  refuses-reasons e (bad-sheet _ h q) = inr (inr (sheet-reasons input e q))
  refuses-reasons e (bad-text s _ b q) = inr (inl (text-reasons lim input s e b q))

  pub run-given : Given lim input
  run-given =
      record {
        exactly = λ e. (prints-refuses e, refuses-prints e);
        reason-2 = (λ p. was-long (fault TextTooLong) (prints-refuses (fault TextTooLong) p) refl, λ l. refuses-prints (fault TextTooLong) (too_long l));
        of-text = λ e own. (λ p. was-text e (prints-refuses e p) own, λ h. refuses-prints e (bad-text h.0 e h.1 h.2));
        of-sheet = λ e own. (λ p. was-sheet e (prints-refuses e p) own, λ h. refuses-prints e (bad-sheet e h.0 h.1));
        no_other = λ e p. refuses-reasons e (prints-refuses e p);
      }
