-- The competition's lines: they name every variable once, and no report is longer than the buffer that is lent for it. Assumes nothing.
use Prim.Native.Nat.{ℕ, zero, suc, ◌+◌, ◌-◌, ◌*◌, ◌^◌, ◌≤◌, ◌<◌}
use mathlib.Core.Path.{◌≡◌, refl, ap, ap₂, sym, subst, ◌∙◌}
use mathlib.Core.List.{List, [], ◌∷◌, ◌++◌, flatten, append_assoc}
use native.Mathlib.Omega.{arith}
use native.Mathlib.Nat.{mul-le-mul}
use lib.ListN.{length, take, drop, length-append, length-take, length-drop, drop_of_length-le}
use lib.Dec.{eqb}
use lib.Seq.{drop-drop}
use Rattle.scan.specs.Text.{bytes}
use Rattle.written.specs.declared.Form.{Form}
use Rattle.written.specs.declared.Form.TheVariants.{Own, Numbered}
use Rattle.written.specs.declared.Order.{Order}
use Rattle.written.specs.declared.Fault.{Fault}
use Rattle.written.specs.declared.Reason.TheVariants.{TextTooLong}
use Rattle.written.specs.Lists.{list_from, list_of}
use Rattle.written.specs.Limits.{Limits}
use Rattle.written.specs.Reasons.{number_of, fault}
use Rattle.written.specs.Clauses.{File}
use Rattle.written.specs.Walk.{Outcome, walk_over}
use Rattle.written.specs.Orders.{flips_each, walks_all}
use Rattle.written.specs.Printed.{decimal, line}
use Rattle.written.specs.Competition.{signed_number, values_from, value_line, lines_for, value_lines, tour_told, satisfiable, unknown, competed, competed_not, refusal_as, report_as}
use Rattle.written.specs.Program.{course_as, said_as, printed_as, report_size}
use Rattle.laws.specs.Valid.{Proper}
use Rattle.laws.specs.RunCalls.{text_after}
use Rattle.laws.specs.Sheets.{last_line}
use Rattle.laws.specs.Competing.{values_on}
use Rattle.laws.proofs.Basics.{by_cases}
use Rattle.laws.proofs.Reasons.{reason-below}
use Rattle.laws.proofs.Decimals.{decimal-length}
use Rattle.laws.proofs.Walks.{walks-most, flips-most}
use Rattle.laws.proofs.Endings.{end-file}
use Rattle.laws.proofs.Valids.{end-valid}
use Rattle.laws.proofs.Sheets.{Ranged, ranged, Judged, sheet-judged}
use Rattle.laws.proofs.Reports.{line-length, refusal-fits, walked-length}
use Rattle.laws.proofs.Drafts.{Sound}
use Rattle.laws.proofs.NumberedReadings.{form-sound}
use Rattle.laws.proofs.Forms.{form-line-most, by_form}

-- ---- the numbers of all lines, one after another

-- the first n numbers, and those after them
values-split : (n k : ℕ) (vs : List ℕ) → values_from k vs ≡ values_from k (take n vs) ++ values_from (n + k) (drop n vs)
unfolding values_from
values-split zero k vs = let e : 0 + k ≡ k = omega arith in rw e refl
values-split (suc n) k [] = refl
values-split (suc n) k (v ∷ vs) =
    let e : n + suc k ≡ suc n + k = omega arith in
    ap (λ (rest : List ℕ). 32 ∷ signed_number v k ++ rest) (values-split n (suc k) vs ∙ ap (λ (j : ℕ). values_from (suc k) (take n vs) ++ values_from j (drop n vs)) e)
    ∙ sym (append_assoc (32 ∷ signed_number v k) (values_from (suc k) (take n vs)) (values_from (suc n + k) (drop n vs)))

values-from : (vs : List ℕ) (i m : ℕ) → length vs ≤ 10 * (i + m) → flatten (list_from i m (values_on vs)) ≡ values_from (suc (10 * i)) (drop (10 * i) vs)
unfolding flatten values_from
values-from vs i zero h = let none : length vs ≤ 10 * i = omega arith in rw (drop_of_length-le vs none) refl
values-from vs i (suc m) h =
    let next : 10 * suc i ≡ 10 * i + 10 = omega arith in
    let first : 10 + suc (10 * i) ≡ suc (10 * suc i) = omega arith in
    let rest : drop 10 (drop (10 * i) vs) ≡ drop (10 * suc i) vs = drop-drop 10 (10 * i) vs ∙ ap (λ (k : ℕ). drop k vs) (sym next) in
    ap (λ (more : List ℕ). values_on vs i ++ more) (values-from vs (suc i) m (omega arith))
    ∙ ap₂ {C = List ℕ} (λ k more. values_on vs i ++ values_from k more) (sym first) (sym rest)
    ∙ sym (values-split 10 (suc (10 * i)) (drop (10 * i) vs))

-- every number once, in order, and beside it the sign of its value
pub each-once : (vs : List ℕ) → flatten (list_of (lines_for (length vs)) (values_on vs)) ≡ values_from 1 vs
each-once vs = values-from vs 0 (lines_for (length vs)) (omega arith)

-- ---- lengths

-- a number below 10 ^ 7, its sign and a space take at most 9 bytes
signed-length : (v k : ℕ) → k < 10 ^ 7 → length (signed_number v k) ≤ 8
unfolding signed_number
signed-length v k h = let n = decimal-length 7 k (omega arith) h in by_cases (eqb v 0) (λ q. rw q (omega arith)) (λ q. rw q (omega arith))

values_length : (k : ℕ) (vs : List ℕ) → k + length vs ≤ 10 ^ 7 → length (values_from k vs) ≤ 9 * length vs
unfolding values_from
values_length k [] h = omega arith
values_length k (v ∷ vs) h =
    omega (arith, signed-length v k (omega arith), values_length (suc k) vs (omega arith), length-append (signed_number v k) (values_from (suc k) vs))

line-of-ten : (vs : List ℕ) (i : ℕ) → length vs < 10 ^ 7 → 10 * i < length vs → length (value_line vs i) ≤ 2 + 9 * length (take 10 (drop (10 * i) vs))
unfolding value_line
line-of-ten vs i few h =
    let these : List ℕ = take 10 (drop (10 * i) vs) in
    let size = values_length (suc (10 * i)) these (omega (arith, length-take 10 (drop (10 * i) vs), length-drop (10 * i) vs)) in
    omega (arith, size, line-length "v" (values_from (suc (10 * i)) these))

lines-length : (vs : List ℕ) → length vs < 10 ^ 7 → (i m : ℕ) → 10 * (i + m) ≤ length vs + 9
    → length (flatten (list_from i m (value_line vs))) ≤ 2 * m + 9 * (length vs - 10 * i)
unfolding flatten
lines-length vs few i zero h = omega arith
lines-length vs few i (suc m) h =
    omega (
      arith,
      line-of-ten vs i few (omega arith),
      length-take 10 (drop (10 * i) vs),
      length-drop (10 * i) vs,
      lines-length vs few (suc i) m (omega arith),
      length-append (value_line vs i) (flatten (list_from (suc i) m (value_line vs))),
    )

value-lines-length : (vs : List ℕ) → length vs < 10 ^ 7 → length (value_lines vs) ≤ 10 * length vs + 5
unfolding value_lines
value-lines-length vs few =
    let lines : List ℕ = flatten (list_of (lines_for (length vs)) (value_line vs)) in
    omega (arith, lines-length vs few 0 (lines_for (length vs)) (omega arith), length-append lines (bytes "v 0\n"))

tour-length : (w f : ℕ) → w < 10 ^ 4 → f < 10 ^ 9 → length (tour_told w f) ≤ 31
tour-length w f hw hf =
    omega (
      arith,
      decimal-length 4 w (omega arith) hw,
      decimal-length 9 f (omega arith) hf,
      line-length "c walks=" (decimal w),
      line-length "c flips=" (decimal f),
      length-append (line "c walks=" (decimal w)) (line "c flips=" (decimal f)),
    )

-- a report of n values takes at most 10 n + 64 bytes
competed-length : (e : Outcome) → e.walks < 10 ^ 4 → e.last.flips < 10 ^ 9 → length e.last.state.values < 10 ^ 7
    → length (competed e) ≤ 10 * length e.last.state.values + 64
unfolding competed
competed-length e w f few =
    let tour : List ℕ = tour_told e.walks e.last.flips in
    let all : List ℕ = value_lines e.last.state.values in
    let front = tour-length e.walks e.last.flips w f in
    by_cases e.found
    (λ q. rw q (omega (arith, front, value-lines-length e.last.state.values few, length-append tour (satisfiable ++ all), length-append satisfiable all)))
    (λ q. rw q (omega (arith, front, length-append tour unknown)))

-- a refusal takes 47 bytes and the digits of its line
refused-length : (e : Fault) (k : ℕ) → 0 < k → e.line < 10 ^ k → length (competed_not (number_of e.reason) e.line) ≤ 47 + k
unfolding competed_not
refused-length e k h l =
    let n = decimal-length 2 (number_of e.reason) (omega arith) (omega (arith, reason-below e.reason)) in
    let m = decimal-length k e.line h l in
    simp length-append (omega arith)

-- ---- of either form

-- walks in range over a proper file
pub form_walked : (form : Form) (lim : Limits) (o : Order) (ms : List ℕ) (f : File) → Ranged o → Proper lim f → lim.terms < 10 ^ 7
    → length (report_as form (walk_over o ms f)) ≤ report_size lim
unfolding report_size
form_walked Own lim o ms f r proper few = walked-length lim o ms f r proper.few-terms (omega arith)
form_walked Numbered lim o ms f r proper few =
    let same : length (walk_over o ms f).last.state.file.names ≡ length f.names = ap (λ (g : File). length g.names) (end-file o ms f) in
    let each = (end-valid lim o ms f proper).one_each in
    let most : o.flips * o.walks ≤ flips_each.most * walks_all.most = mul-le-mul r.flips-most r.walks-most in
    let flips = flips-most o ms f in
    let walks = walks-most o ms f in
    let w = r.walks-most in
    let terms = proper.few-terms in
    let size = competed-length (walk_over o ms f) (omega arith) (omega arith) (omega arith) in
    omega arith

-- a refusal whose line is among those of a text within the limits, or of the sheet
pub form-refused : (form : Form) (lim : Limits) (e : Fault) → lim.text + 1 < 10 ^ 16 → e.line ≤ lim.text + last_line → length (refusal_as form e) ≤ report_size lim
unfolding report_size
form-refused Own lim e short h = refusal-fits lim e (omega arith) h
form-refused Numbered lim e short h = let n = refused-length e 17 (omega arith) (omega arith) in omega arith

-- nothing longer than its buffer is printed
module _ (form : Form) (lim : Limits) (few : lim.terms < 10 ^ 7) (short : lim.text + 1 < 10 ^ 16) (input : List ℕ) where
  course-fits : length (said_as form (course_as form lim input)) ≤ report_size lim
  unfolding said_as
  course-fits =
      by_form form lim input (λ c. length (said_as form c) ≤ report_size lim) (λ l. form-refused form lim (fault TextTooLong) short (omega arith))
      (λ e h q. form-refused form lim e short (omega (arith, (subst (Judged (length input)) q (sheet-judged input)).1)))
      (λ s e b q. form-refused form lim e short (omega (arith, form-line-most form lim (text_after s input) e q)))
      (λ s f b q.
      form_walked form lim s.order [] f (ranged s.order (subst (Judged (length input)) b.sheet (sheet-judged input)).0)
      (subst (Sound lim) q (form-sound lim (omega arith) form (text_after s input))) few)

  pub form-fits : length (printed_as form lim input) ≤ report_size lim
  unfolding printed_as
  form-fits = course-fits
