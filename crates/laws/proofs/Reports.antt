-- No report is longer than the buffer that is lent for it. Assumes nothing.
use Prim.Native.Nat.{ℕ, ◌+◌, ◌*◌, ◌^◌, ◌≤◌, ◌<◌}
use Prim.Native.String.{String}
use mathlib.Core.Path.{◌≡◌, refl, ap, ◌∙◌}
use mathlib.Core.Bool.{Bool, true, false, cond}
use mathlib.Core.List.{List, [], ◌∷◌, ◌++◌}
use native.Mathlib.Omega.{arith}
use native.Mathlib.Nat.{mul-le-mul}
use lib.ListN.{length, drop, length-append, length-drop}
use lib.Dec.{ltb}
use borrow.Author.Tests.{ltb-false}
use Rattle.std.specs.Prelude.{Result, Ok, Err}
use Rattle.scan.specs.Text.{bytes}
use Rattle.written.specs.declared.Sheet.{Sheet}
use Rattle.written.specs.declared.Form.TheVariants.{Own}
use Rattle.written.specs.declared.Order.{Order}
use Rattle.written.specs.declared.Fault.{Fault}
use Rattle.written.specs.declared.Reason.TheVariants.{TextTooLong}
use Rattle.written.specs.Limits.{Limits}
use Rattle.written.specs.Reasons.{number_of, fault}
use Rattle.written.specs.Clauses.{File}
use Rattle.written.specs.Reading.{Reading, accepted, refused, read_text}
use Rattle.written.specs.Walk.{Outcome, walk_over}
use Rattle.written.specs.Sheet.{sheet_of}
use Rattle.written.specs.Orders.{flips_each, walks_all}
use Rattle.written.specs.Printed.{decimal, line, answer, chosen, refused_by, refusal, report}
use Rattle.written.specs.Program.{after_reading, after_sheet_as, course_as, said_as, said, printed_as, printed, report_size}
use Rattle.laws.specs.Sheets.{last_line}
use Rattle.laws.proofs.Basics.{by_cases}
use Rattle.laws.proofs.Reasons.{reason-below}
use Rattle.laws.proofs.Readings.{reading-proper}
use Rattle.laws.proofs.Faults.{refusal-line-bound}
use Rattle.laws.proofs.Walks.{walks-most, flips-most}
use Rattle.laws.proofs.Endings.{end-file, end-chosen}
use Rattle.laws.proofs.Decimals.{decimal-length}
use Rattle.laws.proofs.Answers.{answer-length}
use Rattle.laws.proofs.Sheets.{Ranged, ranged, Judged, sheet-judged}

-- ---- lines

pub line-length : (key : String) (value : List ℕ) → length (line key value) ≡ length (bytes key) + length value + 1
line-length key value = simp length-append (omega arith)

-- a refusal takes 31 bytes and the digits of its line
pub refusal-length : (e : Fault) (k : ℕ) → 0 < k → e.line < 10 ^ k → length (refusal e) ≤ 31 + k
unfolding refused_by
refusal-length e k h l =
    let n = decimal-length 2 (number_of e.reason) (omega arith) (omega (arith, reason-below e.reason)) in
    let m = decimal-length k e.line h l in
    simp length-append (omega arith)

-- a report takes 38 bytes and its five values
values_length : (r c a : List ℕ) (w f : ℕ)
    → length (line "result=" r ++ line "walks=" (decimal w) ++ line "flips=" (decimal f) ++ line "chosen=" c ++ line "answer=" a)
    ≡ length r + length (decimal w) + length (decimal f) + length c + length a + 38
values_length r c a w f =
    five (line "result=" r) (line "walks=" (decimal w)) (line "flips=" (decimal f)) (line "chosen=" c) (line "answer=" a)
    ∙ omega (arith, line-length "result=" r, line-length "walks=" (decimal w), line-length "flips=" (decimal f), line-length "chosen=" c, line-length "answer=" a)
  where
    five : (v w x y z : List ℕ) → length (v ++ w ++ x ++ y ++ z) ≡ length v + length w + length x + length y + length z
    five v w x y z = simp length-append

-- the count and the answer of n terms take at most 10 n + 8 bytes
answer-room : (xs vs : List ℕ) (c : ℕ) → c ≤ length xs → length xs < 10 ^ 9 → length (decimal c) + length (answer xs vs) ≤ 10 * length xs + 8
answer-room [] vs c h l = let n = decimal-length 1 c (omega arith) (omega arith) in let m = answer-length [] vs in omega arith
answer-room (x ∷ xs) vs c h l = let n = decimal-length 9 c (omega arith) (omega arith) in let m = answer-length (x ∷ xs) vs in omega arith

-- whether found or given up
either_room : (b : Bool) (c a : List ℕ) (n : ℕ) → length c + length a ≤ 10 * n + 8
    → length (cond b (bytes "found") (bytes "gaveup")) + length (cond b c (bytes "0")) + length (cond b a (bytes "~?")) ≤ 10 * n + 13
either_room true c a n h = omega arith
either_room false c a n h = omega arith

-- a report of n terms takes at most 10 n + 64 bytes
pub report-length : (e : Outcome) → e.walks < 10 ^ 4 → e.last.flips < 10 ^ 9 → chosen e.last.state ≤ length e.last.state.file.names
    → length e.last.state.file.names < 10 ^ 9 → length (report e) ≤ 10 * length e.last.state.file.names + 64
unfolding report
report-length e w f c n =
    let names : List ℕ = e.last.state.file.names in
    let one : List ℕ = decimal (chosen e.last.state) in
    let all : List ℕ = answer names e.last.state.values in
    let room = either_room e.found one all (length names) (answer-room names e.last.state.values (chosen e.last.state) c n) in
    let size = values_length (cond e.found (bytes "found") (bytes "gaveup")) (cond e.found one (bytes "0")) (cond e.found all (bytes "~?")) e.walks e.last.flips in
    omega (arith, decimal-length 4 e.walks (omega arith) w, decimal-length 9 e.last.flips (omega arith) f)

-- ---- what is printed

-- the report of walks in range over a file within the limits
pub walked-length : (lim : Limits) (o : Order) (ms : List ℕ) (f : File) → Ranged o → length f.names ≤ lim.terms → lim.terms < 10 ^ 9
    → length (report (walk_over o ms f)) ≤ report_size lim
unfolding report_size
walked-length lim o ms f r few h =
    let same : length (walk_over o ms f).last.state.file.names ≡ length f.names = ap (λ (g : File). length g.names) (end-file o ms f) in
    let most : o.flips * o.walks ≤ flips_each.most * walks_all.most = mul-le-mul r.flips-most r.walks-most in
    let flips = flips-most o ms f in
    let walks = walks-most o ms f in
    let w = r.walks-most in
    let size = report-length (walk_over o ms f) (omega arith) (omega arith) (omega (arith, end-chosen o ms f)) (omega arith) in
    omega arith

-- a refusal whose line is among those of a text within the limits, or of the sheet
pub refusal-fits : (lim : Limits) (e : Fault) → lim.text + 1 < 10 ^ 20 → e.line ≤ lim.text + last_line → length (refusal e) ≤ report_size lim
unfolding report_size
refusal-fits lim e short h = let n = refusal-length e 21 (omega arith) (omega arith) in omega arith

-- nothing longer than its buffer is printed
module _ (lim : Limits) (few : lim.terms < 10 ^ 9) (short : lim.text + 1 < 10 ^ 20) where
  reading-fits : (o : Order) (t : List ℕ) → Ranged o → length t ≤ lim.text → (r : Reading) → read_text lim t ≡ r → length (said (after_reading o r)) ≤ report_size lim
  unfolding said_as after_reading
  reading-fits o t r h (accepted f) q = walked-length lim o [] f r (reading-proper lim t f q).few-terms few
  reading-fits o t r h (refused e) q = refusal-fits lim e short (let n = refusal-line-bound lim t e q in omega arith)

  sheet-fits : (input : List ℕ) → length input ≤ lim.text → (s : Result Sheet Fault) → Judged (length input) s → length (said (after_sheet_as Own lim input s)) ≤ report_size lim
  unfolding after_sheet_as said_as read_text
  sheet-fits input h (Ok s) j = reading-fits s.order (drop s.at input) (ranged s.order j.0) (omega (arith, length-drop s.at input)) _ refl
  sheet-fits input h (Err e) j = refusal-fits lim e short (omega (arith, j.1))

  pub printed-fits : (input : List ℕ) → length (printed lim input) ≤ report_size lim
  unfolding printed_as course_as said_as
  printed-fits input =
      by_cases (ltb lim.text (length input)) (λ q. rw q (refusal-fits lim (fault TextTooLong) short (omega arith)))
      (λ q. rw q (sheet-fits input (ltb-false lim.text (length input) q) (sheet_of input) (sheet-judged input)))
