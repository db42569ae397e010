-- A run by the form of its text: the tests in their order, every course that can be gone, and a table or the buffer too short. Assumes nothing.
use Prim.Native.Nat.{ℕ, ◌≤◌, ◌<◌}
use mathlib.Core.Logic.{◌⊎◌, inl, inr}
use mathlib.Core.Path.{◌≡◌, refl, ap, sym, ◌∙◌}
use mathlib.Core.Bool.{true, false}
use mathlib.Core.List.{List, []}
use native.Mathlib.Omega.{arith}
use lib.ListN.{length}
use borrow.Author.Tests.{lt-ltb, le-ltb}
use Rattle.std.specs.Prelude.{Result, Ok, Err}
use Rattle.written.specs.declared.Form.{Form}
use Rattle.written.specs.declared.Form.TheVariants.{Own, Numbered}
use Rattle.written.specs.declared.Sheet.{Sheet}
use Rattle.written.specs.declared.Fault.{Fault}
use Rattle.written.specs.declared.Reason.TheVariants.{TextTooLong}
use Rattle.written.specs.Limits.{Limits}
use Rattle.written.specs.Reasons.{fault}
use Rattle.written.specs.Clauses.{File}
use Rattle.written.specs.Reading.{Reading, accepted, refused, read_text}
use Rattle.written.specs.Numbered.{read_numbered, read_as}
use Rattle.written.specs.Walk.{walk_over}
use Rattle.written.specs.Sheet.{sheet_of}
use Rattle.written.specs.Tables.{Tables}
use Rattle.written.specs.Marks.{full_marked}
use Rattle.written.specs.Program.{Course, unbegun, unread, walked, after_reading, after_sheet_as, course_as, report_size, run_refused, ran_as, run_as}
use Rattle.laws.specs.RunCalls.{Begun, text_after}
use Rattle.laws.proofs.Basics.{by_cases, by-lt}
use Rattle.laws.proofs.Faults.{refusal-line-bound}
use Rattle.laws.proofs.NumberedFaults.{numbered-line-bound}

-- the line of a refused text is at most the number of its bytes, whatever its form
pub form-line-bound : (form : Form) (lim : Limits) (t : List ℕ) (e : Fault) → read_as form lim t ≡ refused e → e.line ≤ length t
unfolding read_text read_numbered
form-line-bound Own lim t e q = refusal-line-bound lim t e q
form-line-bound Numbered lim t e q = numbered-line-bound lim t e q

-- a text past the limit is refused without a line, so no line is past the limit
pub form-line-most : (form : Form) (lim : Limits) (t : List ℕ) (e : Fault) → read_as form lim t ≡ refused e → e.line ≤ lim.text
form-line-most form lim t e q =
    by-lt lim.text (length t) (λ l. omega (arith, ap line_in (sym q ∙ long l))) (λ s. omega (arith, form-line-bound form lim t e q))
  where
    line_in : Reading → ℕ
    line_in (accepted f) = 0
    line_in (refused d) = d.line

    long : lim.text < length t → read_as form lim t ≡ refused (fault TextTooLong)
    long l = rw (lt-ltb lim.text (length t) l) refl

-- ---- the tests in their order

module _ (form : Form) (lim : Limits) (input : List ℕ) where
  pub long_as : lim.text < length input → course_as form lim input ≡ unread (fault TextTooLong)
  unfolding course_as
  long_as l = rw (lt-ltb lim.text (length input) l) refl

  pub sheet_as : (e : Fault) → length input ≤ lim.text → sheet_of input ≡ Err e → course_as form lim input ≡ unbegun (Err e)
  unfolding course_as after_sheet_as
  sheet_as e h q = rw (le-ltb lim.text (length input) h, q) refl

  begun_as : (s : Sheet) → Begun lim input s → course_as form lim input ≡ after_reading s.order (read_as form lim (text_after s input))
  unfolding course_as after_sheet_as
  begun_as s b = rw (le-ltb lim.text (length input) b.short, b.sheet) refl

  pub text_as : (s : Sheet) (e : Fault) → Begun lim input s → read_as form lim (text_after s input) ≡ refused e → course_as form lim input ≡ unread e
  unfolding after_reading
  text_as s e b q = begun_as s b ∙ ap (after_reading s.order) q

  pub walk_as : (s : Sheet) (f : File) → Begun lim input s → read_as form lim (text_after s input) ≡ accepted f
      → course_as form lim input ≡ walked (walk_over s.order [] f)
  unfolding after_reading
  walk_as s f b q = begun_as s b ∙ ap (after_reading s.order) q

  -- what holds of each course that can be gone
  module _ (P : Course → Type 0) (long : lim.text < length input → P (unread (fault TextTooLong)))
      (sheet : (e : Fault) → length input ≤ lim.text → sheet_of input ≡ Err e → P (unbegun (Err e)))
      (text : (s : Sheet) (e : Fault) → Begun lim input s → read_as form lim (text_after s input) ≡ refused e → P (unread e))
      (walk : (s : Sheet) (f : File) → Begun lim input s → read_as form lim (text_after s input) ≡ accepted f → P (walked (walk_over s.order [] f))) where
    by-reading : (s : Sheet) (r : Reading) → Begun lim input s → read_as form lim (text_after s input) ≡ r → P (course_as form lim input)
    by-reading s (accepted f) b q = rw (walk_as s f b q) (walk s f b q)
    by-reading s (refused e) b q = rw (text_as s e b q) (text s e b q)

    by-sheet : (o : Result Sheet Fault) → length input ≤ lim.text → sheet_of input ≡ o → P (course_as form lim input)
    by-sheet (Ok s) h q = by-reading s _ (record { short = h; sheet = q }) refl
    by-sheet (Err e) h q = rw (sheet_as e h q) (sheet e h q)

    pub by_form : P (course_as form lim input)
    by_form = by-lt lim.text (length input) (λ l. rw (long_as l) (long l)) (λ h. by-sheet _ h refl)

-- ---- with a table or the buffer shorter than its full size, and with neither

module _ (form : Form) (lim : Limits) (input : List ℕ) (t : Tables) (ms b : List ℕ) where
  short-table : full_marked lim t ms ≡ false → run_as form lim input t ms b ≡ record { answer = run_refused; tables = t; marks = ms; buffer = b }
  unfolding run_as
  short-table h = rw h refl

  short-buffer : length b < report_size lim → run_as form lim input t ms b ≡ record { answer = run_refused; tables = t; marks = ms; buffer = b }
  unfolding run_as
  short-buffer h = by_cases (full_marked lim t ms) (λ full. rw (full, lt-ltb (length b) (report_size lim) h) refl) (λ short. rw short refl)

  -- nothing is printed, and all is as it was
  pub form-short : (full_marked lim t ms ≡ false) ⊎ (length b < report_size lim) → run_as form lim input t ms b ≡ record { answer = run_refused; tables = t; marks = ms; buffer = b }
  form-short (inl h) = short-table h
  form-short (inr h) = short-buffer h

  pub form-ran : full_marked lim t ms ≡ true → report_size lim ≤ length b → run_as form lim input t ms b ≡ ran_as form lim t ms b (course_as form lim input)
  unfolding run_as
  form-ran full room = rw (full, le-ltb (length b) (report_size lim) room) refl
