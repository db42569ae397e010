-- How a run sets out decides its course. Assumes nothing.
use Prim.Native.Nat.{ℕ, ◌≤◌, ◌<◌}
use mathlib.Core.Path.{◌≡◌, refl, ap, sym, ◌∙◌}
use mathlib.Core.Bool.{true, false}
use mathlib.Core.List.{List}
use native.Mathlib.Omega.{arith}
use lib.Dec.{ltb}
use lib.ListN.{length, drop}
use borrow.Author.Tests.{lt-ltb, le-ltb}
use Rattle.std.specs.Prelude.{Result, Ok, Err}
use Rattle.written.specs.declared.Sheet.{Sheet}
use Rattle.written.specs.declared.Fault.{Fault}
use Rattle.written.specs.declared.Form.{Form}
use Rattle.written.specs.declared.Reason.TheVariants.{TextTooLong}
use Rattle.written.specs.Limits.{Limits}
use Rattle.written.specs.Orders.{in_range}
use Rattle.written.specs.Numbered.{read_as}
use Rattle.written.specs.Reasons.{fault}
use Rattle.written.specs.Sheet.{sheet_of}
use Rattle.written.specs.Program.{unbegun, unread, after_reading, after_sheet_as, course_as}
use Rattle.laws.specs.Sheets.{last_line}
use Rattle.laws.proofs.Basics.{by_cases}
use Rattle.laws.proofs.Sheets.{Judged, sheet-judged}
use Rattle.running_input.specs.declared.Outset.{Outset}
use Rattle.running_input.specs.declared.Outset.TheVariants.{Long, Refused, Begins}
use Rattle.running_input.specs.Outsets.{by_sheet, outset_of}

module _ (lim : Limits) (input : List ℕ) where
  -- ---- what the code tells is the outset

  pub too_long : lim.text < length input → Long (fault TextTooLong) ≡ outset_of lim input
  unfolding outset_of
  too_long long = rw (lt-ltb lim.text (length input) long) refl

  pub by-sheet : length input ≤ lim.text → {a : Result Sheet Fault} (s : Result Sheet Fault) → a ≡ sheet_of input → a ≡ s → by_sheet s ≡ outset_of lim input
  unfolding outset_of
  by-sheet short s answer told = rw (le-ltb lim.text (length input) short) (ap by_sheet (sym told ∙ answer))

-- ---- and decides

module _ (form : Form) (lim : Limits) (input : List ℕ) where
  -- what is known of a run that sets out so
  abbrev pub Says : Outset → Type 0
  Says (Long e) = (course_as form lim input ≡ unread e) × (e.line ≤ last_line)
  Says (Refused e) = (course_as form lim input ≡ unbegun (Err e)) × (e.line ≤ last_line)
  Says (Begins s) =
      (course_as form lim input ≡ after_reading s.order (read_as form lim (drop s.at input))) × (in_range s.order ≡ true) × (s.at ≤ length input)

  sheet-says : ltb lim.text (length input) ≡ false → (a : Result Sheet Fault) → sheet_of input ≡ a → Judged (length input) a → Says (by_sheet a)
  unfolding course_as after_sheet_as by_sheet
  sheet-says short (Err e) told known = (rw (short, told) refl, known.1)
  sheet-says short (Ok s) told known = (rw (short, told) refl, known.0, known.1)

  long-course : ltb lim.text (length input) ≡ true → course_as form lim input ≡ unread (fault TextTooLong)
  unfolding course_as
  long-course long = rw long refl

  pub outset-says : Says (outset_of lim input)
  unfolding outset_of
  outset-says =
      by_cases (ltb lim.text (length input)) (λ long. rw long (long-course long, omega arith))
      (λ short. rw short (sheet-says short (sheet_of input) refl (sheet-judged input)))
