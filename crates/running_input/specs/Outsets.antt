-- How a run sets out: "The program tests 2 on its whole input, then the sheet, then reads." Assumes nothing.
use Rattle.std.specs.Prelude.{ℕ, cond, List, length, ltb, Result, Ok, Err}
use Rattle.written.specs.declared.Sheet.{Sheet}
use Rattle.written.specs.declared.Fault.{Fault}
use Rattle.written.specs.declared.Reason.TheVariants.{TextTooLong}
use Rattle.written.specs.Limits.{Limits}
use Rattle.written.specs.Reasons.{fault}
use Rattle.written.specs.Sheet.{sheet_of}
use Rattle.running_input.specs.declared.Outset.{Outset}
use Rattle.running_input.specs.declared.Outset.TheVariants.{Long, Refused, Begins}

-- by what its sheet comes to
unfoldable pub by_sheet : Result Sheet Fault → Outset
by_sheet (Err e) = Refused e
by_sheet (Ok s) = Begins s

unfoldable pub outset_of : Limits → List ℕ → Outset
outset_of lim input = cond (ltb lim.text (length input)) (Long (fault TextTooLong)) (by_sheet (sheet_of input))
