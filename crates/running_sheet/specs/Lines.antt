-- What one line of an order sheet comes to. Assumes nothing.
use Rattle.std.specs.Prelude.{ℕ, suc, not, cond, List, Result, Ok, Err}
use Rattle.written.specs.declared.Fault.{Fault}
use Rattle.written.specs.declared.Reason.TheVariants.{SheetForm, OutOfRange}
use Rattle.written.specs.Reasons.{fault_at}
use Rattle.written.specs.Orders.{Range, within}
use Rattle.written.specs.Sheet.{has_form, number_after, line_length}
use Rattle.running_sheet.specs.declared.Entry.{Entry}

abbrev pub range : ℕ → ℕ → Range
range a b = record { least = a; most = b }

-- line i of the sheet, the first of the rest, under its key: its form, then its range
unfoldable pub line_of : ℕ → List ℕ → Range → List ℕ → Result Entry Fault
line_of i key r rest =
    cond (not (has_form key rest)) (Err (fault_at i SheetForm))
    (cond (not (within r (number_after key rest))) (Err (fault_at i OutOfRange))
    (Ok (record { number = number_after key rest; size = suc (line_length rest) })))
