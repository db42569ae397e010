-- `running_sheet::line` meets its contract: each way out by the tests that lead there. Assumes nothing.
use Rattle.running_sheet.proofs.Lines.{formed-by, line_open, key_differs, key-cut, no_number, too_low, too_high, line_taken}
use mathlib.Core.Path.{sym, ◌∙◌}
use Rattle.running_sheet.proofs.line.Goals as goal

pub returns-then-rest-end : goal.returns-then-rest-end
returns-then-rest-end c = rw c.fault.ensures (line_open _ _ _ _ c.line_end-end.ensures _ c.if-rest-end.true)

pub returns-then-not-begins : goal.returns-then-not-begins
returns-then-not-begins c = rw c.fault-then-not-begins.ensures (key_differs _ _ _ _ c.line_end-end.ensures _ (sym c.begins.ensures ∙ c.if-not-begins.true))

pub returns-then-end-from : goal.returns-then-end-from
returns-then-end-from c = rw c.fault-then-end-from.ensures (key-cut _ _ _ _ c.line_end-end.ensures _ c.if-end-from.true)

pub returns-then-not-is_number : goal.returns-then-not-is_number
returns-then-not-is_number c = rw c.fault-then-not-is_number.ensures (no_number _ _ _ _ c.line_end-end.ensures _ (sym c.is_number.ensures ∙ c.if-not-is_number.true))

pub returns-then-n-least : goal.returns-then-n-least
returns-then-n-least c = rw c.fault-then-n-least.ensures (too_low _ _ _ _ c.line_end-end.ensures _ _ _ (formed-by c.args.i _ _ _ c.line_end-end.ensures c.if-rest-end.false (sym c.begins.ensures ∙ c.if-not-begins.false) (sym c.is_number.ensures ∙ c.if-not-is_number.false)) c.value-n.ensures c.if-n-least.true)

pub returns-then-most-n : goal.returns-then-most-n
returns-then-most-n c = rw c.fault-then-most-n.ensures (too_high _ _ _ _ c.line_end-end.ensures _ _ _ (formed-by c.args.i _ _ _ c.line_end-end.ensures c.if-rest-end.false (sym c.begins.ensures ∙ c.if-not-begins.false) (sym c.is_number.ensures ∙ c.if-not-is_number.false)) c.value-n.ensures c.if-n-least.false c.if-most-n.true)

pub returns : goal.returns
returns c = line_taken _ _ _ _ c.line_end-end.ensures _ _ _ (formed-by c.args.i _ _ _ c.line_end-end.ensures c.if-rest-end.false (sym c.begins.ensures ∙ c.if-not-begins.false) (sym c.is_number.ensures ∙ c.if-not-is_number.false)) c.value-n.ensures c.if-n-least.false c.if-most-n.false
