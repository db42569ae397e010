-- `numbering::at_numeral` meets its contract: a number, what is none, or the text's end. Assumes nothing.
use native.Mathlib.Omega.{arith}
use Rattle.written.specs.Limits.{narrow}
use Rattle.numbering.proofs.Passes.{bad-counts, end-counts}
use Rattle.numbering.proofs.at_numeral.Goals as goal

pub returns-in-Bad : goal.returns-in-Bad
returns-in-Bad c =
    let pre = c.requires in
    rw c.in-Bad.is (bad-counts narrow _ pre.0.small (omega arith) _ _ _ c.fault_at.ensures)

pub returns-in-End : goal.returns-in-End
returns-in-End c =
    let pre = c.requires in
    rw c.in-End.is (end-counts narrow _ pre.0.small (omega arith) _ _ c.at_numbers_end.ensures)
