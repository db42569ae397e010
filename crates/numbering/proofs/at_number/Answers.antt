-- `numbering::at_number` meets its contract: each way out by the law of its case. Assumes nothing.
use native.Mathlib.Omega.{arith}
use Rattle.written.specs.Limits.{narrow}
use Rattle.numbering.proofs.Passes.{above_counts, zero-counts, dropped-counts, literal-counts}
use Rattle.numbering.proofs.at_number.Goals as goal

pub returns-then-h-number : goal.returns-then-h-number
returns-then-h-number c =
    let pre = c.requires in
    above_counts narrow _ pre.0.small (omega arith) _ _ _ c.if-h-number.true c.fault_at.ensures

pub returns-then-number-eq0 : goal.returns-then-number-eq0
returns-then-number-eq0 c =
    let pre = c.requires in
    zero-counts narrow _ pre.0.small (omega arith) _ _ _ c.if-number-eq0.true c.at_zero.ensures

pub returns-then-g : goal.returns-then-g
returns-then-g c =
    let pre = c.requires in
    dropped-counts narrow _ pre.0.small (omega arith) _ _ _ c.if-h-number.false c.if-number-eq0.false c.if-g.true

pub returns : goal.returns
returns c =
    let pre = c.requires in
    literal-counts narrow _ pre.0.small (omega arith) _ _ _ c.if-h-number.false c.if-number-eq0.false
    c.if-g.false c.place-taken.ensures c.after_literal.ensures c.turned.ensures
