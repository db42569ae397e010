-- `numbering::numbers` meets its contract: what is left of the numbers makes the whole reading. Assumes nothing.
use native.Mathlib.Omega.{arith}
use Rattle.written.specs.Limits.{narrow}
use Rattle.numbering.proofs.Loop.{begun-way, count-can, at_gap, met-low, counted-on}
use Rattle.numbering.proofs.numbers.Goals as goal

pub loop-q-init : goal.loop-q-init
loop-q-init c = begun-way narrow _ _ _ _ c.requires

pub number_at-m-requires : goal.number_at-m-requires
number_at-m-requires c = at_gap narrow _ _ _ _ c.requires _ _ _ c.loop-q.invariant (omega arith)

pub at_numeral-requires : goal.at_numeral-requires
at_numeral-requires c =
    let pre = c.requires in
    let u = c.loop-q.invariant in
    (count-can narrow _ _ _ _ pre _ _ _ u, omega (arith, met-low narrow _ _ _ _ pre _ _ _ u c.number_at-m.ensures, pre.short))

pub loop-q-smaller : goal.loop-q-smaller
loop-q-smaller c =
    let r = counted-on narrow _ _ _ _ c.requires _ _ _ c.loop-q.invariant _ _ c.number_at-m.ensures c.at_numeral.ensures in
    (rw c.in-On.is at r).1

pub loop-q-preserved : goal.loop-q-preserved
loop-q-preserved c =
    let k = c.at_numeral.auto in
    let r = counted-on narrow _ _ _ _ c.requires _ _ _ c.loop-q.invariant _ _ c.number_at-m.ensures c.at_numeral.ensures in
    (rw c.in-On.is at r).0 (record { starts-long = k.starts; literals-long = k.literals; stamps-long = k.stamps })

pub returns-in-Whole : goal.returns-in-Whole
returns-in-Whole c =
    rw c.in-Whole.is at (counted-on narrow _ _ _ _ c.requires _ _ _ c.loop-q.invariant _ _ c.number_at-m.ensures c.at_numeral.ensures)

pub returns-in-Refused : goal.returns-in-Refused
returns-in-Refused c =
    rw c.in-Refused.is at (counted-on narrow _ _ _ _ c.requires _ _ _ c.loop-q.invariant _ _ c.number_at-m.ensures c.at_numeral.ensures)
