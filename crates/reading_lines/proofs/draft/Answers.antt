-- `reading_lines::draft` meets its contract: the loop goes on with a draft under way, and ends with the written reading. Assumes nothing.
use native.Mathlib.Omega.{arith}
use Rattle.written.specs.Limits.{narrow}
use Rattle.names.specs.Finding.{homes}
use Rattle.reading_lines.proofs.Loop.{begun, going, line_low, turned_on}
use Rattle.reading_lines.proofs.draft.Goals as goal

pub loop-q-init : goal.loop-q-init
loop-q-init c = begun homes narrow _ _ c.requires

pub at_token-requires : goal.at_token-requires
at_token-requires c =
    let u = c.loop-q.invariant in
    (going homes narrow _ _ _ _ _ u, rw c.next-s.ensures (omega (arith, line_low homes narrow _ _ _ _ _ u, c.requires.short)))

pub loop-q-smaller-in-Ok-Goes : goal.loop-q-smaller-in-Ok-Goes
loop-q-smaller-in-Ok-Goes c =
    let r = turned_on homes narrow _ _ _ _ _ c.loop-q.invariant _ _ _ c.next-s.ensures c.at_token.ensures in
    (rw (c.in-Ok-Goes.is, c.in-Ok-Goes.field-0-is) at r).1

pub loop-q-preserved-in-Ok-Goes : goal.loop-q-preserved-in-Ok-Goes
loop-q-preserved-in-Ok-Goes c =
    let k = c.at_token.auto in
    let r = turned_on homes narrow _ _ _ _ _ c.loop-q.invariant _ _ _ c.next-s.ensures c.at_token.ensures in
    (rw (c.in-Ok-Goes.is, c.in-Ok-Goes.field-0-is) at r).0
    (record { names-long = k.names; starts-long = k.starts; literals-long = k.literals; stamps-long = k.stamps; slots-long = k.slots })

pub loop-q-smaller : goal.loop-q-smaller
loop-q-smaller c =
    let r = turned_on homes narrow _ _ _ _ _ c.loop-q.invariant _ _ _ c.next-s.ensures c.at_token.ensures in
    rw c.over-c.ensures (rw (c.in-Ok-Drops.is, c.in-Ok-Drops.field-0-is) at r).1

pub loop-q-preserved : goal.loop-q-preserved
loop-q-preserved c =
    let k = c.at_token.auto in
    let r = turned_on homes narrow _ _ _ _ _ c.loop-q.invariant _ _ _ c.next-s.ensures c.at_token.ensures in
    rw c.over-c.ensures
    ((rw (c.in-Ok-Drops.is, c.in-Ok-Drops.field-0-is) at r).0
    (record { names-long = k.names; starts-long = k.starts; literals-long = k.literals; stamps-long = k.stamps; slots-long = k.slots }))

pub returns-in-Ok-Whole : goal.returns-in-Ok-Whole
returns-in-Ok-Whole c = rw (c.in-Ok-Whole.is, c.in-Ok-Whole.field-0-is) at (turned_on homes narrow _ _ _ _ _ c.loop-q.invariant _ _ _ c.next-s.ensures c.at_token.ensures)

pub returns-in-Err : goal.returns-in-Err
returns-in-Err c = rw c.in-Err.is at (turned_on homes narrow _ _ _ _ _ c.loop-q.invariant _ _ _ c.next-s.ensures c.at_token.ensures)
