use native.Mathlib.Omega.{arith}
use lib.ListN.{length-set}
use Rattle.written.specs.Limits.{narrow}
use Rattle.names.specs.Finding.{homes}
use Rattle.machine.proofs.Slots.{differ-fails, next_known}
use Rattle.agreeing_file.proofs.names_new.Goals as goal

pub returns-in-Ok : goal.returns-in-Ok
returns-in-Ok c =
    differ-fails _ _ c.loop-i-test.true c.in-Ok.ensures.0

pub loop-i-preserved : goal.loop-i-preserved
loop-i-preserved c =
    let inv = c.loop-i.invariant in
    let l = c.loop-i-test.true in
    let few = c.requires.0 in
    let told = c.in-Err.ensures in
    (omega arith, simp length-set inv.1, next_known homes narrow.terms _ _ _ _ l few inv.2 told.0 told.1)
