-- `walking_steps::hold_all` meets its contract: the terms passed have the values of their marks. Assumes nothing.
use Rattle.walking_steps.proofs.Held.{hold-begun, hold-more}
use Rattle.walking_steps.proofs.hold_all.Goals as goal

pub loop-t-init : goal.loop-t-init
loop-t-init c = search hold-begun

pub loop-t-preserved : goal.loop-t-preserved
loop-t-preserved c = search hold-more
