-- `pins::verdict` meets its contract: each way out has the tests that lead there. Assumes nothing.
use mathlib.Core.Path.{ap}
use mathlib.Core.Bool.{not}
use Rattle.written.specs.Limits.{narrow}
use Rattle.pins.proofs.Laws.{tests-short, tests-disagree, tests-unknown, tests-passed}
use Rattle.pins.proofs.verdict.Goals as goal

pub returns-then-not-all_full : goal.returns-then-not-all_full
returns-then-not-all_full c = tests-short narrow _ _ _ _ c.all_full.ensures (ap not c.if-not-all_full.true)

pub returns-then-not-agrees : goal.returns-then-not-agrees
returns-then-not-agrees c = tests-disagree narrow _ _ _ _ c.all_full.ensures (ap not c.if-not-all_full.false) c.agrees.ensures (ap not c.if-not-agrees.true)

pub returns-then-term-n : goal.returns-then-term-n
returns-then-term-n c =
    tests-unknown narrow _ _ _ _ c.all_full.ensures (ap not c.if-not-all_full.false) c.agrees.ensures (ap not c.if-not-agrees.false) c.if-term-n.true

pub returns : goal.returns
returns c =
    tests-passed narrow _ _ _ _ c.all_full.ensures (ap not c.if-not-all_full.false) c.agrees.ensures (ap not c.if-not-agrees.false) c.if-term-n.false
