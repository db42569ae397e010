-- `flipping_lists::verdict` meets its contract: each way out has the tests that lead there. Assumes nothing.
use mathlib.Core.Path.{ap}
use mathlib.Core.Bool.{not}
use Rattle.written.specs.Limits.{narrow}
use Rattle.flipping_lists.proofs.Laws.{tests-short, tests-long, tests-disagree, tests-last}
use Rattle.flipping_lists.proofs.verdict.Goals as goal

pub returns-then-not-all_full : goal.returns-then-not-all_full
returns-then-not-all_full c = tests-short narrow _ _ _ _ c.all_full.ensures (ap not c.if-not-all_full.true)

pub returns-then-list-gt65536 : goal.returns-then-list-gt65536
returns-then-list-gt65536 c = tests-long narrow _ _ _ _ c.all_full.ensures (ap not c.if-not-all_full.false) c.if-list-gt65536.true

pub returns-then-not-agrees : goal.returns-then-not-agrees
returns-then-not-agrees c =
    tests-disagree narrow _ _ _ _ c.all_full.ensures (ap not c.if-not-all_full.false) c.if-list-gt65536.false
    c.agrees.ensures (ap not c.if-not-agrees.true)

pub returns : goal.returns
returns c =
    tests-last narrow _ _ _ _ c.all_full.ensures (ap not c.if-not-all_full.false) c.if-list-gt65536.false
    c.agrees.ensures (ap not c.if-not-agrees.false) c.terms_verdict.ensures
