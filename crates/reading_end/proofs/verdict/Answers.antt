-- `reading_end::verdict` meets its contract: each way out has the tests that lead there. Assumes nothing.
use Rattle.written.specs.Limits.{narrow}
use Rattle.reading_end.proofs.Tests.{tests-long, tests_open, tests-passed}
use Rattle.reading_end.proofs.verdict.Goals as goal

pub returns-then-text-gt65536 : goal.returns-then-text-gt65536
returns-then-text-gt65536 c = tests-long narrow _ c.if-text-gt65536.true

pub returns-then-cut_off : goal.returns-then-cut_off
returns-then-cut_off c = tests_open narrow _ c.if-text-gt65536.false c.cut_off.ensures c.if-cut_off.true

pub returns : goal.returns
returns c = tests-passed narrow _ c.if-text-gt65536.false c.cut_off.ensures c.if-cut_off.false
