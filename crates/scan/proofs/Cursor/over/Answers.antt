-- `scan::Cursor::over` meets its contract: the line's end is passed, or the text's end is there. Assumes nothing.
use Rattle.scan.proofs.Over.{at-text-end, at-line-end}
use Rattle.scan.proofs.Cursor.over.Goals as goal

pub returns-then-text-end : goal.returns-then-text-end
returns-then-text-end c = at-text-end _ _ c.skip-end.ensures c.if-text-end.true

pub returns : goal.returns
returns c = at-line-end _ _ c.skip-end.ensures c.if-text-end.false c.following-line.ensures
