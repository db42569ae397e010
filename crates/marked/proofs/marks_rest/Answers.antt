-- `marked::marks_rest` meets its contract: the part lent is the rest. Assumes nothing.
use Rattle.written.specs.Limits.{narrow}
use Rattle.marked.proofs.MarksTested.{marks-rest-is}
use Rattle.marked.proofs.marks_rest.Goals as goal

pub returns : goal.returns
returns c = marks-rest-is narrow _ _ c.no_marks.ensures
