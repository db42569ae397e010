-- `agreeing_file::clauses_hold` meets its contract: the occurrences are tested where the file is right. Assumes nothing.
use mathlib.Core.Path.{sym, ◌∙◌}
use native.Mathlib.Omega.{arith}
use Rattle.written.specs.Limits.{narrow}
use Rattle.machine.specs.Judging.{file_right}
use Rattle.agreeing_file.proofs.Rooms.{can_match}
use Rattle.agreeing_file.proofs.clauses_hold.Goals as goal

pub occurrences_agree-requires : goal.occurrences_agree-requires
unfolding file_right
occurrences_agree-requires c =
    let p = c.requires in
    can_match narrow _ p.0 _ _ _ p.2 p.3 (sym c.file_agrees.ensures ∙ c.if-file_agrees.true) _ _ p.4 p.5 65536 (omega arith) (omega arith)

pub returns-then-file_agrees : goal.returns-then-file_agrees
unfolding file_right
returns-then-file_agrees c = rw (← c.file_agrees.ensures, c.if-file_agrees.true) c.occurrences_agree.ensures

pub returns-else-file_agrees : goal.returns-else-file_agrees
unfolding file_right
returns-else-file_agrees c = rw (← c.file_agrees.ensures, c.if-file_agrees.false)
