use mathlib.Core.Path.{sym, ◌∙◌}
use native.Mathlib.Omega.{arith}
use Rattle.written.specs.Limits.{narrow}
use Rattle.laws.proofs.Tests.{not-both}
use Rattle.machine.proofs.File.{counts-fit, names-room, starts-room}
use Rattle.agreeing_file.proofs.Rooms.{can-mark}
use Rattle.agreeing_file.proofs.file_agrees.Goals as goal
use Rattle.agreeing_file.proofs.file_agrees.Goals.{then-names_agree, else-names_agree}

pub names_agree-requires : goal.names_agree-requires
names_agree-requires c = let p = c.requires in ((counts-fit narrow _ p.0).terms, names-room narrow _ p.0 _ p.1)

pub starts_agree-requires : goal.starts_agree-requires
starts_agree-requires c = let p = c.requires in starts-room narrow _ p.0 _ p.2

pub literals_agree-requires : goal.literals_agree-requires
literals_agree-requires c =
    let p = c.requires in
    elim c.if-names_agree.branch [
      | then-names_agree w ↦ can-mark narrow _ p.0 65536 (omega arith) _ _ p.2 p.3 (sym w.starts_agree.ensures ∙ (sym w.value-is ∙ c.if-starts_agree.true))
      | else-names_agree w ↦ not-both c.if-starts_agree.true (w.value-is ∙ w.if-names_agree.false)
    ]
