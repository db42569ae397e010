-- `running_alone::run_read` meets its contract: what was read is run if it is the whole input, or more than one may have. Assumes nothing.
use mathlib.Core.Path.{ap, ◌∙◌}
use mir.Facts.{to_z-of_z}
use Rattle.written.specs.Limits.{narrow}
use Rattle.running_alone.specs.Seeing.{end_told}
use Rattle.running_alone.proofs.Alone.{not-to_its_end}
use Rattle.running_alone.proofs.run_read.Goals as goal

pub returns : goal.returns
returns c =
    let given = c.args in
    not-to_its_end given.form narrow given.read given.last given.buffer.now _ c.if-read-gt65536.false
    (c.is_end.ensures ∙ ap end_told (to_z-of_z c.ranges.last)) c.if-is_end.false
