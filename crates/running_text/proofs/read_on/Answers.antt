-- `running_text::read_on` meets its contract: a refusal is printed; an accepted text is walked over. Assumes nothing.
use native.Mathlib.Omega.{arith}
use Rattle.written.specs.Limits.{narrow}
use Rattle.written.specs.Numbered.{read_as}
use Rattle.laws.proofs.Marks.{full-tables}
use Rattle.laws.proofs.NumberedReadings.{form-sound}
use Rattle.laws.proofs.Forms.{form-line-most}
use Rattle.running_text.proofs.Readings.{refused-fits, refused-ends, accepted-walks, accepted-ends}
use Rattle.running_text.proofs.read_on.Goals as goal

pub read_full-requires : goal.read_full-requires
read_full-requires c = full-tables narrow _ _ c.requires.run.full

pub refusal-requires : goal.refusal-requires
refusal-requires c =
    refused-fits c.args.form narrow _ (read_as c.args.form narrow c.args.text.now) _ _ _ c.requires c.read_full.ensures _ c.in-Err.is (omega arith) (form-line-most c.args.form narrow c.args.text.now)

pub walk_on-requires : goal.walk_on-requires
walk_on-requires c =
    accepted-walks c.args.form narrow _ (read_as c.args.form narrow c.args.text.now) _ _ _ c.requires c.read_full.ensures (form-sound narrow (omega arith) c.args.form c.args.text.now) _ c.in-Ok.is

pub returns-in-Err : goal.returns-in-Err
returns-in-Err c =
    refused-ends c.args.form narrow _ (read_as c.args.form narrow c.args.text.now) _ _ _ c.requires c.read_full.ensures _ c.in-Err.is c.refusal.ensures

pub returns-in-Ok : goal.returns-in-Ok
returns-in-Ok c =
    accepted-ends c.args.form narrow _ (read_as c.args.form narrow c.args.text.now) _ _ _ c.requires c.read_full.ensures (form-sound narrow (omega arith) c.args.form c.args.text.now) _ c.in-Ok.is c.walk_on.ensures
