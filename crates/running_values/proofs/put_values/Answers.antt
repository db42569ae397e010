-- `running_values::put_values` meets its contract: the lines that are left make the whole. Assumes nothing.
use mathlib.Core.Path.{refl, ◌∙◌}
use native.Mathlib.Omega.{arith}
use Rattle.pages.proofs.Pieces.{first_fits, onward, split, ended}
use Rattle.running_values.proofs.Valued.{lines-over, lines_more}
use Rattle.running_values.proofs.Lines.{none_left, lines_left}
use Rattle.running_values.proofs.put_values.Goals as goal

pub loop-i-init : goal.loop-i-init
loop-i-init c = (lines_left _ c.args.terms c.args.values.now c.requires, refl)

pub put_line_of-requires : goal.put_line_of-requires
put_line_of-requires c = first_fits (split _ _ (lines_more _ _ _ _ (omega (arith, c.loop-i-test.true)) c.line_end.ensures) c.loop-i.invariant.0)

pub loop-i-preserved : goal.loop-i-preserved
loop-i-preserved c = (
  onward (split _ _ (lines_more _ _ _ _ (omega (arith, c.loop-i-test.true)) c.line_end.ensures) c.loop-i.invariant.0) c.put_line_of.ensures.bytes,
  c.put_line_of.ensures.same_buffer ∙ c.loop-i.invariant.1,
)

pub put_all-requires : goal.put_all-requires
put_all-requires c = first_fits (none_left (lines-over _ _ _ (omega (arith, c.loop-i-test.false))) c.loop-i.invariant.0)

pub returns-clause-bytes : goal.returns-clause-bytes
returns-clause-bytes c = ended (onward (none_left (lines-over _ _ _ (omega (arith, c.loop-i-test.false))) c.loop-i.invariant.0) c.put_all.ensures.bytes)
