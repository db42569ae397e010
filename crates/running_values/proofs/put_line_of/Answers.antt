-- `running_values::put_line_of` meets its contract: the numbers that are left make the line. Assumes nothing.
use mathlib.Core.Path.{refl, ◌∙◌}
use Rattle.pages.proofs.Pieces.{first_fits, onward, split, ended}
use Rattle.running_values.proofs.Valued.{values-over, values-more}
use Rattle.running_values.proofs.Lines.{none_left, from-here, line-left}
use Rattle.running_values.proofs.put_line_of.Goals as goal

pub put_byte-requires : goal.put_byte-requires
put_byte-requires c = first_fits (line-left _ _ _ _ c.requires)

pub loop-t-init : goal.loop-t-init
loop-t-init c = (from-here (onward (line-left _ _ _ _ c.requires) c.put_byte.ensures.bytes), refl)

pub put_byte-requires-in-loop-t : goal.put_byte-requires-in-loop-t
put_byte-requires-in-loop-t c = first_fits (split _ _ (values-more _ _ _ _ c.loop-t-test.true refl) c.loop-t.invariant.0)

pub put_signed-requires : goal.put_signed-requires
put_signed-requires c =
    let left = split _ _ (values-more _ _ _ _ c.loop-t-test.true c.value.ensures) c.loop-t.invariant.0 in
    first_fits (split _ _ refl (onward left c.put_byte-in-loop-t.ensures.bytes))

pub loop-t-preserved : goal.loop-t-preserved
loop-t-preserved c =
    let left = split _ _ (values-more _ _ _ _ c.loop-t-test.true c.value.ensures) c.loop-t.invariant.0 in (
      onward (split _ _ refl (onward left c.put_byte-in-loop-t.ensures.bytes)) c.put_signed.ensures.bytes,
      c.put_signed.ensures.same_buffer ∙ c.put_byte-in-loop-t.ensures.same_buffer ∙ c.loop-t.invariant.1,
    )

pub put_byte-requires-2 : goal.put_byte-requires-2
put_byte-requires-2 c = first_fits (none_left (values-over _ _ _ c.loop-t-test.false) c.loop-t.invariant.0)

pub returns-clause-bytes : goal.returns-clause-bytes
returns-clause-bytes c =
    ended (onward (none_left (values-over _ _ _ c.loop-t-test.false) c.loop-t.invariant.0) c.put_byte-2.ensures.bytes)
    ∙ (onward (line-left _ _ _ _ c.requires) c.put_byte.ensures.bytes).rest
