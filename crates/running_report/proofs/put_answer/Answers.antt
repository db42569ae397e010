-- `running_report::put_answer` meets its contract: the terms that are left make the answer. Assumes nothing.
use mathlib.Core.Path.{refl, ◌∙◌}
use mathlib.Core.List.{[]}
use Rattle.pages.proofs.Pieces.{begun, first_fits, onward, split, over, ended}
use Rattle.running_report.proofs.Named.{terms-over, terms-more, answer-none, answer-more}
use Rattle.running_report.proofs.put_answer.Goals as goal

pub returns-then-terms-eq0-clause-bytes : goal.returns-then-terms-eq0-clause-bytes
returns-then-terms-eq0-clause-bytes c = over (answer-none _ _ _ c.if-terms-eq0.true) (begun _ [] _ c.requires.fits)

pub put_term-requires : goal.put_term-requires
put_term-requires c = first_fits (split _ _ (answer-more _ _ _ _ c.requires.named c.if-terms-eq0.false c.value.ensures) (begun _ [] _ c.requires.fits))

pub loop-t-init : goal.loop-t-init
loop-t-init c =
    let left = split _ _ (answer-more _ _ _ _ c.requires.named c.if-terms-eq0.false c.value.ensures) (begun _ [] _ c.requires.fits) in
    (begun _ [] _ (first_fits (onward left c.put_term.ensures.bytes)), refl)

pub put_byte-requires : goal.put_byte-requires
put_byte-requires c = first_fits (split _ _ (terms-more _ _ _ _ _ c.requires.named c.loop-t-test.true refl) c.loop-t.invariant.0)

pub put_term-requires-in-loop-t : goal.put_term-requires-in-loop-t
put_term-requires-in-loop-t c =
    let left = split _ _ (terms-more _ _ _ _ _ c.requires.named c.loop-t-test.true c.value-in-loop-t.ensures) c.loop-t.invariant.0 in
    first_fits (split _ _ refl (onward left c.put_byte.ensures.bytes))

pub loop-t-preserved : goal.loop-t-preserved
loop-t-preserved c =
    let left = split _ _ (terms-more _ _ _ _ _ c.requires.named c.loop-t-test.true c.value-in-loop-t.ensures) c.loop-t.invariant.0 in (
      onward (split _ _ refl (onward left c.put_byte.ensures.bytes)) c.put_term-in-loop-t.ensures.bytes,
      c.put_term-in-loop-t.ensures.same_buffer ∙ c.put_byte.ensures.same_buffer ∙ c.loop-t.invariant.1,
    )

pub returns-clause-bytes : goal.returns-clause-bytes
returns-clause-bytes c =
    let left = split _ _ (answer-more _ _ _ _ c.requires.named c.if-terms-eq0.false c.value.ensures) (begun _ [] _ c.requires.fits) in
    ended (onward (onward left c.put_term.ensures.bytes) (over (terms-over _ _ _ _ c.loop-t-test.false) c.loop-t.invariant.0))
