-- `walking_steps::onwards` meets its contract: what is left of the walk makes the whole. Assumes nothing.
use mathlib.Core.Path.{◌∙◌}
use native.Mathlib.Omega.{arith}
use Rattle.machine.specs.Tallies.{SameSizes}
use Rattle.machine.proofs.Sizes.{sizes_trans}
use Rattle.walking_steps.proofs.Loop.{found, next-can, stuck, one-made, again, ended}
use Rattle.walking_steps.proofs.onwards.Goals as goal

pub returns-then-at-eq0 : goal.returns-then-at-eq0
returns-then-at-eq0 c = found _ _ _ _ _ _ _ _ c.loop-at.invariant.0 c.if-at-eq0.true

pub step-at-requires : goal.step-at-requires
step-at-requires c =
    let i = c.loop-at.invariant in
    next-can _ _ _ _ _ _ _ _ i.0 (rw i.3 at c.loop-at-test.true) c.if-at-eq0.false

pub returns-then-at-made : goal.returns-then-at-made
returns-then-at-made c =
    let i = c.loop-at.invariant in
    stuck _ _ _ _ _ _ _ _ i.0 (rw i.3 at c.loop-at-test.true) c.if-at-eq0.false c.step-at.ensures c.if-at-made.true

pub loop-at-smaller : goal.loop-at-smaller
loop-at-smaller c =
    let i = c.loop-at.invariant in
    let before = c.loop-at-test.true in
    omega (arith, one-made _ _ _ _ _ _ _ _ i.0 (rw i.3 at before) c.if-at-eq0.false c.step-at.ensures c.if-at-made.false, i.3, before)

pub loop-at-preserved : goal.loop-at-preserved
loop-at-preserved c =
    let i = c.loop-at.invariant in
    let k = c.step-at.auto in
    let t : SameSizes _ _ = record { trues-size = k.trues; breaks-size = k.breaks; list-size = k.list; places-size = k.places } in (
      again _ _ _ _ _ _ _ _ i.0 (rw i.3 at c.loop-at-test.true) c.if-at-eq0.false c.step-at.ensures c.if-at-made.false,
      sizes_trans t i.1,
      k.values ∙ i.2,
      i.3,
    )

pub returns : goal.returns
returns c = let i = c.loop-at.invariant in ended _ _ _ _ _ _ _ _ i.0 (rw i.3 at c.loop-at-test.false)
