-- `pages::Page::put_name` meets its contract: the bytes that are left make the name. Assumes nothing.
use Prim.Native.Nat.{◌+◌, ◌-◌}
use mathlib.Core.Path.{◌≡◌, refl, ◌∙◌}
use mathlib.Core.List.{[]}
use native.Mathlib.Omega.{arith}
use Rattle.pages.proofs.Pieces.{begun, first_fits, onward, split, over}
use Rattle.pages.proofs.Spelt.{name-none, name-over, name-more}
use Rattle.pages.proofs.Page.put_name.Goals as goal

pub loop-init : goal.loop-init
loop-init c = (begun _ [] _ c.requires, refl)

pub returns-then-rest-eq0-clause-bytes : goal.returns-then-rest-eq0-clause-bytes
returns-then-rest-eq0-clause-bytes c = over (name-over _ _ c.if-rest-eq0.true) c.loop.invariant.0

pub put_byte-requires : goal.put_byte-requires
put_byte-requires c = first_fits (split _ _ (name-more _ _ (omega (arith, c.loop-test.true)) c.if-rest-eq0.false) c.loop.invariant.0)

pub loop-preserved : goal.loop-preserved
loop-preserved c =
    let inv = c.loop.invariant in
    let fewer : 8 - (c.loop.counter + 1) ≡ 8 - c.loop.counter - 1 = omega arith in
    (rw fewer (onward (split _ _ (name-more _ _ (omega (arith, c.loop-test.true)) c.if-rest-eq0.false) inv.0) c.put_byte.ensures.bytes), c.put_byte.ensures.same_buffer ∙ inv.1)

pub returns-clause-bytes : goal.returns-clause-bytes
returns-clause-bytes c = over (name-none _ _ (omega (arith, c.loop-test.false))) c.loop.invariant.0
