use mathlib.Core.Path.{◌≡◌, ap, sym, ◌∙◌}
use Prim.Native.Nat.{◌%◌}
use Rattle.written.specs.Agreement.{is_name, is_name_byte}
use Rattle.agreeing_file.proofs.Names.{name-begun, name-ended, name-left, name-over}
use Rattle.agreeing_file.proofs.Rising.{in-range}
use Rattle.agreeing_file.proofs.is_name.Goals as goal

pub returns-then-x-eq0 : goal.returns-then-x-eq0
unfolding is_name
returns-then-x-eq0 c = ap is_name (sym c.if-x-eq0.true)

pub loop-init : goal.loop-init
loop-init c = name-begun _ c.if-x-eq0.false

pub returns-then-rest-eq0 : goal.returns-then-rest-eq0
returns-then-rest-eq0 c = sym (name-ended _ _ c.if-rest-eq0.true) ∙ c.loop.invariant

pub returns-then-not-contains : goal.returns-then-not-contains
returns-then-not-contains c =
    let range = c.new.ensures in
    let byte : c.contains.result ≡ is_name_byte (c.loop.rest % 256) = in-range _ range.start range.end range.exhausted c.contains.ensures.value in
    rw (name-left _ _ c.loop-test.true c.if-rest-eq0.false, ← byte, c.if-not-contains.true) at c.loop.invariant

pub loop-preserved : goal.loop-preserved
loop-preserved c =
    let range = c.new.ensures in
    let byte : c.contains.result ≡ is_name_byte (c.loop.rest % 256) = in-range _ range.start range.end range.exhausted c.contains.ensures.value in
    rw (name-left _ _ c.loop-test.true c.if-rest-eq0.false, ← byte, c.if-not-contains.false) at c.loop.invariant

pub returns : goal.returns
returns c = sym (name-over _ _ c.loop-test.false) ∙ c.loop.invariant
