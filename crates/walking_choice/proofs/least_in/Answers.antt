-- `walking_choice::least_in` meets its contract: what the literals so far give, and one more each turn. Assumes nothing.
use Prim.Native.Nat.{◌/◌}
use native.Mathlib.Omega.{arith}
use lib.ListN.{get_or}
use Rattle.written.specs.Marks.{free_in}
use Rattle.walking_choice.specs.Choosing.{break_in, is_free_in}
use Rattle.walking_choice.proofs.Among.{plain-free}
use Rattle.walking_choice.proofs.LeastBreaks.{has-entry, look-begun, look-few, look-more, look-done}
use Rattle.walking_choice.proofs.least_in.Goals as goal

pub loop-l-init : goal.loop-l-init
loop-l-init c = search look-begun

pub looked-s-requires : goal.looked-s-requires
unfolding free_in is_free_in
looked-s-requires c =
    let p = c.requires in
    let stands = c.loop-l-test.true in
    (omega (arith, look-few _ _ _ _ _ _ c.loop-l.invariant, p.0.short), has-entry _ _ _ p.0.breaks stands, has-entry _ _ _ p.0.marks stands, λ q. plain-free _ _ _ (p.1 q) stands)

pub loop-l-preserved : goal.loop-l-preserved
unfolding break_in
loop-l-preserved c =
    let l = get_or c.args.clause.now c.loop-l.l-index 0 in
    let small = (c.type_inv.breaks (l / 2)).fits in
    look-more _ _ _ _ _ _ _ c.loop-l.invariant c.loop-l-test.true small c.looked-s.ensures

pub returns : goal.returns
unfolding free_in is_free_in
returns c = look-done _ _ _ _ _ _ c.loop-l.invariant c.loop-l-test.false
