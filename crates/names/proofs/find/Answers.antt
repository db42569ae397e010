-- `names::find` meets its contract: the slots passed hold other names. Assumes nothing.
use Rattle.written.specs.Limits.{narrow}
use Rattle.names.specs.Finding.{homes}
use Rattle.machine.proofs.Slots.{search_begun, search_missed, search_hit, search_again}
use Rattle.names.proofs.find.Goals as goal

pub loop-terms-init : goal.loop-terms-init
loop-terms-init c = let p = c.requires in rw c.home-s.ensures (search_begun homes narrow.terms _ _ _ p.0 p.1 _)

pub returns-then-k-eq0 : goal.returns-then-k-eq0
returns-then-k-eq0 c =
    let p = c.requires in
    let e = c.from-k.ensures in
    search_missed homes narrow.terms _ _ _ p.0 p.1 _ _ c.loop-terms.invariant (rw e at c.if-k-eq0.true)

pub returns-then-names-t : goal.returns-then-names-t
returns-then-names-t c =
    let p = c.requires in
    let e = c.from-k.ensures in
    rw e (search_hit homes narrow.terms _ _ _ p.0 p.1 _ _ c.loop-terms.invariant (rw e at c.if-k-eq0.false) (rw e at c.if-names-t.true))

pub loop-terms-preserved : goal.loop-terms-preserved
loop-terms-preserved c =
    let p = c.requires in
    let e = c.from-k.ensures in
    search_again homes narrow.terms _ _ _ p.0 p.1 _ _ c.loop-terms.invariant (rw e at c.if-k-eq0.false) (rw e at c.if-names-t.false)
