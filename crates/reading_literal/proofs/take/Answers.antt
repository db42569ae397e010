-- `reading_literal::take` meets its contract: each way out by the law of what the literal comes to. Assumes nothing.
use native.Mathlib.Omega.{arith}
use Rattle.written.specs.Limits.{narrow}
use Rattle.names.specs.Finding.{homes}
use Rattle.reading_literal.specs.Taking.{by_slots}
use Rattle.reading_literal.proofs.Takes.{can-place, placed_took, no_term, no_room-new, grows}
use Rattle.reading_literal.proofs.take.Goals as goal

pub place-requires : goal.place-requires
place-requires c =
    let told = c.in-Ok.ensures in
    can-place (by_slots homes narrow) narrow _ _ _ _ _ _ _ c.requires _ c.args.negated _ told.0 told.1 (omega arith)

pub returns-then-terms-ge2048 : goal.returns-then-terms-ge2048
returns-then-terms-ge2048 c =
    let told = c.in-Err.ensures in
    no_term homes narrow _ _ _ _ _ _ _ c.requires _ _ _ told.0 told.1 c.if-terms-ge2048.true

pub returns-then-held-ge16384 : goal.returns-then-held-ge16384
returns-then-held-ge16384 c =
    let told = c.in-Err.ensures in
    no_room-new homes narrow _ _ _ _ _ _ _ c.requires _ _ _ told.0 told.1 c.if-terms-ge2048.false c.if-held-ge16384.true

pub returns-in-Ok : goal.returns-in-Ok
returns-in-Ok c =
    let told = c.in-Ok.ensures in
    placed_took (by_slots homes narrow) narrow _ _ _ _ _ _ _ c.requires _ _ _ told.0 told.1 c.place.ensures

pub returns-else-held-ge16384 : goal.returns-else-held-ge16384
returns-else-held-ge16384 c =
    let told = c.in-Err.ensures in
    grows homes narrow _ _ _ _ _ _ _ c.requires _ _ _ told.0 told.1 c.if-terms-ge2048.false c.if-held-ge16384.false c.add.ensures.0 c.mark.ensures.0
    c.mark.ensures.1 c.add.ensures.1
