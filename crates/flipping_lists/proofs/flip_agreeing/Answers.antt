-- `flipping_lists::flip_agreeing` meets its contract: the tables are those written for the outcome. Assumes nothing.
use native.Mathlib.Omega.{arith}
use Rattle.written.specs.Limits.{narrow}
use Rattle.flipping_lists.proofs.Laws.{may_apply, left-low, was-flipped}
use Rattle.flipping_lists.proofs.flip_agreeing.Goals as goal

pub flip_list-number-requires : goal.flip_list-number-requires
flip_list-number-requires c = may_apply narrow _ _ _ c.requires 65536 (omega arith) (omega arith) (omega arith)

pub overflow_cast-number : goal.overflow_cast-number
overflow_cast-number c =
    let asked = c.requires in
    omega (arith, left-low narrow _ _ _ asked 65536 (omega arith) (omega arith) (omega arith) c.flip_list-number.ensures)

pub returns : goal.returns
returns c =
    let asked = c.requires in
    was-flipped narrow _ _ _ asked 65536 (omega arith) (omega arith) (omega arith) c.flip_list-number.ensures c.recounted.ensures
