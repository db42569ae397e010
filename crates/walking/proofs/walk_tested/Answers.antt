-- `walking::walk_tested` meets its contract: walks on tables that agree, closed at the end. Assumes nothing.
use Prim.Native.Nat.{◌^◌}
use native.Mathlib.Omega.{arith}
use Rattle.written.specs.Limits.{narrow}
use Rattle.walking.proofs.Outcome.{can-walk, can_close, number-low, has-found, has-given-up}
use Rattle.walking.proofs.walk_tested.Goals as goal

pub all_walks-e-requires : goal.all_walks-e-requires
all_walks-e-requires c = can-walk narrow _ _ _ _ c.requires c.new.ensures 65536 (omega arith) (omega arith) (omega arith) (2 ^ 32) (omega arith)

pub close_all-requires : goal.close_all-requires
close_all-requires c = can_close narrow _ _ _ _ c.requires c.new.ensures 65536 (omega arith) (omega arith) (omega arith) c.all_walks-e.ensures

pub overflow_cast-tour : goal.overflow_cast-tour
overflow_cast-tour c =
    omega (arith, number-low narrow _ _ _ _ c.requires c.new.ensures 65536 (omega arith) (omega arith) (omega arith) c.all_walks-e.ensures)

pub returns-then-e : goal.returns-then-e
returns-then-e c =
    let p = c.requires in
    has-found narrow _ _ _ _ p c.new.ensures 65536 (omega arith) (omega arith) (omega arith) c.all_walks-e.ensures c.close_all.ensures c.if-e.true

pub returns : goal.returns
returns c =
    let p = c.requires in
    has-given-up narrow _ _ _ _ p c.new.ensures 65536 (omega arith) (omega arith) (omega arith) c.all_walks-e.ensures c.close_all.ensures c.if-e.false
