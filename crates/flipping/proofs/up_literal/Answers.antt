-- `flipping::up_literal` meets its contract: twice the term, and its value. Assumes nothing.
use mathlib.Core.Path.{ap}
use Prim.Native.Nat.{ℕ, ◌+◌, ◌*◌}
use Rattle.machine.specs.Moving.{up_of}
use Rattle.flipping.proofs.up_literal.Goals as goal

pub returns : goal.returns
unfolding up_of
returns c = ap (λ (b : ℕ). 2 * c.args.v + b) c.value.ensures
