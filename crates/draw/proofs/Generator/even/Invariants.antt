-- `draw::Generator::even` meets its contract: what is drawn so far, with the draws that are left, gives what the whole gives. Assumes nothing.
use mathlib.Core.Path.{◌≡◌}
use Prim.Native.Nat.{◌-◌, ◌<◌}
use Rattle.draw.specs.Even.{even_from, even_of}
use Rattle.draw.proofs.Generator.even.Given as goal

abbrev pub invariant-loop : goal.invariant-loop
invariant-loop l = (0 < l.n) × (even_from (7 - l.counter) l.m l.n ≡ even_of l.m l.fn.self.state)
