use mathlib.Core.Path.{◌≡◌}
use Prim.Native.Nat.{◌-◌}
use Rattle.written.specs.Agreement.{name_bytes, is_name}
use Rattle.agreeing_file.proofs.is_name.Given as goal

abbrev pub invariant-loop : goal.invariant-loop
invariant-loop l = name_bytes (8 - l.counter) l.rest ≡ is_name l.x
