use mathlib.Core.Path.{◌≡◌}
use lib.ListN.{drop}
use lib.Bits.{bit_xor}
use Rattle.machine.specs.Literals.{value_in, xor_true}
use Rattle.tables.proofs.xor_true.Given as goal

abbrev pub invariant-loop-l : goal.invariant-loop-l
invariant-loop-l l = bit_xor l.terms (xor_true (value_in l.words) (drop l.l-index l.clause)) ≡ xor_true (value_in l.words) l.clause
