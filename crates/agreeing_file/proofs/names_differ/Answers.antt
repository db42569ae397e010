use Prim.Native.Nat.{ℕ}
use native.Mathlib.Omega.{arith}
use lib.ListN.{length-replicate}
use Rattle.written.specs.Lists.{zeros}
use Rattle.written.specs.Limits.{narrow}
use Rattle.names.specs.Finding.{homes}
use Rattle.agreeing_file.proofs.Marks.{none-marked}
use Rattle.machine.proofs.Slots.{none-known}
use Rattle.agreeing_file.proofs.names_differ.Goals as goal

pub names_new-requires : goal.names_new-requires
names_new-requires c =
    (c.requires, none-known homes narrow.terms (zeros 8192) (omega arith) (omega (arith, length-replicate {A = ℕ} 8192 0)) (λ j l. none-marked 8192 j))
