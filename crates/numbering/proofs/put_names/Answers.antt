-- `numbering::put_names` meets its contract: the names put so far stand over what was there. Assumes nothing.
use mathlib.Core.Path.{refl, ◌∙◌}
use native.Mathlib.Omega.{arith}
use lib.ListN.{length-set}
use Rattle.numbering.proofs.Names.{none-put, one-put}
use Rattle.numbering.proofs.put_names.Goals as goal

pub loop-k-init : goal.loop-k-init
loop-k-init c = (none-put _, refl)

pub loop-k-preserved : goal.loop-k-preserved
loop-k-preserved c =
    let inv = c.loop-k.invariant in
    let low = c.loop-k-test.true in (
      one-put _ _ inv.0 (omega (arith, low, inv.1, c.requires.0)) c.name_of.ensures,
      length-set c.loop-k.names c.loop-k.k c.name_of.result ∙ inv.1,
    )
