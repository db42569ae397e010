use mathlib.Core.Path.{◌≡◌}
use lib.ListN.{length, take}
use Rattle.written.specs.Lists.{total}
use Rattle.machine.specs.Passes.{rewritten}
use Rattle.occurrences.proofs.sums.Given as goal

abbrev pub invariant-loop-l : goal.invariant-loop-l
invariant-loop-l l = (l.at ≡ total (λ x. x) (take l.l l.counts)) × (l.starts ≡ rewritten (λ k p. total (λ x. x) (take k l.counts)) l.l l.initial.starts) × (length l.starts ≡ length l.initial.starts)
