-- `words::fill` meets its contract. The invariant: k words are drawn, and the generator has drawn k times. Assumes nothing.
use mathlib.Core.Path.{◌≡◌}
use Rattle.words.specs.Words.{state_after, filled}
use Rattle.words.proofs.fill.Given as goal

abbrev pub invariant-loop-k : goal.invariant-loop-k
invariant-loop-k l = (l.at.state ≡ state_after l.initial.at.state l.k) × (l.words ≡ filled l.initial.words l.n l.initial.at.state l.k)
