-- `words::chosen` meets its contract. The invariant: n is the number of true terms of the words passed. Assumes nothing.
use mathlib.Core.Path.{◌≡◌}
use Prim.Native.Nat.{◌≤◌, ◌*◌}
use Rattle.words.specs.Words.{trues}
use Rattle.words.proofs.chosen.Given as goal

abbrev pub invariant-loop-word : goal.invariant-loop-word
invariant-loop-word l = (l.n ≤ 32 * l.word-index) × (l.n ≡ trues l.words (32 * l.word-index))
