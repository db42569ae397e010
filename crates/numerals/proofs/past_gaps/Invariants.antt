-- `numerals::past_gaps` meets its contract: what is left of the gaps leads where all do. Assumes nothing.
-- a line is counted for each byte at most
use Prim.Native.Nat.{◌+◌, ◌-◌, ◌≤◌}
use mathlib.Core.Path.{◌≡◌}
use lib.ListN.{length}
use Rattle.scan.specs.Scan.{cursor_at}
use Rattle.written.specs.Numerals.{past_gaps}
use Rattle.numerals.proofs.past_gaps.Given as goal

abbrev pub invariant-loop-at : goal.invariant-loop-at
invariant-loop-at l = (past_gaps l.text (cursor_at l.at l.line) ≡ past_gaps l.text (cursor_at (l.first + 1) l.initial.line)) × (l.line + (length l.text - l.at) ≤ l.initial.line + (length l.text - (l.first + 1)))
