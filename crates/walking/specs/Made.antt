-- A walk that is made. Assumes nothing.
use Rattle.std.specs.Prelude.{ℕ, List, Result}
use Rattle.written.specs.declared.Refusal.{Refusal}
use Rattle.written.specs.declared.Counts.{Counts}
use Rattle.written.specs.declared.Order.{Order}
use Rattle.written.specs.declared.Walked.{Walked}
use Rattle.written.specs.Limits.{Limits}
use Rattle.written.specs.Tables.{Tables}
use Rattle.written.specs.Agreement.{file_in}
use Rattle.written.specs.Outcomes.{Leaves, walk_leaves}
use Rattle.written.specs.Walk.{walk_over}

-- what a walk answers and leaves once it is made
abbrev pub walk_made : Limits → Order → Counts → Tables → List ℕ → Leaves (Result Walked Refusal)
walk_made lim o n t ms = walk_leaves lim t ms (walk_over o ms (file_in n t))
