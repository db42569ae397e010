-- How a run ends, and what each part of it asks of the lent memory. Assumes nothing.
use Rattle.std.specs.Prelude.{ℕ, ◌≤◌, ◌≡◌, true, List, length}
use Rattle.written.specs.declared.Counts.{Counts}
use Rattle.written.specs.declared.Order.{Order}
use Rattle.written.specs.declared.RunAnswer.{RunAnswer}
use Rattle.written.specs.Limits.{Limits}
use Rattle.written.specs.Orders.{in_range}
use Rattle.written.specs.Tables.{Tables}
use Rattle.written.specs.Marks.{full_marked, unmarked}
use Rattle.written.specs.Program.{Ran, reported, report_size}
use Rattle.laws.specs.WalkCalls.{Allowed}

-- the answer, the tables, the marks and the buffer
abbrev pub answered : RunAnswer → Tables → List ℕ → List ℕ → Ran
answered a t ms b = record { answer = a; tables = t; marks = ms; buffer = b }

-- of a run that was begun: the length written, the tables, the marks and the buffer
abbrev pub ended : ℕ → Tables → List ℕ → List ℕ → Ran
ended n t ms b = answered (reported n) t ms b

-- full tables, and room for any report
pub record CanRun (lim : Limits) (t : Tables) (ms b : List ℕ) : Type 0 where
  pub full : full_marked lim t ms ≡ true
  pub room : report_size lim ≤ length b

-- an order in its ranges too, and no term marked
pub record CanRead (lim : Limits) (o : Order) (t : Tables) (ms b : List ℕ) : Type 0 where
  pub run : CanRun lim t ms b
  pub range : in_range o ≡ true
  pub clear : unmarked lim ms ≡ ms

-- tables over which a walk is allowed, with no term marked, and room for its report
pub record CanWalk (lim : Limits) (o : Order) (n : Counts) (t : Tables) (ms b : List ℕ) : Type 0 where
  pub allowed : Allowed lim o n t ms
  pub room : report_size lim ≤ length b
  pub clear : unmarked lim ms ≡ ms
