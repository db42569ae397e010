-- Flip lists in turn, request 7 in its own words: what a second list answers and leaves where a first has been given. Assumes nothing.
use Rattle.std.specs.Prelude.{ℕ, ◌≡◌, List, Result, Ok}
use Rattle.written.specs.declared.Refusal.{Refusal}
use Rattle.written.specs.declared.Counts.{Counts}
use Rattle.written.specs.Limits.{Limits}
use Rattle.written.specs.Tables.{Tables}
use Rattle.written.specs.Outcomes.{Leaves, flips_of, flip_values}
use Rattle.laws.specs.Demands.{Acceptable, SameButList}

-- "in turn": the next list is given the counts, the tables and the marks that the call before it has left
abbrev pub then_flips : Limits → List ℕ → Leaves (Result Counts Refusal) → Leaves (Result Counts Refusal)
then_flips lim ys l = flips_of lim ys (flip_values l.answer).counts l.tables l.marks

-- what is asked of that next call
abbrev pub AcceptableNext : Limits → List ℕ → Leaves (Result Counts Refusal) → Type 0
AcceptableNext lim ys l = Acceptable lim ys (flip_values l.answer).counts l.tables l.marks

-- "an accepted list given twice brings back every value, count and the uncovered set": all of the ten tables but the order within the uncovered
-- list, and the places noted for it
pub record BroughtBack (lim : Limits) (ts : List ℕ) (n : Counts) (t : Tables) (ms : List ℕ) : Type 0 where
  pub counts : (then_flips lim ts (flips_of lim ts n t ms)).answer ≡ Ok n
  pub tables : SameButList n.uncovered (then_flips lim ts (flips_of lim ts n t ms)).tables t
