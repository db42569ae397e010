-- A draft in the lent tables finished: what it used on its way is cleared, the literals are turned round and the counts worked out. Assumes nothing.
use mathlib.Core.List.{List, flatten}
use Rattle.std.specs.Prelude.{ℕ, ◌≤◌, length}
use Rattle.written.specs.declared.Counts.{Counts}
use Rattle.written.specs.Limits.{Limits}
use Rattle.written.specs.Tables.{starts_from, over}
use Rattle.machine.specs.Tallies.{tallies}
use Rattle.machine.specs.Moving.{Fixed, fixed, Moving, moving, view}
use Rattle.machine.specs.Passes.{zeroed, closed, CanClose, recounted, CanRecount}
use Rattle.machine.specs.Filling.{rounds_in, CanRound}
use Rattle.reading_lines.specs.declared.Place.{Place}
use Rattle.reading_end.specs.Clearing.{rest_zeroed}

-- what finishing gives: the counts, and all tables but the names
pub record Finished : Type 0 where
  pub counts : Counts
  pub clauses : Fixed
  pub moved : Moving

abbrev pub finishing : Counts → Fixed → Moving → Finished
finishing n x w = record { counts = n; clauses = x; moved = w }

-- the literals past those kept, the stamps and the slots cleared
unfoldable pub tidy_clauses : Limits → ℕ → Fixed → Fixed
tidy_clauses lim from x = fixed x.starts (rest_zeroed lim.literals from x.literals) x.occurrence_starts x.occurrences

unfoldable pub tidy_moving : Limits → Moving → Moving
tidy_moving lim w =
    moving w.words
    (tallies w.tallies.trues (zeroed lim.terms w.tallies.breaks) w.tallies.uncovered.list
    (zeroed lim.clauses w.tallies.uncovered.places) 0)

-- the literals of C clauses over T terms turned round
unfoldable pub turned : ℕ → ℕ → Fixed → Fixed
turned T C x =
    let rounds : List (List ℕ) = rounds_in T C x.starts x.literals in
    fixed x.starts x.literals (over (starts_from 0 rounds) x.occurrence_starts) (over (flatten rounds) x.occurrences)

-- the clauses of a draft at place p, and their counts as they are worked out, for walking
unfoldable pub laid_out : Limits → Place → Fixed → Fixed
laid_out lim p x = turned p.terms p.clauses (tidy_clauses lim p.from x)

unfoldable pub counted_out : Limits → Place → Fixed → Moving → Moving
counted_out lim p x w = recounted p.clauses p.terms (laid_out lim p x) (tidy_moving lim w)

-- the four counts, n of the clauses uncovered
unfoldable pub counts_at : Place → ℕ → Counts
counts_at p n = record { terms = p.terms; clauses = p.clauses; literals = p.from; uncovered = n }

-- the draft finished: the places are those of written tables again
unfoldable pub finished : Limits → Place → Fixed → Moving → Finished
finished lim p x w =
    finishing (counts_at p (counted_out lim p x w).tallies.uncovered.number) (laid_out lim p x) (closed p.clauses (counted_out lim p x w))

-- what that asks; top is 2 to the width of an entry
pub record CanFinish (top : ℕ) (lim : Limits) (p : Place) (x : Fixed) (w : Moving) : Type 0 where
  pub few-terms : p.terms ≤ lim.terms
  pub few-clauses : p.clauses ≤ lim.clauses
  pub few-literals : p.from ≤ lim.literals
  pub room : lim.literals ≤ length x.literals
  pub rounds : CanRound top p.terms p.clauses p.from x.starts (tidy_clauses lim p.from x).literals x.occurrence_starts x.occurrences
      w.tallies.uncovered.list
  pub recounts : CanRecount top p.clauses p.terms (view w.words x.starts (tidy_clauses lim p.from x).literals) (tidy_moving lim w).tallies
  pub closes : CanClose p.clauses (counted_out lim p x w).tallies.trues (counted_out lim p x w).tallies.uncovered.places
  pub few-uncovered : (counted_out lim p x w).tallies.uncovered.number ≤ lim.clauses
