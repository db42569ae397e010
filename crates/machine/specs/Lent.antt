-- The lent tables as a flip sees them, and lent tables in which a written state is laid down. Assumes nothing.
use Rattle.std.specs.Prelude.{ℕ, ◌≤◌, ◌<◌, ◌≡◌, List, ◌++◌, length, get_or}
use Rattle.written.specs.Clauses.{State}
use Rattle.written.specs.Tables.{Tables, in_use}
use Rattle.machine.specs.Tallies.{tallies}
use Rattle.machine.specs.Moving.{Fixed, fixed, Moving, moving}

-- the tables that a flip only reads
abbrev pub fixed_in : Tables → Fixed
fixed_in t = fixed t.starts t.literals t.occurrence_starts t.occurrences

-- those that it writes, with the number of uncovered clauses that goes beside the tables
abbrev pub moving_in : ℕ → Tables → Moving
moving_in n t = moving t.values (tallies t.trues t.breaks t.uncovered t.places n)

-- ys begin with xs
pub record Begins (xs ys : List ℕ) : Type 0 where
  pub rest : List ℕ
  pub is : ys ≡ xs ++ rest

-- the tables begin with the entries in use, and the uncovered list is 0 from there up to the number of clauses
pub record Laid (s : State) (t : Tables) : Type 0 where
  pub values : Begins (in_use s).values t.values
  pub starts : Begins (in_use s).starts t.starts
  pub literals : Begins (in_use s).literals t.literals
  pub occurrence_starts : Begins (in_use s).occurrence_starts t.occurrence_starts
  pub occurrences : Begins (in_use s).occurrences t.occurrences
  pub trues : Begins (in_use s).trues t.trues
  pub breaks : Begins (in_use s).breaks t.breaks
  pub uncovered : Begins (in_use s).uncovered t.uncovered
  pub places : Begins (in_use s).places t.places
  pub room : length s.file.clauses ≤ length t.uncovered
  pub zero : (j : ℕ) → length s.uncovered ≤ j → j < length s.file.clauses → get_or t.uncovered j 0 ≡ 0
