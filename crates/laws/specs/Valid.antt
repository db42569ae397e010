-- The files and states that lent tables can hold: what a reading leaves, what agreement finds, what flips and walks keep. Assumes nothing.
use Rattle.std.specs.Prelude.{ℕ, ◌*◌, ◌≤◌, ◌<◌, ◌≡◌, Bool, true, ◌&&◌, List, map, length, ltb}
use Rattle.written.specs.Lists.{all, total, times, differ}
use Rattle.written.specs.Limits.{Limits}
use Rattle.written.specs.Clauses.{File, State, term_of, uncovered_in}
use Rattle.written.specs.Agreement.{is_name}

-- a clause over n terms: not empty, its literals below 2n, each term at most once
unfoldable pub is_clause : ℕ → List ℕ → Bool
is_clause n ls = ltb 0 (length ls) && all (λ l. ltb l (2 * n)) ls && differ (map term_of ls)

-- a file within the limits
pub record Proper (lim : Limits) (f : File) : Type 0 where
  pub few-terms : length f.names ≤ lim.terms
  pub few-clauses : length f.clauses ≤ lim.clauses
  pub few-literals : total length f.clauses ≤ lim.literals
  pub some-clause : 0 < length f.clauses
  pub names-valid : all is_name f.names ≡ true
  pub names-differ : differ f.names ≡ true
  pub clauses-valid : all (is_clause (length f.names)) f.clauses ≡ true

-- values are 0 and 1
abbrev pub Bits : List ℕ → Type 0
Bits vs = all (λ v. ltb v 2) vs ≡ true

-- the list holds what stands uncovered at the values: each such clause once, in any order, and no other
pub record Listed (s : State) : Type 0 where
  pub same-times : (c : ℕ) → times c s.uncovered ≡ times c (uncovered_in s.values s.file.clauses)

-- a state that stands on a file: a value of 0 or 1 for each term, and the uncovered listed
pub record Valid (lim : Limits) (s : State) : Type 0 where
  pub proper : Proper lim s.file
  pub one_each : length s.values ≡ length s.file.names
  pub bits : Bits s.values
  pub listed : Listed s
