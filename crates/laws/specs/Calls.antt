-- What calls of the library have in common: a state left in lent tables, and exactly one of three outcomes. Assumes nothing.
use Rattle.std.specs.Prelude.{◌⊎◌, ◌≡◌, true, List, ℕ, take, drop}
use Rattle.written.specs.declared.Counts.{Counts}
use Rattle.written.specs.Limits.{Limits}
use Rattle.written.specs.Clauses.{State}
use Rattle.written.specs.Tables.{Tables, each, full_sizes, tables_of, counts_of, holding}
use Rattle.written.specs.Agreement.{state_in}
use Rattle.written.specs.Marks.{marks_full, full_marked, marks_hold, marks_rest, agree_marked}
use Rattle.laws.specs.Valid.{Valid}

-- the marks ms go with the state s: "marks are 0 to 2 and each pinned value is as marked", and the rest is 0
pub record Marked (lim : Limits) (s : State) (ms : List ℕ) : Type 0 where
  pub full : marks_full lim ms ≡ true
  pub hold : marks_hold ms s.values ≡ true
  pub rest : marks_rest lim (counts_of s) ms ≡ true

-- a call has left the state s: counts n, tables u where t was lent, and the marks ms
pub record Stands (lim : Limits) (s : State) (t : Tables) (n : Counts) (u : Tables) (ms : List ℕ) : Type 0 where
  -- a proper file, a value of 0 or 1 for each term, and the uncovered listed
  pub valid : Valid lim s
  -- "Beside them go four counts by value: terms, clauses, literals, uncovered."
  pub counts : n ≡ counts_of s
  -- the tables hold that state, and what stood in t up to the full sizes is gone
  pub state : state_in n u ≡ s
  pub left : u ≡ holding lim s t
  -- "Entries past those in use, up to the full size, are 0."
  pub in_full-sizes : each take (full_sizes lim) u ≡ tables_of lim s
  -- "A lent table may be longer than its full size; the excess is never read or written."
  pub beyond : each drop (full_sizes lim) u ≡ each drop (full_sizes lim) t
  -- each pinned term has its marked value
  pub marked : Marked lim s ms
  -- a walk, a flip list, a pin or a lift on these counts, tables and marks is given neither reason 1 nor reason 12
  pub full : full_marked lim u ms ≡ true
  pub agrees : agree_marked lim n u ms ≡ true

-- the counts m of a file are the counts n that were given
pub record SameFile (n m : Counts) : Type 0 where
  pub terms : m.terms ≡ n.terms
  pub clauses : m.clauses ≡ n.clauses
  pub literals : m.literals ≡ n.literals

-- "gets one of three outcomes", and no two of them
pub record OneOfThree (A B C : Type 0) : Type 0 where
  pub one : A ⊎ (B ⊎ C)
  pub not-first-and-second : A → B → ⊥
  pub not-first-and-third : A → C → ⊥
  pub not-second-and-third : B → C → ⊥
