-- How the code tests the occurrences: clause by clause, with a count for each literal of how much of its run is passed. Assumes nothing.
use Rattle.std.specs.Prelude.{ℕ, ◌+◌, ◌*◌, ◌≤◌, ◌<◌, ◌≡◌, Bool, true, ◌&&◌, List, length, get_or, eqb, leb, ltb}
use Rattle.written.specs.Lists.{all, below, steps}
use Rattle.written.specs.Agreement.{part_of}
use Rattle.machine.specs.Tallies.{raised}
use Rattle.machine.specs.Moving.{CanPart}
use Rattle.machine.specs.Judging.{passes, clauses_in, literals_right}
use Rattle.machine.specs.Cuts.{Cuts}

-- n starts and one past the last never fall
unfoldable pub never_fall : ℕ → List ℕ → Bool
never_fall n ss = all (λ k. leb (get_or ss k 0) (get_or ss (k + 1) 0)) (below n)

-- they begin at 0, never fall, and end at L
unfoldable pub cuts_right : ℕ → ℕ → List ℕ → Bool
cuts_right n L ss = eqb (get_or ss 0 0) 0 && never_fall n ss && eqb (get_or ss n 0) L

-- entry k of a run is c
unfoldable pub stands_at : List ℕ → ℕ → ℕ → Bool
stands_at run k c = ltb k (length run) && eqb (get_or run k 0) c

-- clause c stands next in the run of literal l, and is passed; `runs` gives each run, ns the counts
unfoldable pub is_next : (ℕ → List ℕ) → ℕ → ℕ → List ℕ → Bool
is_next runs c l ns = stands_at (runs l) (get_or ns l 0) c

unfoldable pub pass_one : ℕ → List ℕ → List ℕ
pass_one l ns = raised ns l

-- the same for each literal of clause c
unfoldable pub clause_next : (ℕ → List ℕ) → ℕ → List ℕ → List ℕ → Bool
clause_next runs c ls ns = passes (is_next runs c) pass_one ls ns

unfoldable pub pass_clause : List ℕ → List ℕ → List ℕ
pass_clause ls ns = steps pass_one ls ns

-- the same for each clause below C; `clauses` gives each
unfoldable pub clauses_next : (ℕ → List ℕ) → (ℕ → List ℕ) → ℕ → List ℕ → Bool
clauses_next runs clauses C ns = passes (λ c ms. clause_next runs c (clauses c) ms) (λ c ms. pass_clause (clauses c) ms) (below C) ns

unfoldable pub pass_clauses : (ℕ → List ℕ) → ℕ → List ℕ → List ℕ
pass_clauses clauses C ns = steps (λ c ms. pass_clause (clauses c) ms) (below C) ns

-- the runs of the literals below n are passed
unfoldable pub runs_passed : ℕ → (ℕ → List ℕ) → List ℕ → Bool
runs_passed n runs ns = all (λ l. leb (length (runs l)) (get_or ns l 0)) (below n)

-- what it asks to pass a clause in the run of literal l: the literal has a run and a count; top is 2 to the width of an entry
pub record CanPass (top : ℕ) (os oc ns : List ℕ) (l : ℕ) : Type 0 where
  pub run : CanPart os oc l
  pub short : length (part_of os oc l) < top
  pub count : l < length ns

-- to pass C clauses
pub record CanPassAll (top C : ℕ) (ss ls os oc ns : List ℕ) : Type 0 where
  pub few : C ≤ top
  pub clause : (c : ℕ) → c < C → CanPart ss ls c
  pub pass : (c : ℕ) → c < C → (k : ℕ) → k < length (part_of ss ls c) → CanPass top os oc ns (get_or (part_of ss ls c) k 0)

-- to test the occurrences of T terms, C clauses and L literals, with R counts
pub record CanMatch (top R T C L : ℕ) (ss ls os oc : List ℕ) : Type 0 where
  pub cuts : Cuts C L ss
  pub right : literals_right T (clauses_in C ss ls) ≡ true
  pub literals : L ≤ length ls
  pub starts : 2 * T < length os
  pub occurrences : L ≤ length oc
  pub few-terms : 2 * T ≤ R
  pub few-clauses : C ≤ top
  pub few-literals : L < top
