-- The literals turned round: counted, the counts summed to starts, and each clause put into the runs of its literals. Assumes nothing.
use Rattle.std.specs.Prelude.{ℕ, ◌+◌, ◌*◌, ◌≤◌, ◌<◌, ◌≡◌, true, List, length, get_or, set, take}
use Rattle.written.specs.Lists.{total, list_of, steps}
use Rattle.written.specs.Clauses.{occurrences_of}
use Rattle.written.specs.Agreement.{part_of}
use Rattle.machine.specs.Tallies.{raised, CanRaise, CanSteps}
use Rattle.machine.specs.Moving.{CanPart}
use Rattle.machine.specs.Passes.{up_to, rewritten}
use Rattle.machine.specs.Judging.{clauses_in, literals_right}
use Rattle.machine.specs.Cuts.{Cuts}

-- for each of 2T literals the clauses in which it stands, of the C clauses that starts and literals hold
abbrev pub rounds_in : ℕ → ℕ → List ℕ → List ℕ → List (List ℕ)
rounds_in T C ss ls = list_of (2 * T) (occurrences_of (clauses_in C ss ls))

-- ---- counted, and summed

-- literal l counted, and what that asks; top is 2 to the width of an entry
abbrev pub tally : ℕ → List ℕ → List ℕ
tally l ns = raised ns l

abbrev pub CanTally : ℕ → ℕ → List ℕ → Type 0
CanTally top l ns = CanRaise top ns l

-- each of the first n starts, and one past the last, is the sum of the counts before it
unfoldable pub summed : ℕ → List ℕ → List ℕ → List ℕ
summed n ns os = rewritten (λ k p. total (λ x. x) (take k ns)) (n + 1) os

pub record CanSum (top n : ℕ) (ns os : List ℕ) : Type 0 where
  pub counts : n ≤ length ns
  pub room : n < length os
  pub fits : total (λ x. x) (take n ns) < top

-- ---- put

-- the occurrences, and for each literal how many of its run are put
pub record Filling : Type 0 where
  pub occurrences : List ℕ
  pub cursors : List ℕ

abbrev pub filling : List ℕ → List ℕ → Filling
filling oc cu = record { occurrences = oc; cursors = cu }

-- clause c put next into the run of literal l
unfoldable pub put_one : List ℕ → ℕ → ℕ → Filling → Filling
put_one os c l s = filling (set s.occurrences (get_or os l 0 + get_or s.cursors l 0) c) (raised s.cursors l)

pub record CanPut (top : ℕ) (os : List ℕ) (c l : ℕ) (s : Filling) : Type 0 where
  pub part : CanPart os s.occurrences l
  pub cursor : CanRaise top s.cursors l
  pub room : get_or os l 0 + get_or s.cursors l 0 < get_or os (l + 1) 0

-- clause c put into the runs of its literals
unfoldable pub put_clause : List ℕ → List ℕ → List ℕ → ℕ → Filling → Filling
put_clause ss ls os c s = steps (put_one os c) (part_of ss ls c) s

pub record CanPutClause (top : ℕ) (ss ls os : List ℕ) (c : ℕ) (s : Filling) : Type 0 where
  pub number : c < top
  pub part : CanPart ss ls c
  pub puts : CanSteps (CanPut top os c) (put_one os c) (part_of ss ls c) s

-- each of C clauses can be put after those before it
pub record CanPutAll (top C : ℕ) (ss ls os : List ℕ) (s : Filling) : Type 0 where
  pub each : (c : ℕ) → c < C → CanPutClause top ss ls os c (up_to (put_clause ss ls os) c s)

-- ---- turned round

-- what it asks, for T terms, C clauses and L literals; the cursors are 0
pub record CanRound (top T C L : ℕ) (ss ls os oc cu : List ℕ) : Type 0 where
  pub cut : Cuts C L ss
  pub right : literals_right T (clauses_in C ss ls) ≡ true
  pub few-clauses : C ≤ top
  pub few-literals : L < top
  pub literals : L ≤ length ls
  pub starts-room : 2 * T < length os
  pub room : L ≤ length oc
  pub cursors-room : 2 * T ≤ length cu
  pub zero : (k : ℕ) → k < 2 * T → get_or cu k 0 ≡ 0
