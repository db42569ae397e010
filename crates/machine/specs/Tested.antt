-- How the code goes about the counts and the uncovered list: what it tests entry by entry, and what each test asks. Assumes nothing.
use Rattle.std.specs.Prelude.{ℕ, ◌*◌, ◌≤◌, ◌<◌, ◌≡◌, Bool, true, cond, ◌&&◌, List, length, get_or, eqb, ltb}
use Rattle.written.specs.declared.Counts.{Counts}
use Rattle.written.specs.Lists.{total, all}
use Rattle.written.specs.Clauses.{occurrences_of}
use Rattle.written.specs.Agreement.{part_of}
use Rattle.machine.specs.Tallies.{hit_of}
use Rattle.machine.specs.Moving.{View, CanPart, count_at, down_of}
use Rattle.machine.specs.Judging.{clauses_in, literals_right}

-- clause c has its true count
unfoldable pub true_tested : View → List ℕ → ℕ → Bool
true_tested f ts c = eqb (get_or ts c 0) (count_at f c)

-- how many of the entries are m
unfoldable pub count_of : ℕ → List ℕ → ℕ
count_of m xs = total (λ x. hit_of x m) xs

-- how many clauses of a run have one true literal; ts are the true counts
unfoldable pub ones_in : List ℕ → List ℕ → ℕ
ones_in ts run = total (λ c. hit_of (get_or ts c 0) 1) run

-- the break count of term t, by the run of its true literal
unfoldable pub break_at : List ℕ → List ℕ → List ℕ → List ℕ → ℕ → ℕ
break_at ws os oc ts t = ones_in ts (part_of os oc (down_of ws t))

-- term t has its break count
unfoldable pub break_tested : List ℕ → List ℕ → List ℕ → List ℕ → List ℕ → ℕ → Bool
break_tested ws os oc ts bs t = eqb (get_or bs t 0) (break_at ws os oc ts t)

-- clause c has its place: that of its entry among the first U if it has no true literal, else 0
unfoldable pub place_tested : ℕ → List ℕ → List ℕ → List ℕ → ℕ → Bool
place_tested U ts us ps c = cond (eqb (get_or ts c 0) 0) (ltb (get_or ps c 0) U && eqb (get_or us (get_or ps c 0) 0) c) (eqb (get_or ps c 0) 0)

-- ---- what each test asks

pub record CanTrues (T C : ℕ) (ss ls ts : List ℕ) : Type 0 where
  pub part : (c : ℕ) → c < C → CanPart ss ls c
  pub clauses : literals_right T (clauses_in C ss ls) ≡ true
  pub room : C ≤ length ts

-- every clause of a run has a true count
abbrev pub InCounts : List ℕ → List ℕ → Type 0
InCounts ts run = all (λ c. ltb c (length ts)) run ≡ true

pub record CanBreaks (T : ℕ) (ws os oc ts bs : List ℕ) : Type 0 where
  pub part : (t : ℕ) → t < T → CanPart os oc (down_of ws t)
  pub counts : (t : ℕ) → t < T → InCounts ts (part_of os oc (down_of ws t))
  pub room : T ≤ length bs

pub record CanList (C U : ℕ) (ts us ps : List ℕ) : Type 0 where
  pub trues-room : C ≤ length ts
  pub list-room : U ≤ length us
  pub places-room : C ≤ length ps

-- and what all of them ask: clauses that are right, and the runs in which their literals stand
pub record CanCounts (n : Counts) (ws ss ls os oc ts bs us ps : List ℕ) : Type 0 where
  pub words-room : n.terms ≤ 32 * length ws
  pub clause-part : (c : ℕ) → c < n.clauses → CanPart ss ls c
  pub clauses : literals_right n.terms (clauses_in n.clauses ss ls) ≡ true
  pub run-part : (l : ℕ) → l < 2 * n.terms → CanPart os oc l
  pub run : (l : ℕ) → l < 2 * n.terms → part_of os oc l ≡ occurrences_of (clauses_in n.clauses ss ls) l
  pub trues-room : n.clauses ≤ length ts
  pub breaks-room : n.terms ≤ length bs
  pub list-room : n.uncovered ≤ length us
  pub places-room : n.clauses ≤ length ps
