-- Demand 3, in the service's own words, of states and of calls: "Take one accepted clause file, any starting values and any list of up to
-- 65,536 flips of known terms.", which document 02 makes "known and free terms". Assumes nothing.
use Rattle.std.specs.Prelude.{ℕ, ◌-◌, ◌%◌, ◌≤◌, ◌<◌, ◌≡◌, true, false, List, map, length, get_or, take, drop, ltb, Ok}
use Rattle.written.specs.declared.Counts.{Counts}
use Rattle.written.specs.Lists.{all, list_of, has, times}
use Rattle.written.specs.Limits.{Limits}
use Rattle.written.specs.Clauses.{State, true_count, break_count, uncovered_in, afresh}
use Rattle.written.specs.Flips.{flipped}
use Rattle.written.specs.Tables.{Tables}
use Rattle.written.specs.Agreement.{state_in}
use Rattle.written.specs.Marks.{is_free, full_marked, agree_marked}
use Rattle.written.specs.Outcomes.{flips_of}
use Rattle.laws.specs.Calls.{Stands, SameFile}

-- ---- of states

-- "only the order within the uncovered list, and the places noted for it, may differ"
pub record SameButOrder (a b : State) : Type 0 where
  pub file : a.file ≡ b.file
  pub values : a.values ≡ b.values
  pub uncovered : (c : ℕ) → times c a.uncovered ≡ times c b.uncovered
  pub uncovered-count : length a.uncovered ≡ length b.uncovered

-- what the flip list ts leaves of the state s
pub record AfterFlips (ts : List ℕ) (s : State) : Type 0 where
  -- "Afterwards each term's value has turned exactly if the list names it an odd number of times."
  pub odd : (t : ℕ) → t < length s.file.names → times t ts % 2 ≡ 1 → get_or (flipped ts s).values t 0 ≡ 1 - get_or s.values t 0
  pub even : (t : ℕ) → t < length s.file.names → times t ts % 2 ≡ 0 → get_or (flipped ts s).values t 0 ≡ get_or s.values t 0
  -- "the set of uncovered clauses" is that "worked out afresh from the clauses and values"; the counts stand in tables alone: see WorkedOut
  pub worked_out : SameButOrder (flipped ts s) (afresh s.file (flipped ts s).values)
  -- "So two lists that name each term equally often, in any order, leave the same"
  pub any_order : (us : List ℕ) → ((t : ℕ) → times t ts ≡ times t us) → SameButOrder (flipped ts s) (flipped us s)

-- ---- of calls: `flips_of lim ts n t ms` is what the flip list ts answers and leaves, with counts n, lent tables t and marks ms

-- what is asked of a call: full tables that agree with the counts, and a list within its limit of flips of "known and free terms"
pub record Acceptable (lim : Limits) (ts : List ℕ) (n : Counts) (t : Tables) (ms : List ℕ) : Type 0 where
  pub full : full_marked lim t ms ≡ true
  pub short : length ts ≤ lim.list
  pub agrees : agree_marked lim n t ms ≡ true
  pub known : all (λ v. ltb v n.terms) ts ≡ true
  pub free : all (is_free ms) ts ≡ true

-- "only the order within the uncovered list, and the places noted for it, may differ", where k clauses are uncovered
pub record SameButList (k : ℕ) (a b : Tables) : Type 0 where
  pub names : a.names ≡ b.names
  pub values : a.values ≡ b.values
  pub starts : a.starts ≡ b.starts
  pub literals : a.literals ≡ b.literals
  pub occurrence_starts : a.occurrence_starts ≡ b.occurrence_starts
  pub occurrences : a.occurrences ≡ b.occurrences
  pub trues : a.trues ≡ b.trues
  pub breaks : a.breaks ≡ b.breaks
  -- the same clauses in the list, and the same past it
  pub listed : (c : ℕ) → times c (take k a.uncovered) ≡ times c (take k b.uncovered)
  pub past-list : drop k a.uncovered ≡ drop k b.uncovered
  -- as many places, and the same but for the clauses in the list
  pub places_count : length a.places ≡ length b.places
  pub other-places : (c : ℕ) → has c (take k a.uncovered) ≡ false → get_or a.places c 0 ≡ get_or b.places c 0

-- "Each clause's number of true literals, each term's break count and the set of uncovered clauses are those worked out afresh from the clauses
-- and values": of tables u in which s stands, n counts its clauses and terms, and m those uncovered
pub record WorkedOut (n m : Counts) (s : State) (u : Tables) : Type 0 where
  pub trues : take n.clauses u.trues ≡ map (true_count s.values) s.file.clauses
  pub breaks : take n.terms u.breaks ≡ list_of n.terms (break_count s.values s.file.clauses)
  pub listed : (c : ℕ) → times c (take m.uncovered u.uncovered) ≡ times c (uncovered_in s.values s.file.clauses)

-- what a call has done that answered with counts m: "Flip lists are applied whole"
pub record Accepted (lim : Limits) (ts : List ℕ) (n m : Counts) (t : Tables) (ms : List ℕ) : Type 0 where
  -- the tables hold the state after the flips, and agree with the counts
  pub stands : Stands lim (flipped ts (state_in n t)) t m (flips_of lim ts n t ms).tables ms
  -- its counts and its uncovered list, as they stand in the tables
  pub worked_out : WorkedOut n m (flipped ts (state_in n t)) (flips_of lim ts n t ms).tables
  -- that state is the one demanded
  pub after : AfterFlips ts (state_in n t)
  -- the file's counts are those given
  pub counts : SameFile n m
  -- "two lists that name each term equally often, in any order, leave the same": the other is accepted too, with the same counts
  pub any_order : (us : List ℕ) → ((v : ℕ) → times v ts ≡ times v us)
      → ((flips_of lim us n t ms).answer ≡ Ok m) × SameButList m.uncovered (flips_of lim ts n t ms).tables (flips_of lim us n t ms).tables
