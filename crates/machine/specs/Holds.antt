-- What it means that tables hold a written state, at rest and while walking. Assumes nothing.
use Rattle.std.specs.Prelude.{ℕ, ◌+◌, ◌*◌, ◌≤◌, ◌<◌, ◌≡◌, true, List, [], length, get_or, take}
use Rattle.words.specs.Words.{bit_at}
use Rattle.written.specs.Lists.{all}
use Rattle.written.specs.Clauses.{File, State, value_of, true_count, break_count, uncovered_in, occurrences_of}
use Rattle.written.specs.Agreement.{part_of}
use Rattle.laws.specs.Valid.{is_clause}
use Rattle.machine.specs.Literals.{xor_true}
use Rattle.machine.specs.Uncovered.{Uncovered}
use Rattle.machine.specs.Tallies.{Tallies}
use Rattle.machine.specs.Moving.{Fixed, Moving, CanPart}

-- the tables that are only read hold the clauses cs, over T terms; top is 2 to the width of an entry
pub record HoldsClauses (top T : ℕ) (cs : List (List ℕ)) (x : Fixed) : Type 0 where
  pub few-clauses : length cs + 1 < top
  pub few-terms : 2 * T < top
  pub valid : all (is_clause T) cs ≡ true
  pub short : (c : ℕ) → c < length cs → length (get_or cs c []) < top
  pub clause-part : (c : ℕ) → c < length cs → CanPart x.starts x.literals c
  pub clause : (c : ℕ) → c < length cs → part_of x.starts x.literals c ≡ get_or cs c []
  pub occurs-part : (l : ℕ) → l < 2 * T → CanPart x.occurrence_starts x.occurrences l
  pub occurs : (l : ℕ) → l < 2 * T → part_of x.occurrence_starts x.occurrences l ≡ occurrences_of cs l

-- the words hold the values vs
pub record HoldsValues (vs ws : List ℕ) : Type 0 where
  pub room : length vs ≤ 32 * length ws
  pub values : (t : ℕ) → t < length vs → bit_at ws t ≡ get_or vs t 0

-- the clauses below C: κ c is how many true literals clause c has, and ρ c the place of one that is covered
pub record Placed (C : ℕ) (κ ρ : ℕ → ℕ) (u : Uncovered) : Type 0 where
  pub fits : u.number ≤ C
  pub list-room : C ≤ length u.list
  pub places-room : C ≤ length u.places
  pub within : (j : ℕ) → j < u.number → get_or u.list j 0 < C
  pub placed : (j : ℕ) → j < u.number → get_or u.places (get_or u.list j 0) 0 ≡ j
  pub bare : (j : ℕ) → j < u.number → κ (get_or u.list j 0) ≡ 0
  pub low : (c : ℕ) → c < C → κ c ≡ 0 → get_or u.places c 0 < u.number
  pub found : (c : ℕ) → c < C → κ c ≡ 0 → get_or u.list (get_or u.places c 0) 0 ≡ c
  pub covered : (c : ℕ) → c < C → (κ c ≡ 0 → ⊥) → get_or u.places c 0 ≡ ρ c
  pub rest : (j : ℕ) → u.number ≤ j → j < C → get_or u.list j 0 ≡ 0

-- the tables x and w hold the state s; ρ gives the places of covered clauses
pub record HoldsAt (ρ : ℕ → ℕ) (top : ℕ) (s : State) (x : Fixed) (w : Moving) : Type 0 where
  pub holds : HoldsClauses top (length s.values) s.file.clauses x
  pub words : HoldsValues s.values w.words
  pub trues-room : length s.file.clauses ≤ length w.tallies.trues
  pub trues : (c : ℕ) → c < length s.file.clauses → get_or w.tallies.trues c 0 ≡ true_count s.values (get_or s.file.clauses c [])
  pub breaks-room : length s.values ≤ length w.tallies.breaks
  pub breaks : (t : ℕ) → t < length s.values → get_or w.tallies.breaks t 0 ≡ break_count s.values s.file.clauses t
  pub number : w.tallies.uncovered.number ≡ length (uncovered_in s.values s.file.clauses)
  pub places : Placed (length s.file.clauses) (λ c. true_count s.values (get_or s.file.clauses c [])) ρ w.tallies.uncovered
  pub list : take w.tallies.uncovered.number w.tallies.uncovered.list ≡ s.uncovered

-- written tables: the place of a covered clause is 0
abbrev pub Resting : ℕ → State → Fixed → Moving → Type 0
Resting top s x w = HoldsAt (λ c. 0) top s x w

-- walking tables: it is the xor of the terms of its true literals
abbrev pub Walking : ℕ → State → Fixed → Moving → Type 0
Walking top s x w = HoldsAt (λ c. xor_true (value_of s.values) (get_or s.file.clauses c [])) top s x w

-- tables in which the counts of a file at the values vs can be worked out
pub record Ready (top : ℕ) (f : File) (vs : List ℕ) (x : Fixed) (w : Moving) : Type 0 where
  pub holds : HoldsClauses top (length vs) f.clauses x
  pub words : HoldsValues vs w.words
  pub trues-room : length f.clauses ≤ length w.tallies.trues
  pub breaks-room : length vs ≤ length w.tallies.breaks
  pub list-room : length f.clauses ≤ length w.tallies.uncovered.list
  pub places-room : length f.clauses ≤ length w.tallies.uncovered.places

-- the entries past those of C clauses and T terms are as they were
pub record Kept (C T : ℕ) (o t : Tallies) : Type 0 where
  pub trues-kept : (j : ℕ) → C ≤ j → get_or t.trues j 0 ≡ get_or o.trues j 0
  pub breaks-kept : (j : ℕ) → T ≤ j → get_or t.breaks j 0 ≡ get_or o.breaks j 0
  pub list-kept : (j : ℕ) → C ≤ j → get_or t.uncovered.list j 0 ≡ get_or o.uncovered.list j 0
  pub places-kept : (j : ℕ) → C ≤ j → get_or t.uncovered.places j 0 ≡ get_or o.uncovered.places j 0
