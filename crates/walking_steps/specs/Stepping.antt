-- One walk on the tables, operation by operation, and what each asks. Assumes nothing.
use Rattle.std.specs.Prelude.{ℕ, zero, suc, ◌/◌, ◌≤◌, Bool, true, false, cond, List, ◌≡◌, length, get_or, take, eqb, ltb}
use Rattle.words.specs.Words.{hold_at, filled, state_after, word_count}
use Rattle.written.specs.declared.Order.{Order}
use Rattle.written.specs.Drawing.{Pick, chosen_from}
use Rattle.written.specs.Lending.{Held}
use Rattle.written.specs.Agreement.{part_of}
use Rattle.written.specs.Marks.{free_in}
use Rattle.machine.specs.Tallies.{Tallies, tallies_at}
use Rattle.machine.specs.Moving.{Fixed, Moving, moving, view, flip_term, CanPart, CanFlip}
use Rattle.machine.specs.Passes.{recounted, CanRecount}
use Rattle.walking_choice.specs.Choosing.{break_in, literal_by, CanDraw, CanPick, Plain}
use Rattle.walking_steps.specs.declared.At.{At}

-- where the walks stand: the tables that they write, the generator's state, and the flips summed
pub record Stand : Type 0 where
  pub tables : Moving
  pub generator : ℕ
  pub flips : ℕ

abbrev pub stand : List ℕ → Tallies → ℕ → ℕ → Stand
stand ws t y k = record { tables = moving ws t; generator = y; flips = k }

-- those of lent tables, and of what goes beside them by value
abbrev pub stand_at : Held → Held → Held → Held → Held → At → Stand
stand_at ws ts bs us ps a = stand ws (tallies_at ts bs us ps a.number) a.generator.state a.flips

-- how many clauses are uncovered, and which
abbrev pub uncovered_number : Stand → ℕ
uncovered_number v = v.tables.tallies.uncovered.number

abbrev pub uncovered_list : Stand → List ℕ
uncovered_list v = take (uncovered_number v) v.tables.tallies.uncovered.list

-- ---- a step

-- 3: the clause that is picked
unfoldable pub clause_for : Order → Stand → Pick
clause_for o v = chosen_from o (uncovered_list v) v.generator

abbrev pub clause_at : Fixed → Pick → List ℕ
clause_at x p = part_of x.starts x.literals p.picked

-- its literals that are looked at: those of free terms, by the marks ms
abbrev pub looked_in : List ℕ → Fixed → Pick → List ℕ
looked_in ms x p = free_in ms (clause_at x p)

-- 4: the literal that is picked in it
unfoldable pub literal_for : Order → List ℕ → Fixed → Stand → Pick
literal_for o ms x v = literal_by o (break_in v.tables.tallies.breaks) (looked_in ms x (clause_for o v)) (clause_for o v).state

-- 5: its term flipped
abbrev pub flip_for : Fixed → Stand → Pick → Stand
flip_for x v p = record { tables = flip_term x (p.picked / 2) v.tables; generator = p.state; flips = suc v.flips }

-- it has none: the clause was drawn for, and no flip is made
unfoldable pub is_stuck_in : Order → List ℕ → Fixed → Stand → Bool
is_stuck_in o ms x v = eqb (length (looked_in ms x (clause_for o v))) 0

abbrev pub stuck_for : Stand → Pick → Stand
stuck_for v p = record { tables = v.tables; generator = p.state; flips = v.flips }

unfoldable pub step_in : Order → List ℕ → Fixed → Stand → Stand
step_in o ms x v = cond (is_stuck_in o ms x v) (stuck_for v (clause_for o v)) (flip_for x v (literal_for o ms x v))

-- what a step asks; top is 2 to the width of an entry, and where `pinned` is false, no term of the file is pinned
pub record CanStep (top : ℕ) (pinned : Bool) (o : Order) (ms : List ℕ) (x : Fixed) (v : Stand) : Type 0 where
  pub list : uncovered_number v ≤ length v.tables.tallies.uncovered.list
  pub draw : CanDraw top (uncovered_list v)
  pub clause : CanPart x.starts x.literals (clause_for o v).picked
  pub pick : CanPick top v.tables.tallies.breaks ms (clause_at x (clause_for o v))
  pub plain : Plain pinned ms (clause_at x (clause_for o v))
  pub flip : is_stuck_in o ms x v ≡ false → CanFlip top x ((literal_for o ms x v).picked / 2) v.tables

-- ---- a start, for T terms and C clauses

-- the words in which the first k terms have the values of their marks
unfoldable pub held_in : List ℕ → ℕ → List ℕ → List ℕ
held_in ms zero ws = ws
held_in ms (suc k) ws = hold_at (held_in ms k ws) k (get_or ms k 0)

-- the tables with the drawn words, where pinned terms have their values
abbrev pub drawn_for : List ℕ → ℕ → Stand → Moving
drawn_for ms T v = moving (held_in ms T (filled v.tables.words T v.generator (word_count T))) v.tables.tallies

unfoldable pub start_in : List ℕ → ℕ → ℕ → Fixed → Stand → Stand
start_in ms T C x v = record { tables = recounted C T x (drawn_for ms T v); generator = state_after v.generator (word_count T); flips = v.flips }

-- what it asks
pub record CanStart (top T C : ℕ) (ms : List ℕ) (x : Fixed) (v : Stand) : Type 0 where
  pub counts : CanRecount top C T (view (drawn_for ms T v).words x.starts x.literals) v.tables.tallies
  pub marks : T ≤ length ms

-- ---- a walk

-- one of the first k terms is pinned
unfoldable pub any_pinned : List ℕ → ℕ → Bool
any_pinned ms zero = false
any_pinned ms (suc k) = cond (any_pinned ms k) true (ltb 0 (get_or ms k 0))

-- 2: "If no clause is uncovered: found."
unfoldable pub is_found_in : Stand → Bool
is_found_in v = eqb (uncovered_number v) 0

-- steps until found, until k are made, or until stuck
unfoldable pub onwards_in : Order → List ℕ → Fixed → ℕ → Stand → Stand
onwards_in o ms x zero v = v
onwards_in o ms x (suc k) v = cond (is_found_in v) v (cond (is_stuck_in o ms x v) (step_in o ms x v) (onwards_in o ms x k (step_in o ms x v)))

unfoldable pub walk_in : Order → List ℕ → ℕ → ℕ → Fixed → Stand → Stand
walk_in o ms T C x v = onwards_in o ms x o.flips (start_in ms T C x v)
