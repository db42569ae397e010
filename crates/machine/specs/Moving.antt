-- The tables that a flip reads and those that it writes, and the flip of a term on them. Assumes nothing.
use Rattle.std.specs.Prelude.{ℕ, ◌+◌, ◌-◌, ◌*◌, ◌/◌, ◌≤◌, ◌<◌, List, [], length, get_or}
use Rattle.words.specs.Words.{bit_at, turn_at}
use Rattle.written.specs.Lists.{total, steps}
use Rattle.written.specs.Lending.{Held}
use Rattle.written.specs.Agreement.{part_of}
use Rattle.machine.specs.Literals.{value_in, xor_true, Readable}
use Rattle.machine.specs.Tallies.{Tallies, tallies_at, gain_one, lose_one, CanGain, CanLose, CanSteps}

-- the tables that a flip only reads
pub record Fixed : Type 0 where
  pub starts : List ℕ
  pub literals : List ℕ
  pub occurrence_starts : List ℕ
  pub occurrences : List ℕ

abbrev pub fixed : List ℕ → List ℕ → List ℕ → List ℕ → Fixed
fixed s l o c = record { starts = s; literals = l; occurrence_starts = o; occurrences = c }

abbrev pub fixed_at : Held → Held → Held → Held → Fixed
fixed_at s l o c = fixed s l o c

-- what a flip reads: no clause
abbrev pub occurring : List ℕ → List ℕ → Fixed
occurring o c = fixed [] [] o c

-- the tables that a flip writes: the value words and the tallies
pub record Moving : Type 0 where
  pub words : List ℕ
  pub tallies : Tallies

abbrev pub moving : List ℕ → Tallies → Moving
moving ws t = record { words = ws; tallies = t }

abbrev pub moving_at : Held → Held → Held → Held → Held → ℕ → Moving
moving_at ws ts bs us ps n = moving ws (tallies_at ts bs us ps n)

-- what is read of a clause: the value words, clause starts, literals
pub record View : Type 0 where
  pub words : List ℕ
  pub starts : List ℕ
  pub literals : List ℕ

abbrev pub view : List ℕ → List ℕ → List ℕ → View
view w s l = record { words = w; starts = s; literals = l }

-- what it asks to read part k of the entries, by the starts
pub record CanPart (starts xs : List ℕ) (k : ℕ) : Type 0 where
  pub start : k + 1 < length starts
  pub order : get_or starts k 0 ≤ get_or starts (k + 1) 0
  pub within : get_or starts (k + 1) 0 ≤ length xs

-- what it asks to read clause c with its literals' values
pub record CanRead (f : View) (c : ℕ) : Type 0 where
  pub part : CanPart f.starts f.literals c
  pub words : Readable f.words (part_of f.starts f.literals c)

-- how many literals of clause c are true, and their terms, xored
unfoldable pub count_at : View → ℕ → ℕ
count_at f c = total (value_in f.words) (part_of f.starts f.literals c)

unfoldable pub xor_at : View → ℕ → ℕ
xor_at f c = xor_true (value_in f.words) (part_of f.starts f.literals c)

-- the literal of term v that becomes true as v flips, and the one that becomes false
unfoldable pub up_of : List ℕ → ℕ → ℕ
up_of ws v = 2 * v + bit_at ws v

unfoldable pub down_of : List ℕ → ℕ → ℕ
down_of ws v = 2 * v + 1 - bit_at ws v

-- the tallies after the clauses of the one, and after those of the other
unfoldable pub gained : Fixed → ℕ → List ℕ → Tallies → Tallies
gained x v ws t = steps (gain_one v) (part_of x.occurrence_starts x.occurrences (up_of ws v)) t

unfoldable pub lost : Fixed → ℕ → List ℕ → Tallies → Tallies
lost x v ws t = steps (lose_one v) (part_of x.occurrence_starts x.occurrences (down_of ws v)) t

-- the flip of term v
unfoldable pub flip_term : Fixed → ℕ → Moving → Moving
flip_term x v w = record { words = turn_at w.words v; tallies = lost x v w.words (gained x v w.words w.tallies) }

-- what a flip asks; top is 2 to the width of an entry
pub record CanFlip (top : ℕ) (x : Fixed) (v : ℕ) (w : Moving) : Type 0 where
  pub word : v / 32 < length w.words
  pub small : 2 * v + 1 < top
  pub up : CanPart x.occurrence_starts x.occurrences (up_of w.words v)
  pub down : CanPart x.occurrence_starts x.occurrences (down_of w.words v)
  pub gains : CanSteps (CanGain top v) (gain_one v) (part_of x.occurrence_starts x.occurrences (up_of w.words v)) w.tallies
  pub loses : CanSteps (CanLose top v) (lose_one v) (part_of x.occurrence_starts x.occurrences (down_of w.words v)) (gained x v w.words w.tallies)
