-- "A lent table may be longer than its full size; the excess is never read or written": what is the same where only the excess differs.
-- Assumes nothing.
use Rattle.std.specs.Prelude.{ℕ, ◌≡◌, List, take}
use Rattle.written.specs.Limits.{Limits}
use Rattle.written.specs.Tables.{Tables, each, full_sizes}
use Rattle.written.specs.Outcomes.{Leaves}
use Rattle.written.specs.Program.{Ran}

-- lent tables that differ at most past their full sizes
abbrev pub SameInFull : Limits → Tables → Tables → Type 0
SameInFull lim t u = each take (full_sizes lim) t ≡ each take (full_sizes lim) u

abbrev pub SameMarks : Limits → List ℕ → List ℕ → Type 0
SameMarks lim a b = take lim.terms a ≡ take lim.terms b

-- two calls that answer the same, and leave the same up to the full sizes
pub record SameCall {A : Type 0} (lim : Limits) (a b : Leaves A) : Type 0 where
  pub answer : a.answer ≡ b.answer
  pub tables : SameInFull lim a.tables b.tables
  pub marks : SameMarks lim a.marks b.marks

-- what a run leaves, with t for its tables and ms for its marks
abbrev pub with_tables : Ran → Tables → List ℕ → Ran
with_tables r t ms = record { answer = r.answer; tables = t; marks = ms; buffer = r.buffer }

-- what a run leaves, the excess cut off
abbrev pub cut : Limits → Ran → Ran
cut lim r = with_tables r (each take (full_sizes lim) r.tables) (take lim.terms r.marks)
