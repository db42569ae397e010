-- The program for numbered files, in the document's words: what it prints, of the bytes of its input, found and given up. Assumes nothing.
use Rattle.std.specs.Prelude.{ℕ, suc, ◌*◌, ◌≤◌, ◌<◌, ◌≡◌, true, length, get_or, take, drop, eqb, Some}
use Prim.Native.String.{String}
use mathlib.Core.List.{List, [], ◌++◌, flatten}
use Rattle.words.specs.Words.{bit_at}
use Rattle.scan.specs.Text.{bytes}
use Rattle.written.specs.declared.Form.TheVariants.{Numbered}
use Rattle.written.specs.declared.Header.{Header}
use Rattle.written.specs.declared.Numeral.TheVariants.{Number}
use Rattle.written.specs.declared.Sheet.{Sheet}
use Rattle.written.specs.Lists.{list_of, has}
use Rattle.written.specs.Limits.{Limits}
use Rattle.written.specs.Clauses.{value_of, true_count}
use Rattle.written.specs.Reading.{accepted}
use Rattle.written.specs.Numerals.{header_at, numeral_of}
use Rattle.written.specs.Numbered.{read_numbered}
use Rattle.written.specs.Walk.{Outcome, walk_over}
use Rattle.written.specs.Orders.{in_range}
use Rattle.written.specs.Tables.{Tables, counts_of}
use Rattle.written.specs.Marks.{full_marked}
use Rattle.written.specs.Competition.{signed_number, values_from, lines_for, value_lines, tour_told, satisfiable, unknown}
use Rattle.written.specs.Program.{competing, report_size, run_as}
use Rattle.laws.specs.Valid.{Valid}
use Rattle.laws.specs.NumberedCalls.{head_at}
use Rattle.laws.specs.RunCalls.{Begun, text_after, clauses_at, values_at}

-- these bytes stand somewhere in a text
abbrev pub Prints : String → List ℕ → Type 0
Prints s text = (before : List ℕ) × (after : List ℕ) × (text ≡ before ++ (bytes s ++ after))

-- how walks came to the end e: they are those of the sheet's order over the file that the numbered text says
pub record WalksNumbered (lim : Limits) (input : List ℕ) (e : Outcome) : Type 0 where
  pub sheet : Sheet
  pub begun : Begun lim input sheet
  pub range : in_range sheet.order ≡ true
  pub read : read_numbered lim (text_after sheet input) ≡ accepted e.last.state.file
  pub made : e ≡ walk_over sheet.order [] e.last.state.file
  pub valid : Valid lim e.last.state

-- the numbers on the line that i lines of values stand before
abbrev pub values_on : List ℕ → ℕ → List ℕ
values_on vs i = values_from (suc (10 * i)) (take 10 (drop (10 * i) vs))

-- found: the `v` lines name every variable once, in order, each with its value
pub record FoundValues (lim : Limits) (input : List ℕ) (e : Outcome) : Type 0 where
  pub walks : WalksNumbered lim input e
  pub prints : competing lim input ≡ tour_told e.walks e.last.flips ++ (satisfiable ++ value_lines (values_at e))
  -- as many values as the header says variables
  pub variables : (h : Header) → header_at (text_after walks.sheet input) (head_at (text_after walks.sheet input)).at ≡ Some h → length (values_at e) ≡ h.variables
  -- the numbers of all lines, one after another, are those of 1 and on, each once
  pub numbers : flatten (list_of (lines_for (length (values_at e))) (values_on (values_at e))) ≡ values_from 1 (values_at e)
  -- each, read as a number of a numbered file is read, is its variable's, negated exactly where the value is 0
  pub reads : (k n : ℕ) → k < length (values_at e)
      → numeral_of (signed_number (get_or (values_at e) k 0) (suc k)) n ≡ Number (record { negated = eqb (get_or (values_at e) k 0) 0; number = suc k; line = n })
  -- the values are those that stand in the tables that the run leaves
  pub stored : (t : Tables) (ms b : List ℕ) → full_marked lim t ms ≡ true → report_size lim ≤ length b
      → list_of (counts_of e.last.state).terms (bit_at (run_as Numbered lim input t ms b).tables.values) ≡ values_at e
  -- each clause kept has a literal that is true by them
  pub covers : (c : ℕ) → c < length (clauses_at e) → (l : ℕ) × (has l (get_or (clauses_at e) c []) ≡ true) × (value_of (values_at e) l ≡ 1)

-- given up: every walk is begun and has made its flips, and a clause has no true literal
pub record GaveUpNumbered (lim : Limits) (input : List ℕ) (e : Outcome) : Type 0 where
  pub walks : WalksNumbered lim input e
  pub prints : competing lim input ≡ tour_told walks.sheet.order.walks (walks.sheet.order.walks * walks.sheet.order.flips) ++ unknown
  pub missed : (c : ℕ) × (c < length (clauses_at e)) × (true_count (values_at e) (get_or (clauses_at e) c []) ≡ 0)
