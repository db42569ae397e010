-- An order sheet, in the document's words: `sheet_of input` is what its answer is. Assumes nothing.
use Rattle.std.specs.Prelude.{ℕ, zero, suc, ◌-◌, ◌<◌, ◌≡◌, true, false, List, [], ◌∷◌, ◌++◌, length, get_or, drop, Result, Ok, Err}
use Rattle.scan.specs.Text.{bytes}
use Rattle.written.specs.declared.Sheet.{Sheet}
use Rattle.written.specs.declared.Reason.{Reason}
use Rattle.written.specs.declared.Reason.TheVariants.{SheetForm, OutOfRange}
use Rattle.written.specs.declared.Fault.{Fault}
use Rattle.written.specs.Reasons.{number_of}
use Rattle.written.specs.Orders.{Range, seeds, flips_each, walks_all, biases, within, in_range}
use Rattle.written.specs.Sheet.{line_length, begins, has_form, number_after, four_then, optional, no_sheet, sheet_values}

-- no line of a sheet is further down
abbrev pub last_line : ℕ
last_line = 5

-- what is left of the input after its first k lines
abbrev pub after_lines : ℕ → List ℕ → List ℕ
after_lines zero input = input
after_lines (suc k) input = after_lines k (drop (suc (line_length input)) input)

-- the line k of a sheet, counted from 0: its key and its range
abbrev pub key_of : ℕ → List ℕ
key_of k = get_or (bytes "seed=" ∷ bytes "flips=" ∷ bytes "walks=" ∷ bytes "bias=" ∷ []) k []

abbrev pub range_of : ℕ → Range
range_of k = get_or (seeds ∷ flips_each ∷ walks_all ∷ biases ∷ []) k biases

-- the number that the line k says
abbrev pub number_in : ℕ → List ℕ → ℕ
number_in k input = number_after (key_of k) (after_lines k input)

-- the line k has the form of a sheet's line, and its number is in its range
pub record Good (k : ℕ) (input : List ℕ) : Type 0 where
  pub form : has_form (key_of k) (after_lines k input) ≡ true
  pub range : within (range_of k) (number_in k input) ≡ true

-- all lines before the line k
abbrev pub GoodTo : ℕ → List ℕ → Type 0
GoodTo zero input = Unit {0}
GoodTo (suc k) input = GoodTo k input × Good k input

-- "by 10 or 11 as its own fault is", of the four lines of numbers
pub data Faulty (input : List ℕ) : ℕ → Reason → Type 0 where
  wrong_form : (k : ℕ) → k < 4 → has_form (key_of k) (after_lines k input) ≡ false → Faulty input k SheetForm
  out_of_range : (k : ℕ) → k < 4 → has_form (key_of k) (after_lines k input) ≡ true → within (range_of k) (number_in k input) ≡ false → Faulty input k OutOfRange
  -- "a line that begins with choice= in that place and isn't exactly this is reason 10, line 5"
  not_the_choice : begins (bytes "choice=") (after_lines 4 input) ≡ true → begins (bytes "choice=even\n") (after_lines 4 input) ≡ false
      → Faulty input 4 SheetForm

-- "The lines are judged from the top and the first faulty one is named"
pub record Named (input : List ℕ) (e : Fault) : Type 0 where
  pub line : ℕ
  pub good-before : GoodTo line input
  pub faulty : Faulty input line e.reason
  pub named : e.line ≡ suc line
  -- "a refused sheet zeros"
  pub values : sheet_values (Err e) ≡ record { result = 0; reason = number_of e.reason; line = suc line; sheet = no_sheet }

-- what follows the four lines: the mode and the clause text
pub data Fifth (rest : List ℕ) : ℕ → List ℕ → Type 0 where
  -- "any other line there is the first clause line"
  no_choice : begins (bytes "choice=") rest ≡ false → Fifth rest 0 rest
  even-choice : (text : List ℕ) → rest ≡ bytes "choice=even\n" ++ text → Fifth rest 1 text

-- a sheet whose lines are good: its numbers, its mode, and where the clause text begins
pub record Taken (input : List ℕ) (s : Sheet) : Type 0 where
  pub good : GoodTo 4 input
  pub mode : ℕ
  pub text : List ℕ
  pub fifth : Fifth (after_lines 4 input) mode text
  pub numbers : s.order ≡ record { seed = number_in 0 input; flips = number_in 1 input; walks = number_in 2 input; bias = number_in 3 input; even = mode }
  pub in_range_lem : in_range s.order ≡ true
  pub text-begins : s.at ≡ length input - length text

-- what an answer says of its input
abbrev pub Says : List ℕ → Result Sheet Fault → Type 0
Says input (Ok s) = Taken input s
Says input (Err e) = Named input e

-- ---- the fifth line apart

-- "an order sheet of four lines, then the clause text": the sheet as document 01 alone has it
unfoldable pub four_lines : List ℕ → Result Sheet Fault
four_lines input =
    four_then input λ s f w b text.
    Ok (record { order = record { seed = s; flips = f; walks = w; bias = b; even = 0 }; at = length input - length text })

-- a sheet in a mode, whose clause text begins at a place
abbrev pub in_mode : Sheet → ℕ → ℕ → Sheet
in_mode s e at = record { order = record { seed = s.order.seed; flips = s.order.flips; walks = s.order.walks; bias = s.order.bias; even = e }; at = at }

-- what the fifth line makes of it
abbrev pub after_four : List ℕ → Result Sheet Fault → Result Sheet Fault
after_four input (Err e) = Err e
after_four input (Ok s) =
    optional 5 (bytes "choice=") (bytes "choice=even\n") (drop s.at input) λ e text. Ok (in_mode s e (length input - length text))
