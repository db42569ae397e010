-- The program's run, in the document's words: `printed lim input` is what it prints, of the bytes of its input, and `run_of lim input t b` what it
-- leaves, of lent tables t and a lent buffer b. Assumes nothing.
use Rattle.std.specs.Prelude.{ℕ, zero, suc, ◌*◌, ◌≤◌, ◌<◌, ◌↔◌, ◌⊎◌, ◌≡◌, Bool, true, false, List, [], ◌∷◌, ◌++◌, map, length, get_or, take, drop, eqb, Result, Ok, Err}
use Prim.Native.String.{String}
use Rattle.scan.specs.declared.Cursor.{Cursor}
use Rattle.scan.specs.declared.Token.{Token}
use Rattle.scan.specs.declared.Token.TheVariants.{Literal, True, Line, End, Cut, Bad, Long}
use Rattle.scan.specs.Scan.{scan, cursor_at}
use Rattle.scan.specs.Text.{bytes}
use Rattle.written.specs.declared.Sheet.{Sheet}
use Rattle.written.specs.declared.Reason.TheVariants.{TextTooLong}
use Rattle.written.specs.declared.Fault.{Fault}
use Rattle.written.specs.Lists.{below, has, place_of, times, differ}
use Rattle.written.specs.Limits.{Limits}
use Rattle.written.specs.Reasons.{fault}
use Rattle.written.specs.Clauses.{literal_of, term_of, value_of, true_count}
use Rattle.written.specs.Reading.{accepted, refused, read_text}
use Rattle.written.specs.Walk.{Outcome, walk_over}
use Rattle.written.specs.Orders.{in_range}
use Rattle.written.specs.Sheet.{sheet_of}
use Rattle.written.specs.Tables.{Tables, each, full_sizes, cleared, counts_of}
use Rattle.written.specs.Marks.{full_marked}
use Rattle.written.specs.Printed.{decimal, line, answer, chosen, refusal}
use Rattle.written.specs.Program.{unbegun, unread, walked, course_of, printed, tables_after, marks_after, Ran, reported}
use Rattle.laws.specs.Valid.{Valid}
use Rattle.laws.specs.Calls.{OneOfThree}
use Rattle.laws.specs.Reasons.{names_line, of_text, of_sheet}
use Rattle.laws.specs.Sheets.{last_line}

-- ---- what a run leaves: r, of tables and a buffer of their full sizes

pub record Told (lim : Limits) (input : List ℕ) (t : Tables) (ms b : List ℕ) (r : Ran) : Type 0 where
  -- what is printed goes by the input alone, whatever stood in the tables and the buffer; it stands first in the buffer
  pub answer : r.answer ≡ reported (length (printed lim input))
  pub first : take r.answer.length r.buffer ≡ printed lim input
  -- the rest of the buffer is as it was
  pub rest : drop r.answer.length r.buffer ≡ drop r.answer.length b
  pub as_long : length r.buffer ≡ length b
  -- the tables and the marks go by how the run went
  pub tables : r.tables ≡ tables_after lim t (course_of lim input)
  pub marks : r.marks ≡ marks_after lim ms (course_of lim input)
  pub full : full_marked lim r.tables r.marks ≡ true
  -- "A lent table may be longer than its full size; the excess is never read or written."
  pub beyond : each drop (full_sizes lim) r.tables ≡ each drop (full_sizes lim) t
  pub marks-beyond : drop lim.terms r.marks ≡ drop lim.terms ms

-- ---- "The result line decides."

-- a text begins with these bytes
abbrev pub Begins : String → List ℕ → Type 0
Begins s text = take (length (bytes s)) text ≡ bytes s

abbrev pub Finds : Limits → List ℕ → Type 0
Finds lim input = (e : Outcome) × (course_of lim input ≡ walked e) × (e.found ≡ true)

abbrev pub GivesUp : Limits → List ℕ → Type 0
GivesUp lim input = (e : Outcome) × (course_of lim input ≡ walked e) × (e.found ≡ false)

abbrev pub IsRefused : Limits → List ℕ → Type 0
IsRefused lim input = ((a : Result Sheet Fault) × (course_of lim input ≡ unbegun a)) ⊎ ((e : Fault) × (course_of lim input ≡ unread e))

pub record Decides (lim : Limits) (input : List ℕ) : Type 0 where
  pub found : Begins "result=found\n" (printed lim input) ↔ Finds lim input
  pub gave_up : Begins "result=gaveup\n" (printed lim input) ↔ GivesUp lim input
  pub refused : Begins "result=refused\n" (printed lim input) ↔ IsRefused lim input
  -- one of these lines is printed, and no other
  pub one : OneOfThree (Begins "result=found\n" (printed lim input)) (Begins "result=gaveup\n" (printed lim input)) (Begins "result=refused\n" (printed lim input))

-- ---- refusals: "The program tests 2 on its whole input, then the sheet, then reads."

-- the tests 2, 10 and 11 are passed: s is the sheet
pub record Begun (lim : Limits) (input : List ℕ) (s : Sheet) : Type 0 where
  pub short : length input ≤ lim.text
  pub sheet : sheet_of input ≡ Ok s

-- "then the clause text"
abbrev pub text_after : Sheet → List ℕ → List ℕ
text_after s input = drop s.at input

-- the first test that fails
pub data Refuses (lim : Limits) (input : List ℕ) : Fault → Type 0 where
  -- "text (or program input) over 65,536 bytes"
  too_long : lim.text < length input → Refuses lim input (fault TextTooLong)
  bad-sheet : (e : Fault) → length input ≤ lim.text → sheet_of input ≡ Err e → Refuses lim input e
  bad-text : (s : Sheet) (e : Fault) → Begun lim input s → read_text lim (text_after s input) ≡ refused e → Refuses lim input e

-- "given exactly when": the lines of a refusal are printed, and these are all that is printed
pub record Given (lim : Limits) (input : List ℕ) : Type 0 where
  pub exactly : (e : Fault) → (printed lim input ≡ refusal e) ↔ Refuses lim input e
  pub reason-2 : (printed lim input ≡ refusal (fault TextTooLong)) ↔ (lim.text < length input)
  -- the text's own, as a reading gives them
  pub of-text : (e : Fault) → of_text e.reason ≡ true
      → (printed lim input ≡ refusal e) ↔ ((s : Sheet) × Begun lim input s × (read_text lim (text_after s input) ≡ refused e))
  -- the sheet's
  pub of-sheet : (e : Fault) → of_sheet e.reason ≡ true → (printed lim input ≡ refusal e) ↔ ((length input ≤ lim.text) × (sheet_of input ≡ Err e))
  -- no other is given: not 1, 12, 13 or 14
  pub no_other : (e : Fault) → printed lim input ≡ refusal e → (e.reason ≡ TextTooLong) ⊎ ((of_text e.reason ≡ true) ⊎ (of_sheet e.reason ≡ true))

-- the line of a refused run, and the tables u that it leaves where t stood
pub record Refused (lim : Limits) (input : List ℕ) (t : Tables) (e : Fault) (u : Tables) : Type 0 where
  pub refuses : Refuses lim input e
  -- "The line is that of the fault for 4 to 8 and 10", for 15 "with its line", and "A sheet number out of range is reason 11 with its sheet line here"
  pub text-line : names_line e.reason ≡ true → 0 < e.line
  pub sheet-line : of_sheet e.reason ≡ true → (1 ≤ e.line) × (e.line ≤ last_line)
  -- "else 0"
  pub no_line : names_line e.reason ≡ false → of_sheet e.reason ≡ false → e.line ≡ 0
  -- "tables 0"
  pub emptied : of_sheet e.reason ≡ false → u ≡ cleared lim t
  -- "nothing begun", "all unchanged"
  pub unchanged : of_sheet e.reason ≡ true → u ≡ t

-- ---- walks

-- how walks came to the end e: they are those of the sheet's order over the file that the text says
pub record Walks (lim : Limits) (input : List ℕ) (e : Outcome) : Type 0 where
  pub sheet : Sheet
  pub begun : Begun lim input sheet
  pub range : in_range sheet.order ≡ true
  pub read : read_text lim (text_after sheet input) ≡ accepted e.last.state.file
  pub made : e ≡ walk_over sheet.order [] e.last.state.file
  -- a proper file, a value of 0 or 1 for each term, and the uncovered listed
  pub valid : Valid lim e.last.state

abbrev pub names_at : Outcome → List ℕ
names_at e = e.last.state.file.names

abbrev pub clauses_at : Outcome → List (List ℕ)
clauses_at e = e.last.state.file.clauses

abbrev pub values_at : Outcome → List ℕ
values_at e = e.last.state.values

-- ---- the answer line, read again

-- the token of a literal in line n
abbrev pub literal : Bool → ℕ → ℕ → Token
literal negated x n = Literal (record { negated = negated; name = x; line = n })

-- the next k tokens from a cursor on
abbrev pub tokens : ℕ → List ℕ → Cursor → List Token
tokens zero t c = []
tokens (suc k) t c = (scan t c).token ∷ tokens k t (scan t c).next

-- the literals of line n that give each name its value
abbrev pub literals : ℕ → List ℕ → List ℕ → List Token
literals n [] vs = []
literals n (x ∷ xs) [] = []
literals n (x ∷ xs) (v ∷ vs) = literal (eqb v 0) x n ∷ literals n xs vs

-- the names that tokens tell
abbrev pub names_in : List Token → List ℕ
names_in [] = []
names_in (Literal l ∷ ts) = l.name ∷ names_in ts
names_in (True n ∷ ts) = names_in ts
names_in (Line n ∷ ts) = names_in ts
names_in (End n ∷ ts) = names_in ts
names_in (Cut n ∷ ts) = names_in ts
names_in (Bad n ∷ ts) = names_in ts
names_in (Long n ∷ ts) = names_in ts

-- the literals that they tell, each by its name's place: "Term k's literal is 2k, its negation 2k+1."
abbrev pub read_back : List ℕ → List Token → List ℕ
read_back xs [] = []
read_back xs (Literal l ∷ ts) = literal_of (place_of l.name xs) l.negated ∷ read_back xs ts
read_back xs (True n ∷ ts) = read_back xs ts
read_back xs (Line n ∷ ts) = read_back xs ts
read_back xs (End n ∷ ts) = read_back xs ts
read_back xs (Cut n ∷ ts) = read_back xs ts
read_back xs (Bad n ∷ ts) = read_back xs ts
read_back xs (Long n ∷ ts) = read_back xs ts

-- ---- a found answer names every term once and, read back as literals, covers each clause kept

-- four lines and a key
unfoldable pub before_answer : Outcome → List ℕ
before_answer e =
    line "result=" (bytes "found")
    ++ line "walks=" (decimal e.walks)
    ++ line "flips=" (decimal e.last.flips)
    ++ line "chosen=" (decimal (chosen e.last.state))
    ++ bytes "answer="

-- the tokens that stand after these in what is printed: one more than there are terms
abbrev pub answer_tokens : Limits → List ℕ → Outcome → List Token
answer_tokens lim input e = tokens (suc (length (names_at e))) (printed lim input) (cursor_at (length (before_answer e)) 5)

abbrev pub answer_literals : Limits → List ℕ → Outcome → List ℕ
answer_literals lim input e = read_back (names_at e) (answer_tokens lim input e)

pub record FoundAnswer (lim : Limits) (input : List ℕ) (e : Outcome) : Type 0 where
  pub walks : Walks lim input e
  pub prints : printed lim input ≡ before_answer e ++ (answer (names_at e) (values_at e) ++ 10 ∷ [])
  -- "the answer lists every term in order, ~ before those at 0": a literal for each, and the line's end
  pub reads : answer_tokens lim input e ≡ literals 5 (names_at e) (values_at e) ++ Line 5 ∷ []
  -- names every term once: no two terms have one name
  pub names : names_in (answer_tokens lim input e) ≡ names_at e
  pub names-differ : differ (names_at e) ≡ true
  pub names-count : length (names_in (answer_tokens lim input e)) ≡ (counts_of e.last.state).terms
  -- read back, every term once, each by its true literal
  pub terms : map term_of (answer_literals lim input e) ≡ below (length (names_at e))
  pub hold : (l : ℕ) → has l (answer_literals lim input e) ≡ true → value_of (values_at e) l ≡ 1
  -- "each clause kept has a true literal": one that stands in the answer
  pub covers : (c : ℕ) → c < length (clauses_at e) → (l : ℕ) × (has l (get_or (clauses_at e) c []) ≡ true) × (has l (answer_literals lim input e) ≡ true)
  -- chosen: the terms whose value is 1
  pub ones : chosen e.last.state ≡ times 1 (values_at e)

-- "Giving up prints result=gaveup, the same keys, chosen=0 and answer=~?."
pub record GaveUpAnswer (lim : Limits) (input : List ℕ) (e : Outcome) : Type 0 where
  pub walks : Walks lim input e
  -- every walk is begun and has "made its flips"
  pub prints : printed lim input
      ≡ line "result=" (bytes "gaveup")
      ++ line "walks=" (decimal walks.sheet.order.walks)
      ++ line "flips=" (decimal (walks.sheet.order.walks * walks.sheet.order.flips))
      ++ bytes "chosen=0\nanswer=~?\n"
  -- a clause has no true literal
  pub missed : (c : ℕ) × (c < length (clauses_at e)) × (true_count (values_at e) (get_or (clauses_at e) c []) ≡ 0)
