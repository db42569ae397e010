-- The program's run on lent tables and a lent buffer, and the values of a sheet, worked out under small limits: two tables of examples.
-- Each stands under one statement, which antt computes. Assumes nothing.
use Rattle.std.specs.Prelude.{ℕ, refl, List, [], ◌∷◌, ◌++◌, length, drop}
use Prim.Native.String.{String}
use Rattle.scan.specs.Text.{bytes}
use Rattle.written.specs.Limits.{Limits}
use Rattle.written.specs.Tables.{Tables}
use Rattle.written.specs.Sheet.{SheetValues, sheet_of, sheet_values}
use Rattle.written.specs.Program.{Ran, reported, run_of}
use Rattle.written.specs.Calls.{sevens, given, free, zero, holding, changed}
use Rattle.written.specs.Computing.{computing, Example, ◌tells◌, Tells}

-- the small limits, with room for a sheet in the text
abbrev pub roomy : Limits
roomy = record { text = 48; terms = 3; clauses = 3; literals = 5; list = 4 }

-- ten bytes for each of three terms and 64 more, and one byte of excess
abbrev pub buffer : List ℕ
buffer = sevens 95

-- marks as lent, and as a reading leaves them
abbrev pub marked : List ℕ
marked = sevens 4

abbrev pub running : String → Tables → List ℕ → Ran
running input t b = run_of roomy (bytes input) t marked b

-- these bytes stand first in the buffer
abbrev pub leaves_with : List ℕ → String → Tables → Ran
leaves_with ms s t = record { answer = reported (length (bytes s)); tables = t; marks = ms; buffer = bytes s ++ drop (length (bytes s)) buffer }

-- the marks are 0 after a reading
abbrev pub leaves : String → Tables → Ran
leaves s t = leaves_with free s t

-- refused by 1: all unchanged
abbrev pub nothing : Tables → List ℕ → List ℕ → Ran
nothing t ms b = record { answer = record { result = 0; reason = 1; length = 0 }; tables = t; marks = ms; buffer = b }

abbrev pub table : List (Example Ran)
table =
    -- found: the tables hold the answer
    (running "seed=1\nflips=10\nwalks=1\nbias=400\na b\n~a b\n" given buffer
    tells leaves "result=found\nwalks=1\nflips=1\nchosen=2\nanswer=a b\n"
    (holding (3 ∷ 7 ∷ []) (2 ∷ 1 ∷ 0 ∷ 7 ∷ []) (0 ∷ 1 ∷ 0 ∷ 7 ∷ []) (0 ∷ 0 ∷ 0 ∷ 7 ∷ []) (0 ∷ 0 ∷ 0 ∷ 7 ∷ [])))
    -- "The program tests 2 on its whole input": tables 0
    ∷ (running "seed=0\nflips=10\nwalks=1\nbias=400\na b\n~a b\nc a b\n~c\n" given buffer tells leaves "result=refused\nreason=2\nline=0\n" zero)
    -- a refused sheet: "nothing begun"
    ∷ (running "seed=0\nflips=10\nwalks=1\nbias=400\na b\n" given buffer tells leaves_with marked "result=refused\nreason=11\nline=1\n" given)
    ∷ (running "seed=1\nflips=10\nwalks=1\n" given buffer tells leaves_with marked "result=refused\nreason=10\nline=4\n" given)
    ∷ (running "seed=1\nflips=10\nwalks=1\nbias=400\nchoice=a\n" given buffer tells leaves_with marked "result=refused\nreason=10\nline=5\n" given)
    -- a refused text: tables 0
    ∷ (running "seed=1\nflips=10\nwalks=1\nbias=400\na b\n~a\tb\n" given buffer tells leaves "result=refused\nreason=4\nline=2\n" zero)
    ∷ (running "seed=1\nflips=10\nwalks=1\nbias=400\n" given buffer tells leaves "result=refused\nreason=9\nline=0\n" zero)
    -- a table or the buffer too short
    ∷ (running "seed=1\nflips=10\nwalks=1\nbias=400\na b\n" (changed 9 (drop 2) given) buffer tells nothing (changed 9 (drop 2) given) marked buffer)
    ∷ (running "seed=1\nflips=10\nwalks=1\nbias=400\na b\n" given (sevens 93) tells nothing given marked (sevens 93))
    ∷ (run_of roomy (bytes "seed=1\nflips=10\nwalks=1\nbias=400\na b\n") given (sevens 2) buffer tells nothing given (sevens 2) buffer)
    ∷ []

pub shown : Tells table
unfolding computing
shown = refl

-- ---- the values of a sheet

abbrev pub sheet : String → SheetValues
sheet input = sheet_values (sheet_of (bytes input))

abbrev pub taken : ℕ → ℕ → ℕ → ℕ → ℕ → ℕ → SheetValues
taken s f w b e at =
    record { result = 1; reason = 0; line = 0; sheet = record { order = record { seed = s; flips = f; walks = w; bias = b; even = e }; at = at } }

abbrev pub zeros : ℕ → ℕ → SheetValues
zeros r l =
    record { result = 0; reason = r; line = l; sheet = record { order = record { seed = 0; flips = 0; walks = 0; bias = 0; even = 0 }; at = 0 } }

abbrev pub sheets : List (Example SheetValues)
sheets =
    (sheet "seed=1\nflips=10\nwalks=1\nbias=400\na b\n" tells taken 1 10 1 400 0 33)
    ∷ (sheet "seed=4294967295\nflips=0\nwalks=1000\nbias=0\n" tells taken 4294967295 0 1000 0 0 42)
    ∷ (sheet "seed=1\nflips=100001\nwalks=x\nbias=400\n" tells zeros 11 2)
    ∷ (sheet "seed=1\nflips=10\nwalks=x\nbias=4000\n" tells zeros 10 3)
    ∷ (sheet "seed=1\nflips=10\nwalks=1\nbias=400" tells zeros 10 4)
    ∷ (sheet "seed=1\nflips=10\nwalks=1\nbias=400\nchoice=even\na b\n" tells taken 1 10 1 400 1 45)
    ∷ (sheet "seed=1\nflips=10\nwalks=1\nbias=400\nchoice\n" tells taken 1 10 1 400 0 33)
    ∷ (sheet "seed=1\nflips=10\nwalks=1\nbias=400\nchoice=" tells zeros 10 5)
    ∷ (sheet "seed=1\nflips=10\nwalks=1\nbias=400\nchoice=even \n" tells zeros 10 5)
    ∷ []

pub sheets-shown : Tells sheets
unfolding computing
sheets-shown = refl
