-- What the program for numbered files prints, and what its run leaves, worked out: two tables, each under one statement, which antt computes. Assumes nothing.
use Rattle.std.specs.Prelude.{ℕ, refl, List, [], ◌∷◌, drop}
use Prim.Native.String.{String}
use Rattle.scan.specs.Text.{bytes}
use Rattle.written.specs.declared.Form.TheVariants.{Numbered}
use Rattle.written.specs.Limits.{narrow}
use Rattle.written.specs.Tables.{Tables}
use Rattle.written.specs.Competition.{value_lines}
use Rattle.written.specs.Program.{Ran, competing, run_as}
use Rattle.written.specs.Calls.{given, zero}
use Rattle.written.specs.Runs.{roomy, buffer, marked, leaves, leaves_with, nothing}
use Rattle.written.specs.Computing.{computing, Example, ◌tells◌, Tells}

-- ---- what is printed

abbrev pub printing : String → List ℕ
printing input = competing narrow (bytes input)

abbrev pub table : List (Example (List ℕ))
table =
    -- found
    (printing "seed=1\nflips=10\nwalks=1\nbias=400\np cnf 2 2\n1 2 0\n-1 2 0\n" tells bytes "c walks=1\nc flips=1\ns SATISFIABLE\nv 1 2\nv 0\n")
    -- eleven variables, ten numbers a line
    ∷ (printing "seed=1\nflips=0\nwalks=1\nbias=400\np cnf 11 1\n1 2 3 4 5 6 7 8 9 10 11 0\n"
    tells bytes "c walks=1\nc flips=0\ns SATISFIABLE\nv 1 -2 -3 -4 -5 6 -7 -8 -9 -10\nv -11\nv 0\n")
    -- gave up
    ∷ (printing "seed=1\nflips=10\nwalks=1\nbias=400\np cnf 1 2\n1 0\n-1 0\n" tells bytes "c walks=1\nc flips=10\ns UNKNOWN\n")
    -- a refused sheet, and a sheet alone
    ∷ (printing "seed=0\nflips=10\nwalks=1\nbias=400\np cnf 1 1\n1 0\n" tells bytes "c result=refused\nc reason=11\nc line=1\ns UNKNOWN\n")
    ∷ (printing "seed=1\nflips=10\nwalks=1\nbias=400\n" tells bytes "c result=refused\nc reason=16\nc line=0\ns UNKNOWN\n")
    -- a refused text, our own text among them
    ∷ (printing "seed=1\nflips=10\nwalks=1\nbias=400\np cnf 1 1\n1 0\n%\n0\n" tells bytes "c result=refused\nc reason=4\nc line=3\ns UNKNOWN\n")
    ∷ (printing "seed=1\nflips=10\nwalks=1\nbias=400\na b\n" tells bytes "c result=refused\nc reason=16\nc line=1\ns UNKNOWN\n")
    -- the lines of values alone: none, ten, and one more
    ∷ (value_lines [] tells bytes "v 0\n")
    ∷ (value_lines (1 ∷ 0 ∷ 1 ∷ 0 ∷ 1 ∷ 0 ∷ 1 ∷ 0 ∷ 1 ∷ 0 ∷ []) tells bytes "v 1 -2 3 -4 5 -6 7 -8 9 -10\nv 0\n")
    ∷ (value_lines (1 ∷ 0 ∷ 1 ∷ 0 ∷ 1 ∷ 0 ∷ 1 ∷ 0 ∷ 1 ∷ 0 ∷ 1 ∷ []) tells bytes "v 1 -2 3 -4 5 -6 7 -8 9 -10\nv 11\nv 0\n")
    ∷ []

pub shown : Tells table
unfolding computing
shown = refl

-- ---- the run on lent tables and a lent buffer, under small limits

abbrev pub running : String → Tables → List ℕ → Ran
running input t b = run_as Numbered roomy (bytes input) t marked b

abbrev pub runs : List (Example Ran)
runs =
    -- a refused sheet: "nothing begun"
    (running "seed=0\nflips=10\nwalks=1\nbias=400\np cnf 1 1\n1 0\n" given buffer tells leaves_with marked "c result=refused\nc reason=11\nc line=1\ns UNKNOWN\n" given)
    -- a refused text, and one past the limit: tables 0
    ∷ (running "seed=1\nflips=10\nwalks=1\nbias=400\np cnf 1 1\n" given buffer tells leaves "c result=refused\nc reason=17\nc line=0\ns UNKNOWN\n" zero)
    ∷ (running "seed=0\nflips=10\nwalks=1\nbias=400\np cnf 1 1\n1 0\n\n\n" given buffer tells leaves "c result=refused\nc reason=2\nc line=0\ns UNKNOWN\n" zero)
    -- the buffer too short
    ∷ (running "seed=1\nflips=10\nwalks=1\nbias=400\np cnf 1 1\n1 0\n" given (drop 2 buffer) tells nothing given marked (drop 2 buffer))
    ∷ []

pub runs-shown : Tells runs
unfolding computing
runs-shown = refl
