-- Numbered clause files, worked out: one table under one statement, which antt computes. Assumes nothing.
use Rattle.std.specs.Prelude.{ℕ, refl, List, [], ◌∷◌}
use Prim.Native.String.{String}
use Rattle.scan.specs.Text.{bytes}
use Rattle.written.specs.Limits.{Limits, narrow}
use Rattle.written.specs.Numbered.{read_numbered}
use Rattle.written.specs.Computing.{computing, Example, ◌tells◌, Tells}
use Rattle.written.specs.Examples.{Told, reads, refuses, told, name}

abbrev numbered_under : Limits → String → Told
numbered_under lim text = told (λ f. reads f.names f.clauses) (read_numbered lim (bytes text))

abbrev numbered : String → Told
numbered = numbered_under narrow

-- limits that a short text meets
abbrev small : Limits
small = record { text = 40; terms = 3; clauses = 2; literals = 4; list = 4 }

-- two variables and their names
abbrev two : List ℕ
two = name "1" ∷ name "2" ∷ []

-- the clauses 1 2 and -1 2
abbrev both : Told
both = reads two ((0 ∷ 2 ∷ []) ∷ (1 ∷ 2 ∷ []) ∷ [])

abbrev pub table : List (Example Told)
table =
    -- across lines freely
    (numbered "c hi\np cnf 2 2\n1 2 0\n-1 2 0\n" tells both)
    ∷ (numbered "p cnf 2 2\n1 2 0 -1\n2 0\n" tells both)
    ∷ (numbered "p cnf 2 2\n1\t2 0\n\n\n-1 2\n0\n" tells both)
    ∷ (numbered "p  cnf\t1\t 1\n\t-1\t0\n \t\n\n" tells reads (name "1" ∷ []) ((1 ∷ []) ∷ []))
    ∷ (numbered "cnf\np cnf 1 1\n1 0\n" tells reads (name "1" ∷ []) ((0 ∷ []) ∷ []))
    -- variables are known even if unused; a name is a decimal number
    ∷ (numbered "p cnf 11 1\n-11 0\n" tells reads (name "1" ∷ name "2" ∷ name "3" ∷ name "4" ∷ name "5" ∷ name "6" ∷ name "7" ∷ name "8" ∷ name "9" ∷ name "10" ∷ name "11" ∷ []) ((21 ∷ []) ∷ []))
    -- the header, judged whole before its variables are counted
    ∷ (numbered "" tells refuses 16 0)
    ∷ (numbered "c only\n" tells refuses 16 0)
    ∷ (numbered "p cnf 1 1" tells refuses 3 0)
    ∷ (numbered " p cnf 1 1\n1 0\n" tells refuses 16 1)
    ∷ (numbered "p cnf 1 1 \n1 0\n" tells refuses 16 1)
    ∷ (numbered "p cnf 1 1\r\n1 0\n" tells refuses 16 1)
    ∷ (numbered "pcnf 1 1\n1 0\n" tells refuses 16 1)
    ∷ (numbered "P cnf 1 1\n1 0\n" tells refuses 16 1)
    ∷ (numbered "p CNF 1 1\n1 0\n" tells refuses 16 1)
    ∷ (numbered "p cnf 1\n1 0\n" tells refuses 16 1)
    ∷ (numbered "p cnf\n1 1\n1 0\n" tells refuses 16 1)
    ∷ (numbered "p cnf1 1\n1 0\n" tells refuses 16 1)
    ∷ (numbered "p\n" tells refuses 16 1)
    ∷ (numbered "p cnf 1 1 0\n1 0\n" tells refuses 16 1)
    ∷ (numbered "p cnf 03 1\n1 0\n" tells refuses 16 1)
    ∷ (numbered "p cnf -1 1\n1 0\n" tells refuses 16 1)
    ∷ (numbered "p cnf 10000000000 1\n1 0\n" tells refuses 16 1)
    ∷ (numbered "c\n\np cnf 1 1\n1 0\n" tells refuses 16 2)
    ∷ (numbered "p cnf 2049 x\n1 0\n" tells refuses 16 1)
    ∷ (numbered "p cnf 2049 1\n1 0\n" tells refuses 6 1)
    ∷ (numbered "c\np cnf 9999999999 1\n1 0\n" tells refuses 6 2)
    -- what is no number
    ∷ (numbered "p cnf 1 1\nc later\n1 0\n" tells refuses 4 2)
    ∷ (numbered "p cnf 1 1\n1 0\r\n" tells refuses 4 2)
    ∷ (numbered "p cnf 1 1\n99x 0\n" tells refuses 4 2)
    ∷ (numbered "p cnf 1 1\n-0\n" tells refuses 4 2)
    ∷ (numbered "p cnf 1 1\n- 1 0\n" tells refuses 4 2)
    ∷ (numbered "p cnf 1 1\n+1 0\n" tells refuses 4 2)
    ∷ (numbered "p cnf 1 1\n01 0\n" tells refuses 4 2)
    ∷ (numbered "p cnf 1 1\n12345678901 0\n" tells refuses 4 2)
    ∷ (numbered "p cnf 1 1\n1 0\n%\n0\n" tells refuses 4 3)
    ∷ (numbered "p cnf 1 1\n1 0\np cnf 1 1\n" tells refuses 4 3)
    -- above the header's number, in a dropped clause too
    ∷ (numbered "p cnf 1 1\n4294967297 0\n" tells refuses 18 2)
    ∷ (numbered "p cnf 1 1\n2 x\n" tells refuses 18 2)
    ∷ (numbered "p cnf 2 2\n1 -1 3 0\n2 0\n" tells refuses 18 2)
    ∷ (numbered "p cnf 2 2\n1 -1 x 0\n2 0\n" tells refuses 4 2)
    ∷ (numbered "p cnf 2 2\n1 -1 2 0\n2 0\n" tells reads two ((2 ∷ []) ∷ []))
    -- a clause of 0 alone, and the header's count before it
    ∷ (numbered "p cnf 1 1\n0\n" tells refuses 15 2)
    ∷ (numbered "p cnf 0 1\n0\n" tells refuses 15 2)
    ∷ (numbered "p cnf 1 1\n1 0\n0\n" tells refuses 17 3)
    ∷ (numbered "p cnf 2 1\n1 -1 2 0\n2 0\n" tells refuses 17 3)
    ∷ (numbered "p cnf 1 1\n1 0\n1 -1 0\n" tells refuses 17 3)
    ∷ (numbered "p cnf 1 0\n0\n" tells refuses 17 2)
    ∷ (numbered "p cnf 1 0\n2\n" tells refuses 18 2)
    ∷ (numbered "p cnf 1 0\nx\n" tells refuses 4 2)
    ∷ (numbered "p cnf 1 0\n1\n" tells refuses 17 0)
    -- the text's end
    ∷ (numbered "p cnf 1 2\n1 0\n" tells refuses 17 0)
    ∷ (numbered "p cnf 1 1\n1\n" tells refuses 17 0)
    ∷ (numbered "p cnf 1 1\n1 0 1\n" tells refuses 17 0)
    ∷ (numbered "p cnf 1 1\n1 -1\n" tells refuses 17 0)
    ∷ (numbered "p cnf 1 1\n1 0 1 -1\n" tells refuses 17 0)
    ∷ (numbered "p cnf 1 4294967297\n1 0\n" tells refuses 17 0)
    ∷ (numbered "p cnf 3 0\n" tells refuses 9 0)
    ∷ (numbered "p cnf 0 0\n" tells refuses 9 0)
    ∷ (numbered "p cnf 1 1\n1 -1 0\n" tells refuses 9 0)
    -- repeats, and each limit at its place
    ∷ (numbered "p cnf 2 1\n2 2 1 2 0\n" tells reads two ((2 ∷ 0 ∷ []) ∷ []))
    ∷ (numbered_under small "p cnf 3 1\n1 2 3 0\nc more bytes than may stand\n" tells refuses 2 0)
    ∷ (numbered_under small "p cnf 4 1\n4 0\n" tells refuses 6 1)
    ∷ (numbered_under small "p cnf 1 3\n1 0\n1 0\n1 0\n" tells refuses 8 4)
    ∷ (numbered_under small "p cnf 1 2\n1 0\n1 0\n1 0\n" tells refuses 17 4)
    ∷ (numbered_under small "p cnf 1 3\n1 0\n1 0\n1 -1 0\n" tells reads (name "1" ∷ []) ((0 ∷ []) ∷ (0 ∷ []) ∷ []))
    ∷ (numbered_under small "p cnf 3 2\n1 2 3 0\n1 2 0\n" tells refuses 7 3)
    ∷ (numbered_under small "p cnf 3 3\n1 2 3 0\n1 -1 2 3 0\n1 1 0\n" tells reads (name "1" ∷ name "2" ∷ name "3" ∷ []) ((0 ∷ 2 ∷ 4 ∷ []) ∷ (0 ∷ []) ∷ []))
    ∷ []

pub shown : Tells table
unfolding computing
shown = refl
