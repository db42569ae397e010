-- Document 02, [4]: what is printed for a numbered file, in the form of the solvers' competition, as bytes. Assumes nothing.
use Rattle.std.specs.Prelude.{ℕ, suc, ◌+◌, ◌*◌, ◌/◌, cond, length, take, drop, eqb}
use mathlib.Core.List.{List, [], ◌∷◌, ◌++◌, flatten}
use Rattle.scan.specs.Text.{bytes}
use Rattle.written.specs.declared.Fault.{Fault}
use Rattle.written.specs.declared.Form.{Form}
use Rattle.written.specs.declared.Form.TheVariants.{Own, Numbered}
use Rattle.written.specs.Lists.{list_of}
use Rattle.written.specs.Reasons.{number_of}
use Rattle.written.specs.Walk.{Outcome}
use Rattle.written.specs.Printed.{decimal, line, refused_by, report}

-- "minus before those at 0"
unfoldable pub signed_number : ℕ → ℕ → List ℕ
signed_number v k = cond (eqb v 0) (45 ∷ decimal k) (decimal k)

-- the numbers from k on, one for each value, each after a space
unfoldable pub values_from : ℕ → List ℕ → List ℕ
values_from k [] = []
values_from k (v ∷ vs) = 32 ∷ signed_number v k ++ values_from (suc k) vs

-- "ten numbers a line": the line that i lines of values stand before
unfoldable pub value_line : List ℕ → ℕ → List ℕ
value_line vs i = line "v" (values_from (suc (10 * i)) (take 10 (drop (10 * i) vs)))

-- how many lines n values take
abbrev pub lines_for : ℕ → ℕ
lines_for n = (n + 9) / 10

-- the numbers in order, "the last line `v 0`"
unfoldable pub value_lines : List ℕ → List ℕ
value_lines vs = flatten (list_of (lines_for (length vs)) (value_line vs)) ++ bytes "v 0\n"

-- `c walks=N`, `c flips=N`
abbrev pub tour_told : ℕ → ℕ → List ℕ
tour_told walks flips = line "c walks=" (decimal walks) ++ line "c flips=" (decimal flips)

abbrev pub satisfiable : List ℕ
satisfiable = line "s " (bytes "SATISFIABLE")

abbrev pub unknown : List ℕ
unknown = line "s " (bytes "UNKNOWN")

-- "`s SATISFIABLE` and `v` lines", "or `s UNKNOWN`"
unfoldable pub competed : Outcome → List ℕ
competed e = tour_told e.walks e.last.flips ++ cond e.found (satisfiable ++ value_lines e.last.state.values) unknown

-- "a refusal prints `c result=refused`, `c reason=N`, `c line=N`, `s UNKNOWN`"
unfoldable pub competed_not : ℕ → ℕ → List ℕ
competed_not reason at = line "c result=" (bytes "refused") ++ line "c reason=" (decimal reason) ++ line "c line=" (decimal at) ++ unknown

-- ---- a report by the form of the text: our own lines, or the competition's

abbrev pub refused_as : Form → ℕ → ℕ → List ℕ
refused_as Own reason at = refused_by reason at
refused_as Numbered reason at = competed_not reason at

abbrev pub refusal_as : Form → Fault → List ℕ
refusal_as form e = refused_as form (number_of e.reason) e.line

abbrev pub report_as : Form → Outcome → List ℕ
report_as Own e = report e
report_as Numbered e = competed e
