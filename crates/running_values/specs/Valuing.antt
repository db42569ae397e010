-- The competition's lines, by the value words that stand in the tables. Assumes nothing.
use Rattle.std.specs.Prelude.{ℕ, suc, ◌+◌, ◌-◌, cond, List, ◌++◌, ltb, Result, Ok, Err}
use Rattle.words.specs.Words.{bit_at}
use Rattle.written.specs.declared.Refusal.{Refusal}
use Rattle.written.specs.declared.Form.TheVariants.{Numbered}
use Rattle.written.specs.declared.Tour.{Tour}
use Rattle.written.specs.declared.Walked.{Walked}
use Rattle.written.specs.declared.Walked.TheVariants.{Found, GaveUp}
use Rattle.written.specs.Lists.{list_from, list_of}
use Rattle.written.specs.Reasons.{fault}
use Rattle.written.specs.Printed.{line}
use Rattle.written.specs.Competition.{values_from, value_lines, tour_told, satisfiable, unknown, refusal_as}

-- the numbers of the terms from `from` on, up to `to`
abbrev pub values_in : ℕ → ℕ → List ℕ → List ℕ
values_in from to words = values_from (suc from) (list_from from (to - from) (bit_at words))

unfoldable pub line_in : ℕ → ℕ → List ℕ → List ℕ
line_in from to words = line "v" (values_in from to words)

-- where a line ends that begins with the term `from`, of n terms
abbrev pub line_end : ℕ → ℕ → ℕ
line_end from n = cond (ltb (n - from) 10) n (from + 10)

unfoldable pub found_values : Tour → List ℕ → List ℕ
found_values e words = tour_told e.walks e.flips ++ satisfiable ++ value_lines (list_of e.counts.terms (bit_at words))

unfoldable pub up_lines : Tour → List ℕ
up_lines e = tour_told e.walks e.flips ++ unknown

-- what an answer prints; the line of a refused walk is 0
unfoldable pub competed_in : Result Walked Refusal → List ℕ → List ℕ
competed_in (Ok (Found e)) words = found_values e words
competed_in (Ok (GaveUp e)) words = up_lines e
competed_in (Err e) words = refusal_as Numbered (fault e.reason)
