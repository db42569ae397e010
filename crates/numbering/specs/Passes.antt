-- What a number leads to, by how far a draft has come: the code's turns, operation by operation. Assumes nothing.
use Rattle.std.specs.Prelude.{ℕ, suc, Bool, true, false, not, cond, List, eqb, leb, ltb, Result, Ok, Err}
use Rattle.written.specs.declared.Reason.TheVariants.{ClauseCount}
use Rattle.written.specs.declared.Fault.{Fault}
use Rattle.written.specs.declared.Header.{Header}
use Rattle.written.specs.Limits.{Limits}
use Rattle.written.specs.Reasons.{fault, fault_at}
use Rattle.reading_lines.specs.declared.Place.{Place}
use Rattle.reading_lines.specs.declared.Next.{Next}
use Rattle.reading_lines.specs.declared.Next.TheVariants as N
use Rattle.reading_lines.specs.Turns.{place_at, LineEnd, after_line, after_text}
use Rattle.numbering.specs.declared.Going.{Going}
use Rattle.numbering.specs.declared.Pass.{Pass}
use Rattle.numbering.specs.declared.Pass.TheVariants as P

abbrev pub going : Place → Bool → ℕ → Going
going p b n = record { place = p; dropped = b; ended = n }

-- where the numbers begin: every variable is known
abbrev pub outset : Header → Going
outset h = going (place_at h.variables 0 0 0) false 0

-- after a turn of the open clause, when n have ended
abbrev pub pass_of : Result Next Fault → ℕ → Pass
pass_of (Ok (N.Goes p)) n = P.On (going p false n)
pass_of (Ok (N.Drops p)) n = P.On (going p true n)
pass_of (Ok (N.Whole p)) n = P.Whole p
pass_of (Err f) n = P.Refused f

-- what a clause's end leads to, and the starts that it leaves
pub record ZeroEnd : Type 0 where
  pub pass : Pass
  pub starts : List ℕ

abbrev pub zero_end : Pass → List ℕ → ZeroEnd
zero_end r ss = record { pass = r; starts = ss }

abbrev pub kept_by : LineEnd → ℕ → ZeroEnd
kept_by e n = zero_end (pass_of e.next n) e.starts

unfoldable pub after_zero : Limits → Header → Going → ℕ → List ℕ → ZeroEnd
after_zero lim h g n ss =
    cond (leb h.clauses g.ended) (zero_end (P.Refused (fault_at n ClauseCount)) ss)
    (cond g.dropped (zero_end (P.On (going g.place false (suc g.ended))) ss)
    (kept_by (after_line lim g.place n ss) (suc g.ended)))

-- the text's end
unfoldable pub after_numbers : Header → Going → Pass
after_numbers h g =
    cond g.dropped (P.Refused (fault ClauseCount))
    (cond (not (eqb g.place.held g.place.from)) (P.Refused (fault ClauseCount))
    (cond (ltb g.ended h.clauses) (P.Refused (fault ClauseCount))
    (pass_of (after_text g.place) 0)))
