-- What each token leads to, by the place of a draft: the code's turns, operation by operation. Assumes nothing.
use Rattle.std.specs.Prelude.{ℕ, ◌+◌, cond, List, set, eqb, leb, Result, Ok, Err}
use Rattle.written.specs.declared.Reason.{Reason}
use Rattle.written.specs.declared.Reason.TheVariants.{TooManyClauses, NoClause, BlankLine}
use Rattle.written.specs.declared.Fault.{Fault}
use Rattle.written.specs.Limits.{Limits}
use Rattle.written.specs.Reasons.{fault, fault_at}
use Rattle.reading_literal.specs.declared.Taken.{Taken}
use Rattle.reading_literal.specs.declared.Taken.TheVariants.{Held, Grown, Skipped, Dropped}
use Rattle.reading_lines.specs.declared.Place.{Place}
use Rattle.reading_lines.specs.declared.Next.{Next}
use Rattle.reading_lines.specs.declared.Next.TheVariants as N

abbrev pub place_at : ℕ → ℕ → ℕ → ℕ → Place
place_at terms clauses from held = record { terms = terms; clauses = clauses; from = from; held = held }

-- where a draft begins
abbrev pub outset : Place
outset = place_at 0 0 0 0

-- the open line gives back its literals
abbrev pub given_back : Place → Place
given_back p = place_at p.terms p.clauses p.from p.from

-- a literal, by what became of it
abbrev pub after_literal : Result Taken Reason → Place → ℕ → Result Next Fault
after_literal (Ok Held) p n = Ok (N.Goes (place_at p.terms p.clauses p.from (p.held + 1)))
after_literal (Ok Grown) p n = Ok (N.Goes (place_at (p.terms + 1) p.clauses p.from (p.held + 1)))
after_literal (Ok Skipped) p n = Ok (N.Goes p)
after_literal (Ok Dropped) p n = Ok (N.Drops (given_back p))
after_literal (Err e) p n = Err (fault_at n e)

-- what a line's end leads to, and the starts that it leaves
pub record LineEnd : Type 0 where
  pub next : Result Next Fault
  pub starts : List ℕ

abbrev pub line_end : Result Next Fault → List ℕ → LineEnd
line_end r ss = record { next = r; starts = ss }

unfoldable pub after_line : Limits → Place → ℕ → List ℕ → LineEnd
after_line lim p n ss =
    cond (eqb p.held p.from) (line_end (Err (fault_at n BlankLine)) ss)
    (cond (leb lim.clauses p.clauses) (line_end (Err (fault_at n TooManyClauses)) ss)
    (line_end (Ok (N.Goes (place_at p.terms (p.clauses + 1) p.held p.held))) (set ss (p.clauses + 1) p.held)))

-- the text's end
unfoldable pub after_text : Place → Result Next Fault
after_text p = cond (eqb p.clauses 0) (Err (fault NoClause)) (Ok (N.Whole p))
