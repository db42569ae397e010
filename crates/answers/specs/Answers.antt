-- The answers as they cross the boundary: the values that document 01 gives each case. Assumes nothing.
use Rattle.std.specs.Prelude.{ℕ, Result}
use Rattle.draw.specs.declared.Drawn.{Drawn}
use Rattle.written.specs.declared.Refusal.{Refusal}
use Rattle.written.specs.declared.Fault.{Fault}
use Rattle.written.specs.declared.Counts.{Counts}
use Rattle.written.specs.declared.Order.{Order}
use Rattle.written.specs.declared.Tour.{Tour}
use Rattle.written.specs.declared.Walked.{Walked}
use Rattle.written.specs.Outcomes.{read_values, walk_values, flip_values}
use Rattle.answers.specs.declared.draws.DrawAnswer.{DrawAnswer}
use Rattle.answers.specs.declared.read.ReadAnswer.{ReadAnswer}
use Rattle.answers.specs.declared.walk.WalkAnswer.{WalkAnswer}
use Rattle.answers.specs.declared.flip.FlipAnswer.{FlipAnswer}

-- an order, its numbers given one by one
abbrev pub order : ℕ → ℕ → ℕ → ℕ → ℕ → Order
order s f w b e = record { seed = s; flips = f; walks = w; bias = b; even = e }

-- four counts, given one by one
abbrev pub counts : ℕ → ℕ → ℕ → ℕ → Counts
counts t c l u = record { terms = t; clauses = c; literals = l; uncovered = u }

-- the answer of a flip list
unfoldable pub flip_answer : Result Counts Refusal → FlipAnswer
flip_answer a =
    record {
      result = (flip_values a).result;
      reason = (flip_values a).reason;
      terms = (flip_values a).counts.terms;
      clauses = (flip_values a).counts.clauses;
      literals = (flip_values a).counts.literals;
      uncovered = (flip_values a).counts.uncovered;
    }

-- the answer of a reading
unfoldable pub read_answer : Result Counts Fault → ReadAnswer
read_answer a =
    record {
      result = (read_values a).result;
      reason = (read_values a).reason;
      line = (read_values a).line;
      terms = (read_values a).counts.terms;
      clauses = (read_values a).counts.clauses;
      literals = (read_values a).counts.literals;
      uncovered = (read_values a).counts.uncovered;
    }

-- the answer of a walk
unfoldable pub walk_answer : Result Walked Refusal → WalkAnswer
walk_answer a =
    record {
      result = (walk_values a).result;
      reason = (walk_values a).reason;
      walks = (walk_values a).walks;
      flips = (walk_values a).flips;
      terms = (walk_values a).counts.terms;
      clauses = (walk_values a).counts.clauses;
      literals = (walk_values a).counts.literals;
      uncovered = (walk_values a).counts.uncovered;
    }

-- that of a walk that was made, under the number of its result
abbrev pub tour_answer : ℕ → Tour → WalkAnswer
tour_answer k e =
    record {
      result = k;
      reason = 0;
      walks = e.walks;
      flips = e.flips;
      terms = e.counts.terms;
      clauses = e.counts.clauses;
      literals = e.counts.literals;
      uncovered = e.counts.uncovered;
    }

-- the answer of a draw, a choice or heads
unfoldable pub draw_answer : Drawn → DrawAnswer
draw_answer d = record { reason = d.reason; number = d.number; state = d.next.state }
