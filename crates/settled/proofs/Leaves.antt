-- The statements of `draw`, `words`, `scan`, `reader`, `reasons` and `answers`. Assumes nothing.
use mathlib.Core.Path.{refl, ap}
use Rattle.settled.specs.Outcomes.{Public}
use Rattle.settled.proofs.Facts.{meet, same, both}
use Rattle.draw.specs.contracts.stepped as stepped
use Rattle.draw.specs.contracts.Generator.new as generator-new
use Rattle.draw.specs.contracts.Generator.drawn as drawn
use Rattle.draw.specs.contracts.Generator.choice as choice
use Rattle.draw.specs.contracts.Generator.even as even
use Rattle.draw.specs.contracts.Generator.heads as heads
use Rattle.draw.specs.contracts.draw as draw
use Rattle.draw.specs.contracts.draw_from as draw-from
use Rattle.words.specs.contracts.value as value
use Rattle.words.specs.contracts.turn as turn
use Rattle.words.specs.contracts.put as put
use Rattle.words.specs.contracts.chosen as chosen
use Rattle.words.specs.contracts.fill as fill
use Rattle.words.specs.contracts.hold as hold
use Rattle.words.specs.contracts.least as least
use Rattle.scan.specs.contracts.Cursor.first as first
use Rattle.scan.specs.contracts.Cursor.next as next
use Rattle.scan.specs.contracts.Cursor.pass as pass
use Rattle.scan.specs.contracts.Cursor.over as over
use Rattle.scan.specs.contracts.scan_at as scan-at
use Rattle.scan.specs.contracts.is_gap as is-gap
use Rattle.scan.specs.contracts.skip as skip
use Rattle.scan.specs.contracts.cut_off as cut_off
use Rattle.scan.specs.contracts.line_end as line-end
use Rattle.scan.specs.contracts.in_numbers as in-numbers
use Rattle.reader.specs.contracts.new as reader-new
use Rattle.reader.specs.contracts.next as reader-next
use Rattle.reader.specs.contracts.pass as reader-pass
use Rattle.reader.specs.contracts.take as reader-take
use Rattle.reader.specs.contracts.token_at as token-at
use Rattle.reader.specs.contracts.reader_token as reader_token
use Rattle.reader.specs.contracts.reader_line_end as reader-line-end
use Rattle.reader.specs.contracts.cursor_token as cursor-token
use Rattle.reader.specs.contracts.cursor_pass as cursor-pass
use Rattle.reasons.specs.contracts.number_of as number_of_lem
use Rattle.answers.specs.contracts.draws.draw_answer as draw-answer
use Rattle.answers.specs.contracts.draws.drawn as answers-drawn
use Rattle.answers.specs.contracts.draws.choice as answers-choice
use Rattle.answers.specs.contracts.draws.choice_even as answers-choice-even
use Rattle.answers.specs.contracts.draws.heads as answers-heads
use Rattle.answers.specs.contracts.read.read_answer as read_answer
use Rattle.answers.specs.contracts.walk.tour_answer as tour-answer
use Rattle.answers.specs.contracts.walk.walk_answer as walk-answer
use Rattle.answers.specs.contracts.flip.flip_answer as flip-answer

pub stepped-settled : Public stepped.ended (λ M 𝓤. stepped.clauses)
stepped-settled M 𝓤 𝓛 mem run κs a g = record { asks_nothing = refl; one-outcome = λ x y. both 𝓤 (λ p q. same (meet p q) refl) }

pub generator-new-settled : Public generator-new.ended (λ M 𝓤. generator-new.clauses)
generator-new-settled M 𝓤 𝓛 mem run κs a g = record { asks_nothing = refl; one-outcome = λ x y. both 𝓤 (λ p q. same (λ i. record { state = meet p q i }) refl) }

pub drawn-settled : Public drawn.ended (λ M 𝓤. drawn.clauses)
drawn-settled M 𝓤 𝓛 mem run κs a g = record { asks_nothing = refl; one-outcome = λ x y. both 𝓤 (λ p q. same (meet p q) refl) }

pub choice-settled : Public choice.ended (λ M 𝓤. choice.clauses)
choice-settled M 𝓤 𝓛 mem run κs a g = record { asks_nothing = refl; one-outcome = λ x y. both 𝓤 (λ p q. same (meet p q) refl) }

pub even-settled : Public even.ended (λ M 𝓤. even.clauses)
even-settled M 𝓤 𝓛 mem run κs a g = record { asks_nothing = refl; one-outcome = λ x y. both 𝓤 (λ p q. same (meet p q) refl) }

pub heads-settled : Public heads.ended (λ M 𝓤. heads.clauses)
heads-settled M 𝓤 𝓛 mem run κs a g = record { asks_nothing = refl; one-outcome = λ x y. both 𝓤 (λ p q. same (meet p q) refl) }

pub draw-settled : Public draw.ended (λ M 𝓤. draw.clauses)
draw-settled M 𝓤 𝓛 mem run κs a g = record { asks_nothing = refl; one-outcome = λ x y. both 𝓤 (λ p q. same (meet p.0 q.0) (ap (λ s. (s, tt)) (meet p.1 q.1))) }

pub draw-from-settled : Public draw-from.ended (λ M 𝓤. draw-from.clauses)
draw-from-settled M 𝓤 𝓛 mem run κs a g = record { asks_nothing = refl; one-outcome = λ x y. both 𝓤 (λ p q. same (meet p q) refl) }

pub value-settled : Public value.ended (λ M 𝓤. value.clauses)
value-settled M 𝓤 𝓛 mem run κs a g = record { asks_nothing = refl; one-outcome = λ x y. both 𝓤 (λ p q. same (meet p q) refl) }

pub turn-settled : Public turn.ended (λ M 𝓤. turn.clauses)
turn-settled M 𝓤 𝓛 mem run κs a g = record { asks_nothing = refl; one-outcome = λ x y. both 𝓤 (λ p q. same refl (ap (λ ws. (ws, (tt, tt))) (meet p q))) }

pub put-settled : Public put.ended (λ M 𝓤. put.clauses)
put-settled M 𝓤 𝓛 mem run κs a g = record { asks_nothing = refl; one-outcome = λ x y. both 𝓤 (λ p q. same refl (ap (λ ws. (ws, (tt, (tt, (tt, tt))))) (meet p q))) }

pub chosen-settled : Public chosen.ended (λ M 𝓤. chosen.clauses)
chosen-settled M 𝓤 𝓛 mem run κs a g = record { asks_nothing = refl; one-outcome = λ x y. both 𝓤 (λ p q. same (meet p q) refl) }

pub fill-settled : Public fill.ended (λ M 𝓤. fill.clauses)
fill-settled M 𝓤 𝓛 mem run κs a g = record { asks_nothing = refl; one-outcome = λ x y. both 𝓤 (λ p q. same (λ i. record { state = meet p.0 q.0 i }) (ap (λ ws. (ws, (tt, (tt, tt)))) (meet p.1 q.1))) }

pub hold-settled : Public hold.ended (λ M 𝓤. hold.clauses)
hold-settled M 𝓤 𝓛 mem run κs a g = record { asks_nothing = refl; one-outcome = λ x y. both 𝓤 (λ p q. same refl (ap (λ ws. (ws, (tt, (tt, tt)))) (meet p q))) }

pub least-settled : Public least.ended (λ M 𝓤. least.clauses)
least-settled M 𝓤 𝓛 mem run κs a g = record { asks_nothing = refl; one-outcome = λ x y. both 𝓤 (λ p q. same (meet p q) refl) }

pub first-settled : Public first.ended (λ M 𝓤. first.clauses)
first-settled M 𝓤 𝓛 mem run κs a g = record { asks_nothing = refl; one-outcome = λ x y. both 𝓤 (λ p q. same (meet p q) refl) }

pub next-settled : Public next.ended (λ M 𝓤. next.clauses)
next-settled M 𝓤 𝓛 mem run κs a g = record { asks_nothing = refl; one-outcome = λ x y. both 𝓤 (λ p q. same (meet p q) refl) }

pub pass-settled : Public pass.ended (λ M 𝓤. pass.clauses)
pass-settled M 𝓤 𝓛 mem run κs a g = record { asks_nothing = refl; one-outcome = λ x y. both 𝓤 (λ p q. same (meet p q) refl) }

pub over-settled : Public over.ended (λ M 𝓤. over.clauses)
over-settled M 𝓤 𝓛 mem run κs a g = record { asks_nothing = refl; one-outcome = λ x y. both 𝓤 (λ p q. same (meet p q) refl) }

pub scan-at-settled : Public scan-at.ended (λ M 𝓤. scan-at.clauses)
scan-at-settled M 𝓤 𝓛 mem run κs a g = record { asks_nothing = refl; one-outcome = λ x y. both 𝓤 (λ p q. same (meet p q) refl) }

pub skip-settled : Public skip.ended (λ M 𝓤. skip.clauses)
skip-settled M 𝓤 𝓛 mem run κs a g = record { asks_nothing = refl; one-outcome = λ x y. both 𝓤 (λ p q. same (meet p q) refl) }

pub is-gap-settled : Public is-gap.ended (λ M 𝓤. is-gap.clauses)
is-gap-settled M 𝓤 𝓛 mem run κs a g = record { asks_nothing = refl; one-outcome = λ x y. both 𝓤 (λ p q. same (meet p q) refl) }

pub cut-off-settled : Public cut_off.ended (λ M 𝓤. cut_off.clauses)
cut-off-settled M 𝓤 𝓛 mem run κs a g = record { asks_nothing = refl; one-outcome = λ x y. both 𝓤 (λ p q. same (meet p q) refl) }

pub line-end-settled : Public line-end.ended (λ M 𝓤. line-end.clauses)
line-end-settled M 𝓤 𝓛 mem run κs a g = record { asks_nothing = refl; one-outcome = λ x y. both 𝓤 (λ p q. same (meet p q) refl) }

pub in_numbers-settled : Public in-numbers.ended (λ M 𝓤. in-numbers.clauses)
in_numbers-settled M 𝓤 𝓛 mem run κs a g = record { asks_nothing = refl; one-outcome = λ x y. both 𝓤 (λ p q. same (meet p q) refl) }

pub reader_new-settled : Public reader-new.ended (λ M 𝓤. reader-new.clauses)
reader_new-settled M 𝓤 𝓛 mem run κs a g = record { asks_nothing = refl; one-outcome = λ x y. both 𝓤 (λ p q. same (λ i. record { text = meet p.0 q.0 i; at = meet p.1 q.1 i; line = meet p.2 q.2 i }) refl) }

pub reader_next-settled : Public reader-next.ended (λ M 𝓤. reader-next.clauses)
reader_next-settled M 𝓤 𝓛 mem run κs a g = record { asks_nothing = refl; one-outcome = λ x y. both 𝓤 (λ p q. same (meet p q) refl) }

pub reader_pass-settled : Public reader-pass.ended (λ M 𝓤. reader-pass.clauses)
reader_pass-settled M 𝓤 𝓛 mem run κs a g = record { asks_nothing = refl; one-outcome = λ x y. both 𝓤 (λ p q. same (λ i. record { text = meet p.0 q.0 i; at = meet p.1 q.1 i; line = meet p.2 q.2 i }) refl) }

pub reader_take-settled : Public reader-take.ended (λ M 𝓤. reader-take.clauses)
reader_take-settled M 𝓤 𝓛 mem run κs a g = record { asks_nothing = refl; one-outcome = λ x y. both 𝓤 (λ p q. same (meet p.0 q.0) (ap (λ r. (r, tt)) (meet p.1 q.1))) }

pub token-at-settled : Public token-at.ended (λ M 𝓤. token-at.clauses)
token-at-settled M 𝓤 𝓛 mem run κs a g = record { asks_nothing = refl; one-outcome = λ x y. both 𝓤 (λ p q. same (meet p q) refl) }

pub reader_token-settled : Public reader_token.ended (λ M 𝓤. reader_token.clauses)
reader_token-settled M 𝓤 𝓛 mem run κs a g = record { asks_nothing = refl; one-outcome = λ x y. both 𝓤 (λ p q. same (meet p q) refl) }

pub reader_line-end-settled : Public reader-line-end.ended (λ M 𝓤. reader-line-end.clauses)
reader_line-end-settled M 𝓤 𝓛 mem run κs a g = record { asks_nothing = refl; one-outcome = λ x y. both 𝓤 (λ p q. same (meet p q) refl) }

pub cursor-token-settled : Public cursor-token.ended (λ M 𝓤. cursor-token.clauses)
cursor-token-settled M 𝓤 𝓛 mem run κs a g = record { asks_nothing = refl; one-outcome = λ x y. both 𝓤 (λ p q. same (meet p q) refl) }

pub cursor-pass-settled : Public cursor-pass.ended (λ M 𝓤. cursor-pass.clauses)
cursor-pass-settled M 𝓤 𝓛 mem run κs a g = record { asks_nothing = refl; one-outcome = λ x y. both 𝓤 (λ p q. same (meet p q) refl) }

pub number-of-settled : Public number_of_lem.ended (λ M 𝓤. number_of_lem.clauses)
number-of-settled M 𝓤 𝓛 mem run κs a g = record { asks_nothing = refl; one-outcome = λ x y. both 𝓤 (λ p q. same (meet p q) refl) }

pub draw-answer-settled : Public draw-answer.ended (λ M 𝓤. draw-answer.clauses)
draw-answer-settled M 𝓤 𝓛 mem run κs a g = record { asks_nothing = refl; one-outcome = λ x y. both 𝓤 (λ p q. same (meet p q) refl) }

pub answers-drawn-settled : Public answers-drawn.ended (λ M 𝓤. answers-drawn.clauses)
answers-drawn-settled M 𝓤 𝓛 mem run κs a g = record { asks_nothing = refl; one-outcome = λ x y. both 𝓤 (λ p q. same (meet p q) refl) }

pub answers-choice-settled : Public answers-choice.ended (λ M 𝓤. answers-choice.clauses)
answers-choice-settled M 𝓤 𝓛 mem run κs a g = record { asks_nothing = refl; one-outcome = λ x y. both 𝓤 (λ p q. same (meet p q) refl) }

pub answers-choice-even-settled : Public answers-choice-even.ended (λ M 𝓤. answers-choice-even.clauses)
answers-choice-even-settled M 𝓤 𝓛 mem run κs a g = record { asks_nothing = refl; one-outcome = λ x y. both 𝓤 (λ p q. same (meet p q) refl) }

pub answers-heads-settled : Public answers-heads.ended (λ M 𝓤. answers-heads.clauses)
answers-heads-settled M 𝓤 𝓛 mem run κs a g = record { asks_nothing = refl; one-outcome = λ x y. both 𝓤 (λ p q. same (meet p q) refl) }

pub read-answer-settled : Public read_answer.ended (λ M 𝓤. read_answer.clauses)
read-answer-settled M 𝓤 𝓛 mem run κs a g = record { asks_nothing = refl; one-outcome = λ x y. both 𝓤 (λ p q. same (meet p q) refl) }

pub tour-answer-settled : Public tour-answer.ended (λ M 𝓤. tour-answer.clauses)
tour-answer-settled M 𝓤 𝓛 mem run κs a g = record { asks_nothing = refl; one-outcome = λ x y. both 𝓤 (λ p q. same (meet p q) refl) }

pub walk-answer-settled : Public walk-answer.ended (λ M 𝓤. walk-answer.clauses)
walk-answer-settled M 𝓤 𝓛 mem run κs a g = record { asks_nothing = refl; one-outcome = λ x y. both 𝓤 (λ p q. same (meet p q) refl) }

pub flip-answer-settled : Public flip-answer.ended (λ M 𝓤. flip-answer.clauses)
flip-answer-settled M 𝓤 𝓛 mem run κs a g = record { asks_nothing = refl; one-outcome = λ x y. both 𝓤 (λ p q. same (meet p q) refl) }
