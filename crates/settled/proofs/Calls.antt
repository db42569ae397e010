-- The statements of the calls on lent tables, of the order sheet and of the exports. Assumes nothing.
use mathlib.Core.Path.{refl, ap}
use Rattle.settled.specs.Outcomes.{Public}
use Rattle.settled.proofs.Facts.{meet, same, both, ten, five, none}
use Rattle.written.specs.Program.{Ran}
use Rattle.laws.proofs.Leaves.{the_answer}
use Rattle.tables.specs.contracts.Tables.are_full as are-full
use Rattle.agreeing.specs.contracts.agrees as agrees
use Rattle.tables.specs.contracts.Tables.all_full as all-full
use Rattle.marked.specs.contracts.agrees as marked-agrees
use Rattle.reading.specs.contracts.read as read
use Rattle.flipping_lists.specs.contracts.apply as apply
use Rattle.pins.specs.contracts.pin as pin
use Rattle.pins.specs.contracts.lift as lift
use Rattle.walking_call.specs.contracts.walk as walk
use Rattle.digits.specs.contracts.begins as begins
use Rattle.digits.specs.contracts.is_number as is_number
use Rattle.running_sheet.specs.contracts.sheet as sheet
use Rattle.running_input.specs.contracts.set_out as set_out
use Rattle.running.specs.contracts.run_sheet as run-sheet
use Rattle.ngiyarumba.specs.contracts.draws.ngi_draw as ngi-draw
use Rattle.ngiyarumba.specs.contracts.draws.ngi_choice as ngi-choice
use Rattle.ngiyarumba.specs.contracts.draws.ngi_choice_even as ngi-choice-even
use Rattle.ngiyarumba.specs.contracts.draws.ngi_heads as ngi-heads
use Rattle.ngiyarumba.specs.contracts.read.ngi_read as ngi-read
use Rattle.ngiyarumba.specs.contracts.numbered.ngi_read_numbered as ngi-read-numbered
use Rattle.ngiyarumba.specs.contracts.walk.ngi_walk as ngi-walk
use Rattle.ngiyarumba.specs.contracts.flip.ngi_flip as ngi-flip
use Rattle.ngiyarumba.specs.contracts.pin.ngi_pin as ngi-pin
use Rattle.ngiyarumba.specs.contracts.pin.ngi_lift as ngi-lift
use Rattle.ngiyarumba.specs.contracts.run.ngi_run as ngi-run

pub are_full-settled : Public are-full.ended (λ M 𝓤. are-full.clauses)
are_full-settled M 𝓤 𝓛 mem run κs a g = record { asks_nothing = refl; one-outcome = λ x y. both 𝓤 (λ p q. same (meet p q) refl) }

pub agrees-settled : Public agrees.ended (λ M 𝓤. agrees.clauses)
agrees-settled M 𝓤 𝓛 mem run κs a g = record { asks_nothing = refl; one-outcome = λ x y. both 𝓤 (λ p q. same (meet p q) refl) }

pub all-full-settled : Public all-full.ended (λ M 𝓤. all-full.clauses)
all-full-settled M 𝓤 𝓛 mem run κs a g = record { asks_nothing = refl; one-outcome = λ x y. both 𝓤 (λ p q. same (meet p q) refl) }

pub marked-agrees-settled : Public marked-agrees.ended (λ M 𝓤. marked-agrees.clauses)
marked-agrees-settled M 𝓤 𝓛 mem run κs a g = record { asks_nothing = refl; one-outcome = λ x y. both 𝓤 (λ p q. same (meet p q) refl) }

pub read-settled : Public read.ended (λ M 𝓤. read.clauses)
read-settled M 𝓤 𝓛 mem run κs a g = record { asks_nothing = refl; one-outcome = λ x y. both 𝓤 (λ p q. let e = meet p q in same (the_answer e) (ap (λ l. (tt, (tt, ten l.tables (l.marks, tt)))) e)) }

pub apply-settled : Public apply.ended (λ M 𝓤. apply.clauses)
apply-settled M 𝓤 𝓛 mem run κs a g = record { asks_nothing = refl; one-outcome = λ x y. both 𝓤 (λ p q. let e = meet p q in same (the_answer e) (ap (λ l. (tt, (tt, five l.tables (tt, tt)))) e)) }

pub pin-settled : Public pin.ended (λ M 𝓤. pin.clauses)
pin-settled M 𝓤 𝓛 mem run κs a g = record { asks_nothing = refl; one-outcome = λ x y. both 𝓤 (λ p q. let e = meet p q in same (the_answer e) (ap (λ l. (tt, (tt, (tt, five l.tables (l.marks, tt))))) e)) }

pub lift-settled : Public lift.ended (λ M 𝓤. lift.clauses)
lift-settled M 𝓤 𝓛 mem run κs a g = record { asks_nothing = refl; one-outcome = λ x y. both 𝓤 (λ p q. let e = meet p q in same (the_answer e) (ap (λ l. (tt, (tt, (tt, (l.marks, tt))))) e)) }

pub walk-settled : Public walk.ended (λ M 𝓤. walk.clauses)
walk-settled M 𝓤 𝓛 mem run κs a g = record { asks_nothing = refl; one-outcome = λ x y. both 𝓤 (λ p q. let e = meet p q in same (the_answer e) (ap (λ l. (tt, (tt, five l.tables (tt, tt)))) e)) }

pub begins-settled : Public begins.ended (λ M 𝓤. begins.clauses)
begins-settled M 𝓤 𝓛 mem run κs a g = record { asks_nothing = refl; one-outcome = λ x y. both 𝓤 (λ p q. same (meet p q) refl) }

pub is-number-settled : Public is_number.ended (λ M 𝓤. is_number.clauses)
is-number-settled M 𝓤 𝓛 mem run κs a g = record { asks_nothing = refl; one-outcome = λ x y. both 𝓤 (λ p q. same (meet p q) refl) }

pub sheet-settled : Public sheet.ended (λ M 𝓤. sheet.clauses)
sheet-settled M 𝓤 𝓛 mem run κs a g = record { asks_nothing = refl; one-outcome = λ x y. both 𝓤 (λ p q. same (meet p q) refl) }

pub set-out-settled : Public set_out.ended (λ M 𝓤. set_out.clauses)
set-out-settled M 𝓤 𝓛 mem run κs a g = record { asks_nothing = refl; one-outcome = λ x y. both 𝓤 (λ p q. same (meet p q) refl) }

pub run-sheet-settled : Public run-sheet.ended (λ M 𝓤. run-sheet.clauses)
run-sheet-settled M 𝓤 𝓛 mem run κs a g = record { asks_nothing = refl; one-outcome = λ x y. both 𝓤 (λ p q. let e = meet p q in same (ap (λ (r : Ran). r.answer) e) (ap (λ (r : Ran). (tt, (tt, ten r.tables (r.marks, (r.buffer, tt))))) e)) }

pub ngi_draw-settled : Public ngi-draw.ended (λ M 𝓤. ngi-draw.clauses)
ngi_draw-settled M 𝓤 𝓛 mem run κs a g = record { asks_nothing = refl; one-outcome = λ x y. both 𝓤 (λ p q. same (meet p q) refl) }

pub ngi_choice-settled : Public ngi-choice.ended (λ M 𝓤. ngi-choice.clauses)
ngi_choice-settled M 𝓤 𝓛 mem run κs a g = record { asks_nothing = refl; one-outcome = λ x y. both 𝓤 (λ p q. same (meet p q) refl) }

pub ngi_choice-even-settled : Public ngi-choice-even.ended (λ M 𝓤. ngi-choice-even.clauses)
ngi_choice-even-settled M 𝓤 𝓛 mem run κs a g = record { asks_nothing = refl; one-outcome = λ x y. both 𝓤 (λ p q. same (meet p q) refl) }

pub ngi_heads-settled : Public ngi-heads.ended (λ M 𝓤. ngi-heads.clauses)
ngi_heads-settled M 𝓤 𝓛 mem run κs a g = record { asks_nothing = refl; one-outcome = λ x y. both 𝓤 (λ p q. same (meet p q) refl) }

pub ngi_read-settled : Public ngi-read.ended (λ M 𝓤. ngi-read.clauses)
ngi_read-settled M 𝓤 𝓛 mem run κs a g = record { asks_nothing = refl; one-outcome = λ x y. both 𝓤 (λ p q. let e = meet p q in same (the_answer e) (ap (λ l. (tt, ten l.tables (l.marks, tt))) e)) }

pub ngi_read-numbered-settled : Public ngi-read-numbered.ended (λ M 𝓤. ngi-read-numbered.clauses)
ngi_read-numbered-settled M 𝓤 𝓛 mem run κs a g = record { asks_nothing = refl; one-outcome = λ x y. both 𝓤 (λ p q. let e = meet p q in same (the_answer e) (ap (λ l. (tt, ten l.tables (l.marks, tt))) e)) }

pub ngi_walk-settled : Public ngi-walk.ended (λ M 𝓤. ngi-walk.clauses)
ngi_walk-settled M 𝓤 𝓛 mem run κs a g = record { asks_nothing = refl; one-outcome = λ x y. both 𝓤 (λ p q. let e = meet p q in same (the_answer e) (ap (λ l. (tt, (tt, (tt, (tt, (tt, (tt, (tt, (tt, (tt, five l.tables (tt, tt))))))))))) e)) }

pub ngi_flip-settled : Public ngi-flip.ended (λ M 𝓤. ngi-flip.clauses)
ngi_flip-settled M 𝓤 𝓛 mem run κs a g = record { asks_nothing = refl; one-outcome = λ x y. both 𝓤 (λ p q. let e = meet p q in same (the_answer e) (ap (λ l. (tt, (tt, (tt, (tt, (tt, five l.tables (tt, tt))))))) e)) }

pub ngi_pin-settled : Public ngi-pin.ended (λ M 𝓤. ngi-pin.clauses)
ngi_pin-settled M 𝓤 𝓛 mem run κs a g = record { asks_nothing = refl; one-outcome = λ x y. both 𝓤 (λ p q. let e = meet p q in same (the_answer e) (ap (λ l. (tt, (tt, (tt, (tt, (tt, (tt, five l.tables (l.marks, tt)))))))) e)) }

pub ngi_lift-settled : Public ngi-lift.ended (λ M 𝓤. ngi-lift.clauses)
ngi_lift-settled M 𝓤 𝓛 mem run κs a g = record { asks_nothing = refl; one-outcome = λ x y. both 𝓤 (λ p q. let e = meet p q in same (the_answer e) (ap (λ l. (tt, (tt, (tt, (tt, (tt, none (l.marks, tt))))))) e)) }

pub ngi_run-settled : Public ngi-run.ended (λ M 𝓤. ngi-run.clauses)
ngi_run-settled M 𝓤 𝓛 mem run κs a g = record { asks_nothing = refl; one-outcome = λ x y. both 𝓤 (λ p q. let e = meet p q in same (ap (λ (r : Ran). r.answer) e) (ap (λ (r : Ran). (tt, ten r.tables (r.marks, (r.buffer, tt)))) e)) }
