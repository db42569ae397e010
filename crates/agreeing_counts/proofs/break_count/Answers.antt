use mathlib.Core.Path.{ap, ◌∙◌}
use native.Mathlib.Omega.{arith}
use Rattle.words.specs.Words.{bit_at, bit_of}
use Rattle.machine.specs.Moving.{down_of}
use Rattle.machine.specs.Tested.{ones_in, break_at}
use Rattle.agreeing_counts.proofs.break_count.Goals as goal

pub overflow_sub-l : goal.overflow_sub-l
unfolding bit_at bit_of
overflow_sub-l c = omega (arith, c.value.ensures)

pub part-requires : goal.part-requires
unfolding down_of
part-requires c = rw c.value.ensures c.requires.1

pub ones_in-requires : goal.ones_in-requires
unfolding down_of
ones_in-requires c = rw (c.part.ensures, c.value.ensures) c.requires.2

pub returns : goal.returns
unfolding break_at down_of
returns c =
    let a = c.args in
    c.ones_in.ensures ∙ ap (ones_in a.trues.now) (c.part.ensures ∙ rw c.value.ensures)
