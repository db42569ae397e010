-- `walking_choice::break_of` meets its contract. Assumes nothing.
-- an entry of 16 bits fits
use Rattle.walking_choice.specs.Choosing.{break_in}
use Rattle.walking_choice.proofs.break_of.Goals as goal

pub returns : goal.returns
unfolding break_in
returns c = rw (c.from-2.ensures, c.from.ensures)
