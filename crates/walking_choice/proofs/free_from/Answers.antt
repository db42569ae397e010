-- `walking_choice::free_from` meets its contract: the number drawn is below that of the literals of free terms. Assumes nothing.
use Rattle.walking_choice.proofs.Choices.{chosen-stands, chosen_is}
use Rattle.walking_choice.proofs.free_from.Goals as goal

pub nth_free-requires : goal.nth_free-requires
nth_free-requires c = search chosen-stands

pub returns : goal.returns
returns c = search chosen_is
