-- `walking_choice::chosen_from` meets its contract: the number drawn is below the list's length. Assumes nothing.
use Rattle.walking_choice.proofs.Choices.{chosen-stands, chosen_is}
use Rattle.walking_choice.proofs.chosen_from.Goals as goal

pub bounds-list-d : goal.bounds-list-d
bounds-list-d c = search chosen-stands

pub returns : goal.returns
returns c = search chosen_is
