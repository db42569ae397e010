-- `examples::show` is safe: there is room for what it prints. Assumes nothing.
use borrow.Author.Rules.{rules}
use Rattle.running_alone.proofs.Alone.{report-room}
use Rattle.examples.proofs.show.Goals as goal

pub run_alone-n-requires : goal.run_alone-n-requires
run_alone-n-requires c = report-room (search rules)
