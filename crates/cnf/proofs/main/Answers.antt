-- `cnf::main` is safe: there is room for what is printed. Assumes nothing.
use borrow.Author.Rules.{rules}
use Rattle.running_alone.proofs.Alone.{report-room}
use Rattle.cnf.proofs.main.Goals as goal

pub run-requires-clause-room : goal.run-requires-clause-room
run-requires-clause-room c = report-room (search rules)
