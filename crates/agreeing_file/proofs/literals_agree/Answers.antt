use Rattle.agreeing_file.proofs.Marks.{none-marked}
use Rattle.agreeing_file.proofs.literals_agree.Goals as goal

pub clauses_agree-requires : goal.clauses_agree-requires
clauses_agree-requires c = (c.requires, none-marked 2048)
