use mathlib.Core.Path.{ap, ◌∙◌, sym, subst}
use Rattle.machine.specs.Passes.{counted, CanCountAll}
use Rattle.machine.proofs.Calls.{is-blank}
use Rattle.recounts.proofs.count_afresh.Goals as goal

pub count_all-requires : goal.count_all-requires
count_all-requires c = subst (CanCountAll 65536 _ _) (sym (is-blank _ _ _ c.clear.ensures c.clear-2.ensures)) c.requires.clauses

pub returns : goal.returns
returns c = c.count_all.ensures ∙ ap (counted _ _) (is-blank _ _ _ c.clear.ensures c.clear-2.ensures)
