-- `running_report::put_answer` meets its contract: the terms that are left make the answer. Assumes nothing.
use mathlib.Core.Path.{◌≡◌}
use mathlib.Core.List.{◌∷◌, []}
use Rattle.pages.specs.Pages.{page_of, put}
use Rattle.pages.proofs.Pieces.{Left}
use Rattle.running_report.proofs.Named.{terms_from}
use Rattle.running_report.proofs.put_answer.Given as goal

abbrev pub invariant-loop-t : goal.invariant-loop-t
invariant-loop-t l =
    Left (terms_from l.terms l.names l.values l.t ∷ []) (put (terms_from l.terms l.names l.values 1) (page_of l.initial.page)) (page_of l.page)
    × (l.page.out.ghost_name ≡ l.initial.page.out.ghost_name)
