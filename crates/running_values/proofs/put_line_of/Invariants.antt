-- `running_values::put_line_of` meets its contract: the numbers that are left make the line. Assumes nothing.
use mathlib.Core.Path.{◌≡◌}
use mathlib.Core.List.{◌∷◌, [], flatten}
use Rattle.pages.specs.Pages.{page_of, put}
use Rattle.pages.proofs.Pieces.{Left}
use Rattle.running_values.specs.Valuing.{values_in}
use Rattle.running_values.proofs.put_line_of.Given as goal

abbrev pub invariant-loop-t : goal.invariant-loop-t
invariant-loop-t l =
    Left (values_in l.t l.to l.values ∷ (10 ∷ []) ∷ []) (put (flatten (values_in l.from l.to l.values ∷ (10 ∷ []) ∷ [])) (page_of l.initial.page)) (page_of l.page)
    × (l.page.out.ghost_name ≡ l.initial.page.out.ghost_name)
