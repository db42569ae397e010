-- `running_values::put_values` meets its contract: the lines that are left make the whole. Assumes nothing.
use mathlib.Core.Path.{◌≡◌}
use mathlib.Core.List.{◌∷◌, []}
use Rattle.words.specs.Words.{bit_at}
use Rattle.scan.specs.Text.{bytes}
use Rattle.written.specs.Lists.{list_of}
use Rattle.written.specs.Competition.{value_lines}
use Rattle.pages.specs.Pages.{page_of, put}
use Rattle.pages.proofs.Pieces.{Left}
use Rattle.running_values.proofs.Valued.{lines_from}
use Rattle.running_values.proofs.put_values.Given as goal

abbrev pub invariant-loop-i : goal.invariant-loop-i
invariant-loop-i l =
    Left (lines_from l.terms l.values l.i ∷ bytes "v 0\n" ∷ []) (put (value_lines (list_of l.terms (bit_at l.values))) (page_of l.initial.page)) (page_of l.page)
    × (l.page.out.ghost_name ≡ l.initial.page.out.ghost_name)
