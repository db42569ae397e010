-- `pages::Page::put_all` meets its contract: the bytes that are left make the whole. Assumes nothing.
use mathlib.Core.Path.{◌≡◌}
use mathlib.Core.List.{◌∷◌, []}
use lib.ListN.{drop}
use Rattle.pages.specs.Pages.{page_of, put}
use Rattle.pages.proofs.Pieces.{Left}
use Rattle.pages.proofs.Page.put_all.Given as goal

abbrev pub invariant-loop-b : goal.invariant-loop-b
invariant-loop-b l =
    Left (drop l.b-index l.bytes ∷ []) (put l.fn.bytes (page_of l.initial.self)) (page_of l.self) × (l.self.out.ghost_name ≡ l.initial.self.out.ghost_name)
