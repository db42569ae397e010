-- `pages::Page::put_name` meets its contract: the bytes that are left make the name. Assumes nothing.
use Prim.Native.Nat.{◌-◌}
use mathlib.Core.Path.{◌≡◌}
use mathlib.Core.List.{◌∷◌, []}
use Rattle.written.specs.Printed.{name_of}
use Rattle.pages.specs.Pages.{page_of, put}
use Rattle.pages.proofs.Pieces.{Left}
use Rattle.pages.proofs.Page.put_name.Given as goal

abbrev pub invariant-loop : goal.invariant-loop
invariant-loop l = Left (name_of (8 - l.counter) l.rest ∷ []) (put (name_of 8 l.name) (page_of l.initial.self)) (page_of l.self) × (l.self.out.ghost_name ≡ l.initial.self.out.ghost_name)
