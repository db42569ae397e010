-- `digits::all_digits` meets its contract: the standard library's test of every entry is the paper's. Assumes nothing.
use mathlib.Core.Path.{◌≡◌, refl, ap, ◌∙◌}
use mathlib.Core.Bool.{Bool, ◌&&◌}
use mathlib.Core.List.{List, [], ◌∷◌}
use Prim.Native.Nat.{ℕ}
use Rattle.std.proofs.Common.{rules}
use borrow.Author.Tests.{tests}
use Rattle.std.specs.List.{list_all}
use Rattle.std.proofs.lemmas.Iterator.{YieldsList-from_slice}
use Rattle.std.proofs.lemmas.Iterator.Search.{all_from_yields_List}
use Rattle.written.specs.Lists.{all}
use Rattle.written.specs.Sheet.{is_digit}
use Rattle.digits.proofs.all_digits.Goals as goal

list_all-all : (p : ℕ → Bool) (xs : List ℕ) → list_all p xs ≡ all p xs
list_all-all p [] = refl
list_all-all p (x ∷ xs) = ap (λ (b : Bool). p x && b) (list_all-all p xs)

pub returns : goal.returns
returns c =
    all_from_yields_List is_digit _ _ c.all.result c.all.ensures.ran (YieldsList-from_slice c.args.digits.now cc) (λ x b q k. search (rules, tests))
    ∙ list_all-all is_digit c.args.digits.now
