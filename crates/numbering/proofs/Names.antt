-- The names of variables put into their table one after another. Assumes nothing.
use Prim.Native.Nat.{ℕ, ◌+◌, ◌<◌}
use mathlib.Core.Path.{◌≡◌, ap, sym, ◌∙◌}
use mathlib.Core.List.{List, [], ◌∷◌, ◌++◌}
use native.Mathlib.Omega.{arith}
use native.Mathlib.Numerals.{add-one}
use lib.ListN.{length, set}
use Rattle.written.specs.Tables.{over}
use Rattle.written.specs.Numbered.{name_for, names_to}
use Rattle.laws.proofs.NumberedNames.{names-length, names-none, names_snoc}
use Rattle.reading_lines.proofs.Growing.{set-over}

module _ (old : List ℕ) where
  pub none-put : old ≡ over (names_to 0) old
  none-put = ap (λ (xs : List ℕ). over xs old) (sym names-none)

  -- one more
  pub one-put : (k : ℕ) {xs : List ℕ} {x : ℕ} → xs ≡ over (names_to k) old → k < length xs → x ≡ name_for (k + 1) → set xs k x ≡ over (names_to (k + 1)) old
  one-put k {xs} {x} is room named =
      let n = names-length k in
      (λ i. set (is i) (sym n i) x) ∙ set-over (names_to k) old x (omega (arith, ap length is, n))
      ∙ ap (λ (ys : List ℕ). over ys old) (ap (λ (y : ℕ). names_to k ++ y ∷ []) (named ∙ ap name_for (add-one k)) ∙ sym (names_snoc k) ∙ ap names_to (sym (add-one k)))
