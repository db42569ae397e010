-- The numbers of an order tested one after another. Assumes nothing.
use Prim.Native.Nat.{◌≤◌, zero-le}
use mathlib.Core.Path.{◌≡◌, refl, sym}
use mathlib.Core.Bool.{false}
use native.Mathlib.Omega.{arith}
use lib.Dec.{leb}
use borrow.Author.Tests.{le-leb}
use Rattle.written.specs.declared.Order.{Order}
use Rattle.written.specs.Orders.{seeds, flips_each, walks_all, biases, modes, in_range}
use Rattle.laws.proofs.Basics.{by_cases}
use Rattle.laws.proofs.Sheets.{Ranged, ranged}

module _ (o : Order) where
  -- one is out of its range
  pub not-ranged : (Ranged o → ⊥) → false ≡ in_range o
  not-ranged h = by_cases (in_range o) (λ e. absurd (h (ranged o e))) (λ e. sym e)

  -- all but the mode are in theirs
  pub but_mode : (o.seed ≡ 0 → ⊥) → o.seed ≤ seeds.most → o.flips ≤ flips_each.most → (o.walks ≡ 0 → ⊥) → o.walks ≤ walks_all.most
      → o.bias ≤ biases.most → leb o.even modes.most ≡ in_range o
  unfolding in_range
  but_mode s s' f w w' b =
      rw (le-leb 1 o.seed (omega arith), le-leb o.seed 4294967295 s', le-leb 0 o.flips zero-le, le-leb o.flips 100000 f, le-leb 1 o.walks (omega arith), le-leb o.walks 1000 w', le-leb 0 o.bias zero-le, le-leb o.bias 1000 b, le-leb 0 o.even zero-le)
      refl
