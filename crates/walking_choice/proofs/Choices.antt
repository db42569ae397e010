-- A choice among entries, and the literal that is picked by the tests that are made. Assumes nothing.
use Prim.Native.Nat.{ℕ, ◌<◌}
use mathlib.Core.Path.{◌≡◌, refl, ap}
use mathlib.Core.List.{List, [], ◌∷◌}
use native.Mathlib.Omega.{arith}
use lib.ListN.{length, get_or}
use borrow.Author.Tests.{eq-eqb, ne_eqb, lt-ltb, le-ltb}
use Rattle.draw.specs.declared.Drawn.{Drawn}
use Rattle.draw.specs.Draw.{heads_of}
use Rattle.written.specs.declared.Order.{Order}
use Rattle.written.specs.Drawing.{Pick, choice, heads, entry_at, chosen_from}
use Rattle.written.specs.Walk.{one_of, after_heads}
use Rattle.laws.proofs.Modes.{choice-below}
use Rattle.walking_choice.specs.Choosing.{pick, least_by, ties_by, literal_by}

-- the entry that a choice among as many gives stands in the list, and is the one that is written
module _ (o : Order) (xs : List ℕ) (y : ℕ) {n : ℕ} (many : n ≡ length xs) {d : Drawn} (e : d ≡ choice o n y) where
  pub chosen-stands : 0 < length xs → d.number < length xs
  chosen-stands s = rw (e, many) (choice-below o (length xs) y s)

  pub chosen_is : {x : ℕ} → x ≡ get_or xs d.number 0 → pick x d.next.state ≡ chosen_from o xs y
  unfolding chosen_from
  chosen_is p = rw p (ap (entry_at xs) (rw many at e))

-- "one is taken without a draw, several by a choice"
pub one-alone : (o : Order) (xs : List ℕ) (y : ℕ) → length xs ≡ 1 → pick (get_or xs 0 0) y ≡ one_of o xs y
unfolding one_of
one-alone o [] y n = absurd (omega arith)
one-alone o (x ∷ []) y n = refl
one-alone o (x ∷ z ∷ xs) y n = absurd (omega arith)

pub one-of_several : (o : Order) (xs : List ℕ) (y : ℕ) {p : Pick} → 0 < length xs → (length xs ≡ 1 → ⊥) → p ≡ chosen_from o xs y → p ≡ one_of o xs y
unfolding one_of
one-of_several o [] y s n e = absurd (omega arith)
one-of_several o (x ∷ []) y s n e = absurd (n refl)
one-of_several o (x ∷ z ∷ xs) y s n e = e

-- the literal: where the least is 0, on heads, and on tails
module _ (o : Order) (h : ℕ → ℕ) (ls : List ℕ) (y : ℕ) {m : ℕ} (least : m ≡ least_by h ls) {p : Pick} where
  pub picked-free : m ≡ 0 → p ≡ one_of o (ties_by h m ls) y → p ≡ literal_by o h ls y
  unfolding literal_by
  picked-free z e = rw (← least, le-ltb 0 m (omega arith)) e

  module _ (above : m ≡ 0 → ⊥) {d : Drawn} (drawn : d ≡ heads_of o.bias y) where
    pub picked-heads : d.number ≡ 1 → p ≡ chosen_from o ls d.next.state → p ≡ literal_by o h ls y
    unfolding literal_by after_heads heads
    picked-heads n e = rw (← least, lt-ltb 0 m (omega arith), ← drawn, eq-eqb _ 1 n) e

    pub picked_tails : (d.number ≡ 1 → ⊥) → p ≡ one_of o (ties_by h m ls) d.next.state → p ≡ literal_by o h ls y
    unfolding literal_by after_heads heads
    picked_tails n e = rw (← least, lt-ltb 0 m (omega arith), ← drawn, ne_eqb _ 1 n) e
