-- A loop that writes one value into the front of a table: its invariant, and what stands at the end. One law for every width. Assumes nothing.
use mathlib.Core.Path.{◌≡◌, refl, ap, ◌∙◌, sym}
use mathlib.Core.List.{List, ◌++◌}
use Prim.Native.Nat.{ℕ, zero, suc, ◌≤◌, min}
use native.Mathlib.Omega.{arith}
use lib.ListN.{length, set, take, drop}
use lib.Seq.{length-take-le}
use Rattle.std.proofs.lemmas.List.{set-append_left, take-append-drop}
use Rattle.machine.specs.Passes.{up_to, set_below}
use Rattle.machine.proofs.Cleared.{length-below, below-least}

module _ {A : Type 0} (z : A) where
  -- written in a front part, it is written in the whole
  front : (i : ℕ) (xs ys : List A) → i ≤ length xs → set_below z i xs ++ ys ≡ set_below z i (xs ++ ys)
  unfolding set_below up_to
  front zero xs ys l = refl
  front (suc i) xs ys l =
      sym (set-append_left (set_below z i xs) ys i z (omega (arith, length-below z i xs)))
      ∙ ap (λ (t : List A). set t i z) (front i xs ys (omega arith))

  -- the loop, which has come to the end of the front part
  pub front-end : (n last i : ℕ) (xs ys : List A) → last ≡ min n (length xs) → ys ≡ set_below z i (take last xs) → i ≤ length (take last xs)
      → length (take last xs) ≤ i → ys ++ drop last xs ≡ set_below z n xs
  front-end n last i xs ys e f l m =
      let s = length-take-le last xs (omega arith) in
      let q : i ≡ min n (length xs) = omega arith in
      rw (f, front i (take last xs) (drop last xs) l, take-append-drop last xs, q) (below-least z n xs)
