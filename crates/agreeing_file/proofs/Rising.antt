-- What the library says of an order is what the document asks: of a number in a range, and of neighbours in a run of starts. Assumes nothing.
use mathlib.Core.Path.{◌≡◌, refl, sym, ◌∙◌}
use mathlib.Core.Bool.{Bool, true, false, cond, ◌&&◌}
use mathlib.Core.List.{List}
use Rattle.std.proofs.Common.{Some}
use Prim.Native.Nat.{ℕ, ◌+◌, ◌<◌}
use native.Mathlib.Omega.{arith}
use lib.ListN.{length, get_or, take}
use lib.Dec.{eqb, leb}
use borrow.Author.Tests.{le-leb, lt-leb, lt-ltb, le-ltb, eq-eqb, ne_eqb}
use Rattle.std.specs.List.{IsAllAdjacentAnswer}
use Rattle.std.specs.Ordering.{is_some_and, is_le, is_lt, nat_cmp}
use Rattle.std.proofs.lemmas.List.{length-take-le, get_or-take}
use Rattle.written.specs.Lists.{all, below}
use Rattle.laws.proofs.Basics.{by-eq, by-lt}
use Rattle.laws.proofs.All.{below_all}
use Rattle.laws.proofs.Tests.{test_fails}

in-order : (x y : ℕ) → is_some_and is_le (Some (nat_cmp x y)) ≡ leb x y
in-order x y =
    by-lt x y (λ l. rw (lt-ltb x y l, le-leb x y (omega arith)) refl)
    (λ l. by-eq x y (λ e. rw (le-ltb x y l, eq-eqb x y e, le-leb x y (omega arith)) refl) (λ n. rw (le-ltb x y l, ne_eqb x y n, lt-leb x y (omega arith)) refl))

-- `contains` at a range from a to b, which is not spent
pub in-range : {low high a b : ℕ} (x : ℕ) {spent r : Bool} → a ≡ low → b ≡ high → spent ≡ false
    → r ≡ (is_some_and is_le (Some (nat_cmp a x)) && cond spent (is_some_and is_lt (Some (nat_cmp x b))) (is_some_and is_le (Some (nat_cmp x b))))
    → r ≡ (leb low x && leb x high)
in-range {low} {high} x p q e v = v ∙ rw (p, q, e, in-order low x, in-order x high) refl

-- n starts and one past the last, which stand first
module _ (p : ℕ → ℕ → Bool) (n : ℕ) (ss : List ℕ) (size : n < length ss) where
  abbrev at : ℕ → Bool
  at k = p (get_or ss k 0) (get_or ss (k + 1) 0)

  room : length (take (n + 1) ss) ≡ n + 1
  room = length-take-le (n + 1) ss (omega arith)

  same-at : (k : ℕ) → k < n → p (get_or (take (n + 1) ss) k 0) (get_or (take (n + 1) ss) (k + 1) 0) ≡ at k
  same-at k l = rw (get_or-take (n + 1) ss k 0 (omega arith), get_or-take (n + 1) ss (k + 1) 0 (omega arith)) refl

  neighbours : (r : Bool) → IsAllAdjacentAnswer (λ x y a. a ≡ p x y) (take (n + 1) ss) r → r ≡ all at (below n)
  neighbours true h = sym (below_all at n (λ k l. sym (h k 0 (omega (arith, room)) ∙ same-at k l)))
  neighbours false (k, l, f) = let b : k < n = omega (arith, room) in test_fails at n k b (sym (f 0 ∙ same-at k b))

  -- the first two tests of starts: the second is asked where the first holds
  pub two-asked : {v r : Bool} → get_or ss 0 0 ≡ 0 → IsAllAdjacentAnswer (λ x y a. a ≡ p x y) (take (n + 1) ss) r → v ≡ r → v ≡ (eqb (get_or ss 0 0) 0 && all at (below n))
  two-asked {v} {r} z h e = e ∙ rw (eq-eqb (get_or ss 0 0) 0 z) (neighbours r h)

  pub one-asked : {v : Bool} → (get_or ss 0 0 ≡ 0 → ⊥) → v ≡ eqb (get_or ss 0 0) 0 → v ≡ (eqb (get_or ss 0 0) 0 && all at (below n))
  one-asked z e = e ∙ rw (ne_eqb (get_or ss 0 0) 0 z) refl

-- the library's test whether numbers fall asks this of neighbours
pub not-falling : (xs : List ℕ) (r : Bool) → IsAllAdjacentAnswer (λ x y a. is_some_and is_le (Some (nat_cmp x y)) ≡ a) xs r → IsAllAdjacentAnswer (λ x y a. a ≡ leb x y) xs r
not-falling xs true h = λ k d l. sym (h k d l) ∙ in-order _ _
not-falling xs false (k, l, f) = (k, l, λ d. sym (f d) ∙ in-order _ _)
