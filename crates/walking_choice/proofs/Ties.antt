-- The literals at the least, by what one look at each gave: how many they are, and the one that is taken. Assumes nothing.
use Prim.Native.Nat.{ℕ, ◌≤◌, ◌<◌}
use mathlib.Core.Path.{◌≡◌, sym, ap, ◌∙◌}
use mathlib.Core.List.{List}
use native.Mathlib.Omega.{arith}
use lib.ListN.{length, get_or}
use lib.Dec.{eqb}
use Rattle.draw.specs.declared.Drawn.{Drawn}
use Rattle.written.specs.declared.Order.{Order}
use Rattle.written.specs.Lists.{those}
use Rattle.written.specs.Marks.{free_in}
use Rattle.written.specs.Drawing.{choice}
use Rattle.written.specs.Walk.{one_of}
use Rattle.laws.proofs.Lists.{those-short}
use Rattle.walking_choice.specs.Choosing.{pick, break_in, is_free_in, is_tie, least_by, ties_by, Lowest, lowest, lowest_in, CanDraw}
use Rattle.walking_choice.proofs.Among.{those-both}
use Rattle.walking_choice.proofs.LeastBreaks.{none-tied, number-few, least-tied}
use Rattle.walking_choice.proofs.Choices.{chosen-stands, chosen_is, one-alone, one-of_several}

-- those of free terms are no more than all, and those of them at m pass both tests
pub free-short : (ms ls : List ℕ) → length (free_in ms ls) ≤ length ls
unfolding free_in is_free_in
free-short ms ls = those-short (is_free_in ms) ls

module _ (bs ms : List ℕ) (m : ℕ) (ls : List ℕ) where
  free-ties : those (is_tie bs ms m) ls ≡ ties_by (break_in bs) m (free_in ms ls)
  unfolding ties_by free_in is_free_in is_tie
  free-ties = sym (those-both (is_free_in ms) (λ l. eqb (break_in bs l) m) ls)

  pub tie_stands : (j : ℕ) → j < length (ties_by (break_in bs) m (free_in ms ls)) → j < length (those (is_tie bs ms m) ls)
  tie_stands j l = rw free-ties l

  pub tie_is : (j : ℕ) {x : ℕ} → x ≡ get_or (those (is_tie bs ms m) ls) j 0 → x ≡ get_or (ties_by (break_in bs) m (free_in ms ls)) j 0
  tie_is j e = rw (← free-ties) e

-- where some of them are at the least, a choice can be made among them
pub can-draw : (top : ℕ) (h : ℕ → ℕ) (ms ls : List ℕ) {b k f : ℕ} → lowest b k f ≡ lowest_in top h (free_in ms ls) → (k ≡ 0 → ⊥)
    → length ls < top → CanDraw top (free_in ms ls)
can-draw top h ms ls e some s = record { some = omega (arith, number-few top h (free_in ms ls) e, some); short = omega (arith, free-short ms ls) }

-- what one look at each literal gave is so of those at the least
module _ (top : ℕ) (h : ℕ → ℕ) (ls : List ℕ) {b k f : ℕ} (e : lowest b k f ≡ lowest_in top h ls) where
  abbrev ties : List ℕ
  ties = ties_by h b ls

  low-from : b ≡ (lowest_in top h ls).low
  low-from = ap (λ (s : Lowest). s.low) e

  number_is : k ≡ length ties
  unfolding lowest_in
  number_is = rw low-from (ap (λ (s : Lowest). s.number) e)

  first-is : f ≡ get_or ties 0 0
  unfolding lowest_in
  first-is = rw low-from (ap (λ (s : Lowest). s.first) e)

  -- the number tells whether there are any
  pub none-looked : ((i : ℕ) → i < length ls → h (get_or ls i 0) < top) → k ≡ 0 → length ls ≡ 0
  unfolding lowest_in
  none-looked small n = none-tied top h ls small (sym (ap (λ (s : Lowest). s.number) e) ∙ n)

  pub some-looked : (k ≡ 0 → ⊥) → length ls ≡ 0 → ⊥
  some-looked some n = omega (arith, number-few top h ls e, some)

  module _ (some : k ≡ 0 → ⊥) where
    are_some : 0 < length ties
    are_some = omega (arith, number_is, some)

    pub low-is : b ≡ least_by h ls
    unfolding lowest_in
    low-is = low-from ∙ least-tied top h ls (rw low-from at are_some)

  module _ (o : Order) (y : ℕ) where
    pub one-taken : k ≡ 1 → pick f y ≡ one_of o ties y
    one-taken n = rw first-is (one-alone o ties y (sym number_is ∙ n))

    -- the number that is drawn is that of one of them
    module _ (some : k ≡ 0 → ⊥) {d : Drawn} (drawn : d ≡ choice o k y) where
      pub drawn-stands : d.number < length ties
      drawn-stands = chosen-stands o ties y number_is drawn (are_some some)

      pub one-drawn : (k ≡ 1 → ⊥) → {x : ℕ} → x ≡ get_or ties d.number 0 → pick x d.next.state ≡ one_of o ties y
      one-drawn n p = one-of_several o ties y (are_some some) (λ q. n (number_is ∙ q)) (chosen_is o ties y number_is drawn p)
