-- Numbers of a list counted in a table: what each entry becomes, and that it can. Assumes nothing.
use mathlib.Core.Path.{◌≡◌, refl, ◌∙◌, sym}
use mathlib.Core.Bool.{true, cond}
use mathlib.Core.List.{List, [], ◌∷◌}
use Prim.Native.Nat.{ℕ, suc, ◌+◌, ◌<◌, ◌≤◌}
use native.Mathlib.Numerals.{add-one}
use native.Mathlib.Omega.{arith}
use lib.ListN.{length, get_or, drop, length-set}
use lib.Seq.{get_or-set_same, get_or-set_other, drop-set-lt}
use lib.Dec.{eqb, ltb}
use borrow.Author.Tests.{eq-eqb, ne_eqb, ltb-true}
use Rattle.written.specs.Lists.{all, times, steps}
use Rattle.laws.proofs.Basics.{by-eq, one-most, both_first, both-second}
use Rattle.machine.specs.Tallies.{raised, CanSteps}
use Rattle.machine.specs.Filling.{tally, CanTally}

-- ---- one entry raised

module _ (xs : List ℕ) (k : ℕ) where
  pub raised-length : length (raised xs k) ≡ length xs
  unfolding raised
  raised-length = length-set xs k _

  pub raised-same : k < length xs → get_or (raised xs k) k 0 ≡ suc (get_or xs k 0)
  unfolding raised
  raised-same l = get_or-set_same xs k _ 0 l ∙ add-one _

  pub raised-other : (j : ℕ) → (j ≡ k → ⊥) → get_or (raised xs k) j 0 ≡ get_or xs j 0
  unfolding raised
  raised-other j ne = get_or-set_other xs k j _ 0 ne

  pub raised-beyond : (n : ℕ) → k < n → drop n (raised xs k) ≡ drop n xs
  unfolding raised
  raised-beyond n l = drop-set-lt n xs k _ l

  -- as a number of times more
  raised-times : (m : ℕ) → m < length xs → get_or (raised xs k) m 0 ≡ get_or xs m 0 + cond (eqb m k) 1 0
  raised-times m l =
      by-eq m k (λ q. rw (q, eq-eqb k k refl) (raised-same (rw q at l) ∙ sym (add-one (get_or xs k 0))))
      (λ q. rw (ne_eqb m k q) (raised-other m q ∙ (let z : get_or xs m 0 ≡ get_or xs m 0 + 0 = omega arith in z)))

-- ---- the numbers of a list, each below n

module _ (top n : ℕ) where
  pub tally-can : (ls ns : List ℕ) → all (λ l. ltb l n) ls ≡ true → n ≤ length ns → ((m : ℕ) → m < n → get_or ns m 0 + length ls < top)
      → CanSteps (CanTally top) tally ls ns
  unfolding CanSteps
  tally-can [] ns a h b = tt
  tally-can (l ∷ ls) ns a h b =
      let hl = ltb-true l n (both_first (ltb l n) (all (λ l. ltb l n) ls) a) in (
        record { within = omega arith; fits = omega (arith, b l hl) },
        tally-can ls (raised ns l) (both-second (ltb l n) (all (λ l. ltb l n) ls) a) (omega (arith, raised-length ns l))
            (λ m hm. omega (arith, b m hm, raised-times ns l m (omega arith), one-most (eqb m l))),
      )

pub tallied_length : (ls ns : List ℕ) → length (steps tally ls ns) ≡ length ns
tallied_length [] ns = refl
tallied_length (l ∷ ls) ns = tallied_length ls (raised ns l) ∙ raised-length ns l

pub tallied_at : (ls ns : List ℕ) (m : ℕ) → m < length ns → get_or (steps tally ls ns) m 0 ≡ get_or ns m 0 + times m ls
tallied_at [] ns m h = omega arith
tallied_at (l ∷ ls) ns m h =
    omega (arith, tallied_at ls (raised ns l) m (omega (arith, raised-length ns l)), raised-times ns l m h)

pub tallied_beyond : (n : ℕ) (ls ns : List ℕ) → all (λ l. ltb l n) ls ≡ true → drop n (steps tally ls ns) ≡ drop n ns
tallied_beyond n [] ns a = refl
tallied_beyond n (l ∷ ls) ns a =
    tallied_beyond n ls (raised ns l) (both-second (ltb l n) (all (λ l. ltb l n) ls) a)
    ∙ raised-beyond ns l n (ltb-true l n (both_first (ltb l n) (all (λ l. ltb l n) ls) a))
