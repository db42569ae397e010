-- The counts that the clauses' standings determine are those that are written. Assumes nothing.
use mathlib.Core.Path.{◌≡◌, ap, sym, ◌∙◌}
use mathlib.Core.Bool.{cond}
use mathlib.Core.List.{List, [], ◌∷◌, map}
use Prim.Native.Nat.{ℕ, ◌≤◌}
use native.Mathlib.Omega.{arith}
use lib.ListN.{length, get_or, get_or-map}
use lib.Dec.{eqb}
use borrow.Author.Tests.{eqb-true}
use Rattle.written.specs.Lists.{total, those}
use Rattle.written.specs.Clauses.{term_of, value_of, true_count, is_uncovered, breaks, break_count, uncovered_in}
use Rattle.laws.proofs.Basics.{by_cases, by-eq}
use Rattle.laws.proofs.Sums.{total-by, total-map, total-those}
use Rattle.laws.proofs.Times.{where_length}
use Rattle.laws.proofs.Literals.{value-le}
use Rattle.machine.specs.Literals.{xor_true}
use Rattle.machine.proofs.Clause.{one-here, one-past, one-rest}
use Rattle.machine.proofs.Status.{Standing, status, critical, bare}
use Rattle.machine.proofs.Mid.{count_in, xor_in}

-- the true literals of one term
module _ (a : ℕ → ℕ) (le : (l : ℕ) → a l ≤ 1) (w : ℕ) where
  abbrev of : List ℕ → ℕ
  of ls = total a (those (λ l. eqb (term_of l) w) ls)

  -- where one literal is true, it is of the term that the xor names
  of_one : (ls : List ℕ) → total a ls ≡ 1 → of ls ≡ cond (eqb (xor_true a ls) w) 1 0
  of_one [] h = absurd (omega arith)
  of_one (l ∷ ls) h =
      by-eq (a l) 1
      (λ e.
      let z = total-those a (λ l. eqb (term_of l) w) ls in
      let n : of ls ≡ 0 = omega arith in
      rw (one-here a le l ls h e) (by_cases (eqb (term_of l) w) (λ q. rw (q, n, e)) (λ q. rw (q, n))))
      (λ e.
      let l₀ : a l ≡ 0 = omega (arith, le l) in
      let r = of_one ls (one-rest a le l ls h e) in
      rw (one-past a le l ls h e) (by_cases (eqb (term_of l) w) (λ q. rw (q, l₀) (omega (arith, r))) (λ q. rw q r)))

module _ (vs : List ℕ) where
  critical-breaks : (w : ℕ) (ls : List ℕ) → critical w (status (value_of vs) ls) ≡ breaks vs w ls
  unfolding critical status breaks true_count
  critical-breaks w ls = by_cases (eqb (total (value_of vs) ls) 1) (λ e. rw e (sym (of_one (value_of vs) (value-le vs) w ls (eqb-true _ _ e)))) (λ e. rw e)

  pub total-critical : (w : ℕ) (cs : List (List ℕ)) → total (critical w) (map (status (value_of vs)) cs) ≡ break_count vs cs w
  unfolding break_count
  total-critical w cs =
      total-map (critical w) (status (value_of vs)) cs ∙ total-by (λ ls. critical w (status (value_of vs) ls)) (breaks vs w) cs [] (λ k l. critical-breaks w (get_or cs k []))

  pub total-bare : (cs : List (List ℕ)) → total bare (map (status (value_of vs)) cs) ≡ length (uncovered_in vs cs)
  unfolding bare status uncovered_in is_uncovered true_count
  total-bare cs = total-map bare (status (value_of vs)) cs ∙ sym (where_length 0 (is_uncovered vs) cs)

  pub count-is : (cs : List (List ℕ)) (c : ℕ) → count_in (map (status (value_of vs)) cs) c ≡ true_count vs (get_or cs c [])
  unfolding status true_count xor_true
  count-is cs c = ap (λ (s : Standing). s.count) (get_or-map (status (value_of vs)) cs c [])

  pub xored-is : (cs : List (List ℕ)) (c : ℕ) → xor_in (map (status (value_of vs)) cs) c ≡ xor_true (value_of vs) (get_or cs c [])
  unfolding status true_count xor_true
  xored-is cs c = ap (λ (s : Standing). s.xored) (get_or-map (status (value_of vs)) cs c [])
