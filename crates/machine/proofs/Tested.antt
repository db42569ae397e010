-- A table tested entry by entry against what is written, and the true counts so tested. Assumes nothing.
use mathlib.Core.Path.{◌≡◌, ap, sym, ◌∙◌}
use mathlib.Core.Bool.{true}
use mathlib.Core.List.{List, [], map}
use Prim.Native.Nat.{ℕ, ◌*◌, ◌/◌, ◌≤◌, ◌<◌}
use native.Mathlib.Omega.{arith}
use lib.ListN.{length, get_or, take, length-map, get_or-map}
use lib.Seq.{ext_get_or, length-take-le, get_or-take}
use lib.Dec.{eqb, ltb}
use borrow.Author.Tests.{eqb-true, eq-eqb, ltb-true}
use Rattle.words.specs.Words.{bit_at}
use Rattle.written.specs.Lists.{total, all, below, same}
use Rattle.written.specs.Clauses.{term_of, value_of, true_count}
use Rattle.written.specs.Agreement.{part_of}
use Rattle.laws.proofs.Basics.{both_first, same-eq, same_tests}
use Rattle.laws.proofs.Lists.{list_from-length, get_or-list_of}
use Rattle.laws.proofs.Sums.{total-by}
use Rattle.laws.proofs.All.{all-below, below_all, all_get_d, same_refl}
use Rattle.machine.specs.Literals.{value_in}
use Rattle.machine.specs.Moving.{view, count_at}
use Rattle.machine.specs.Judging.{clauses_in, values_in, clause_right, literals_right, trues_right}
use Rattle.machine.specs.Tested.{true_tested, CanTrues}

-- the first n entries are those of ys: so at each place, and so if at each place
pub same_at : (n : ℕ) (xs ys : List ℕ) → same (take n xs) ys ≡ true → (k : ℕ) → k < n → get_or xs k 0 ≡ get_or ys k 0
same_at n xs ys h k l = sym (get_or-take n xs k 0 l) ∙ ap (λ (zs : List ℕ). get_or zs k 0) (same-eq (take n xs) ys h)

pub same_by : (f : ℕ → ℕ) (n : ℕ) (xs ys : List ℕ) → n ≤ length xs → length ys ≡ n → ((k : ℕ) → k < n → get_or ys k 0 ≡ f k)
    → all (λ k. eqb (get_or xs k 0) (f k)) (below n) ≡ same (take n xs) ys
same_by f n xs ys h e g =
    same_tests _ _
    (λ a.
    let size = length-take-le n xs h in
    let q : take n xs ≡ ys =
    ext_get_or 0 (take n xs) ys (omega arith)
    (λ k l. let b : k < n = omega arith in get_or-take n xs k 0 b ∙ eqb-true _ _ (all-below (λ k. eqb (get_or xs k 0) (f k)) n k b a) ∙ sym (g k b)) in
    rw q (same_refl ys))
    (λ s. below_all (λ k. eqb (get_or xs k 0) (f k)) n (λ k l. eq-eqb _ _ (same_at n xs ys s k l ∙ g k l)))

-- the clauses and the values that tables hold
module _ (C : ℕ) (ss ls : List ℕ) where
  pub clauses-size : length (clauses_in C ss ls) ≡ C
  unfolding clauses_in
  clauses-size = list_from-length 0 C (part_of ss ls)

  pub clause_in : (c : ℕ) → c < C → get_or (clauses_in C ss ls) c [] ≡ part_of ss ls c
  unfolding clauses_in
  clause_in c l = get_or-list_of C c (part_of ss ls) [] l

module _ (T : ℕ) (ws : List ℕ) where
  pub value_in_lem : (t : ℕ) → t < T → get_or (values_in T ws) t 0 ≡ bit_at ws t
  unfolding values_in
  value_in_lem t l = get_or-list_of T t (bit_at ws) 0 l

  literal_in_lem : (l : ℕ) → l < 2 * T → value_in ws l ≡ value_of (values_in T ws) l
  unfolding value_in value_of term_of
  literal_in_lem l h = rw (value_in_lem (l / 2) (omega arith))

  -- the true literals of a clause, read from the words
  count_in_lem : (ls : List ℕ) → clause_right T ls ≡ true → total (value_in ws) ls ≡ true_count (values_in T ws) ls
  unfolding true_count clause_right
  count_in_lem ls h =
      total-by (value_in ws) (value_of (values_in T ws)) ls 0
      (λ k l. literal_in_lem _ (ltb-true _ _ (all_get_d (λ l. ltb l (2 * T)) ls k 0 l (both_first _ _ h))))

-- each clause of a file that is right is so
pub clause-right : (T : ℕ) (cs : List (List ℕ)) → literals_right T cs ≡ true → (c : ℕ) → c < length cs → clause_right T (get_or cs c []) ≡ true
unfolding literals_right
clause-right T cs h c l = all_get_d (clause_right T) cs c [] l h

-- true counts tested clause by clause
pub trues-tested : (T C : ℕ) (ws ss ls ts : List ℕ) → CanTrues T C ss ls ts
    → all (true_tested (view ws ss ls) ts) (below C) ≡ trues_right C (values_in T ws) (clauses_in C ss ls) ts
unfolding trues_right true_tested count_at true_count
trues-tested T C ws ss ls ts h =
    let cs = clauses_in C ss ls in
    let vs = values_in T ws in
    same_by (count_at (view ws ss ls)) C ts (map (true_count vs) cs) h.room (length-map cs (true_count vs) ∙ clauses-size C ss ls)
    (λ c l.
    get_or-map (true_count vs) cs c [] ∙ sym (count_in_lem T ws (get_or cs c []) (clause-right T cs h.clauses c (omega (arith, clauses-size C ss ls))))
    ∙ ap (total (value_in ws)) (clause_in C ss ls c l))

-- what true counts that are right say
pub trues-at : (C : ℕ) (vs : List ℕ) (cs : List (List ℕ)) (ts : List ℕ) → trues_right C vs cs ts ≡ true → (c : ℕ) → c < C
    → get_or ts c 0 ≡ true_count vs (get_or cs c [])
unfolding trues_right true_count
trues-at C vs cs ts h c l = same_at C ts (map (true_count vs) cs) h c l ∙ get_or-map (true_count vs) cs c []
