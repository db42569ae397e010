-- The break count of a term is the number of clauses with one true literal in the run of its true literal; break counts so tested. Assumes nothing.
use mathlib.Core.Path.{◌≡◌, refl, ap, sym, ◌∙◌}
use mathlib.Core.Bool.{Bool, true, false, cond}
use mathlib.Core.List.{List, [], ◌∷◌, map}
use Prim.Native.Nat.{ℕ, suc, ◌+◌, ◌*◌, ◌≤◌, ◌<◌}
use native.Mathlib.Omega.{arith}
use lib.ListN.{length, get_or}
use lib.Dec.{eqb, ltb}
use borrow.Author.Tests.{eqb-true, eq-eqb, ne_eqb, lt-ltb}
use Rattle.words.specs.Words.{bit_at}
use Rattle.written.specs.declared.Counts.{Counts}
use Rattle.written.specs.Lists.{total, all, those, where_from, list_of, below, has, differ}
use Rattle.written.specs.Clauses.{term_of, value_of, true_count, breaks, break_count, occurrences_of}
use Rattle.written.specs.Flips.{true_literal}
use Rattle.written.specs.Agreement.{part_of}
use Rattle.laws.proofs.Basics.{by_cases, by-eq, both, both-second, one-most}
use Rattle.laws.proofs.Lists.{list_from-length, get_or-list_of}
use Rattle.laws.proofs.Sums.{total-by}
use Rattle.laws.proofs.Membership.{differ-map}
use Rattle.laws.proofs.Times.{differ-times}
use Rattle.laws.proofs.Literals.{true-is, true-term, true_below, true-before}
use Rattle.machine.specs.Tallies.{hit_of}
use Rattle.machine.specs.Moving.{down_of}
use Rattle.machine.specs.Holds.{HoldsValues}
use Rattle.machine.specs.Judging.{clauses_in, values_in, clause_right, trues_right, breaks_right}
use Rattle.machine.specs.Tested.{ones_in, break_at, break_tested, CanBreaks, CanCounts}
use Rattle.machine.proofs.Turned.{bit_small, down_is}
use Rattle.machine.proofs.Tested.{same_by, clauses-size, value_in_lem, clause-right, trues-at}

-- ---- sums over entries that pass a test, and over their numbers

total-passed : {A : Type 0} (h : A → ℕ) (p : A → Bool) (xs : List A) → total h (those p xs) ≡ total (λ x. cond (p x) (h x) 0) xs
total-passed h p [] = refl
total-passed h p (x ∷ xs) = let r = total-passed h p xs in by_cases (p x) (λ e. rw e (omega arith)) (λ e. rw e (omega arith))

total_where : {A : Type 0} (f : ℕ → ℕ) (g : A → ℕ) (p : A → Bool) (i : ℕ) (xs : List A) (d : A) → ((k : ℕ) → k < length xs → f (i + k) ≡ g (get_or xs k d))
    → total f (where_from i p xs) ≡ total (λ x. cond (p x) (g x) 0) xs
total_where f g p i [] d h = refl
total_where f g p i (x ∷ xs) d h =
    let z : i + 0 ≡ i = omega arith in
    let a : f i ≡ g x = rw z at (h 0 (omega arith)) in
    let next : (k : ℕ) → suc i + k ≡ i + suc k = λ k. omega arith in
    let r = total_where f g p (suc i) xs d (λ k l. ap f (next k) ∙ h (suc k) (omega arith)) in
    by_cases (p x) (λ e. rw e (omega arith)) (λ e. rw e (omega arith))

where_below : {A : Type 0} (p : A → Bool) (i m : ℕ) (xs : List A) → i + length xs ≤ m → all (λ c. ltb c m) (where_from i p xs) ≡ true
where_below p i m [] h = refl
where_below p i m (x ∷ xs) h =
    let r = where_below p (suc i) m xs (omega arith) in
    by_cases (p x) (λ e. rw e (both (ltb i m) _ (lt-ltb i m (omega arith)) r)) (λ e. rw e r)

swapped : (a b : Bool) → ◌≡◌ {A = ℕ} (cond a (cond b 1 0) 0) (cond b (cond a 1 0) 0)
swapped true true = refl
swapped true false = refl
swapped false true = refl
swapped false false = refl

pub hit_low : (k m : ℕ) {y : ℕ} → y ≡ hit_of k m → y ≤ 1
unfolding hit_of
hit_low k m e = rw e (one-most (eqb k m))

-- ---- one term

module _ (vs : List ℕ) (t : ℕ) (small : get_or vs t 0 < 2) where
  abbrev x : ℕ
  x = true_literal vs t

  -- of its two literals x is true and the other false
  other-false : (l : ℕ) → term_of l ≡ t → (x ≡ l → ⊥) → value_of vs l ≡ 0
  unfolding value_of term_of
  other-false l e n = rw e (let q = true-is vs t small in omega arith)

  at-term : (l : ℕ) → cond (eqb (term_of l) t) (value_of vs l) 0 ≡ cond (eqb x l) 1 0
  at-term l =
      by-eq x l
      (λ q. rw (← q, eq-eqb x x refl, eq-eqb (term_of x) t (true-term vs t small)) (true-before vs t small))
      (λ n. rw (ne_eqb x l n) (by_cases (eqb (term_of l) t) (λ e. rw e (other-false l (eqb-true _ _ e) n)) (λ e. rw e)))

  term-count : (ls : List ℕ) → differ (map term_of ls) ≡ true → true_count vs (those (λ l. eqb (term_of l) t) ls) ≡ cond (has x ls) 1 0
  unfolding true_count
  term-count ls d =
      total-passed (value_of vs) (λ l. eqb (term_of l) t) ls ∙ total-by _ (λ l. cond (eqb x l) 1 0) ls 0 (λ k l. at-term (get_or ls k 0))
      ∙ differ-times x ls (differ-map term_of ls d)

  clause-breaks : (ls : List ℕ) → differ (map term_of ls) ≡ true → cond (has x ls) (hit_of (true_count vs ls) 1) 0 ≡ breaks vs t ls
  unfolding breaks hit_of
  clause-breaks ls d = rw (term-count ls d) (swapped (has x ls) (eqb (true_count vs ls) 1))

  -- over the clauses in which it stands
  pub ones_break : (T : ℕ) (cs : List (List ℕ)) (ts : List ℕ) → ((c : ℕ) → c < length cs → clause_right T (get_or cs c []) ≡ true)
      → ((c : ℕ) → c < length cs → get_or ts c 0 ≡ true_count vs (get_or cs c [])) → ones_in ts (occurrences_of cs x) ≡ break_count vs cs t
  unfolding ones_in occurrences_of break_count clause_right
  ones_break T cs ts right counts =
      let zero-add : (c : ℕ) → 0 + c ≡ c = λ c. omega arith in
      total_where (λ c. hit_of (get_or ts c 0) 1) (λ ls. hit_of (true_count vs ls) 1) (has x) 0 cs []
      (λ c l. rw zero-add (ap (λ k. hit_of k 1) (counts c l)))
      ∙ total-by _ (breaks vs t) cs [] (λ c l. clause-breaks (get_or cs c []) (both-second (all (λ l. ltb l (2 * T)) (get_or cs c [])) _ (right c l)))

-- ---- all of them, where the runs are the literals turned round

module _ (n : Counts) (ws ss ls os oc ts bs us ps : List ℕ) (h : CanCounts n ws ss ls os oc ts bs us ps) where
  abbrev T : ℕ
  T = n.terms

  abbrev vs : List ℕ
  vs = values_in T ws

  abbrev cs : List (List ℕ)
  cs = clauses_in n.clauses ss ls

  values-size : length vs ≡ T
  unfolding values_in
  values-size = list_from-length 0 T (bit_at ws)

  words-held : HoldsValues vs ws
  words-held =
      record { room = omega (arith, values-size, h.words-room); values = λ t l. sym (value_in_lem T ws t (omega (arith, values-size))) }

  module _ (t : ℕ) (l : t < T) where
    in_values : t < length vs
    in_values = omega (arith, values-size)

    down : down_of ws t ≡ true_literal vs t
    down = down_is vs ws words-held t in_values

    run_is : part_of os oc (down_of ws t) ≡ occurrences_of cs (true_literal vs t)
    run_is = rw down (h.run (true_literal vs t) (true_below vs t T l))

    break_is : trues_right n.clauses vs cs ts ≡ true → break_at ws os oc ts t ≡ break_count vs cs t
    unfolding break_at
    break_is e =
        let size = clauses-size n.clauses ss ls in
        ap (ones_in ts) run_is
        ∙ ones_break vs t (bit_small vs ws words-held t in_values) T cs ts (clause-right T cs h.clauses) (λ c lc. trues-at n.clauses vs cs ts e c (omega arith))

  pub can-breaks : CanBreaks T ws os oc ts bs
  can-breaks =
      record {
        part = λ t l. rw (down t l) (h.run-part (true_literal vs t) (true_below vs t T l));
        counts = λ t l.
            rw (run_is t l) (unfold occurrences_of in where_below (has (true_literal vs t)) 0 (length ts) cs (omega (arith, clauses-size n.clauses ss ls, h.trues-room)));
        room = h.breaks-room;
      }

  pub breaks-tested : trues_right n.clauses vs cs ts ≡ true → all (break_tested ws os oc ts bs) (below T) ≡ breaks_right T vs cs bs
  unfolding break_tested breaks_right
  breaks-tested e =
      same_by (break_at ws os oc ts) T bs (list_of T (break_count vs cs)) h.breaks-room (list_from-length 0 T (break_count vs cs))
      (λ t l. get_or-list_of T t (break_count vs cs) 0 l ∙ sym (break_is t l e))
