-- What is left of the runs as clauses are passed: what the clauses to come put there. Assumes nothing.
use mathlib.Core.Path.{◌≡◌, refl, ap, sym, ◌∙◌}
use mathlib.Core.Bool.{Bool, true, false, cond, ◌&&◌, and_assoc}
use mathlib.Core.List.{List, [], ◌∷◌, map}
use Prim.Native.Nat.{ℕ, zero, suc, ◌+◌, ◌*◌, ◌≤◌, ◌<◌}
use native.Mathlib.Numerals.{add-one}
use native.Mathlib.Omega.{arith}
use lib.ListN.{length, get_or, drop, length-set, drop_of_length-le}
use lib.Seq.{drop-cons, get_or-set_same, get_or-set_other}
use lib.Dec.{leb, ltb}
use borrow.Author.Tests.{lt-ltb, le-ltb, le-leb, lt-leb, ltb-true, eq-eqb, ne_eqb}
use Rattle.written.specs.Lists.{all, below, has, where_from, list_from, steps, differ, same}
use Rattle.written.specs.Clauses.{term_of}
use Rattle.laws.proofs.Basics.{both, both_first, both-second, by-eq, by-lt, same_tests}
use Rattle.laws.proofs.All.{all-below, below_all}
use Rattle.laws.proofs.Membership.{differ-first, differ-rest, differ-map}
use Rattle.machine.specs.Tallies.{raised}
use Rattle.machine.specs.Judging.{passes, clause_right}
use Rattle.agreeing_file.specs.Matching.{stands_at, is_next, pass_one, clause_next, pass_clause, runs_passed}
use Rattle.laws.proofs.Tests.{all_same}

-- a run from place k on is c and more exactly if c stands there, and the more from the next place on
left-next : (run : List ℕ) (k c : ℕ) (more : List ℕ) → same (drop k run) (c ∷ more) ≡ (stands_at run k c && same (drop (suc k) run) more)
unfolding stands_at
left-next run k c more =
    by-lt k (length run) (λ l. rw (drop-cons run k 0 l, lt-ltb _ _ l) refl) (λ l. rw (drop_of_length-le run l, le-ltb _ _ l) refl)

-- nothing is left exactly if the place is past the run
left-none : (run : List ℕ) (k : ℕ) → same (drop k run) [] ≡ leb (length run) k
left-none run k =
    by-lt k (length run) (λ l. rw (drop-cons run k 0 l, lt-leb _ _ l) refl) (λ l. rw (drop_of_length-le run l, le-leb _ _ l) refl)

-- two tests that differ at one number by what is asked first
all_but : (p q : ℕ → Bool) (b : Bool) (n l : ℕ) → l < n → p l ≡ (b && q l) → ((m : ℕ) → (m ≡ l → ⊥) → p m ≡ q m) → all p (below n) ≡ (b && all q (below n))
all_but p q b n l hl e d =
    same_tests _ _
    (λ h.
    both b _ (both_first b (q l) (sym e ∙ all-below p n l hl h))
    (below_all q n
    (λ m hm. by-eq m l (λ z. rw z (both-second b (q l) (sym e ∙ all-below p n l hl h))) (λ z. sym (d m z) ∙ all-below p n m hm h))))
    (λ h.
    below_all p n
    (λ m hm.
    let all-q = both-second b (all q (below n)) h in
    by-eq m l (λ z. rw z (e ∙ both b (q l) (both_first b (all q (below n)) h) (all-below q n l hl all-q))) (λ z. d m z ∙ all-below q n m hm all-q)))

length-pass_one : (l : ℕ) (ns : List ℕ) → length (pass_one l ns) ≡ length ns
unfolding pass_one raised
length-pass_one l ns = length-set ns l (get_or ns l 0 + 1)

length-pass_clause : (ls ns : List ℕ) → length (pass_clause ls ns) ≡ length ns
unfolding pass_clause
length-pass_clause [] ns = refl
length-pass_clause (l ∷ ls) ns = length-pass_clause ls (pass_one l ns) ∙ length-pass_one l ns

module _ (n : ℕ) (runs : ℕ → List ℕ) where
  -- what is left of each run
  unfoldable pub is_left : (ℕ → List ℕ) → List ℕ → Bool
  is_left more ns = all (λ l. same (drop (get_or ns l 0) (runs l)) (more l)) (below n)

  -- clause c before what comes later, in the runs of the literals ls
  abbrev put : ℕ → List ℕ → (ℕ → List ℕ) → ℕ → List ℕ
  put c ls more m = cond (has m ls) (c ∷ more m) (more m)

  -- one literal more, which does not stand again
  left_one : (c l : ℕ) (ls ns : List ℕ) (more : ℕ → List ℕ) → l < n → l < length ns → has l ls ≡ false
      → is_left (put c (l ∷ ls) more) ns ≡ (is_next runs c l ns && is_left (put c ls more) (pass_one l ns))
  unfolding is_left is_next pass_one raised
  left_one c l ls ns more hn hl e =
      all_but (λ m. same (drop (get_or ns m 0) (runs m)) (put c (l ∷ ls) more m)) (λ m. same (drop (get_or (pass_one l ns) m 0) (runs m)) (put c ls more m))
      (is_next runs c l ns) n l hn
      (rw (eq-eqb l l refl, e, get_or-set_same ns l (get_or ns l 0 + 1) 0 hl, add-one (get_or ns l 0)) (left-next (runs l) (get_or ns l 0) c (more l)))
      (λ m d. rw (ne_eqb m l d, get_or-set_other ns l m (get_or ns l 0 + 1) 0 d) refl)

  -- a clause in which no literal stands twice
  left-clause : (c : ℕ) (ls ns : List ℕ) (more : ℕ → List ℕ) → n ≤ length ns → all (λ l. ltb l n) ls ≡ true → differ ls ≡ true
      → is_left (put c ls more) ns ≡ (clause_next runs c ls ns && is_left more (pass_clause ls ns))
  unfolding clause_next pass_clause passes
  left-clause c [] ns more r a d = refl
  left-clause c (l ∷ ls) ns more r a d =
      let b : l < n = ltb-true l n (both_first (ltb l n) _ a) in
      left_one c l ls ns more b (omega arith) (differ-first l ls d)
      ∙ ap (λ (t : Bool). is_next runs c l ns && t)
      (left-clause c ls (pass_one l ns) more (omega (arith, length-pass_one l ns)) (both-second (ltb l n) _ a) (differ-rest l ls d))
      ∙ sym (and_assoc (is_next runs c l ns) _ _)

  -- nothing is left where every run is passed
  pub left-nothing : (ns : List ℕ) → is_left (λ l. []) ns ≡ runs_passed n runs ns
  unfolding is_left runs_passed
  left-nothing ns = all_same _ _ n (λ l b. left-none (runs l) (get_or ns l 0))

-- clauses i to i + k
pub left-clauses : (T : ℕ) (runs clauses : ℕ → List ℕ) (i k : ℕ) (ns : List ℕ) → 2 * T ≤ length ns → all (clause_right T) (list_from i k clauses) ≡ true
    → is_left (2 * T) runs (λ l. where_from i (has l) (list_from i k clauses)) ns
    ≡ (passes (λ c ms. clause_next runs c (clauses c) ms) (λ c ms. pass_clause (clauses c) ms) (list_from i k (λ c. c)) ns
    && is_left (2 * T) runs (λ l. []) (steps (λ c ms. pass_clause (clauses c) ms) (list_from i k (λ c. c)) ns))
unfolding passes clause_right
left-clauses T runs clauses i zero ns r a = refl
left-clauses T runs clauses i (suc k) ns r a =
    let ls = clauses i in
    let b = all (λ l. ltb l (2 * T)) ls in
    let d = differ (map term_of ls) in
    let one : (b && d) ≡ true = both_first (b && d) _ a in
    left-clause (2 * T) runs i ls ns (λ l. where_from (suc i) (has l) (list_from (suc i) k clauses)) r (both_first b d one)
    (differ-map term_of ls (both-second b d one))
    ∙ ap (λ (t : Bool). clause_next runs i ls ns && t)
    (left-clauses T runs clauses (suc i) k (pass_clause ls ns) (omega (arith, length-pass_clause ls ns)) (both-second (b && d) _ a))
    ∙ sym (and_assoc (clause_next runs i ls ns) _ _)
