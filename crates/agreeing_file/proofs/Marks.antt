-- A clause tested by marks, one for each term: the pass says whether the clause is right. Assumes nothing.
use mathlib.Core.Path.{◌≡◌, refl, ap, sym, ◌∙◌}
use mathlib.Core.Bool.{Bool, true, false, not, ◌&&◌, ◌||◌, and-true}
use mathlib.Core.List.{List, [], ◌∷◌, map}
use Prim.Native.Nat.{ℕ, zero, suc, ◌+◌, ◌*◌, ◌/◌, ◌≤◌, ◌<◌}
use native.Mathlib.Omega.{arith}
use lib.ListN.{length, get_or, set, length-set}
use lib.Seq.{get_or-set_same, get_or-set_other}
use lib.Dec.{eqb, ltb}
use borrow.Author.Tests.{ltb-true, lt-ltb, le-ltb, eq-eqb, ne_eqb}
use Rattle.written.specs.Lists.{all, list_from, below, has, differ, steps, zeros}
use Rattle.written.specs.Clauses.{term_of}
use Rattle.written.specs.Agreement.{part_of}
use Rattle.laws.proofs.Basics.{by-eq, by-lt, both, both_first, both-second, same_tests}
use Rattle.machine.specs.Judging.{clause_right, literals_right, clauses_in, passes}
use Rattle.agreeing_file.specs.Marks.{is_fresh, mark_term}
use Rattle.laws.proofs.Tests.{test_fails, tested-more, tested-all}

-- a literal is below twice the terms exactly if its term is one of them
pub term-below : (T l : ℕ) → ltb (term_of l) T ≡ ltb l (2 * T)
unfolding term_of
term-below T l =
    same_tests _ _ (λ h. lt-ltb l (2 * T) (omega (arith, ltb-true (l / 2) T h))) (λ h. lt-ltb (l / 2) T (omega (arith, ltb-true l (2 * T) h)))

-- the three cases of the test of a literal, whose term is t
module _ (T m l : ℕ) (ms : List ℕ) {t : ℕ} (e : t ≡ l / 2) where
  pub unknown : T ≤ t → is_fresh T m l ms ≡ false
  unfolding is_fresh term_of
  unknown h = rw (le-ltb (l / 2) T (rw e at h))

  pub repeated : t < T → get_or ms t 0 ≡ m → is_fresh T m l ms ≡ false
  unfolding is_fresh term_of
  repeated h q = rw (lt-ltb (l / 2) T (rw e at h), eq-eqb (get_or ms (l / 2) 0) m (rw e at q))

  pub fresh : t < T → (get_or ms t 0 ≡ m → ⊥) → is_fresh T m l ms ≡ true
  unfolding is_fresh term_of
  fresh h n = rw (lt-ltb (l / 2) T (rw e at h), ne_eqb (get_or ms (l / 2) 0) m (rw e at n))

  pub now-marked : set ms t m ≡ mark_term m l ms
  unfolding mark_term term_of
  now-marked = rw e refl

-- the two regroupings of tests that one more literal asks for
mixed : (a b c d : Bool) → ((not a && b) && (not c && d)) ≡ (not (a || c) && (b && d))
mixed true b c d = refl
mixed false true c d = refl
mixed false false true d = refl
mixed false false false d = refl

turned : (f a n d q : Bool) → (f && ((a && d) && (n && q))) ≡ ((a && (n && d)) && (f && q))
turned f a n d q = same_tests _ _ (λ h. search (both, both_first, both-second)) (λ h. search (both, both_first, both-second))

module _ (m : ℕ) where
  -- the literal's term has no mark m
  abbrev free : List ℕ → ℕ → Bool
  free ms l = not (eqb (get_or ms (term_of l) 0) m)

  -- once a term is marked, free are those of other terms that were free
  free-marked : (t : ℕ) (ms : List ℕ) (l : ℕ) → t < length ms → free (set ms t m) l ≡ (not (eqb t (term_of l)) && free ms l)
  free-marked t ms l h =
      by-eq t (term_of l) (λ e. rw (← e, eq-eqb t t refl, get_or-set_same ms t m 0 h, eq-eqb m m refl))
      (λ n. rw (ne_eqb t (term_of l) n, get_or-set_other ms t (term_of l) m 0 (λ e. n (sym e))))

  all-marked : (t : ℕ) (ms ls : List ℕ) → t < length ms → all (free (set ms t m)) ls ≡ (not (has t (map term_of ls)) && all (free ms) ls)
  all-marked t ms [] h = refl
  all-marked t ms (l ∷ ls) h =
      rw (free-marked t ms l h, all-marked t ms ls h) (mixed (eqb t (term_of l)) (free ms l) (has t (map term_of ls)) (all (free ms) ls))

  -- the pass says whether the clause is right and its terms are free
  marked-right : (T : ℕ) (ls ms : List ℕ) → T ≤ length ms → passes (is_fresh T m) (mark_term m) ls ms ≡ (clause_right T ls && all (free ms) ls)
  unfolding passes is_fresh mark_term clause_right
  marked-right T [] ms w = refl
  marked-right T (l ∷ ls) ms w =
      let t = term_of l in
      let rest = marked-right T ls (set ms t m) (omega (arith, length-set ms t m)) in
      by-lt t T
      (λ h.
      rw (rest, all-marked t ms ls (omega arith), ← term-below T l, lt-ltb t T h)
      (turned (free ms l) (all (λ k. ltb k (2 * T)) ls) (not (has t (map term_of ls))) (differ (map term_of ls)) (all (free ms) ls)))
      (λ h. rw (← term-below T l, le-ltb t T h))

  -- where marks are below m, just whether the clause is right
  pub marks_say : (T : ℕ) (ls ms : List ℕ) → T ≤ length ms → ((t : ℕ) → get_or ms t 0 < m) → passes (is_fresh T m) (mark_term m) ls ms ≡ clause_right T ls
  marks_say T ls ms w low = marked-right T ls ms w ∙ rw (all-free ls) (and-true (clause_right T ls))
    where
      all-free : (ls : List ℕ) → all (free ms) ls ≡ true
      all-free [] = refl
      all-free (l ∷ ls) = let n : get_or ms (term_of l) 0 ≡ m → ⊥ = λ e. omega (arith, low (term_of l)) in rw (ne_eqb _ _ n) (all-free ls)

  -- it leaves no mark above m
  low-set : (ms : List ℕ) (s : ℕ) → ((t : ℕ) → get_or ms t 0 < m + 1) → (t : ℕ) → get_or (set ms s m) t 0 < m + 1
  low-set [] s low t = low t
  low-set (x ∷ xs) zero low zero = omega arith
  low-set (x ∷ xs) zero low (suc t) = low (suc t)
  low-set (x ∷ xs) (suc s) low zero = low zero
  low-set (x ∷ xs) (suc s) low (suc t) = low-set xs s (λ k. low (suc k)) t

  pub marks-low : (ls ms : List ℕ) → ((t : ℕ) → get_or ms t 0 < m + 1) → (t : ℕ) → get_or (steps (mark_term m) ls ms) t 0 < m + 1
  unfolding mark_term
  marks-low [] ms low t = low t
  marks-low (l ∷ ls) ms low t = marks-low ls (set ms (term_of l) m) (low-set ms (term_of l) low) t

-- a test of every entry that a list is made of is one of every number
all_made : {A : Type 0} (p : A → Bool) (i n : ℕ) (f : ℕ → A) → all p (list_from i n f) ≡ all (λ k. p (f k)) (list_from i n (λ k. k))
all_made p i zero f = refl
all_made p i (suc n) f = ap (λ (b : Bool). p (f i) && b) (all_made p (suc i) n f)

-- the loop over the clauses: clause c has the mark c + 1
module _ (T : ℕ) (ss ls : List ℕ) where
  abbrev clause_at : ℕ → Bool
  clause_at c = clause_right T (part_of ss ls c)

  -- c clauses are right, and no mark is above c
  pub record Marking (c : ℕ) (ms : List ℕ) : Type 0 where
    pub low : (t : ℕ) → get_or ms t 0 < c + 1
    pub right : all clause_at (below c) ≡ true

  pub marking_begun : (ms : List ℕ) → ((t : ℕ) → get_or ms t 0 ≡ 0) → Marking 0 ms
  marking_begun ms h = record { low = λ t. omega (arith, h t); right = refl }

  -- r: what the pass over the clause c said
  module _ (c : ℕ) (ms clause : List ℕ) (r : Bool) (h : Marking c ms) (w : T ≤ length ms) (e : clause ≡ part_of ss ls c) (said : r ≡ passes (is_fresh T (c + 1)) (mark_term (c + 1)) clause ms) where
    said-right : r ≡ clause_at c
    said-right = said ∙ marks_say (c + 1) T clause ms w h.low ∙ ap (clause_right T) e

    pub marking_fails : (C : ℕ) → c < C → r ≡ false → false ≡ literals_right T (clauses_in C ss ls)
    unfolding literals_right clauses_in
    marking_fails C l q = test_fails clause_at C c l (sym said-right ∙ q) ∙ sym (all_made (clause_right T) 0 C (part_of ss ls))

    pub marking_again : (ms' : List ℕ) → ms' ≡ steps (mark_term (c + 1)) clause ms → r ≡ true → Marking (c + 1) ms'
    marking_again ms' s q =
        record {
          low = λ t. rw s (marks-low (c + 1) clause ms (λ k. omega (arith, h.low k)) t);
          right = tested-more clause_at c h.right (sym said-right ∙ q);
        }

  pub marking_ended : (C c : ℕ) (ms : List ℕ) → Marking c ms → c ≤ C → C ≤ c → true ≡ literals_right T (clauses_in C ss ls)
  unfolding literals_right clauses_in
  marking_ended C c ms h a b = tested-all clause_at C c h.right a b ∙ sym (all_made (clause_right T) 0 C (part_of ss ls))

-- marks of 0
pub none-marked : (n t : ℕ) → get_or (zeros n) t 0 ≡ 0
none-marked zero t = refl
none-marked (suc n) zero = refl
none-marked (suc n) (suc t) = none-marked n t
