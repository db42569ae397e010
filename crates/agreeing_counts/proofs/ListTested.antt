-- The uncovered clauses counted and found at their places: their list is then right, for no room is left in it. Assumes nothing.
use mathlib.Core.Path.{◌≡◌, refl, ap, sym, ◌∙◌}
use mathlib.Core.Bool.{true, false, ◌&&◌, ◌||◌}
use mathlib.Core.List.{List, map}
use Prim.Native.Nat.{ℕ, ◌≤◌, ◌<◌}
use native.Mathlib.Omega.{arith}
use lib.ListN.{length, get_or, take}
use lib.Seq.{length-take-le, get_or-take}
use lib.Dec.{eqb, ltb}
use borrow.Author.Tests.{eqb-true, eq-eqb, ltb-true, ltb-false, lt-ltb}
use Rattle.written.specs.Lists.{all, below, has, place_of, times}
use Rattle.written.specs.Clauses.{true_count, is_uncovered, uncovered_in}
use Rattle.laws.proofs.Basics.{by_cases, both, both_first, both-second, same-eq, same_tests}
use Rattle.laws.proofs.Sums.{total-map}
use Rattle.laws.proofs.All.{all-below, below_all, all-has, has_all}
use Rattle.laws.proofs.Membership.{has_get_d, place_of-lt, place_of-get_or}
use Rattle.laws.proofs.Times.{has-is, has-times, times-has, where_length, same-times, place_of-once}
use Rattle.laws.proofs.Counted.{uncovered-once, uncovered-has, uncovered-below}
use Rattle.machine.specs.Tallies.{hit_of}
use Rattle.machine.specs.Judging.{trues_right, list_right, covered_right}
use Rattle.machine.specs.Tested.{count_of, place_tested}
use Rattle.machine.proofs.Tested.{trues-at}

-- as many true counts are 0 as clauses stand uncovered
pub zeros-uncovered : (C : ℕ) (vs : List ℕ) (cs : List (List ℕ)) (ts : List ℕ) → trues_right C vs cs ts ≡ true
    → count_of 0 (take C ts) ≡ length (uncovered_in vs cs)
unfolding trues_right count_of hit_of uncovered_in is_uncovered
zeros-uncovered C vs cs ts e =
    ap (count_of 0) (same-eq (take C ts) (map (true_count vs) cs) e) ∙ total-map (λ k. hit_of k 0) (true_count vs) cs ∙ sym (where_length 0 (is_uncovered vs) cs)

-- a list as long as the uncovered clauses are many, in which each of them stands, holds each once and no other
listed-some : (vs : List ℕ) (cs : List (List ℕ)) (us : List ℕ) → length us ≡ length (uncovered_in vs cs)
    → ((c : ℕ) → has c (uncovered_in vs cs) ≡ true → has c us ≡ true) → (c : ℕ) → times c us ≡ times c (uncovered_in vs cs)
listed-some vs cs us e h c = sym (same-times (uncovered_in vs cs) us no_more (sym e) c)
  where
    no_more : (c : ℕ) → times c (uncovered_in vs cs) ≤ times c us
    no_more c =
        by_cases (has c (uncovered_in vs cs)) (λ q. omega (arith, has-times c us (h c q), uncovered-once vs cs c))
        (λ q. omega (arith, ltb-false 0 (times c (uncovered_in vs cs)) (sym (has-is c (uncovered_in vs cs)) ∙ q)))

module _ (C U : ℕ) (vs : List ℕ) (cs : List (List ℕ)) (ts us ps : List ℕ) (size : length cs ≡ C) (room : U ≤ length us) (right : trues_right C vs cs ts ≡ true)
    (number : U ≡ length (uncovered_in vs cs)) where
  abbrev front : List ℕ
  front = take U us

  abbrev places : List ℕ
  places = take C ps

  front-size : length front ≡ U
  front-size = length-take-le U us room

  -- a clause is among the uncovered where its true count is 0
  bare-is : (c : ℕ) → c < C → eqb (get_or ts c 0) 0 ≡ has c (uncovered_in vs cs)
  unfolding is_uncovered
  bare-is c l = ap (λ k. eqb k 0) (trues-at C vs cs ts right c l) ∙ sym (uncovered-has vs cs c ∙ rw (lt-ltb c (length cs) (omega arith)))

  -- if each clause of these stands in the list, a clause stands there exactly if it is one of these
  module _ (h : (c : ℕ) → has c (uncovered_in vs cs) ≡ true → has c front ≡ true) where
    listed : (c : ℕ) → times c front ≡ times c (uncovered_in vs cs)
    listed = listed-some vs cs front (front-size ∙ number) h

    listed_has : (c : ℕ) → has c front ≡ has c (uncovered_in vs cs)
    listed_has c = has-is c front ∙ ap (λ k. ltb 0 k) (listed c) ∙ sym (has-is c (uncovered_in vs cs))

    listed-once : (c : ℕ) → has c (uncovered_in vs cs) ≡ true → times c front ≡ 1
    listed-once c m = omega (arith, listed c, has-times c (uncovered_in vs cs) m, uncovered-once vs cs c)

  -- from the test
  module _ (e : all (place_tested U ts us ps) (below C) ≡ true) where
    module _ (c : ℕ) (l : c < C) where
      tested : place_tested U ts us ps c ≡ true
      tested = all-below (place_tested U ts us ps) C c l e

      module _ (m : has c (uncovered_in vs cs) ≡ true) where
        both-tests : (ltb (get_or ps c 0) U && eqb (get_or us (get_or ps c 0) 0) c) ≡ true
        unfolding place_tested
        both-tests = rw (bare-is c l, m) at tested

        low : get_or ps c 0 < U
        low = ltb-true _ _ (both_first _ _ both-tests)

        found : get_or front (get_or ps c 0) 0 ≡ c
        found = get_or-take U us (get_or ps c 0) 0 low ∙ eqb-true _ _ (both-second (ltb (get_or ps c 0) U) _ both-tests)

        in_front : has c front ≡ true
        in_front = rw found at (has_get_d front (get_or ps c 0) 0 (omega (arith, front-size, low)))

      no_place : has c (uncovered_in vs cs) ≡ false → get_or ps c 0 ≡ 0
      unfolding place_tested
      no_place m = eqb-true _ _ (rw (bare-is c l, m) at tested)

    known : (c : ℕ) → has c (uncovered_in vs cs) ≡ true → c < C
    known c m = omega (arith, uncovered-below vs cs c m)

    stands : (c : ℕ) → has c (uncovered_in vs cs) ≡ true → has c front ≡ true
    stands c m = in_front c (known c m) m

    place : (c : ℕ) → has c (uncovered_in vs cs) ≡ true → get_or places c 0 ≡ place_of c front
    place c m =
        let l = known c m in
        let f = found c l m in
        let once : times (get_or front (get_or ps c 0) 0) front ≡ 1 = rw f (listed-once stands c m) in
        get_or-take C ps c 0 l ∙ sym (rw f at (place_of-once front (get_or ps c 0) (omega (arith, front-size, low c l m)) once))

    list-by_test : list_right vs cs front places ≡ true
    unfolding list_right
    list-by_test =
        has_all (λ c. eqb (times c front) 1 && eqb (get_or places c 0) (place_of c front)) (uncovered_in vs cs)
        (λ c m. both _ _ (eq-eqb _ _ (listed-once stands c m)) (eq-eqb _ _ (place c m)))

    covered-by_test : covered_right C front places ≡ true
    unfolding covered_right
    covered-by_test =
        below_all (λ c. has c front || eqb (get_or places c 0) 0) C
        (λ c l.
        by_cases (has c front) (λ q. rw q)
        (λ q. rw (q, get_or-take C ps c 0 l) (eq-eqb _ _ (no_place c l (sym (listed_has stands c) ∙ q)))))

  -- and back
  module _ (e : list_right vs cs front places ≡ true) (f : covered_right C front places ≡ true) where
    module _ (c : ℕ) (m : has c (uncovered_in vs cs) ≡ true) where
      at-clause : (eqb (times c front) 1 && eqb (get_or places c 0) (place_of c front)) ≡ true
      unfolding list_right
      at-clause = all-has (λ c. eqb (times c front) 1 && eqb (get_or places c 0) (place_of c front)) (uncovered_in vs cs) c m e

      stands-there : has c front ≡ true
      stands-there = times-has c front (omega (arith, eqb-true (times c front) 1 (both_first _ _ at-clause)))

      its_place : get_or places c 0 ≡ place_of c front
      its_place = eqb-true _ _ (both-second (eqb (times c front) 1) _ at-clause)

    test_by-list : all (place_tested U ts us ps) (below C) ≡ true
    unfolding place_tested covered_right
    test_by-list =
        below_all (place_tested U ts us ps) C
        (λ c l.
        by_cases (has c (uncovered_in vs cs))
        (λ m.
        let p : get_or ps c 0 ≡ place_of c front = sym (get_or-take C ps c 0 l) ∙ its_place c m in
        let lp = place_of-lt c front (stands-there c m) in
        let lu : place_of c front < U = omega (arith, front-size) in
        rw (bare-is c l, m, p, lt-ltb (place_of c front) U lu, ← get_or-take U us (place_of c front) 0 lu, place_of-get_or c front 0 (stands-there c m)) (eq-eqb c c refl))
        (λ m.
        rw (bare-is c l, m)
        (rw (listed_has stands-there c, m, get_or-take C ps c 0 l) at (all-below (λ c. has c front || eqb (get_or places c 0) 0) C c l f))))

  pub list-tested : all (place_tested U ts us ps) (below C) ≡ (list_right vs cs front places && covered_right C front places)
  list-tested =
      same_tests _ _ (λ e. both _ _ (list-by_test e) (covered-by_test e))
      (λ e. test_by-list (both_first _ _ e) (both-second (list_right vs cs front places) _ e))
