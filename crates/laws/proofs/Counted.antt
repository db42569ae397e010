-- The uncovered list counted against the clauses that stand uncovered. Assumes nothing.
use Prim.Native.Nat.{ℕ, ◌≤◌, ◌<◌}
use mathlib.Core.Path.{◌≡◌, refl, ap, sym, ◌∙◌}
use mathlib.Core.Bool.{Bool, true, false, cond, ◌&&◌}
use mathlib.Core.List.{List, []}
use native.Mathlib.Omega.{arith}
use lib.ListN.{length, get_or}
use lib.Dec.{ltb}
use borrow.Author.Tests.{lt-ltb, ltb-true, ltb-false, eqb-true, eqb-false}
use Rattle.written.specs.Lists.{has, times}
use Rattle.written.specs.Clauses.{State, true_count, is_uncovered, uncovered_in}
use Rattle.laws.specs.Valid.{Listed}
use Rattle.laws.proofs.Basics.{by_cases, both_first, both-second, one-most}
use Rattle.laws.proofs.Sums.{total-most}
use Rattle.laws.proofs.Membership.{has_get_d}
use Rattle.laws.proofs.Times.{has-is, has-times, where_length, reordered-length, same-times}
use Rattle.laws.proofs.Uncovered.{times-uncovered}

-- a test counted as 1 or 0
one-some : (b : Bool) → ltb 0 (cond b 1 0) ≡ b
one-some true = refl
one-some false = refl

-- at most as many as there are clauses, each once
pub uncovered-few : (vs : List ℕ) (cs : List (List ℕ)) → length (uncovered_in vs cs) ≤ length cs
unfolding uncovered_in
uncovered-few vs cs = omega (arith, where_length 0 (is_uncovered vs) cs, total-most (λ ls. cond (is_uncovered vs ls) 1 0) (λ ls. one-most (is_uncovered vs ls)) cs)

pub uncovered-once : (vs : List ℕ) (cs : List (List ℕ)) (c : ℕ) → times c (uncovered_in vs cs) ≤ 1
uncovered-once vs cs c = rw (times-uncovered vs cs c) (one-most (ltb c (length cs) && is_uncovered vs (get_or cs c [])))

-- and those that stand uncovered
pub uncovered-has : (vs : List ℕ) (cs : List (List ℕ)) (c : ℕ) → has c (uncovered_in vs cs) ≡ (ltb c (length cs) && is_uncovered vs (get_or cs c []))
uncovered-has vs cs c = has-is c (uncovered_in vs cs) ∙ ap (λ n. ltb 0 n) (times-uncovered vs cs c) ∙ one-some (ltb c (length cs) && is_uncovered vs (get_or cs c []))

pub uncovered-below : (vs : List ℕ) (cs : List (List ℕ)) (c : ℕ) → has c (uncovered_in vs cs) ≡ true → c < length cs
uncovered-below vs cs c m = ltb-true c (length cs) (both_first _ _ (sym (uncovered-has vs cs c) ∙ m))

module _ (s : State) (h : Listed s) where
  pub listed-length : length s.uncovered ≡ length (uncovered_in s.values s.file.clauses)
  listed-length = reordered-length s.uncovered (uncovered_in s.values s.file.clauses) h.same-times

  pub listed-few : length s.uncovered ≤ length s.file.clauses
  listed-few = omega (arith, listed-length, uncovered-few s.values s.file.clauses)

  -- a clause is listed where it stands uncovered
  pub listed_has : (c : ℕ) → has c s.uncovered ≡ has c (uncovered_in s.values s.file.clauses)
  listed_has c = has-is c s.uncovered ∙ ap (λ n. ltb 0 n) (h.same-times c) ∙ sym (has-is c (uncovered_in s.values s.file.clauses))

  pub listed_at : (c : ℕ) → has c s.uncovered ≡ (ltb c (length s.file.clauses) && is_uncovered s.values (get_or s.file.clauses c []))
  listed_at c = listed_has c ∙ uncovered-has s.values s.file.clauses c

  -- and then once
  pub listed-once : (c : ℕ) → has c (uncovered_in s.values s.file.clauses) ≡ true → times c s.uncovered ≡ 1
  listed-once c m =
      omega (arith, h.same-times c, has-times c (uncovered_in s.values s.file.clauses) m, uncovered-once s.values s.file.clauses c)

  -- none is listed: each clause has a true literal
  pub none-listed : s.uncovered ≡ [] → (c : ℕ) → c < length s.file.clauses → 0 < true_count s.values (get_or s.file.clauses c [])
  unfolding is_uncovered
  none-listed e c l =
      let covered = ap (λ (b : Bool). b && is_uncovered s.values (get_or s.file.clauses c [])) (sym (lt-ltb c (length s.file.clauses) l))
      ∙ sym (listed_at c) ∙ ap (has c) e in
      let some = eqb-false (true_count s.values (get_or s.file.clauses c [])) 0 covered in
      omega arith

  -- one is listed: it has none
  pub some-listed : 0 < length s.uncovered → (c : ℕ) × (c < length s.file.clauses) × (true_count s.values (get_or s.file.clauses c []) ≡ 0)
  unfolding is_uncovered
  some-listed h =
      let c = get_or s.uncovered 0 0 in
      let stands = sym (listed_at c) ∙ has_get_d s.uncovered 0 0 h in (
        c,
        ltb-true c (length s.file.clauses) (both_first _ _ stands),
        eqb-true (true_count s.values (get_or s.file.clauses c [])) 0 (both-second (ltb c (length s.file.clauses)) _ stands),
      )

-- as many are listed as stand uncovered, and each of these once: then no other is
pub listed_by : (s : State) → length s.uncovered ≡ length (uncovered_in s.values s.file.clauses)
    → ((c : ℕ) → has c (uncovered_in s.values s.file.clauses) ≡ true → times c s.uncovered ≡ 1) → Listed s
listed_by s e h =
    record { same-times = λ c. sym (same-times (uncovered_in s.values s.file.clauses) s.uncovered no_more (sym e) c) }
  where
    no_more : (c : ℕ) → times c (uncovered_in s.values s.file.clauses) ≤ times c s.uncovered
    no_more c =
        by_cases (has c (uncovered_in s.values s.file.clauses)) (λ q. omega (arith, h c q, uncovered-once s.values s.file.clauses c))
        (λ q. omega (arith, ltb-false 0 (times c (uncovered_in s.values s.file.clauses)) (sym (has-is c (uncovered_in s.values s.file.clauses)) ∙ q)))
