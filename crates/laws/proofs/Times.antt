-- How often a number stands in a list: among the entries that pass a test, among the numbers of such entries, in two orders of one list.
-- Assumes nothing.
use Prim.Native.Nat.{ℕ, zero, suc, ◌+◌, ◌≤◌, ◌<◌}
use mathlib.Core.Path.{◌≡◌, refl, ap, sym, ◌∙◌}
use mathlib.Core.Bool.{Bool, true, false, cond, ◌&&◌, false≢true}
use mathlib.Core.List.{List, [], ◌∷◌}
use native.Mathlib.Omega.{arith}
use lib.ListN.{length, get_or}
use lib.Dec.{eqb, ltb, leb-suc-suc}
use borrow.Author.Tests.{lt-ltb, le-ltb, ltb-true, eqb-false, eq-eqb, ne_eqb, eqb-true}
use Rattle.written.specs.Lists.{total, all, those, where_from, list_from, below, has, place_of, times, differ}
use Rattle.laws.proofs.Basics.{by_cases, both, one_if_lem, none_if, one-most}
use Rattle.laws.proofs.Lists.{list_from-length, get_or-list_of}
use Rattle.laws.proofs.Sums.{total-by, total-ones, total_swap, total_tight, total-most}
use Rattle.laws.proofs.All.{all_get_d, all-has, has_all}
use Rattle.laws.proofs.Membership.{has_get_d, differ-first, differ-rest}

-- no entry stands more often than there are entries
pub times-le : (x : ℕ) (ys : List ℕ) → times x ys ≤ length ys
times-le x ys = total-most (λ y. cond (eqb x y) 1 0) (λ y. one-most (eqb x y)) ys

-- to stand in a list is to stand there more than no time
pub has-is : (x : ℕ) (ys : List ℕ) → has x ys ≡ ltb 0 (times x ys)
has-is x [] = refl
has-is x (y ∷ ys) =
    by_cases (eqb x y) (λ e. rw e (sym (lt-ltb 0 (1 + times x ys) (omega arith))))
    (λ e. let z : times x ys ≡ 0 + times x ys = omega arith in rw e (has-is x ys ∙ ap (λ n. ltb 0 n) z))

pub has-times : (x : ℕ) (ys : List ℕ) → has x ys ≡ true → 0 < times x ys
has-times x ys h = ltb-true 0 (times x ys) (sym (has-is x ys) ∙ h)

pub times-has : (x : ℕ) (ys : List ℕ) → 0 < times x ys → has x ys ≡ true
times-has x ys h = has-is x ys ∙ lt-ltb 0 (times x ys) h

-- in a list without repeats at most once
pub differ-times : (x : ℕ) (ys : List ℕ) → differ ys ≡ true → times x ys ≡ cond (has x ys) 1 0
differ-times x [] h = refl
differ-times x (y ∷ ys) h =
    let r = differ-times x ys (differ-rest y ys h) in
    by_cases (eqb x y)
    (λ e.
    let m : has x ys ≡ false = rw (eqb-true x y e) (differ-first y ys h) in
    let z : times x ys ≡ 0 = rw m at r in
    rw e (omega arith))
    (λ e. rw e (let z : times x ys ≡ cond (has x ys) 1 0 = r in omega arith))

-- what stands at one place and at no other stands once
times_none : (x : ℕ) (ys : List ℕ) → ((j : ℕ) → j < length ys → get_or ys j 0 ≡ x → ⊥) → times x ys ≡ 0
times_none x [] h = refl
times_none x (y ∷ ys) h =
    let r = times_none x ys (λ j l. h (suc j) (omega arith)) in
    let n = none_if (eqb x y) (ne_eqb x y (λ q. h 0 (omega arith) (sym q))) in
    omega arith

pub times-once : (x : ℕ) (ys : List ℕ) (p : ℕ) → p < length ys → get_or ys p 0 ≡ x → ((j : ℕ) → j < length ys → get_or ys j 0 ≡ x → j ≡ p) → times x ys ≡ 1
times-once x [] p l e h = absurd (omega arith)
times-once x (y ∷ ys) zero l e h =
    let r = times_none x ys (λ j lj q. let z = h (suc j) (omega arith) q in omega arith) in
    let n = one_if_lem (eqb x y) (eq-eqb x y (sym e)) in
    omega arith
times-once x (y ∷ ys) (suc p) l e h =
    let r = times-once x ys p (omega arith) e (λ j lj q. let z = h (suc j) (omega arith) q in omega arith) in
    let n = none_if (eqb x y) (ne_eqb x y (λ q. let z = h 0 (omega arith) (sym q) in omega arith)) in
    omega arith

-- where an entry that stands once first stands
pub place_of-once : (ys : List ℕ) (j : ℕ) → j < length ys → times (get_or ys j 0) ys ≡ 1 → place_of (get_or ys j 0) ys ≡ j
place_of-once [] j l h = absurd (omega arith)
place_of-once (y ∷ ys) zero l h = rw (eq-eqb y y refl)
place_of-once (y ∷ ys) (suc j) l h =
    by_cases (eqb (get_or ys j 0) y)
    (λ e. let n = one_if_lem _ e in absurd (omega (arith, has-times (get_or ys j 0) ys (has_get_d ys j 0 (omega arith)))))
    (λ e. let n = none_if _ e in rw e (ap suc (place_of-once ys j (omega arith) (omega arith))))

-- in a list without repeats each first stands where it stands
pub differ-place : (ys : List ℕ) (j : ℕ) → differ ys ≡ true → j < length ys → place_of (get_or ys j 0) ys ≡ j
differ-place ys j d l = place_of-once ys j l (differ-times (get_or ys j 0) ys d ∙ rw (has_get_d ys j 0 l))

-- ---- among the entries that pass a test

-- two entries that a test tells apart
pub apart : (p : ℕ → Bool) (c d : ℕ) → p c ≡ false → p d ≡ true → c ≡ d → ⊥
apart p c d e f q = false≢true (sym e ∙ ap p q ∙ f)

-- how often an entry stands among those that pass a test
pub times-those : (p : ℕ → Bool) (c : ℕ) (ds : List ℕ) → times c (those p ds) ≡ cond (p c) (times c ds) 0
times-those p c [] = by_cases (p c) (λ e. rw e) (λ e. rw e)
times-those p c (d ∷ ds) = by_cases (p c) (passes (times-those p c ds)) (fails (times-those p c ds))
  where
    passes : times c (those p ds) ≡ cond (p c) (times c ds) 0 → p c ≡ true → times c (those p (d ∷ ds)) ≡ cond (p c) (times c (d ∷ ds)) 0
    passes i e =
        let j : times c (those p ds) ≡ times c ds = rw e at i in
        rw e (by_cases (p d) (λ f. rw f omega arith) (λ f. rw f let n = none_if (eqb c d) (ne_eqb c d (λ q. apart p d c f e (sym q))) in omega arith))

    fails : times c (those p ds) ≡ cond (p c) (times c ds) 0 → p c ≡ false → times c (those p (d ∷ ds)) ≡ cond (p c) (times c (d ∷ ds)) 0
    fails i e =
        let j : times c (those p ds) ≡ 0 = rw e at i in
        rw e (by_cases (p d) (λ f. rw f let n = none_if (eqb c d) (ne_eqb c d (apart p c d e f)) in omega arith) (λ f. rw f j))

-- ---- among the numbers of the entries that pass a test

pub where_length : {A : Type 0} (i : ℕ) (p : A → Bool) (xs : List A) → length (where_from i p xs) ≡ total (λ x. cond (p x) 1 0) xs
where_length i p [] = refl
where_length i p (x ∷ xs) = let r = where_length (suc i) p xs in by_cases (p x) (λ e. rw e (omega arith)) (λ e. rw e (omega arith))

-- how often a number stands among the numbers, from i on, of the entries that pass a test
pub times-before : {A : Type 0} (p : A → Bool) (i c : ℕ) (xs : List A) → c < i → times c (where_from i p xs) ≡ 0
times-before p i c [] h = refl
times-before p i c (x ∷ xs) h =
    let k = times-before p (suc i) c xs (omega arith) in
    let n = none_if (eqb c i) (ne_eqb c i (λ q. omega arith)) in
    by_cases (p x) (λ e. rw e omega arith) (λ e. rw e k)

pub times_where : {A : Type 0} (p : A → Bool) (i c : ℕ) (xs : List A) (d : A)
    → times (i + c) (where_from i p xs) ≡ cond (ltb c (length xs) && p (get_or xs c d)) 1 0
times_where p i c [] d = rw (le-ltb c 0 (omega arith))
times_where p i zero (x ∷ xs) d =
    let k = times-before p (suc i) (i + 0) xs (omega arith) in
    let n = one_if_lem (eqb (i + 0) i) (eq-eqb (i + 0) i (omega arith)) in
    rw (lt-ltb 0 (suc (length xs)) (omega arith)) (by_cases (p x) (λ e. rw e omega arith) (λ e. rw e k))
times_where p i (suc c) (x ∷ xs) d =
    let k = times_where p (suc i) c xs d in
    let n = none_if (eqb (i + suc c) i) (ne_eqb (i + suc c) i (λ q. omega arith)) in
    let m : i + suc c ≡ suc i + c = omega arith in
    let j : times (i + suc c) (where_from (suc i) p xs) ≡ cond (ltb c (length xs) && p (get_or xs c d)) 1 0 = rw m k in
    rw (leb-suc-suc (suc c) (length xs)) (by_cases (p x) (λ e. rw e omega arith) (λ e. rw e j))

-- ---- counted over numbers

-- a number stands once among those below another
none_before : (i n x : ℕ) → x < i → total (λ k. cond (eqb k x) 1 0) (list_from i n (λ k. k)) ≡ 0
none_before i zero x h = refl
none_before i (suc n) x h = rw (ne_eqb i x (λ e. omega arith)) (let z = none_before (suc i) n x (omega arith) in omega arith)

one_among : (i n x : ℕ) → i ≤ x → x < i + n → total (λ k. cond (eqb k x) 1 0) (list_from i n (λ k. k)) ≡ 1
one_among i zero x h l = absurd (omega arith)
one_among i (suc n) x h l =
    by_cases (eqb i x) (λ e. let q = eqb-true i x e in rw e (let z = none_before (suc i) n x (omega arith) in omega arith))
    (λ e. let q = eqb-false i x e in rw e (let z = one_among (suc i) n x (omega arith) (omega arith) in omega arith))

-- summed over the numbers below m, of a list of such numbers, it is the length
pub times_below : (m : ℕ) (xs : List ℕ) → all (λ x. ltb x m) xs ≡ true → total (λ k. times k xs) (below m) ≡ length xs
times_below m xs h =
    total_swap (λ k y. cond (eqb k y) 1 0) (below m) xs
    ∙ total-by (λ y. total (λ k. cond (eqb k y) 1 0) (below m)) (λ y. 1) xs 0
    (λ k l. one_among 0 m (get_or xs k 0) (omega arith) (omega (arith, ltb-true (get_or xs k 0) m (all_get_d (λ x. ltb x m) xs k 0 l h))))
    ∙ total-ones xs

-- ---- two lists

pub bounded : (m : ℕ) (xs : List ℕ) → total (λ x. x) xs < m → all (λ x. ltb x m) xs ≡ true
bounded m [] h = refl
bounded m (x ∷ xs) h = both (ltb x m) _ (lt-ltb x m (omega arith)) (bounded m xs (omega arith))

-- lists that hold the same numbers as often are as long
pub reordered-length : (xs ys : List ℕ) → ((c : ℕ) → times c xs ≡ times c ys) → length xs ≡ length ys
reordered-length xs ys h =
    let m = suc (total (λ x. x) xs + total (λ x. x) ys) in
    sym (times_below m xs (bounded m xs (omega arith))) ∙ total-by (λ k. times k xs) (λ k. times k ys) (below m) 0 (λ k l. h (get_or (below m) k 0))
    ∙ times_below m ys (bounded m ys (omega arith))

-- lists as long, of which one holds no number more often, hold the same numbers as often
pub same-times : (xs ys : List ℕ) → ((c : ℕ) → times c xs ≤ times c ys) → length xs ≡ length ys → (c : ℕ) → times c xs ≡ times c ys
same-times xs ys h e c =
    let m = suc (c + total (λ x. x) xs + total (λ x. x) ys) in
    let a = times_below m xs (bounded m xs (omega arith)) in
    let b = times_below m ys (bounded m ys (omega arith)) in
    let l = list_from-length 0 m (λ (k : ℕ). k) in
    rw (get_or-list_of m c (λ k. k) 0 (omega arith)) at (total_tight (λ k. times k xs) (λ k. times k ys) (below m) c 0 h (a ∙ e ∙ sym b) (omega arith))

-- two orders of one list pass the same tests
pub reordered-all : (xs ys : List ℕ) → ((c : ℕ) → times c xs ≡ times c ys) → (p : ℕ → Bool) → all p xs ≡ true → all p ys ≡ true
reordered-all xs ys same p h = has_all p ys (λ x m. all-has p xs x (times-has x xs (omega (arith, same x, has-times x ys m))) h)
