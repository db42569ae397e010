-- Tests of every entry of a list. Assumes nothing.
use Prim.Native.Nat.{ℕ, zero, suc, ◌<◌}
use mathlib.Core.Path.{◌≡◌, refl, ap, sym, ◌∙◌}
use mathlib.Core.Bool.{Bool, true, ◌&&◌, false≢true, and_assoc}
use mathlib.Core.List.{List, [], ◌∷◌, ◌++◌, flatten}
use native.Mathlib.Omega.{arith}
use lib.ListN.{length, get_or, set, take, drop}
use lib.Dec.{eqb}
use borrow.Author.Tests.{eq-eqb, eqb-true}
use Rattle.written.specs.Lists.{all, below, has, list_from, same, zeros}
use Rattle.laws.proofs.Basics.{by_cases, both, both_first, both-second}
use Rattle.laws.proofs.Lists.{list_from-length, get_or-list_of}

-- the entries of two lists pass a test together
pub all_append : {A : Type 0} (p : A → Bool) (xs ys : List A) → all p (xs ++ ys) ≡ (all p xs && all p ys)
all_append p [] ys = refl
all_append p (x ∷ xs) ys = ap (λ (b : Bool). p x && b) (all_append p xs ys) ∙ sym (and_assoc (p x) (all p xs) (all p ys))

-- the entries of every list of a list
pub all-flatten : {A : Type 0} (p : A → Bool) (ps : List (List A)) → all (all p) ps ≡ true → all p (flatten ps) ≡ true
unfolding flatten
all-flatten p [] h = refl
all-flatten p (x ∷ xs) h =
    all_append p x (flatten xs) ∙ both (all p x) (all p (flatten xs)) (both_first (all p x) (all (all p) xs) h) (all-flatten p xs (both-second (all p x) (all (all p) xs) h))

-- one entry more at the end
pub all_snoc : {A : Type 0} (p : A → Bool) (xs : List A) (y : A) → all p xs ≡ true → p y ≡ true → all p (xs ++ y ∷ []) ≡ true
all_snoc p xs y h e = all_append p xs (y ∷ []) ∙ rw (h, e)

-- a test that follows from another
pub all_implied : {A : Type 0} (p q : A → Bool) → ((x : A) → p x ≡ true → q x ≡ true) → (xs : List A) → all p xs ≡ true → all q xs ≡ true
all_implied p q f [] h = refl
all_implied p q f (x ∷ xs) h = both (q x) (all q xs) (f x (both_first (p x) (all p xs) h)) (all_implied p q f xs (both-second (p x) (all p xs) h))

-- a list changed in one place passes the test if the new entry does
pub all_set : {A : Type 0} (p : A → Bool) (xs : List A) (k : ℕ) (y : A) → all p xs ≡ true → p y ≡ true → all p (set xs k y) ≡ true
all_set p [] k y h e = refl
all_set p (x ∷ xs) zero y h e = both (p y) (all p xs) e (both-second (p x) (all p xs) h)
all_set p (x ∷ xs) (suc k) y h e = both (p x) (all p (set xs k y)) (both_first (p x) (all p xs) h) (all_set p xs k y (both-second (p x) (all p xs) h) e)

-- of the first entries, and of those after them
pub all_take : {A : Type 0} (p : A → Bool) (n : ℕ) (xs : List A) → all p xs ≡ true → all p (take n xs) ≡ true
all_take p zero xs h = refl
all_take p (suc n) [] h = refl
all_take p (suc n) (x ∷ xs) h = both (p x) (all p (take n xs)) (both_first (p x) (all p xs) h) (all_take p n xs (both-second (p x) (all p xs) h))

pub all_drop : {A : Type 0} (p : A → Bool) (n : ℕ) (xs : List A) → all p xs ≡ true → all p (drop n xs) ≡ true
all_drop p zero xs h = h
all_drop p (suc n) [] h = refl
all_drop p (suc n) (x ∷ xs) h = all_drop p n xs (both-second (p x) (all p xs) h)

-- at each place
pub all_get_d : {A : Type 0} (p : A → Bool) (xs : List A) (k : ℕ) (d : A) → k < length xs → all p xs ≡ true → p (get_or xs k d) ≡ true
all_get_d p [] k d l h = absurd (omega arith)
all_get_d p (x ∷ xs) zero d l h = both_first (p x) _ h
all_get_d p (x ∷ xs) (suc k) d l h = all_get_d p xs k d (omega arith) (both-second (p x) _ h)

pub all-by : {A : Type 0} (p : A → Bool) (xs : List A) (d : A) → ((k : ℕ) → k < length xs → p (get_or xs k d) ≡ true) → all p xs ≡ true
all-by p [] d h = refl
all-by p (x ∷ xs) d h = both (p x) _ (h 0 (omega arith)) (all-by p xs d (λ k l. h (suc k) (omega arith)))

-- of every number below n
pub all-below : (p : ℕ → Bool) (n k : ℕ) → k < n → all p (below n) ≡ true → p k ≡ true
all-below p n k l h =
    rw (get_or-list_of n k (λ j. j) 0 l) at (all_get_d p (below n) k 0 (omega (arith, list_from-length 0 n (λ (j : ℕ). j))) h)

pub below_all : (p : ℕ → Bool) (n : ℕ) → ((k : ℕ) → k < n → p k ≡ true) → all p (below n) ≡ true
below_all p n h =
    all-by p (below n) 0
    (λ k l. let b : k < n = omega (arith, list_from-length 0 n (λ (j : ℕ). j)) in rw (get_or-list_of n k (λ j. j) 0 b) (h k b))

-- of every entry that a list is made of
pub all-list_from : {A : Type 0} (p : A → Bool) (i n : ℕ) (f : ℕ → A) → ((k : ℕ) → p (f k) ≡ true) → all p (list_from i n f) ≡ true
all-list_from p i zero f h = refl
all-list_from p i (suc n) f h = both (p (f i)) _ (h i) (all-list_from p (suc i) n f h)

-- a list of zeros
pub all-zeros : (p : ℕ → Bool) → p 0 ≡ true → (n : ℕ) → all p (zeros n) ≡ true
all-zeros p h zero = refl
all-zeros p h (suc n) = both (p 0) (all p (zeros n)) h (all-zeros p h n)

-- of what stands in the list
pub all-has : (p : ℕ → Bool) (xs : List ℕ) (x : ℕ) → has x xs ≡ true → all p xs ≡ true → p x ≡ true
all-has p [] x m h = absurd (false≢true m)
all-has p (y ∷ ys) x m h =
    by_cases (eqb x y) (λ e. rw (eqb-true x y e) (both_first (p y) _ h)) (λ e. all-has p ys x (rw e at m) (both-second (p y) _ h))

pub has_all : (p : ℕ → Bool) (xs : List ℕ) → ((x : ℕ) → has x xs ≡ true → p x ≡ true) → all p xs ≡ true
has_all p [] h = refl
has_all p (y ∷ ys) h =
    both (p y) _ (h y (rw (eq-eqb y y refl) refl)) (has_all p ys (λ x m. h x (by_cases (eqb x y) (λ e. rw e refl) (λ e. rw e m))))

-- a list is the same as itself
pub same_refl : (xs : List ℕ) → same xs xs ≡ true
same_refl [] = refl
same_refl (x ∷ xs) = both (eqb x x) _ (eq-eqb x x refl) (same_refl xs)
