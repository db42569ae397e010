-- Sums over lists. Assumes nothing.
use Prim.Native.Nat.{ℕ, zero, suc, ◌+◌, ◌≤◌, ◌<◌}
use mathlib.Core.Path.{◌≡◌, refl, ap, sym, ◌∙◌}
use mathlib.Core.Bool.{Bool}
use mathlib.Core.List.{List, [], ◌∷◌, ◌++◌, map}
use native.Mathlib.Omega.{arith}
use lib.ListN.{length, get_or, set, take}
use lib.Seq.{take-suc}
use Rattle.written.specs.Lists.{total, those, list_from}
use Rattle.laws.proofs.Basics.{by_cases, by-eq}

-- sums over two lists
pub total_append : {A : Type 0} (h : A → ℕ) (xs ys : List A) → total h (xs ++ ys) ≡ total h xs + total h ys
total_append h [] ys = omega arith
total_append h (x ∷ xs) ys = let e = total_append h xs ys in omega arith

-- with one entry more
pub total-next : {A : Type 0} (h : A → ℕ) (xs : List A) (k : ℕ) (d : A) → k < length xs → total h (take (suc k) xs) ≡ total h (take k xs) + h (get_or xs k d)
total-next h xs k d l = omega (arith, ap (total h) (take-suc xs k d l), total_append h (take k xs) (get_or xs k d ∷ []))

-- a sum over the first entries grows with their number
pub total-take : {A : Type 0} (h : A → ℕ) (xs : List A) (i j : ℕ) → i ≤ j → total h (take i xs) ≤ total h (take j xs)
total-take h [] zero j k = omega arith
total-take h [] (suc i) zero k = absurd (omega arith)
total-take h [] (suc i) (suc j) k = omega arith
total-take h (x ∷ xs) zero j k = omega arith
total-take h (x ∷ xs) (suc i) zero k = absurd (omega arith)
total-take h (x ∷ xs) (suc i) (suc j) k = let e = total-take h xs i j (omega arith) in omega arith

-- a list changed in one place, summed
pub total-set : {A : Type 0} (h : A → ℕ) (xs : List A) (c : ℕ) (y d : A) → c < length xs → total h (set xs c y) + h (get_or xs c d) ≡ total h xs + h y
total-set h [] c y d k = absurd (omega arith)
total-set h (x ∷ xs) zero y d k = omega arith
total-set h (x ∷ xs) (suc c) y d k = let e = total-set h xs c y d (omega arith) in omega arith

-- place by place the same
pub total-by : {A : Type 0} (f g : A → ℕ) (xs : List A) (d : A) → ((k : ℕ) → k < length xs → f (get_or xs k d) ≡ g (get_or xs k d)) → total f xs ≡ total g xs
total-by f g [] d h = refl
total-by f g (x ∷ xs) d h = let a = h 0 (omega arith) in let b = total-by f g xs d (λ k l. h (suc k) (omega arith)) in omega arith

-- one entry is no more than the sum
pub total-has : {A : Type 0} (h : A → ℕ) (xs : List A) (c : ℕ) (d : A) → c < length xs → h (get_or xs c d) ≤ total h xs
total-has h [] c d l = absurd (omega arith)
total-has h (x ∷ xs) zero d l = omega arith
total-has h (x ∷ xs) (suc c) d l = let e = total-has h xs c d (omega arith) in omega arith

pub total-none : {A : Type 0} (xs : List A) → total (λ x. 0) xs ≡ 0
total-none [] = refl
total-none (x ∷ xs) = let e = total-none xs in omega arith

pub total-ones : {A : Type 0} (xs : List A) → total (λ x. 1) xs ≡ length xs
total-ones [] = refl
total-ones (x ∷ xs) = let e = total-ones xs in omega arith

pub total-sum : {A : Type 0} (f g : A → ℕ) (xs : List A) → total (λ x. f x + g x) xs ≡ total f xs + total g xs
total-sum f g [] = refl
total-sum f g (x ∷ xs) = let e = total-sum f g xs in omega arith

pub total-map : {A B : Type 0} (h : B → ℕ) (f : A → B) (xs : List A) → total h (map f xs) ≡ total (λ x. h (f x)) xs
total-map h f [] = refl
total-map h f (x ∷ xs) = ap (λ n. h (f x) + n) (total-map h f xs)

-- a sum over the entries that pass a test
pub total-those : {A : Type 0} (h : A → ℕ) (p : A → Bool) (xs : List A) → total h (those p xs) ≤ total h xs
total-those h p [] = omega arith
total-those h p (x ∷ xs) = let e = total-those h p xs in by_cases (p x) (λ q. rw q (omega arith)) (λ q. rw q (omega arith))

-- the two ways to sum over two lists
pub total_swap : {A B : Type 0} (f : A → B → ℕ) (xs : List A) (ys : List B) → total (λ x. total (f x) ys) xs ≡ total (λ y. total (λ x. f x y) xs) ys
total_swap f [] ys = sym (total-none ys)
total_swap f (x ∷ xs) ys = ap (λ n. total (f x) ys + n) (total_swap f xs ys) ∙ sym (total-sum (f x) (λ y. total (λ x. f x y) xs) ys)

-- a sum over what a list is made of
pub total-list_from : {A : Type 0} (h : A → ℕ) (f : ℕ → A) (i n : ℕ) → total h (list_from i n f) ≡ total (λ k. h (f k)) (list_from i n (λ k. k))
total-list_from h f i zero = refl
total-list_from h f i (suc n) = ap (λ m. h (f i) + m) (total-list_from h f (suc i) n)

-- no more at any place, and as much in all: the same at each
pub total-le : {A : Type 0} (f g : A → ℕ) (xs : List A) → ((x : A) → f x ≤ g x) → total f xs ≤ total g xs
total-le f g [] h = omega arith
total-le f g (x ∷ xs) h = let a = h x in let b = total-le f g xs h in omega arith

pub total_tight : {A : Type 0} (f g : A → ℕ) (xs : List A) (k : ℕ) (d : A) → ((x : A) → f x ≤ g x) → total f xs ≡ total g xs → k < length xs
    → f (get_or xs k d) ≡ g (get_or xs k d)
total_tight f g [] k d h e l = absurd (omega arith)
total_tight f g (x ∷ xs) zero d h e l = let a = h x in let b = total-le f g xs h in omega arith
total_tight f g (x ∷ xs) (suc k) d h e l =
    let a = h x in
    let b = total-le f g xs h in
    total_tight f g xs k d h (omega arith) (omega arith)

-- of what is at most 1, no more than there are entries, and fewer where one is 0
module _ {A : Type 0} (h : A → ℕ) (b : (x : A) → h x ≤ 1) (xs : List A) where
  pub total-most : total h xs ≤ length xs
  total-most = omega (arith, total-le h (λ x. 1) xs b, total-ones xs)

  pub total_fewer : (c : ℕ) (d : A) → c < length xs → h (get_or xs c d) ≡ 0 → total h xs < length xs
  total_fewer c d l z =
      by-eq (total h xs) (length xs) (λ e. absurd (omega (arith, total_tight h (λ x. 1) xs c d b (e ∙ sym (total-ones xs)) l))) (λ n. omega (arith, total-most))
