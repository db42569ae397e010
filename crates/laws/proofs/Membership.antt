-- What stands in a list and where, lists without repeats, lists made longer at their end. Assumes nothing.
use Prim.Native.Nat.{ℕ, zero, suc, ◌<◌}
use mathlib.Core.Path.{◌≡◌, refl, ap, sym, ◌∙◌}
use mathlib.Core.Bool.{Bool, true, false, not, ◌||◌, false≢true, or_assoc}
use mathlib.Core.List.{List, [], ◌∷◌, ◌++◌, map}
use native.Mathlib.Omega.{arith}
use borrow.Author.Tests.{eqb-true, eqb-false, eq-eqb, ne_eqb, not-true}
use lib.ListN.{length, get_or}
use lib.Dec.{eqb}
use Rattle.written.specs.Lists.{has, place_of, differ}
use Rattle.laws.proofs.Basics.{by_cases, both_first, both-second, neither-first, neither-second}

pub has_append : (x : ℕ) (ys zs : List ℕ) → has x (ys ++ zs) ≡ (has x ys || has x zs)
has_append x [] zs = refl
has_append x (y ∷ ys) zs = ap (λ (b : Bool). eqb x y || b) (has_append x ys zs) ∙ sym (or_assoc (eqb x y) (has x ys) (has x zs))

-- an entry more at the end, which is another
pub has_snoc : (x : ℕ) (ys : List ℕ) (z : ℕ) → has x ys ≡ false → (x ≡ z → ⊥) → has x (ys ++ z ∷ []) ≡ false
has_snoc x ys z h n = has_append x ys (z ∷ []) ∙ rw (h, ne_eqb x z n)

-- no entry twice: the first does not stand again, and the rest has none twice
module _ (x : ℕ) (xs : List ℕ) (d : differ (x ∷ xs) ≡ true) where
  pub differ-first : has x xs ≡ false
  differ-first = not-true (has x xs) (both_first (not (has x xs)) (differ xs) d)

  pub differ-rest : differ xs ≡ true
  differ-rest = both-second (not (has x xs)) (differ xs) d

-- one that did not stand in the list is put at its end
pub differ_snoc : (xs : List ℕ) (y : ℕ) → differ xs ≡ true → has y xs ≡ false → differ (xs ++ y ∷ []) ≡ true
differ_snoc [] y d h = refl
differ_snoc (x ∷ xs) y d h =
    rw (has_snoc x xs y (differ-first x xs d) (λ e. eqb-false y x (neither-first (eqb y x) (has y xs) h) (sym e)))
    (differ_snoc xs y (differ-rest x xs d) (neither-second (eqb y x) (has y xs) h))

pub place_of-lt : (x : ℕ) (ys : List ℕ) → has x ys ≡ true → place_of x ys < length ys
place_of-lt x [] h = absurd (false≢true h)
place_of-lt x (y ∷ ys) h = by_cases (eqb x y) (λ e. rw e (omega arith)) (λ e. rw e (let k = place_of-lt x ys (rw e at h) in omega arith))

pub place_of-none : (x : ℕ) (ys : List ℕ) → has x ys ≡ false → place_of x ys ≡ length ys
place_of-none x [] h = refl
place_of-none x (y ∷ ys) h = rw (neither-first (eqb x y) (has x ys) h) (ap suc (place_of-none x ys (neither-second (eqb x y) (has x ys) h)))

-- the entry that stands there
pub place_of-get_or : (x : ℕ) (ys : List ℕ) (d : ℕ) → has x ys ≡ true → get_or ys (place_of x ys) d ≡ x
place_of-get_or x [] d h = absurd (false≢true h)
place_of-get_or x (y ∷ ys) d h = by_cases (eqb x y) (λ e. rw e (sym (eqb-true x y e))) (λ e. rw e (place_of-get_or x ys d (rw e at h)))

-- an entry stands in its list
pub has_get_d : (ys : List ℕ) (j d : ℕ) → j < length ys → has (get_or ys j d) ys ≡ true
has_get_d [] j d l = absurd (omega arith)
has_get_d (y ∷ ys) zero d l = rw (eq-eqb y y refl)
has_get_d (y ∷ ys) (suc j) d l = by_cases (eqb (get_or ys j d) y) (λ e. rw e) (λ e. rw e (has_get_d ys j d (omega arith)))

-- entries whose images differ do
pub has-map : (f : ℕ → ℕ) (x : ℕ) (ys : List ℕ) → has x ys ≡ true → has (f x) (map f ys) ≡ true
has-map f x [] h = absurd (false≢true h)
has-map f x (y ∷ ys) h =
    by_cases (eqb x y) (λ e. rw (eq-eqb (f x) (f y) (ap f (eqb-true x y e))))
    (λ e. by_cases (eqb (f x) (f y)) (λ q. rw q) (λ q. rw q (has-map f x ys (rw e at h))))

pub differ-map : (f : ℕ → ℕ) (xs : List ℕ) → differ (map f xs) ≡ true → differ xs ≡ true
differ-map f [] h = refl
differ-map f (x ∷ xs) h =
    by_cases (has x xs)
    (λ e. absurd (false≢true (sym (differ-first (f x) (map f xs) h) ∙ has-map f x xs e)))
    (λ e. rw e (differ-map f xs (differ-rest (f x) (map f xs) h)))

-- and one image is of one entry
pub differ-apart : (f : ℕ → ℕ) (x : ℕ) (xs : List ℕ) (y : ℕ) → differ (map f (x ∷ xs)) ≡ true → has y xs ≡ true → f y ≡ f x → ⊥
differ-apart f x xs y d h e = false≢true (sym (differ-first (f x) (map f xs) d) ∙ (rw e at (has-map f y xs h)))

pub differ-one : (f : ℕ → ℕ) (xs : List ℕ) (x y : ℕ) → differ (map f xs) ≡ true → has x xs ≡ true → has y xs ≡ true → f x ≡ f y → x ≡ y
differ-one f [] x y d hx hy e = absurd (false≢true hx)
differ-one f (z ∷ zs) x y d hx hy e =
    by_cases (eqb x z)
    (λ a.
    by_cases (eqb y z) (λ b. eqb-true x z a ∙ sym (eqb-true y z b)) (λ b. absurd (differ-apart f z zs y d (rw b at hy) (sym e ∙ ap f (eqb-true x z a)))))
    (λ a.
    by_cases (eqb y z) (λ b. absurd (differ-apart f z zs x d (rw a at hx) (e ∙ ap f (eqb-true y z b))))
    (λ b. differ-one f zs x y (differ-rest (f z) (map f zs) d) (rw a at hx) (rw b at hy) e))
