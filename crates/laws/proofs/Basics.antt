-- Cases and tests: what every other law leans on. Assumes nothing.
use Prim.Native.Nat.{ℕ, ◌≤◌, ◌<◌}
use mathlib.Core.Path.{◌≡◌, refl, ap₂, sym}
use mathlib.Core.Bool.{Bool, true, false, cond, ◌&&◌, ◌||◌, false≢true, true≢false}
use mathlib.Core.List.{List, [], ◌∷◌}
use native.Mathlib.Omega.{arith}
use lib.Dec.{eqb, ltb}
use borrow.Author.Tests.{eqb-true, eqb-false, ltb-true, ltb-false}
use Rattle.written.specs.Lists.{same}

-- the two cases of a test
pub by_cases : {A : Type 0} (b : Bool) → (b ≡ true → A) → (b ≡ false → A) → A
by_cases true f g = f refl
by_cases false f g = g refl

-- by whether two numbers are equal, and by which is the less
pub by-eq : {A : Type 0} (m n : ℕ) → (m ≡ n → A) → ((m ≡ n → ⊥) → A) → A
by-eq m n f g = by_cases (eqb m n) (λ e. f (eqb-true m n e)) (λ e. g (eqb-false m n e))

pub by-lt : {A : Type 0} (m n : ℕ) → (m < n → A) → (n ≤ m → A) → A
by-lt m n f g = by_cases (ltb m n) (λ e. f (ltb-true m n e)) (λ e. g (ltb-false m n e))

-- what is chosen by a test, in both cases
pub by_test : {A : Type 0} (P : A → Type 0) (b : Bool) {x y : A} → (b ≡ true → P x) → (b ≡ false → P y) → P (cond b x y)
by_test P true f g = f refl
by_test P false f g = g refl

-- both of two tests that hold together
pub both_first : (a b : Bool) → (a && b) ≡ true → a ≡ true
both_first true b h = refl
both_first false b h = absurd (false≢true h)

pub both-second : (a b : Bool) → (a && b) ≡ true → b ≡ true
both-second true b h = h
both-second false b h = absurd (false≢true h)

pub both : (a b : Bool) → a ≡ true → b ≡ true → (a && b) ≡ true
both a b h k = rw h k

-- neither of two tests of which none holds
pub neither-first : (a b : Bool) → (a || b) ≡ false → a ≡ false
neither-first true b h = absurd (true≢false h)
neither-first false b h = refl

pub neither-second : (a b : Bool) → (a || b) ≡ false → b ≡ false
neither-second true b h = absurd (true≢false h)
neither-second false b h = h

-- two tests that hold together are the same
pub same_tests : (a b : Bool) → (a ≡ true → b ≡ true) → (b ≡ true → a ≡ true) → a ≡ b
same_tests true b f g = sym (f refl)
same_tests false true f g = g refl
same_tests false false f g = refl

-- the two lists that `same` takes for the same are the same
pub same-eq : (xs ys : List ℕ) → same xs ys ≡ true → xs ≡ ys
same-eq [] [] h = refl
same-eq [] (y ∷ ys) h = absurd (false≢true h)
same-eq (x ∷ xs) [] h = absurd (false≢true h)
same-eq (x ∷ xs) (y ∷ ys) h = cons (eqb x y) refl (same-eq xs ys) h
  where
    cons : (b : Bool) → eqb x y ≡ b → (same xs ys ≡ true → xs ≡ ys) → (b && same xs ys) ≡ true → x ∷ xs ≡ y ∷ ys
    cons true e rest k = ap₂ {C = List ℕ} (λ a r. a ∷ r) (eqb-true x y e) (rest k)
    cons false e rest k = absurd (false≢true k)

-- a test counted as 1 or 0
pub one_if_lem : (b : Bool) → b ≡ true → ◌≡◌ {A = ℕ} (cond b 1 0) 1
one_if_lem b e = rw e

pub none_if : (b : Bool) → b ≡ false → ◌≡◌ {A = ℕ} (cond b 1 0) 0
none_if b e = rw e

pub one-most : (b : Bool) → cond b 1 0 ≤ 1
one-most true = omega arith
one-most false = omega arith
