-- A loop that tests every number below another, or every entry of a list, and stops at the first that fails. Assumes nothing.
use mathlib.Core.Path.{◌≡◌, refl, sym, subst, ◌∙◌}
use mathlib.Core.Bool.{Bool, true, false, not, ◌&&◌, false≢true}
use mathlib.Core.List.{List}
use Prim.Native.Nat.{ℕ, ◌+◌, ◌<◌, ◌≤◌, zero-le}
use native.Mathlib.Nat.{le_antisymm}
use native.Mathlib.Omega.{arith}
use lib.ListN.{length, get_or}
use Rattle.written.specs.Lists.{all, below}
use Rattle.laws.proofs.Basics.{by_cases, by-eq, both, both_first, both-second, same_tests}
use Rattle.laws.proofs.All.{all-below, below_all, all_get_d, all-by}

-- a test that holds does not fail
pub not-both : {A : Type 0} {b : Bool} → b ≡ true → b ≡ false → A
not-both h e = absurd (false≢true (sym e ∙ h))

-- what a test said, where it was asked whether it fails
pub said_no : {r b : Bool} → not r ≡ true → r ≡ b → b ≡ false
said_no {r} h e = by_cases r (λ q. absurd (false≢true (rw q at h))) (λ q. sym e ∙ q)

pub said-yes : {r b : Bool} → not r ≡ false → r ≡ b → b ≡ true
said-yes {r} h e = by_cases r (λ q. sym e ∙ q) (λ q. absurd (false≢true (sym (rw q at h))))

-- what the second of two tests said that were made together, where the first holds
pub second_no : (a b : Bool) → a ≡ true → (a && b) ≡ false → b ≡ false
second_no a b h e = rw h at e

pub second-yes : (a b : Bool) → a ≡ true → (a && b) ≡ true → b ≡ true
second-yes a b h e = rw h at e

module _ (p : ℕ → Bool) where
  pub tested-more : (i : ℕ) → all p (below i) ≡ true → p i ≡ true → all p (below (i + 1)) ≡ true
  tested-more i h e = below_all p (i + 1) (λ k l. by-eq k i (λ q. rw q e) (λ q. all-below p i k (omega arith) h))

  pub all-next : (i : ℕ) → all p (below (i + 1)) ≡ (all p (below i) && p i)
  all-next i =
      same_tests _ _
      (λ h. both (all p (below i)) (p i) (below_all p i (λ k l. all-below p (i + 1) k (omega arith) h)) (all-below p (i + 1) i (omega arith) h))
      (λ h. tested-more i (both_first (all p (below i)) (p i) h) (both-second (all p (below i)) (p i) h))

  pub test_fails : (n i : ℕ) → i < n → p i ≡ false → false ≡ all p (below n)
  test_fails n i l e = by_cases (all p (below n)) (λ h. not-both (all-below p n i l h) e) (λ h. sym h)

  pub tested-all : (n i : ℕ) → all p (below i) ≡ true → i ≤ n → n ≤ i → true ≡ all p (below n)
  tested-all n i h a b = sym (subst (λ (k : ℕ). all p (below k) ≡ true) (le_antisymm a b) h)

-- a test of every entry is one of every place
pub all-places : {A : Type 0} (p : A → Bool) (xs : List A) (d : A) → all p xs ≡ all (λ i. p (get_or xs i d)) (below (length xs))
all-places p xs d =
    same_tests _ _ (λ h. below_all (λ i. p (get_or xs i d)) (length xs) (λ k l. all_get_d p xs k d l h))
    (λ h. all-by p xs d (λ k l. all-below (λ i. p (get_or xs i d)) (length xs) k l h))

-- a loop over a list
module _ (p : ℕ → Bool) (xs : List ℕ) where
  -- i entries passed the test
  pub record Tested (i : ℕ) : Type 0 where
    pub within : i ≤ length xs
    pub passed : all (λ k. p (get_or xs k 0)) (below i) ≡ true

  pub none-tested : Tested 0
  none-tested = record { within = zero-le; passed = refl }

  pub one-tested : (i : ℕ) → Tested i → i < length xs → p (get_or xs i 0) ≡ true → Tested (i + 1)
  one-tested i r l e = record { within = omega arith; passed = tested-more (λ k. p (get_or xs k 0)) i r.passed e }

  pub one-fails : (i : ℕ) → Tested i → i < length xs → p (get_or xs i 0) ≡ false → false ≡ all p xs
  one-fails i r l e = test_fails (λ k. p (get_or xs k 0)) (length xs) i l e ∙ sym (all-places p xs 0)

  pub all_tested : (i : ℕ) → Tested i → length xs ≤ i → true ≡ all p xs
  all_tested i r l = tested-all (λ k. p (get_or xs k 0)) (length xs) i r.passed r.within l ∙ sym (all-places p xs 0)

-- two tests that agree below n
pub all_same : (p q : ℕ → Bool) (n : ℕ) → ((k : ℕ) → k < n → p k ≡ q k) → all p (below n) ≡ all q (below n)
all_same p q n e =
    same_tests _ _ (λ h. below_all q n (λ k l. sym (e k l) ∙ all-below p n k l h)) (λ h. below_all p n (λ k l. e k l ∙ all-below q n k l h))
