-- Names of which one more may be known, and clauses over more terms. Assumes nothing.
use Prim.Native.Nat.{ℕ, ◌*◌, ◌≤◌, ◌<◌}
use mathlib.Core.Path.{◌≡◌}
use mathlib.Core.Bool.{Bool, true, false, not, ◌&&◌}
use mathlib.Core.List.{List, [], ◌∷◌, map}
use native.Mathlib.Omega.{arith}
use borrow.Author.Tests.{ltb-true, lt-ltb, leb-false}
use lib.ListN.{length, length-append}
use lib.Dec.{ltb, leb}
use Rattle.written.specs.Lists.{all, has, place_of, differ}
use Rattle.written.specs.Clauses.{term_of}
use Rattle.written.specs.Reading.{known}
use Rattle.laws.specs.Valid.{is_clause}
use Rattle.laws.proofs.Basics.{by_cases, both_first, both-second}
use Rattle.laws.proofs.All.{all_snoc, all_implied}
use Rattle.laws.proofs.Membership.{differ_snoc, place_of-lt, place_of-none}

-- ---- names, one more of which may be known

module _ (x : ℕ) (ns : List ℕ) where
  pub known-longer : length ns ≤ length (known x ns)
  known-longer = by_cases (has x ns) (λ e. rw e (omega arith)) (λ e. rw e (omega (arith, length-append ns (x ∷ []))))

  pub known-place : place_of x ns < length (known x ns)
  known-place = by_cases (has x ns) (λ e. rw e (place_of-lt x ns e)) (λ e. rw e (omega (arith, place_of-none x ns e, length-append ns (x ∷ []))))

  pub known-few : (m : ℕ) → (not (has x ns) && leb m (length ns)) ≡ false → length ns ≤ m → length (known x ns) ≤ m
  known-few m room h = by_cases (has x ns) (λ e. rw e h) (λ e. rw e (omega (arith, leb-false m (length ns) (rw e at room), length-append ns (x ∷ []))))

  pub known-all : (p : ℕ → Bool) → p x ≡ true → all p ns ≡ true → all p (known x ns) ≡ true
  known-all p h k = by_cases (has x ns) (λ e. rw e k) (λ e. rw e (all_snoc p ns x k h))

  pub known-differ : differ ns ≡ true → differ (known x ns) ≡ true
  known-differ h = by_cases (has x ns) (λ e. rw e h) (λ e. rw e (differ_snoc ns x h e))

-- ---- clauses over more terms

pub below_more : (m n : ℕ) → m ≤ n → (ls : List ℕ) → all (λ l. ltb l (2 * m)) ls ≡ true → all (λ l. ltb l (2 * n)) ls ≡ true
below_more m n h = all_implied (λ l. ltb l (2 * m)) (λ l. ltb l (2 * n)) (λ l e. lt-ltb l (2 * n) (omega (arith, ltb-true l (2 * m) e)))

pub clause-more : (m n : ℕ) → m ≤ n → (ls : List ℕ) → is_clause m ls ≡ true → is_clause n ls ≡ true
unfolding is_clause
clause-more m n h ls e =
    let some = ltb 0 (length ls) in
    let low = all (λ l. ltb l (2 * m)) ls in
    let apart = differ (map term_of ls) in
    let first = both_first (some && low) apart e in
    rw (both_first some low first, below_more m n h ls (both-second some low first)) (both-second (some && low) apart e)
