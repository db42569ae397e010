-- Numbers written in decimal: how many digits they have, and that the digits say the number. Assumes nothing.
use Prim.Native.Nat.{ℕ, zero, suc, ◌+◌, ◌-◌, ◌*◌, ◌/◌, ◌%◌, ◌^◌, ◌≤◌, ◌<◌}
use mathlib.Core.Path.{◌≡◌, refl, ◌∙◌}
use mathlib.Core.Bool.{true, or-true}
use mathlib.Core.List.{List, [], ◌∷◌, ◌++◌, foldl-append}
use native.Mathlib.Omega.{arith}
use lib.ListN.{length, get_or, length-append, get_or-append}
use lib.Dec.{eqb, ltb, leb}
use borrow.Author.Tests.{lt-ltb, le-ltb, ltb-true, ltb-false, le-leb, ne_eqb}
use Rattle.written.specs.Lists.{all}
use Rattle.written.specs.Sheet.{is_digit, is_number, value_of_digits}
use Rattle.written.specs.Printed.{decimal_to, decimal}
use Rattle.laws.proofs.Basics.{by_cases, both}
use Rattle.laws.proofs.All.{all_snoc}

-- ---- digit by digit

-- more turns than digits change nothing
turns : (j k n : ℕ) (rest : List ℕ) → n < j → n < k → decimal_to j n rest ≡ decimal_to k n rest
unfolding decimal_to
turns zero k n rest h l = absurd (omega arith)
turns (suc j) zero n rest h l = absurd (omega arith)
turns (suc j) (suc k) n rest h l =
    by_cases (ltb n 10) (λ e. rw e refl)
    (λ e. let b = ltb-false n 10 e in rw e (turns j k (n / 10) ((48 + n % 10) ∷ rest) (omega arith) (omega arith)))

-- digits are put before what follows
before : (k n : ℕ) (xs rest : List ℕ) → decimal_to k n (xs ++ rest) ≡ decimal_to k n xs ++ rest
unfolding decimal_to
before zero n xs rest = refl
before (suc k) n xs rest = by_cases (ltb n 10) (λ e. rw e refl) (λ e. rw e (before k (n / 10) ((48 + n % 10) ∷ xs) rest))

-- a number below 10 is one digit
pub decimal-one : (n : ℕ) → n < 10 → decimal n ≡ (48 + n) ∷ []
unfolding decimal decimal_to
decimal-one n h = rw (lt-ltb n 10 h)

-- any other is the digits of its tenth and then its last digit
pub decimal-more : (n : ℕ) → 10 ≤ n → decimal n ≡ decimal (n / 10) ++ (48 + n % 10) ∷ []
unfolding decimal decimal_to
decimal-more n h =
    rw (le-ltb n 10 h) (turns n (suc (n / 10)) (n / 10) ((48 + n % 10) ∷ []) (omega arith) (omega arith)
    ∙ before (suc (n / 10)) (n / 10) [] ((48 + n % 10) ∷ []))

-- what holds of one digit, and of one more digit, holds of every number
pub decimal_ind : (P : ℕ → List ℕ → Type 0) → ((n : ℕ) → n < 10 → P n ((48 + n) ∷ []))
    → ((n : ℕ) (ds : List ℕ) → 10 ≤ n → P (n / 10) ds → P n (ds ++ (48 + n % 10) ∷ [])) → (n : ℕ) → P n (decimal n)
decimal_ind P one more n = go (suc n) n (omega arith)
  where
    go : (k n : ℕ) → n < k → P n (decimal n)
    go zero n h = absurd (omega arith)
    go (suc k) n h =
        by_cases (ltb n 10) (λ e. rw (decimal-one n (ltb-true n 10 e)) (one n (ltb-true n 10 e)))
        (λ e. let b = ltb-false n 10 e in rw (decimal-more n b) (more n (decimal (n / 10)) b (go k (n / 10) (omega arith))))

-- ---- what they come to

-- a number below 10 ^ k has at most k digits
pub decimal-length : (k n : ℕ) → 0 < k → n < 10 ^ k → length (decimal n) ≤ k
decimal-length k n = decimal_ind (λ n ds. (k : ℕ) → 0 < k → n < 10 ^ k → length ds ≤ k) (λ n h k l b. l) more n k
  where
    more : (n : ℕ) (ds : List ℕ) → 10 ≤ n → ((k : ℕ) → 0 < k → n / 10 < 10 ^ k → length ds ≤ k) → (k : ℕ) → 0 < k → n < 10 ^ k
        → length (ds ++ (48 + n % 10) ∷ []) ≤ k
    more n ds h ih zero l b = absurd (omega arith)
    more n ds h ih (suc zero) l b = absurd (omega arith)
    more n ds h ih (suc (suc k)) l b =
        let size = length-append ds ((48 + n % 10) ∷ []) in
        let few = ih (suc k) (omega arith) (omega arith) in
        omega arith

-- no number above 0 begins with a 0
decimal-lead : (n : ℕ) → (0 < length (decimal n)) × (0 < n → 48 < get_or (decimal n) 0 0)
decimal-lead =
    decimal_ind (λ n ds. (0 < length ds) × (0 < n → 48 < get_or ds 0 0)) (λ n h. (omega arith, λ l. omega arith))
    (λ n ds h k. let same = get_or-append ds ((48 + n % 10) ∷ []) 0 0 k.0 in
    let lead = k.1 (omega arith) in
    (omega (arith, length-append ds ((48 + n % 10) ∷ [])), λ l. omega arith))

-- there is always a digit
pub decimal-some : (n : ℕ) → 0 < length (decimal n)
decimal-some n = (decimal-lead n).0

-- a test that holds of both lists holds of the two joined
digit : (n : ℕ) → n < 10 → is_digit (48 + n) ≡ true
digit n h = both (leb 48 (48 + n)) (leb (48 + n) 57) (le-leb 48 (48 + n) (omega arith)) (le-leb (48 + n) 57 (omega arith))

-- each byte is a digit
pub decimal-digits : (n : ℕ) → all is_digit (decimal n) ≡ true
decimal-digits =
    decimal_ind (λ n ds. all is_digit ds ≡ true) (λ n h. both (is_digit (48 + n)) true (digit n h) refl)
    (λ n ds h l. all_snoc is_digit ds (48 + n % 10) l (digit (n % 10) (omega arith)))

-- the digits say the number
pub decimal-value : (n : ℕ) → value_of_digits (decimal n) ≡ n
unfolding value_of_digits
decimal-value =
    decimal_ind (λ n ds. value_of_digits ds ≡ n) (λ n h. omega arith)
    (λ n ds h l. foldl-append (λ n b. 10 * n + (b - 48)) 0 ds ((48 + n % 10) ∷ []) ∙ omega arith)

-- a number below 10 ^ 10 is written as a sheet may have it
pub decimal-number : (n : ℕ) → n < 10 ^ 10 → is_number (decimal n) ≡ true
unfolding is_number
decimal-number n h =
    let ds : List ℕ = decimal n in
    let some = lt-ltb 0 (length ds) (decimal-some n) in
    let few = le-leb (length ds) 10 (decimal-length 10 n (omega arith) h) in
    rw (some, few, decimal-digits n) (by_cases (ltb n 10) (λ e. rw (decimal-one n (ltb-true n 10 e)) refl)
    (λ e. let b = ltb-false n 10 e in let lead = (decimal-lead n).1 (omega arith) in rw (ne_eqb (get_or ds 0 0) 48 (λ q. omega arith)) (or-true (eqb (length ds) 1))))
