-- The number that digits say, one digit after another, and what is known of a number's digits. Assumes nothing.
use Prim.Native.Nat.{ℕ, ◌+◌, ◌-◌, ◌*◌, ◌^◌, ◌<◌, ◌≤◌}
use mathlib.Core.Path.{◌≡◌, refl}
use mathlib.Core.Bool.{true, ◌&&◌}
use mathlib.Core.List.{List, foldl}
use native.Mathlib.Nat.{pow-le-pow_right}
use native.Mathlib.Numerals.{add-one}
use native.Mathlib.Omega.{arith}
use lib.ListN.{length, get_or, drop, drop_of_length-le}
use lib.Seq.{drop-cons}
use lib.Dec.{ltb, leb}
use borrow.Author.Tests.{ltb-true, leb-true}
use Rattle.written.specs.Lists.{all}
use Rattle.written.specs.Sheet.{is_digit, is_number, value_of_digits}
use Rattle.laws.proofs.Basics.{both_first, both-second}
use Rattle.laws.proofs.All.{all_get_d}

module _ (ds : List ℕ) where
  -- n is what the first i digits say
  pub record Counted (i n : ℕ) : Type 0 where
    pub left : foldl (λ m b. 10 * m + (b - 48)) n (drop i ds) ≡ value_of_digits ds
    pub small : n < 10 ^ i

  pub none-counted : Counted 0 0
  unfolding value_of_digits
  none-counted = record { left = refl; small = omega arith }

  pub next-counted : (i n : ℕ) → Counted i n → i < length ds → get_or ds i 0 ≤ 57 → Counted (i + 1) (10 * n + (get_or ds i 0 - 48))
  next-counted i n r l b = record { left = rw add-one (rw (drop-cons ds i 0 l) at r.left); small = rw add-one (omega (arith, r.small)) }

  pub all-counted : (i n : ℕ) → Counted i n → length ds ≤ i → n ≡ value_of_digits ds
  all-counted i n r h = rw (drop_of_length-le ds h) at r.left

-- the digits of a number: how many, and each one
module _ (ds : List ℕ) (h : is_number ds ≡ true) where
  sized-digits : (ltb 0 (length ds) && leb (length ds) 10 && all is_digit ds) ≡ true
  unfolding is_number
  sized-digits = both_first (ltb 0 (length ds) && leb (length ds) 10 && all is_digit ds) _ h

  pub some-digits : 0 < length ds
  some-digits =
      ltb-true 0 (length ds)
      (both_first (ltb 0 (length ds)) (leb (length ds) 10) (both_first (ltb 0 (length ds) && leb (length ds) 10) (all is_digit ds) sized-digits))

  pub few-digits : length ds ≤ 10
  few-digits =
      leb-true (length ds) 10
      (both-second (ltb 0 (length ds)) (leb (length ds) 10) (both_first (ltb 0 (length ds) && leb (length ds) 10) (all is_digit ds) sized-digits))

  digit : (i : ℕ) → i < length ds → is_digit (get_or ds i 0) ≡ true
  digit i l = all_get_d is_digit ds i 0 l (both-second (ltb 0 (length ds) && leb (length ds) 10) (all is_digit ds) sized-digits)

  pub digit_low : (i : ℕ) → i < length ds → 48 ≤ get_or ds i 0
  digit_low i l = let b : ℕ = get_or ds i 0 in leb-true 48 b (both_first (leb 48 b) (leb b 57) (digit i l))

  digit_high : (i : ℕ) → i < length ds → get_or ds i 0 ≤ 57
  digit_high i l = let b : ℕ = get_or ds i 0 in leb-true b 57 (both-second (leb 48 b) (leb b 57) (digit i l))

  pub counted-fits : (i n : ℕ) → Counted ds i n → i < length ds → 10 * n + (get_or ds i 0 - 48) < 10 ^ 10
  counted-fits i n r l =
      let b = digit_high i l in
      let most : 10 ^ i ≤ 10 ^ 9 = pow-le-pow_right {n = 10} (omega arith) {i = i} {j = 9} (omega (arith, few-digits)) in
      omega (arith, r.small)

  pub one-counted : (i n : ℕ) → Counted ds i n → i < length ds → Counted ds (i + 1) (10 * n + (get_or ds i 0 - 48))
  one-counted i n r l = next-counted ds i n r l (digit_high i l)
