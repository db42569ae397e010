-- The names of a numbered file's variables: names that differ, variable v at place v less 1, each made from its last digit on. Assumes nothing.
use Prim.Native.Nat.{ℕ, zero, suc, ◌+◌, ◌*◌, ◌/◌, ◌%◌, ◌^◌, ◌≤◌, ◌<◌}
use mathlib.Core.Path.{◌≡◌, refl, ap, sym, ◌∙◌}
use mathlib.Core.Bool.{true, false}
use mathlib.Core.List.{List, [], ◌∷◌, ◌++◌, append_assoc, append-nil}
use native.Mathlib.Omega.{arith}
use native.Mathlib.Nat.{zero-lt-suc, pow-suc, pow-le-pow_right}
use native.Mathlib.Numerals.{add-one}
use lib.ListN.{length, get_or, length-append}
use lib.Dec.{leb, ltb}
use borrow.Author.Tests.{ltb-true, le-leb, leb-true, lt-ltb}
use Rattle.scan.specs.Scan.{packed}
use Rattle.scan.proofs.Names.{named, packed-one, byte_high}
use Rattle.written.specs.Lists.{all, list_from, has, place_of, differ}
use Rattle.written.specs.Sheet.{is_digit, value_of_digits}
use Rattle.written.specs.Printed.{decimal}
use Rattle.written.specs.Agreement.{is_name_byte, is_name}
use Rattle.written.specs.Numbered.{name_for, names_to}
use Rattle.laws.proofs.Basics.{both, both_first, both-second}
use Rattle.laws.proofs.Lists.{list_from-length, list_from-join, get_or-list_of}
use Rattle.laws.proofs.All.{all_append, all_implied, all_snoc}
use Rattle.laws.proofs.Membership.{has_snoc, has_get_d, differ_snoc}
use Rattle.laws.proofs.Times.{differ-place}
use Rattle.laws.proofs.Decimals.{decimal-one, decimal-more, decimal-length, decimal-some, decimal-digits, decimal-value}
use Rattle.laws.proofs.Tokens.{packed-name}

-- ---- a name

-- a digit is a name's byte
digit-byte : (b : ℕ) → is_digit b ≡ true → is_name_byte b ≡ true
digit-byte b e =
    both (leb 33 b) (leb b 125) (le-leb 33 b (omega (arith, leb-true 48 b (both_first (leb 48 b) (leb b 57) e))))
    (le-leb b 125 (omega (arith, leb-true b 57 (both-second (leb 48 b) (leb b 57) e))))

decimal-bytes : (v : ℕ) → all is_name_byte (decimal v) ≡ true
decimal-bytes v = all_implied is_digit is_name_byte digit-byte (decimal v) (decimal-digits v)

named-all : (s : List ℕ) → all is_name_byte s ≡ true → named s ≡ true
named-all [] h = refl
named-all (b ∷ s) h = both (is_name_byte b) (named s) (both_first (is_name_byte b) (all is_name_byte s) h) (named-all s (both-second (is_name_byte b) (all is_name_byte s) h))

-- two numbers with one name are one
pub name-one : (v w : ℕ) → name_for v ≡ name_for w → v ≡ w
unfolding name_for
name-one v w e =
    let digits = packed-one (decimal v) (decimal w) (named-all (decimal v) (decimal-bytes v)) (named-all (decimal w) (decimal-bytes w)) e in
    sym (decimal-value v) ∙ ap value_of_digits digits ∙ decimal-value w

-- the number of at most eight digits is a name
pub name-valid : (v : ℕ) → v < 10 ^ 8 → is_name (name_for v) ≡ true
unfolding name_for
name-valid v h = packed-name (decimal v) (decimal-bytes v) (decimal-some v) (decimal-length 8 v (omega arith) h)

-- ---- the names

pub names-length : (n : ℕ) → length (names_to n) ≡ n
unfolding names_to
names-length n = list_from-length 0 n (λ k. name_for (suc k))

pub names_at : (n k : ℕ) → k < n → get_or (names_to n) k 0 ≡ name_for (suc k)
unfolding names_to
names_at n k h = get_or-list_of n k (λ j. name_for (suc j)) 0 h

pub names-none : names_to 0 ≡ []
unfolding names_to
names-none = refl

-- one variable more
pub names_snoc : (n : ℕ) → names_to (suc n) ≡ names_to n ++ name_for (suc n) ∷ []
unfolding names_to
names_snoc n =
    let f : ℕ → ℕ = λ k. name_for (suc k) in
    ap (λ (m : ℕ). list_from 0 m f) (sym (add-one n)) ∙ list_from-join 0 n 1 f ∙ ap (λ (k : ℕ). list_from 0 n f ++ name_for (suc k) ∷ []) (let e : 0 + n ≡ n = omega arith in e)

-- a number above them is not among them
pub names-new : (n v : ℕ) → n < v → has (name_for v) (names_to n) ≡ false
names-new zero v h = rw names-none refl
names-new (suc n) v h =
    rw (names_snoc n) (has_snoc (name_for v) (names_to n) (name_for (suc n)) (names-new n v (omega arith)) (λ e. omega (arith, name-one v (suc n) e)))

pub names-differ : (n : ℕ) → differ (names_to n) ≡ true
names-differ zero = rw names-none refl
names-differ (suc n) = rw (names_snoc n) (differ_snoc (names_to n) (name_for (suc n)) (names-differ n) (names-new n (suc n) (omega arith)))

pub names-valid : (n : ℕ) → n < 10 ^ 8 → all is_name (names_to n) ≡ true
names-valid zero h = rw names-none refl
names-valid (suc n) h = rw (names_snoc n) (all_snoc is_name (names_to n) (name_for (suc n)) (names-valid n (omega arith)) (name-valid (suc n) h))

-- a variable up to the last is among them, at the place before its number
pub names-has : (n k : ℕ) → k < n → has (name_for (suc k)) (names_to n) ≡ true
names-has n k h = rw (names_at n k h) at (has_get_d (names_to n) k 0 (omega (arith, names-length n)))

pub names-place : (n k : ℕ) → k < n → place_of (name_for (suc k)) (names_to n) ≡ k
names-place n k h = rw (names_at n k h) at (differ-place (names_to n) k (names-differ n) (omega (arith, names-length n)))

-- ---- a name made from its last digit on

-- the digits of a number before others: its last goes over to them, or is its only one
module _ (v : ℕ) (ds : List ℕ) where
  digits_more : 10 ≤ v → decimal v ++ ds ≡ decimal (v / 10) ++ (48 + v % 10) ∷ ds
  digits_more h = rw (decimal-more v h) (append_assoc (decimal (v / 10)) ((48 + v % 10) ∷ []) ds)

  digits-one : v < 10 → decimal v ++ ds ≡ (48 + v) ∷ ds
  digits-one h = rw (decimal-one v h) refl

  pub packed-digits : 10 ≤ v → packed (decimal v ++ ds) ≡ packed (decimal (v / 10) ++ (48 + v % 10) ∷ ds)
  packed-digits h = ap packed (digits_more h)

  pub packed-digit : v < 10 → packed (decimal v ++ ds) ≡ packed ((48 + v) ∷ ds)
  packed-digit h = ap packed (digits-one h)

-- so many bytes are below so many times the weight of one
pub packed-below : (ds : List ℕ) → all (λ b. ltb b 256) ds ≡ true → packed ds < 256 ^ length ds
packed-below [] h = omega arith
packed-below (d ∷ ds) h =
    let byte = ltb-true d 256 (both_first (ltb d 256) (all (λ b. ltb b 256) ds) h) in
    let rest = packed-below ds (both-second (ltb d 256) (all (λ b. ltb b 256) ds) h) in
    omega (arith, pow-suc 256 (length ds))

-- of the name of w the last digits stand packed, and those of v are still to come
pub record Spelling (w v name : ℕ) : Type 0 where
  pub digits : List ℕ
  pub is : decimal v ++ digits ≡ decimal w
  pub says : packed digits ≡ name

pub spelling_begun : (w : ℕ) → Spelling w w 0
spelling_begun w = record { digits = []; is = append-nil (decimal w); says = refl }

module _ (w v name : ℕ) (s : Spelling w v name) where
  -- one digit goes over
  pub spelling_more : 10 ≤ v → Spelling w (v / 10) (48 + v % 10 + 256 * name)
  spelling_more h =
      record { digits = (48 + v % 10) ∷ s.digits; is = sym (digits_more v s.digits h) ∙ s.is; says = ap (λ (n : ℕ). 48 + v % 10 + 256 * n) s.says }

  -- and the last of them ends the name
  pub spelling_ended : v < 10 → 48 + v + 256 * name ≡ name_for w
  unfolding name_for
  spelling_ended h = ap (λ (n : ℕ). 48 + v + 256 * n) (sym s.says) ∙ ap packed (sym (digits-one v s.digits h) ∙ s.is)

  -- what stands packed leaves room for one byte more among suc k
  pub spelling_room : (k : ℕ) → w < 10 ^ suc k → name < 256 ^ k
  spelling_room k h =
      let ds : List ℕ = s.digits in
      let bytes = both-second (all is_name_byte (decimal v)) (all is_name_byte ds) (sym (all_append is_name_byte (decimal v) ds) ∙ ap (all is_name_byte) s.is ∙ decimal-bytes w) in
      let below = packed-below ds (all_implied is_name_byte (λ b. ltb b 256) (λ b e. lt-ltb b 256 (omega (arith, byte_high b e))) ds bytes) in
      let few : length ds ≤ k = omega (arith, length-append (decimal v) ds, ap length s.is, decimal-length (suc k) w (omega arith) h, decimal-some v) in
      omega (arith, below, s.says, pow-le-pow_right {n = 256} (zero-lt-suc 255) few)
