-- One line of a sheet: its form and range by their tests, and what is known of one that is taken. Assumes nothing.
use Prim.Native.Nat.{ℕ, suc, ◌+◌, ◌-◌, ◌<◌, ◌≤◌}
use mathlib.Core.Path.{◌≡◌, sym, ◌∙◌}
use mathlib.Core.Bool.{Bool, true, false, ◌&&◌}
use mathlib.Core.List.{List}
use native.Mathlib.Numerals.{add-one}
use native.Mathlib.Omega.{arith}
use lib.ListN.{length, take, drop, length-take, length-drop}
use lib.Dec.{ltb}
use borrow.Author.Tests.{ltb-true, lt-ltb, le-leb, lt-leb}
use Rattle.std.specs.Prelude.{Ok, Err}
use Rattle.scan.specs.Scan.{past, rest_at}
use Rattle.written.specs.declared.Reason.TheVariants.{SheetForm, OutOfRange}
use Rattle.written.specs.Lists.{same}
use Rattle.written.specs.Reasons.{fault_at}
use Rattle.written.specs.Orders.{Range, within}
use Rattle.written.specs.Sheet.{is_number, value_of_digits, has_form, number_after, line_length}
use Rattle.laws.proofs.Basics.{by_cases, both_first, both-second}
use Rattle.laws.proofs.Lists.{drop-take}
use Rattle.laws.proofs.Tests.{not-both}
use Rattle.running_sheet.specs.Lines.{range, line_of}
use Rattle.digits.proofs.Digits.{some-digits, few-digits}

-- the line ends where its byte 10 is
pub ends_at : (rest : List ℕ) → rest_at rest 0 ≡ line_length rest
unfolding past
ends_at rest = omega arith

module _ (key rest : List ℕ) where
  -- what stands after the key
  abbrev digits : List ℕ
  digits = drop (length key) (take (line_length rest) rest)

  -- what the form asks
  pub record Formed : Type 0 where
    pub inside : line_length rest < length rest
    pub begun : same (take (length key) rest) key ≡ true
    pub number : is_number digits ≡ true

  pub formed : has_form key rest ≡ true → Formed
  unfolding has_form
  formed h =
      let inner : Bool = ltb (line_length rest) (length rest) in
      let a = both_first (inner && same (take (length key) rest) key) (is_number digits) h in
      record {
        inside = ltb-true _ _ (both_first inner _ a);
        begun = both-second inner _ a;
        number = both-second (inner && same (take (length key) rest) key) (is_number digits) h;
      }

  pub has-form : Formed → has_form key rest ≡ true
  unfolding has_form
  has-form f = rw (lt-ltb _ _ f.inside, f.begun) f.number

  -- the line is the key and its digits
  digits-size : Formed → length digits ≡ line_length rest - length key
  digits-size f = length-drop (length key) (take (line_length rest) rest) ∙ simp length-take (omega (arith, f.inside))

  pub key-within : Formed → length key < line_length rest
  key-within f = omega (arith, digits-size f, some-digits digits f.number)

  pub line-short : Formed → line_length rest ≤ length key + 10
  line-short f = omega (arith, digits-size f, few-digits digits f.number)

-- line i by its tests
module _ (i : ℕ) (key rest : List ℕ) (r : Range) where
  pub not-formed : (Formed key rest → ⊥) → Err (fault_at i SheetForm) ≡ line_of i key r rest
  unfolding line_of
  not-formed h = by_cases (has_form key rest) (λ e. absurd (h (formed key rest e))) (λ e. rw e)

  pub beyond : Formed key rest → within r (number_after key rest) ≡ false → Err (fault_at i OutOfRange) ≡ line_of i key r rest
  unfolding line_of
  beyond f h = rw (has-form key rest f, h)

  pub taken : Formed key rest → within r (number_after key rest) ≡ true
      → Ok (record { number = number_after key rest; size = suc (line_length rest) }) ≡ line_of i key r rest
  unfolding line_of
  taken f h = rw (has-form key rest f, h)

-- a line by what the code finds: where it ends, and the bytes after the key
module _ (i : ℕ) (key rest : List ℕ) (end : ℕ) (e : end ≡ rest_at rest 0) where
  abbrev found : List ℕ
  found = take (end - length key) (drop (length key) rest)

  at-end : end ≡ line_length rest
  at-end = e ∙ ends_at rest

  found-digits : found ≡ digits key rest
  found-digits = rw at-end (sym (drop-take (length key) (line_length rest) rest))

  pub formed-by : end < length rest → same (take (length key) rest) key ≡ true → is_number found ≡ true → Formed key rest
  formed-by l b n = record { inside = rw at-end at l; begun = b; number = rw found-digits at n }

  module _ (r : Range) where
    pub line_open : length rest ≤ end → Err (fault_at i SheetForm) ≡ line_of i key r rest
    line_open h = not-formed i key rest r (λ f. omega (arith, at-end, f.inside))

    pub key_differs : same (take (length key) rest) key ≡ false → Err (fault_at i SheetForm) ≡ line_of i key r rest
    key_differs h = not-formed i key rest r (λ f. not-both f.begun h)

    pub key-cut : end < length key → Err (fault_at i SheetForm) ≡ line_of i key r rest
    key-cut h = not-formed i key rest r (λ f. omega (arith, at-end, key-within key rest f))

    pub no_number : is_number found ≡ false → Err (fault_at i SheetForm) ≡ line_of i key r rest
    no_number h = not-formed i key rest r (λ f. not-both f.number (rw found-digits at h))

  module _ (least most n : ℕ) (f : Formed key rest) (v : n ≡ value_of_digits found) where
    number_is : n ≡ number_after key rest
    unfolding number_after
    number_is = rw found-digits at v

    pub too_low : n < least → Err (fault_at i OutOfRange) ≡ line_of i key (range least most) rest
    too_low h = beyond i key rest (range least most) f (rw (sym number_is, lt-leb least n h))

    pub too_high : least ≤ n → most < n → Err (fault_at i OutOfRange) ≡ line_of i key (range least most) rest
    too_high l h = beyond i key rest (range least most) f (rw (sym number_is, le-leb least n l, lt-leb n most h))

    pub line_taken : least ≤ n → n ≤ most → Ok (record { number = n; size = end + 1 }) ≡ line_of i key (range least most) rest
    line_taken l h =
        rw (number_is, at-end, add-one)
        (taken i key rest (range least most) f (rw (sym number_is, le-leb least n l, le-leb n most h)))
