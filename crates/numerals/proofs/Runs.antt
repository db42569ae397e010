-- The digits from a place on, one after another, and when they are a word's number. Assumes nothing.
use Prim.Native.Nat.{ℕ, ◌+◌, ◌-◌, ◌*◌, ◌^◌, ◌≤◌, ◌<◌}
use mathlib.Core.Path.{◌≡◌, refl, ap, sym, ◌∙◌}
use mathlib.Core.Bool.{Bool, true, false, not, ◌&&◌, true≢false}
use mathlib.Core.List.{List}
use native.Mathlib.Omega.{arith}
use native.Mathlib.Nat.{pow-le-pow_right}
use borrow.Author.Tests.{le-leb, lt-leb, leb-true, leb-false, lt-ltb, le-ltb, eqb-true, eqb-false, eq-eqb, ne_eqb, not-false}
use lib.ListN.{length, get_or, drop, length-drop}
use lib.Seq.{get_or-take, get_or-drop, length-take-le}
use lib.Dec.{eqb, leb, ltb}
use Rattle.scan.specs.Scan.{open_end}
use Rattle.scan.proofs.Laws.{get_d_any, past_more, past_stop, past_ge, past-le}
use Rattle.written.specs.Lists.{all}
use Rattle.written.specs.Sheet.{is_digit, is_number, value_of_digits}
use Rattle.written.specs.Numerals.{is_gap, is_word, word_end, word_at}
use Rattle.laws.proofs.Basics.{both, both_first, both-second, by_cases, by-lt}
use Rattle.laws.proofs.All.{all_get_d, all-by}
use Rattle.digits.proofs.Digits.{none-counted, next-counted, all-counted}
use Rattle.numerals.specs.declared.Digits.{Digits}
use Rattle.numerals.specs.Numbers.{Within, Run, Stops, is_whole}

-- ---- bytes

-- a digit is no gap, and so a word's byte
digit-word : (b : ℕ) → 48 ≤ b → b ≤ 57 → is_word b ≡ true
digit-word b l h = rw (ne_eqb b 32 (λ e. omega arith), ne_eqb b 9 (λ e. omega arith), ne_eqb b 10 (λ e. omega arith)) refl

-- a byte that is not 10 is not the last of a text that ends with its last line
pub not_last : (t : List ℕ) (i : ℕ) → open_end t ≡ false → i < length t → (get_or t i 0 ≡ 10 → ⊥) → i + 1 < length t
not_last t i closed h other =
    by-lt (i + 1) (length t) (λ l. l) (λ l. absurd (other (last l)))
  where
    last : length t ≤ i + 1 → get_or t i 0 ≡ 10
    last e =
        let here : length t - 1 ≡ i = omega arith in
        ap (λ (k : ℕ). get_or t k 0) (sym here) ∙ get_d_any t 0 10 (length t - 1) (omega arith)
        ∙ eqb-true (get_or t (length t - 1) 10) 10 (not-false _ closed)

-- ---- a word

module _ (t : List ℕ) (from : ℕ) where
  word-length : from ≤ length t → length (word_at t from) ≡ word_end t from - from
  word-length h = length-take-le (word_end t from - from) (drop from t) (omega (arith, length-drop from t, past-le is_word t from h))

  pub word_byte : (k : ℕ) → k < word_end t from - from → get_or (word_at t from) k 0 ≡ get_or t (from + k) 0
  word_byte k l = get_or-take (word_end t from - from) (drop from t) k 0 l ∙ get_or-drop from t k 0

-- ---- the digits so far

module _ (t : List ℕ) (from : ℕ) (w : Within t from) where
  pub none-run : Run t from from 0
  none-run =
      let none : from - from ≡ 0 = omega arith in
      record {
        begun = omega arith;
        inside = w.inside;
        run = refl;
        counted = rw none (none-counted (word_at t from));
        digits = λ j l h. absurd (omega arith);
        lead = λ z l. absurd (omega arith);
        one = λ e. absurd (omega arith);
      }

  module _ (i n : ℕ) (r : Run t from i n) where
    -- room for one more
    pub run_fits : i < from + 11 → 10 * n + 9 < 10 ^ 11
    run_fits l =
        let low : 10 ^ (i - from) ≤ 10 ^ 10 = pow-le-pow_right {n = 10} (omega arith) {i = i - from} {j = 10} (omega (arith, l, r.begun)) in
        omega (arith, r.counted.small)

    module _ (low : 48 ≤ get_or t i 0) (high : get_or t i 0 ≤ 57) where
      here : is_word (get_or t i 0) ≡ true
      here = digit-word (get_or t i 0) low high

      further : i < word_end t from
      further = omega (arith, past_ge is_word t (i + 1), past_more is_word t i r.inside here, r.run)

      byte : get_or (word_at t from) (i - from) 0 ≡ get_or t i 0
      byte =
          let place : from + (i - from) ≡ i = omega (arith, r.begun) in
          word_byte t from (i - from) (omega (arith, further, r.begun)) ∙ ap (λ (k : ℕ). get_or t k 0) place

      pub one-run : Run t from (i + 1) (10 * n + (get_or t i 0 - 48))
      one-run =
          let next : i + 1 - from ≡ (i - from) + 1 = omega (arith, r.begun) in
          record {
            begun = omega (arith, r.begun);
            inside = not_last t i w.closed r.inside (λ e. omega arith);
            run = past_more is_word t i r.inside here ∙ r.run;
            counted = rw (next, sym byte) (next-counted (word_at t from) (i - from) n r.counted
                (omega (arith, word-length t from (omega (arith, w.inside)), further, r.begun)) (omega (arith, byte)));
            digits = λ j a b. by_cases (eqb j i) (λ e. rw (eqb-true j i e) (both (leb 48 (get_or t i 0)) (leb (get_or t i 0) 57) (le-leb 48 _ low) (le-leb _ 57 high)))
                (λ e. r.digits j a (omega (arith, eqb-false j i e)));
            lead = λ z b. by_cases (eqb i from) (λ e. rw (sym (eqb-true i from e)) (omega (arith, eqb-true i from e)))
                (λ e. r.lead (omega (arith, z)) (omega (arith, eqb-false i from e, r.begun)));
            one = λ e.
                let same : i ≡ from = omega (arith, r.begun) in
                let none : i - from ≡ 0 = omega arith in
                let zero : n ≡ 0 = omega (arith, r.counted.small, ap (λ (k : ℕ). 10 ^ k) none) in
                ap (λ (k : ℕ). 10 * n + (get_or t k 0 - 48)) same ∙ omega (arith, zero);
          }

-- ---- whether they are a number

pub gap_word : (b : ℕ) → is_gap b ≡ false → is_word b ≡ true
gap_word b e = ap not e

gap_no_word : (b : ℕ) → is_gap b ≡ true → is_word b ≡ false
gap_no_word b e = ap not e

module _ (t : List ℕ) (from : ℕ) (w : Within t from) (end n : ℕ) (s : Stops t from (from + 11) end n) where
  abbrev ds : List ℕ
  ds = word_at t from

  abbrev first : ℕ
  first = get_or t from 0

  size : length ds ≡ word_end t from - from
  size = word-length t from (omega (arith, w.inside))

  word-further : end ≤ word_end t from
  word-further = omega (arith, s.run.run, past_ge is_word t end)

  -- eleven digits, or a byte that is none
  too_many : 10 < end - from → is_number ds ≡ false
  unfolding is_number
  too_many l = rw (lt-ltb 0 (length ds) (omega (arith, size, word-further)), lt-leb (length ds) 10 (omega (arith, size, word-further))) refl

  no_digit : end - from ≤ 10 → is_gap (get_or t end 0) ≡ false → is_number ds ≡ false
  unfolding is_number
  no_digit l other =
      let more : end < word_end t from =
      omega (arith, s.run.run, past_more is_word t end s.run.inside (gap_word (get_or t end 0) other), past_ge is_word t (end + 1)) in
      let place : from + (end - from) ≡ end = omega (arith, s.run.begun) in
      let byte : get_or ds (end - from) 0 ≡ get_or t end 0 =
      word_byte t from (end - from) (omega (arith, more, s.run.begun)) ∙ ap (λ (k : ℕ). get_or t k 0) place in
      let no : all is_digit ds ≡ false =
      by_cases (all is_digit ds)
      (λ yes. absurd (true≢false (sym (all_get_d is_digit ds (end - from) 0 (omega (arith, size, more, s.run.begun)) yes) ∙ ap is_digit byte ∙ s.halts (omega (arith, s.run.begun))))) (λ e. e) in
      rw (lt-ltb 0 (length ds) (omega (arith, size, more, s.run.begun)), no) (by_cases (leb (length ds) 10) (λ y. rw y refl) (λ y. rw y refl))

  module _ (few : end - from ≤ 10) (gap : is_gap (get_or t end 0) ≡ true) where
    ends : word_end t from ≡ end
    ends = sym s.run.run ∙ past_stop is_word t end s.run.inside (gap_no_word (get_or t end 0) gap)

    long : length ds ≡ end - from
    long = omega (arith, size, ends)

    says : n ≡ value_of_digits ds
    says = all-counted ds (end - from) n s.run.counted (omega (arith, long))

    all_digits : all is_digit ds ≡ true
    all_digits =
        all-by is_digit ds 0 (λ k l. ap is_digit (word_byte t from k (omega (arith, long, ends))) ∙ s.run.digits (from + k) (omega arith) (omega (arith, long)))

    lead : 0 < end - from → get_or ds 0 0 ≡ first
    lead l = let same : from + 0 ≡ from = omega arith in word_byte t from 0 (omega (arith, ends)) ∙ ap (λ (k : ℕ). get_or t k 0) same

    some-digits : 0 < end - from → ((ltb 0 (length ds) && leb (length ds) 10) && all is_digit ds) ≡ true
    some-digits l = rw (lt-ltb 0 (length ds) (omega (arith, long)), le-leb (length ds) 10 (omega (arith, long)), all_digits) refl

    one-digit : end - from ≡ 1 → is_number ds ≡ true
    unfolding is_number
    one-digit e = rw (some-digits (omega arith), eq-eqb (length ds) 1 (long ∙ e)) refl

    more-digits : 0 < end - from → (end - from ≡ 1 → ⊥) → is_number ds ≡ not (eqb first 48)
    unfolding is_number
    more-digits l e = rw (some-digits l, ne_eqb (length ds) 1 (λ q. e (sym long ∙ q)), lead l) refl

    none : end - from ≡ 0 → is_number ds ≡ false
    unfolding is_number
    none e = rw (le-ltb 0 (length ds) (omega (arith, long))) refl

    zero_number : n ≡ 0 → is_number ds ≡ eqb (end - from) 1
    zero_number z =
        by_cases (eqb (end - from) 1) (λ e. one-digit (eqb-true _ 1 e) ∙ sym e)
        (λ e. by-lt 0 (end - from)
        (λ l. more-digits l (eqb-false _ 1 e) ∙ rw (eq-eqb first 48 (s.run.lead z (omega (arith, s.run.begun)))) refl ∙ sym e)
        (λ l. none (omega arith) ∙ sym e))

    some_number : (n ≡ 0 → ⊥) → is_number ds ≡ not (eqb first 48)
    some_number z =
        let l : 0 < end - from = by-lt 0 (end - from) (λ l. l) (λ l. absurd (z (empty (omega arith)))) in
        by_cases (eqb (end - from) 1)
        (λ e. one-digit (eqb-true _ 1 e) ∙ sym (rw (ne_eqb first 48 (λ q. z (s.run.one (omega (arith, eqb-true (end - from) 1 e, s.run.begun)) ∙ omega arith))) refl))
        (λ e. more-digits l (eqb-false _ 1 e))
      where
        empty : end - from ≡ 0 → n ≡ 0
        empty e = omega (arith, s.run.counted.small, ap (λ (k : ℕ). 10 ^ k) e)

  swapped : (b x : Bool) → (not b && x) ≡ (x && not (b && true))
  swapped true true = refl
  swapped true false = refl
  swapped false true = refl
  swapped false false = refl

  and-false : (b : Bool) → not (b && false) ≡ true
  and-false true = refl
  and-false false = refl

  keeps : (x b : Bool) → x ≡ (x && not (b && false))
  keeps true b = sym (and-false b)
  keeps false b = refl

  abbrev d : Digits
  d = record { end = end; number = n }

  -- what the tests say is what is written of the whole word's digits
  pub whole_is : (b : Bool) → is_whole t from d b ≡ (is_number ds && not (b && eqb (value_of_digits ds) 0))
  unfolding is_whole
  whole_is b =
      by_cases (leb (end - from) 10)
      (λ few. by_cases (is_gap (get_or t end 0))
      (λ gap.
      let low = leb-true (end - from) 10 few in
      by_cases (eqb n 0)
      (λ z. rw (few, gap, z, sym (says low gap), z, zero_number low gap (eqb-true n 0 z)) (swapped b (eqb (end - from) 1)))
      (λ z. rw (few, gap, z, sym (says low gap), z, some_number low gap (eqb-false n 0 z)) (keeps (not (eqb first 48)) b)))
      (λ other. rw (few, other, no_digit (leb-true (end - from) 10 few) other) refl))
      (λ many. rw (many, too_many (leb-false (end - from) 10 many)) refl)

  pub whole_says : (b : Bool) → is_whole t from d b ≡ true → (n ≡ value_of_digits ds) × (word_end t from ≡ end)
  unfolding is_whole
  whole_says b h =
      let both-tests = both_first (leb (end - from) 10 && is_gap (get_or t end 0)) _ h in
      let few = leb-true (end - from) 10 (both_first (leb (end - from) 10) (is_gap (get_or t end 0)) both-tests) in
      let gap = both-second (leb (end - from) 10) (is_gap (get_or t end 0)) both-tests in
      (says few gap, ends few gap)
