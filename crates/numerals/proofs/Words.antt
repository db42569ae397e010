-- A word by its sign and its digits, and what stands where the gaps at a cursor end. Assumes nothing.
use Prim.Native.Nat.{ℕ, suc, ◌+◌, ◌-◌, ◌≤◌, ◌<◌}
use mathlib.Core.Path.{◌≡◌, refl, ap, sym, ◌∙◌}
use mathlib.Core.Bool.{Bool, true, false, not, cond, ◌&&◌}
use mathlib.Core.List.{List, ◌∷◌}
use native.Mathlib.Omega.{arith}
use native.Mathlib.Numerals.{add-one}
use borrow.Author.Tests.{le-leb, lt-leb, eqb-true}
use lib.ListN.{length, get_or, take, drop}
use lib.Seq.{drop-cons}
use lib.Dec.{eqb}
use Rattle.scan.specs.declared.Cursor.{Cursor}
use Rattle.scan.specs.Scan.{cursor_at}
use Rattle.scan.proofs.Laws.{past_more, past_ge}
use Rattle.scan.proofs.Over.{past-halts}
use Rattle.written.specs.declared.Numeral.{Numeral}
use Rattle.written.specs.declared.Numeral.TheVariants.{Number, Bad, End}
use Rattle.written.specs.Sheet.{is_number, value_of_digits}
use Rattle.written.specs.Numerals.{is_gap, is_word, is_signed, is_minus, digits_of, word_end, word_at, numeral_of, met, number_at, past_gaps}
use Rattle.laws.proofs.Basics.{by_cases}
use Rattle.laws.proofs.Tests.{said_no, said-yes}
use Rattle.numerals.specs.declared.Digits.{Digits}
use Rattle.numerals.specs.Numbers.{Within, AtGap, Stops, is_whole}
use Rattle.numerals.proofs.Runs.{gap_word, not_last, word_byte, whole_is, whole_says}

-- ---- the word that begins at a place

module _ (t : List ℕ) (at : ℕ) (w : Within t at) (here : is_gap (get_or t at 0) ≡ false) where
  abbrev byte : ℕ
  byte = get_or t at 0

  abbrev from : ℕ
  from = cond (eqb byte 45) (at + 1) at

  on : word_end t (at + 1) ≡ word_end t at
  on = past_more is_word t at w.inside (gap_word byte here)

  long : at < word_end t at
  long = omega (arith, on, past_ge is_word t (at + 1))

  sign : is_minus (word_at t at) ≡ eqb byte 45
  sign = let same : at + 0 ≡ at = omega arith in ap (λ (b : ℕ). eqb b 45) (word_byte t at 0 (omega (arith, long)) ∙ ap (λ (k : ℕ). get_or t k 0) same)

  rest : drop 1 (word_at t at) ≡ word_at t (at + 1)
  rest =
      let n : word_end t at - at ≡ suc (word_end t at - suc at) = omega (arith, long) in
      let last : take (word_end t at - suc at) (drop (suc at) t) ≡ word_at t (at + 1) = rw (on, add-one at) refl in
      ap (λ (xs : List ℕ). drop 1 (take (word_end t at - at) xs)) (drop-cons t at 0 w.inside)
      ∙ ap (λ (k : ℕ). drop 1 (take k (byte ∷ drop (suc at) t))) n
      ∙ last

  digits_are : digits_of (word_at t at) ≡ word_at t from
  digits_are = by_cases (eqb byte 45) (λ e. rw (sign, e) rest) (λ e. rw (sign, e) refl)

  ends_there : word_end t at ≡ word_end t from
  ends_there = by_cases (eqb byte 45) (λ e. rw e (sym on)) (λ e. rw e refl)

  pub from-within : Within t from
  from-within =
      by_cases (eqb byte 45)
      (λ e. rw e (record { closed = w.closed; short = w.short; inside = not_last t at w.closed w.inside (λ q. omega (arith, eqb-true byte 45 e)) }))
      (λ e. rw e w)

  -- what was read of its digits
  module _ (d : Digits) (s : Stops t from (from + 11) d.end d.number) (n : ℕ) where
    judged : is_signed (word_at t at) ≡ is_whole t from d (eqb byte 45)
    unfolding is_signed
    judged =
        (λ i. is_number (digits_are i) && not (sign i && eqb (value_of_digits (digits_are i)) 0)) ∙ sym (whole_is t from from-within d.end d.number s (eqb byte 45))

    pub no_number : is_whole t from d (eqb byte 45) ≡ false → Bad n ≡ numeral_of (word_at t at) n
    unfolding numeral_of
    no_number h = sym (rw (judged ∙ h) refl)

    module _ (h : is_whole t from d (eqb byte 45) ≡ true) where
      pub a-number : Number (record { negated = eqb byte 45; number = d.number; line = n }) ≡ numeral_of (word_at t at) n
      unfolding numeral_of
      a-number =
          let value = (whole_says t from from-within d.end d.number s (eqb byte 45) h).0 in
          sym (rw (judged ∙ h) (λ i. Number (record { negated = sign i; number = (ap value_of_digits digits_are ∙ sym value) i; line = n })))

      pub number-ends : d.end ≡ word_end t at
      number-ends = sym (ends_there ∙ (whole_says t from from-within d.end d.number s (eqb byte 45) h).1)

-- ---- what is met

module _ (t : List ℕ) (c : Cursor) {s : Cursor} (q : s ≡ past_gaps t c) where
  -- past the gaps stands none
  pub no_gap : s.at < length t → is_gap (get_or t s.at 0) ≡ false
  unfolding past_gaps
  no_gap h = let e = ap (λ (x : Cursor). x.at) q in rw e (past-halts is_gap t c.at (rw e at h))

  pub met-end : length t ≤ s.at → record { numeral = End; next = s } ≡ number_at t c
  unfolding number_at met
  met-end h = sym (rw (sym q, le-leb (length t) s.at h) refl)

  pub met-word : s.at < length t → {e : ℕ} {k : Numeral} → e ≡ word_end t s.at → k ≡ numeral_of (word_at t s.at) s.line
      → record { numeral = k; next = cursor_at e s.line } ≡ number_at t c
  unfolding number_at met
  met-word h {e} {k} p o = sym (rw (sym q, lt-leb (length t) s.at h) (rw (o, p) refl))

  -- ---- put together from what the calls gave, as they gave it

  module _ (g : AtGap t c) (there : s.at < length t) {from' : ℕ} (f : from' ≡ cond (eqb (get_or t s.at 0) 45) (s.at + 1) s.at) where
    word-within : Within t s.at
    word-within = record { closed = g.place.closed; short = g.place.short; inside = there }

    pub digits-can : Within t from'
    digits-can = rw f (from-within t s.at word-within (no_gap there))

    -- d was read of the digits, and a was answered to whether they are a number
    module _ (d : Digits) (r : Stops t from' (from' + 11) d.end d.number) {a : Bool} (asked : a ≡ is_whole t from' d (eqb (get_or t s.at 0) 45)) where
      pub bad-met : not a ≡ true → {e : ℕ} → e ≡ word_end t s.at → record { numeral = Bad s.line; next = cursor_at e s.line } ≡ number_at t c
      bad-met h e = met-word there e (no_number t s.at word-within (no_gap there) d (rw f at r) s.line (said_no h (rw f at asked)))

      pub number-met : not a ≡ false
          → record { numeral = Number (record { negated = eqb (get_or t s.at 0) 45; number = d.number; line = s.line }); next = cursor_at d.end s.line } ≡ number_at t c
      number-met h =
          let yes = said-yes h (rw f at asked) in
          met-word there (number-ends t s.at word-within (no_gap there) d (rw f at r) s.line yes)
          (a-number t s.at word-within (no_gap there) d (rw f at r) s.line yes)
