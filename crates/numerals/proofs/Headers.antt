-- A header judged part by part: each way through its tests, by what the calls gave. Assumes nothing.
use Prim.Native.Nat.{ℕ, suc, ◌+◌, ◌-◌, ◌≤◌, ◌<◌}
use mathlib.Core.Path.{◌≡◌, refl, ap, sym, ◌∙◌}
use mathlib.Core.Bool.{true, false}
use mathlib.Core.List.{List}
use native.Mathlib.Omega.{arith}
use native.Mathlib.Numerals.{add-one}
use borrow.Author.Tests.{le-ltb, lt-ltb, eq-eqb, ne_eqb}
use lib.ListN.{length, get_or, take, drop, drop_of_length-le, get_or-eq_default}
use Rattle.std.proofs.Common.{Option, Some, None}
use Rattle.scan.specs.Scan.{past}
use Rattle.scan.specs.Text.{bytes}
use Rattle.scan.proofs.Laws.{past_end, past_ge, past-le}
use Rattle.written.specs.Sheet.{is_number, value_of_digits, begins}
use Rattle.digits.proofs.Keys.{from_place}
use Rattle.written.specs.Numerals.{is_blank, is_word, word_end, word_at, sizes_at, header_at}
use Rattle.written.specs.declared.Header.{Header}

-- a part of the text, as it is lent
abbrev part : List ℕ → ℕ → ℕ → List ℕ
part t a b = take (b - a) (drop a t)

-- a word ends at its place or past it, within the text
pub word-from : (t : List ℕ) (v : ℕ) {e : ℕ} → e ≡ word_end t v → v ≤ e
word-from t v q = omega (arith, q, past_ge is_word t v)

pub word-within : (t : List ℕ) (v : ℕ) {e : ℕ} → e ≡ word_end t v → v ≤ length t → e ≤ length t
word-within t v q h = omega (arith, q, past-le is_word t v h)

pub blank-within : (t : List ℕ) (e : ℕ) {c : ℕ} → c ≡ past is_blank t e → e ≤ length t → c ≤ length t
blank-within t e p h = omega (arith, p, past-le is_blank t e h)

-- ---- the two numbers

no_word : (t : List ℕ) (v : ℕ) → length t ≤ v → is_number (word_at t v) ≡ false
unfolding is_number
no_word t v h =
    let none : word_end t v - v ≡ 0 = omega (arith, past_end is_word t v h) in
    ap (λ (k : ℕ). is_number (take k (drop v t))) none

pub sizes-none : (t : List ℕ) (v : ℕ) → length t ≤ v → None ≡ sizes_at t v
unfolding sizes_at
sizes-none t v h = sym (rw (no_word t v h) refl)

module _ (t : List ℕ) (v : ℕ) {e : ℕ} (q : e ≡ word_end t v) where
  pub first-none : is_number (part t v e) ≡ false → None ≡ sizes_at t v
  unfolding sizes_at
  first-none h = sym (rw (rw q at h) refl)

  module _ (h : is_number (part t v e) ≡ true) {c : ℕ} (p : c ≡ past is_blank t e) where
    between : c ≡ past is_blank t (word_end t v)
    between = p ∙ ap (past is_blank t) q

    pub no_blank : c ≤ e → None ≡ sizes_at t v
    unfolding sizes_at
    no_blank l = sym (rw (rw q at h, le-ltb (word_end t v) (past is_blank t (word_end t v)) (omega (arith, q, between))) refl)

    module _ (l : e < c) {d : ℕ} (o : d ≡ word_end t c) where
      apart : past is_blank t (word_end t v) ≡ c
      apart = sym between

      some : is_number (word_at t v) ≡ true
      some = rw q at h

      pub second_none : is_number (part t c d) ≡ false → None ≡ sizes_at t v
      unfolding sizes_at
      second_none g = sym (rw (some, apart, lt-ltb (word_end t v) c (omega (arith, q)), rw o at g) refl)

      module _ (g : is_number (part t c d) ≡ true) where
        other : is_number (word_at t c) ≡ true
        other = rw o at g

        pub more-after : (get_or t d 0 ≡ 10 → ⊥) → None ≡ sizes_at t v
        unfolding sizes_at
        more-after n = sym (rw (some, apart, lt-ltb (word_end t v) c (omega (arith, q)), other, ap (λ (k : ℕ). get_or t k 0) (sym o), ne_eqb (get_or t d 0) 10 n) refl)

        pub text-ends : length t ≤ d → None ≡ sizes_at t v
        text-ends n = more-after (λ e. omega (arith, get_or-eq_default t 0 {n = d} n))

        pub says_both : get_or t d 0 ≡ 10 → {m k : ℕ} → m ≡ value_of_digits (part t v e) → k ≡ value_of_digits (part t c d)
            → Some (record { variables = m; clauses = k; end = d }) ≡ sizes_at t v
        unfolding sizes_at
        says_both n a b =
            sym (rw (some, apart, lt-ltb (word_end t v) c (omega (arith, q)), other, sym o, eq-eqb (get_or t d 0) 10 n) (rw (a, b, sym q) refl))

-- ---- p, cnf, and the blanks after each

-- the text from a place on, as it is lent
abbrev lent_from : List ℕ → ℕ → List ℕ
lent_from t at = take (length t - at) (drop at t)

module _ (t : List ℕ) (at : ℕ) where
  pub no_line : length t ≤ at → None ≡ header_at t at
  unfolding header_at
  no_line h = sym (rw (drop_of_length-le t h) refl)

  pub no_p : begins (bytes "p") (lent_from t at) ≡ false → None ≡ header_at t at
  unfolding header_at
  no_p h = sym (rw (rw (from_place at t) at h) refl)

  module _ (h : begins (bytes "p") (lent_from t at) ≡ true) {k : ℕ} (q : k ≡ past is_blank t (at + 1)) where
    p-stands : begins (bytes "p") (drop at t) ≡ true
    p-stands = rw (from_place at t) at h

    here : past is_blank t (suc at) ≡ k
    here = sym (q ∙ ap (past is_blank t) (add-one at))

    pub no_blank-after-p : k ≤ at + 1 → None ≡ header_at t at
    unfolding header_at
    no_blank-after-p l = sym (rw (p-stands, here, le-ltb (suc at) k (omega arith)) refl)

    module _ (l : at + 1 < k) where
      pub no_cnf : begins (bytes "cnf") (lent_from t k) ≡ false → None ≡ header_at t at
      unfolding header_at
      no_cnf g = sym (rw (p-stands, here, lt-ltb (suc at) k (omega arith), rw (from_place k t) at g) refl)

      module _ (g : begins (bytes "cnf") (lent_from t k) ≡ true) {v : ℕ} (p : v ≡ past is_blank t (k + 3)) where
        cnf-stands : begins (bytes "cnf") (drop k t) ≡ true
        cnf-stands = rw (from_place k t) at g

        pub no_blank-after-cnf : v ≤ k + 3 → None ≡ header_at t at
        unfolding header_at
        no_blank-after-cnf m =
            sym (rw (p-stands, here, lt-ltb (suc at) k (omega arith), cnf-stands, le-ltb (k + 3) (past is_blank t (k + 3)) (omega (arith, p))) refl)

        pub keys_stand : k + 3 < v → {r : Option Header} → r ≡ sizes_at t v → r ≡ header_at t at
        unfolding header_at
        keys_stand m e =
            e
            ∙ sym (rw (p-stands, here, lt-ltb (suc at) k (omega arith), cnf-stands, lt-ltb (k + 3) (past is_blank t (k + 3)) (omega (arith, p))) (ap (sizes_at t) (sym p)))
