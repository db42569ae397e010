-- A clause scanned literal by literal: its true literals counted, and their terms xored. Assumes nothing.
use mathlib.Core.Path.{◌≡◌, refl, ap, ◌∙◌, sym}
use mathlib.Core.List.{List}
use Prim.Native.Nat.{ℕ, suc, ◌+◌, ◌<◌, ◌≤◌}
use native.Mathlib.Numerals.{add-one}
use native.Mathlib.Omega.{arith}
use lib.ListN.{length, get_or, drop, drop_of_length-le}
use lib.Seq.{drop-cons}
use lib.Bits.{bit_xor, xor_zero_r}
use Rattle.written.specs.Lists.{total}
use Rattle.written.specs.Agreement.{part_of}
use Rattle.laws.proofs.Sums.{total-most}
use Rattle.machine.specs.Literals.{value_in, term_if, xor_true}
use Rattle.machine.specs.Moving.{View, count_at, xor_at}
use Rattle.machine.proofs.Xor.{xor_assoc}

module _ (val : ℕ → ℕ) (ls : List ℕ) (i x : ℕ) where
  pub xor_more : {y : ℕ} → i < length ls → y ≡ term_if val (get_or ls i 0) → bit_xor x (xor_true val (drop i ls)) ≡ xor_true val ls
      → bit_xor (bit_xor x y) (xor_true val (drop (i + 1) ls)) ≡ xor_true val ls
  unfolding xor_true
  xor_more {y} h e p = rw (add-one, e) (xor_assoc x (term_if val (get_or ls i 0)) (xor_true val (drop (suc i) ls)) ∙ (rw (drop-cons ls i 0 h) at p))

  pub xor_done : length ls ≤ i → bit_xor x (xor_true val (drop i ls)) ≡ xor_true val ls → x ≡ xor_true val ls
  unfolding xor_true
  xor_done h p = sym (xor_zero_r x) ∙ (rw (drop_of_length-le ls h) at p)

module _ (val : ℕ → ℕ) (ls : List ℕ) (i k : ℕ) where
  pub count-more : {y : ℕ} → i < length ls → y ≡ val (get_or ls i 0) → k + total val (drop i ls) ≡ total val ls
      → k + y + total val (drop (i + 1) ls) ≡ total val ls
  count-more {y} h e p = rw (add-one, e) (let q : k + (val (get_or ls i 0) + total val (drop (suc i) ls)) ≡ total val ls = rw (drop-cons ls i 0 h) at p in omega arith)

  pub count-done : length ls ≤ i → k + total val (drop i ls) ≡ total val ls → k ≡ total val ls
  count-done h p = let q : k + 0 ≡ total val ls = rw (drop_of_length-le ls h) at p in omega arith

pub value_low : (ws : List ℕ) (l : ℕ) {y : ℕ} → y ≡ value_in ws l → y ≤ 1
unfolding value_in
value_low ws l e = omega arith

-- a clause that was read
module _ (f : View) (c : ℕ) {ls : List ℕ} (e : ls ≡ part_of f.starts f.literals c) where
  pub is-count : {k : ℕ} → k ≡ total (value_in f.words) ls → k ≡ count_at f c
  unfolding count_at
  is-count q = q ∙ ap (total (value_in f.words)) e

  pub is_xor : {w : ℕ} → w ≡ xor_true (value_in f.words) ls → w ≡ xor_at f c
  unfolding xor_at
  is_xor q = q ∙ ap (xor_true (value_in f.words)) e

  pub count_fits : {k top : ℕ} → k ≡ total (value_in f.words) ls → length (part_of f.starts f.literals c) < top → k < top
  count_fits q h = omega (arith, q, h, ap length e, total-most (value_in f.words) (λ l. value_low f.words l refl) ls)
