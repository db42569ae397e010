-- The numbers of a line, one after another, and the lines. Assumes nothing.
use Prim.Native.Nat.{ℕ, zero, suc, ◌+◌, ◌-◌, ◌*◌, ◌≤◌, ◌<◌}
use mathlib.Core.Path.{◌≡◌, refl, ap, ap₂, sym, ◌∙◌}
use mathlib.Core.List.{List, [], ◌∷◌, ◌++◌, flatten}
use native.Mathlib.Numerals.{add-one}
use native.Mathlib.Omega.{arith}
use lib.ListN.{take, drop}
use lib.Seq.{take_all}
use borrow.Author.Tests.{lt-ltb, le-ltb}
use Rattle.words.specs.Words.{bit_at}
use Rattle.written.specs.Lists.{list_from, list_of}
use Rattle.written.specs.Printed.{line}
use Rattle.written.specs.Competition.{signed_number, values_from, value_line, lines_for}
use Rattle.laws.proofs.Basics.{by-lt}
use Rattle.laws.proofs.Lists.{list_from-length}
use Rattle.running_values.specs.Valuing.{values_in, line_in, line_end}

module _ (to : ℕ) (words : List ℕ) (t : ℕ) where
  pub values-over : to ≤ t → values_in t to words ≡ []
  unfolding values_from
  values-over h = let none : to - t ≡ 0 = omega arith in rw none refl

  pub values-more : (v : ℕ) → t < to → v ≡ bit_at words t → values_in t to words ≡ (32 ∷ []) ++ (signed_number v (t + 1) ++ values_in (t + 1) to words)
  unfolding values_from
  values-more v h e = let some : to - t ≡ suc (to - suc t) = omega arith in rw (add-one, e, some) refl

-- ---- a part of a list that is made of numbers

drop-list : {A : Type 0} (k j n : ℕ) (f : ℕ → A) → drop k (list_from j n f) ≡ list_from (j + k) (n - k) f
drop-list zero j n f = let a : j + 0 ≡ j = omega arith in let b : n - 0 ≡ n = omega arith in rw (a, b) refl
drop-list (suc k) j zero f = let a : 0 - suc k ≡ 0 = omega arith in rw a refl
drop-list (suc k) j (suc n) f =
    let a : suc j + k ≡ j + suc k = omega arith in
    let b : n - k ≡ suc n - suc k = omega arith in
    drop-list k (suc j) n f ∙ ap₂ {C = List _} (λ i m. list_from i m f) a b

take-list : {A : Type 0} (m j n : ℕ) (f : ℕ → A) → m ≤ n → take m (list_from j n f) ≡ list_from j m f
take-list zero j n f h = refl
take-list (suc m) j zero f h = absurd (omega arith)
take-list (suc m) j (suc n) f h = ap (λ (xs : List _). f j ∷ xs) (take-list m (suc j) n f (omega arith))

-- the ten from k on, or those that there are
ten-list : {A : Type 0} (n k to : ℕ) (f : ℕ → A) → to ≡ line_end k n → take 10 (drop k (list_of n f)) ≡ list_from k (to - k) f
ten-list n k to f e =
    let here : 0 + k ≡ k = omega arith in
    ap (take 10) (drop-list k 0 n f ∙ ap (λ (i : ℕ). list_from i (n - k) f) here)
    ∙ by-lt (n - k) 10
    (λ few.
    let all : n - k ≡ to - k = ap (λ (m : ℕ). m - k) (sym (e ∙ rw (lt-ltb (n - k) 10 few) refl)) in
    take_all 10 (list_from k (n - k) f) (omega (arith, list_from-length k (n - k) f)) ∙ ap (λ (m : ℕ). list_from k m f) all)
    (λ many.
    let end : to ≡ k + 10 = e ∙ rw (le-ltb (n - k) 10 many) refl in
    let ten : 10 ≡ to - k = omega arith in
    take-list 10 k (n - k) f many ∙ ap (λ (m : ℕ). list_from k m f) ten)

-- ---- the lines

-- those from line i on, of n terms
abbrev pub lines_from : ℕ → List ℕ → ℕ → List ℕ
lines_from n words i = flatten (list_from i (lines_for n - i) (value_line (list_of n (bit_at words))))

module _ (n : ℕ) (words : List ℕ) (i : ℕ) where
  -- the line is that of its ten terms
  line-is : (to : ℕ) → to ≡ line_end (10 * i) n → value_line (list_of n (bit_at words)) i ≡ line_in (10 * i) to words
  unfolding value_line line_in
  line-is to e = ap (λ (vs : List ℕ). line "v" (values_from (suc (10 * i)) vs)) (ten-list n (10 * i) to (bit_at words) e)

  pub lines-over : lines_for n ≤ i → lines_from n words i ≡ []
  unfolding flatten
  lines-over h = let none : lines_for n - i ≡ 0 = omega arith in rw none refl

  pub lines_more : (to : ℕ) → i < lines_for n → to ≡ line_end (10 * i) n → lines_from n words i ≡ line_in (10 * i) to words ++ lines_from n words (i + 1)
  unfolding flatten
  lines_more to h e = let some : lines_for n - i ≡ suc (lines_for n - suc i) = omega arith in rw (add-one, some) (ap (λ (l : List ℕ). l ++ lines_from n words (suc i)) (line-is to e))
