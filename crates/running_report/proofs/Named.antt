-- The terms of an answer, one after another. Assumes nothing.
use Prim.Native.Nat.{ℕ, suc, ◌+◌, ◌≤◌, ◌<◌}
use mathlib.Core.Path.{◌≡◌, ap, ap₂, ◌∙◌}
use mathlib.Core.List.{List, [], ◌∷◌, ◌++◌}
use native.Mathlib.Numerals.{add-one}
use native.Mathlib.Omega.{arith}
use lib.ListN.{length, get_or, take, drop, length-take, drop_of_length-le}
use lib.Seq.{drop-cons, get_or-take}
use Rattle.words.specs.Words.{bit_at}
use Rattle.written.specs.Lists.{list_of}
use Rattle.written.specs.Printed.{signed, spaced, answer}
use Rattle.laws.proofs.Lists.{list_from-length, get_or-list_of}
use Rattle.running_report.specs.Reporting.{answer_in}

-- those from t on, of n
abbrev pub terms_from : ℕ → List ℕ → List ℕ → ℕ → List ℕ
terms_from n names words t = spaced (drop t (take n names)) (drop t (list_of n (bit_at words)))

module _ (n : ℕ) (names words : List ℕ) (t : ℕ) where
  pub terms-over : n ≤ t → terms_from n names words t ≡ []
  unfolding spaced
  terms-over h = let few : length (take n names) ≤ t = omega (arith, length-take n names) in rw (drop_of_length-le (take n names) few)

  pub terms-more : (v : ℕ) → n ≤ length names → t < n → v ≡ bit_at words t
      → terms_from n names words t ≡ (32 ∷ []) ++ (signed v (get_or names t 0) ++ terms_from n names words (t + 1))
  unfolding spaced
  terms-more v named h e =
      let x = drop-cons (take n names) t 0 (omega (arith, length-take n names)) ∙ ap (λ (y : ℕ). y ∷ drop (suc t) (take n names)) (get_or-take n names t 0 h) in
      let w = drop-cons (list_of n (bit_at words)) t 0 (omega (arith, list_from-length 0 n (bit_at words)))
      ∙ ap (λ (y : ℕ). y ∷ drop (suc t) (list_of n (bit_at words))) (get_or-list_of n t (bit_at words) 0 h) in
      rw (add-one, e) (ap₂ {C = List ℕ} spaced x w)

module _ (n : ℕ) (names words : List ℕ) where
  pub answer-none : n ≡ 0 → answer_in n names words ≡ []
  unfolding answer_in answer
  answer-none e = ap (drop 1) (terms-over n names words 0 (omega arith))

  -- the first has no space before it
  pub answer-more : (v : ℕ) → n ≤ length names → (n ≡ 0 → ⊥) → v ≡ bit_at words 0 → answer_in n names words ≡ signed v (get_or names 0 0) ++ terms_from n names words 1
  unfolding answer_in answer
  answer-more v named some e = ap (drop 1) (terms-more n names words 0 v named (omega (arith, some)) e)
