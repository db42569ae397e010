-- Value words worked out: one table under one statement, which antt computes. Assumes nothing.
use Rattle.std.specs.Prelude.{ℕ, ◌≡◌, refl, List, [], ◌∷◌, map, drop, replicate}
use Rattle.draw.specs.Xorshift.{left_step, right_step, next_of}
use Rattle.words.specs.Words.{bit_of, bit_at, turn_at, keep_low, put_at, trues, state_after, filled, word_count}

pub record Example : Type 0 where
  pub asked : List ℕ
  pub told : List ℕ

infix 20 ◌tells◌
abbrev pub ◌tells◌ : List ℕ → List ℕ → Example
◌tells◌ a b = record { asked = a; told = b }

-- a number alone
abbrev pub one : ℕ → List ℕ
one n = n ∷ []

abbrev pub table : List Example
table =
    -- two terms drawn from the seed 1: the values 1 and 0, as 270369 is odd and its next digit is 0
    (filled (0 ∷ 0 ∷ []) 2 1 (word_count 2) tells (1 ∷ 0 ∷ []))
    -- forty terms: a whole word, and eight digits of the next
    ∷ (filled (0 ∷ 0 ∷ 0 ∷ []) 40 1 (word_count 40) tells (270369 ∷ 1 ∷ 0 ∷ []))
    ∷ (one (trues (270369 ∷ 1 ∷ 0 ∷ []) 40) tells one 5)
    -- terms turned
    ∷ (turn_at (1 ∷ 0 ∷ []) 1 tells (3 ∷ 0 ∷ []))
    ∷ (turn_at (3 ∷ 0 ∷ []) 33 tells (3 ∷ 2 ∷ []))
    ∷ (one (bit_at (3 ∷ 2 ∷ []) 33) tells one 1)
    -- past the words
    ∷ (one (bit_at (3 ∷ 2 ∷ []) 64) tells one 0)
    ∷ (turn_at (3 ∷ 2 ∷ []) 64 tells (3 ∷ 2 ∷ []))
    ∷ (put_at (3 ∷ 2 ∷ []) 96 2 7 tells (3 ∷ 2 ∷ []))
    ∷ (one (trues (3 ∷ 2 ∷ []) 96) tells one 3)
    -- past the terms
    ∷ (put_at (3 ∷ 2 ∷ []) 33 1 7 tells (3 ∷ 1 ∷ []))
    ∷ (put_at (3 ∷ 2 ∷ []) 32 1 7 tells (3 ∷ 0 ∷ []))
    -- 2,048 terms: the last two of 64 words
    ∷ (drop 62 (filled (replicate 64 0) 2048 1 (word_count 2048)) tells (703511808 ∷ 932611783 ∷ []))
    -- 256 terms of 8 words
    ∷ (one (trues (filled (replicate 8 0) 256 1 (word_count 256)) 256) tells one 105)
    ∷ (one (state_after 1 1000) tells one 269958183)
    ∷ []

pub shown : map (λ e. e.asked) table ≡ map (λ e. e.told) table
unfolding bit_of bit_at turn_at keep_low put_at trues state_after filled word_count next_of left_step right_step
shown = refl
