-- A start: the values that the draws give are those of the words filled. Assumes nothing.
use Prim.Native.Nat.{ℕ, zero, suc, ◌+◌, ◌-◌, ◌*◌, ◌/◌, ◌%◌, ◌^◌, ◌≤◌, ◌<◌, min}
use mathlib.Core.Path.{◌≡◌, refl, ap, sym, ◌∙◌}
use mathlib.Core.List.{List}
use native.Mathlib.Omega.{arith}
use native.Mathlib.Nat.{mod-lt, lt_of_lt_of_le}
use lib.ListN.{length, get_or, drop, get_or-eq_default, get_or-append}
use lib.Seq.{ext_get_or, get_or-set_same, get_or-set_other}
use lib.Pow.{pow_mono, pow_pos}
use Rattle.draw.specs.Xorshift.{next_of}
use Rattle.words.specs.Words.{bit_of, bit_at, keep_low, put_at, filled, state_after, word_count}
use Rattle.words.proofs.Ext.{bit_at_lem, bits_ext}
use Rattle.words.proofs.Laws.{filled-length, filled-term, filled-past}
use Rattle.written.specs.Tables.{words_of, over}
use Rattle.written.specs.Drawing.{draws, start_values}
use Rattle.laws.specs.Valid.{Bits}
use Rattle.laws.proofs.Basics.{by-eq, by-lt}
use Rattle.laws.proofs.Lists.{list_from-length, get_or-list_of, over-length}
use Rattle.laws.proofs.Padding.{over-past}
use Rattle.laws.proofs.Values.{words-length, words-lt, words_bit, values-bits}

-- ---- draws one after another

-- a draw first, then k more
pub state-first : (y k : ℕ) → state_after (next_of y) k ≡ state_after y (suc k)
unfolding state_after
state-first y zero = refl
state-first y (suc k) = ap next_of (state-first y k)

-- draw i of k, counted from 0, is the state after it
pub draws-at : (k y i : ℕ) → i < k → get_or (draws k y) i 0 ≡ state_after y (i + 1)
unfolding draws state_after
draws-at zero y i h = absurd (omega arith)
draws-at (suc k) y zero h = refl
draws-at (suc k) y (suc i) h = draws-at k (next_of y) i (omega arith) ∙ state-first y (i + 1) ∙ ap (state_after y) {x = suc (i + 1)} {y = suc i + 1} (omega arith)

-- ---- the values of a start

pub start-length : (n y : ℕ) → length (start_values n y) ≡ n
unfolding start_values
start-length n y = list_from-length 0 n _

-- term t takes digit t % 32 of draw t / 32
pub start-at : (n y t : ℕ) → t < n → get_or (start_values n y) t 0 ≡ bit_of (state_after y (t / 32 + 1)) (t % 32)
unfolding start_values bit_at word_count
start-at n y t h =
    get_or-list_of n t (bit_at (draws (word_count n) y)) 0 h ∙ ap (λ (w : ℕ). bit_of w (t % 32)) (draws-at (word_count n) y (t / 32) (omega arith))

pub start-bits : (n y : ℕ) → Bits (start_values n y)
unfolding start_values
start-bits n y = values-bits n (draws (word_count n) y)

-- ---- the words of a start

-- the words that are drawn are of 32 bits, and the others stay
filled-lt : (ws : List ℕ) (n y k j : ℕ) → k ≤ length ws → j < k → get_or (filled ws n y k) j 0 < 2 ^ 32
unfolding filled put_at keep_low
filled-lt ws n y zero j l h = absurd (omega arith)
filled-lt ws n y (suc k) j l h =
    let w : ℕ = keep_low (n - 32 * k) (state_after y (suc k)) in
    by-eq j k
    (λ e. rw (e, get_or-set_same (filled ws n y k) k w 0 (omega (arith, filled-length ws n y k)))
    (lt_of_lt_of_le (mod-lt (state_after y (suc k)) (pow_pos (min (n - 32 * k) 32))) (pow_mono {j = 32} (omega arith))))
    (λ d. rw (get_or-set_other (filled ws n y k) k j w 0 d) (filled-lt ws n y k j (omega arith) (omega arith)))

filled-rest : (ws : List ℕ) (n y k j : ℕ) → k ≤ j → get_or (filled ws n y k) j 0 ≡ get_or ws j 0
unfolding filled put_at
filled-rest ws n y zero j h = refl
filled-rest ws n y (suc k) j h = get_or-set_other (filled ws n y k) k j _ 0 (λ e. omega arith) ∙ filled-rest ws n y k j (omega arith)

-- every term has its value of the start, and 0 past the last
filled-value : (ws : List ℕ) (n y t : ℕ) → word_count n ≤ length ws → t / 32 < word_count n → bit_at (filled ws n y (word_count n)) t ≡ get_or (start_values n y) t 0
filled-value ws n y t l h =
    by-lt t n (λ p. filled-term ws n y (word_count n) t l h p ∙ sym (start-at n y t p))
    (λ p. filled-past ws n y (word_count n) t l h p ∙ sym (get_or-eq_default (start_values n y) 0 {n = t} (omega (arith, start-length n y))))

filled-word : (ws : List ℕ) (n y k : ℕ) → word_count n ≤ length ws → k < word_count n
    → get_or (filled ws n y (word_count n)) k 0 ≡ get_or (words_of (start_values n y)) k 0
filled-word ws n y k l h =
    bits_ext 32 _ _ (filled-lt ws n y (word_count n) k l h) (words-lt (start_values n y) k (start-bits n y))
    (λ j p. sym (bit_at_lem (filled ws n y (word_count n)) k j p) ∙ filled-value ws n y (32 * k + j) l (omega arith)
    ∙ sym (words_bit (start_values n y) (32 * k + j) (start-bits n y)) ∙ bit_at_lem (words_of (start_values n y)) k j p)

-- words filled by draws hold the values of the start, and past them what stood there
pub filled-start : (ws : List ℕ) (n y : ℕ) → word_count n ≤ length ws → filled ws n y (word_count n) ≡ over (words_of (start_values n y)) ws
filled-start ws n y l =
    let new : List ℕ = words_of (start_values n y) in
    let many : length new ≡ word_count n = words-length (start_values n y) ∙ ap word_count (start-length n y) in
    ext_get_or 0 (filled ws n y (word_count n)) (over new ws) (filled-length ws n y (word_count n) ∙ sym (over-length new ws (omega arith)))
    (λ k p. by-lt k (length new)
    (λ q. filled-word ws n y k l (omega arith) ∙ sym (get_or-append new (drop (length new) ws) 0 k q))
    (λ q. filled-rest ws n y (word_count n) k (omega arith) ∙ sym (over-past new ws k q)))
