-- Values as a list and as words of 32 bits: each is had back from the other. Assumes nothing.
use Prim.Native.Nat.{ℕ, zero, suc, ◌+◌, ◌-◌, ◌*◌, ◌/◌, ◌%◌, ◌^◌, ◌≤◌, ◌<◌}
use mathlib.Core.Path.{◌≡◌, refl, ap, ap₂, sym, ◌∙◌}
use mathlib.Core.List.{List, [], ◌∷◌, ◌++◌, append_assoc}
use native.Mathlib.Omega.{arith}
use native.Mathlib.Nat.{pow-suc, lt_of_lt_of_le}
use lib.ListN.{length, get_or, set, take, drop, length-append, length-take, drop_of_length-le, get_or-eq_default, get_or-append}
use lib.Seq.{get_or-take, get_or-drop, take-length, get_or-set_same, get_or-set_other, set-append_left}
use lib.Pow.{pow_mono, pow-lt}
use lib.Dec.{ltb}
use lib.Bits.{bit_xor, xor_lt}
use borrow.Author.Tests.{ltb-true, lt-ltb}
use Rattle.words.specs.Words.{bit_of, bit_at, turn_at, trues, word_count}
use Rattle.words.proofs.Ext.{half_bit, low_bit, words_ext}
use Rattle.words.proofs.Laws.{bit_lt, bit_cleared, turn-length, turn-same, turn-other, trues-past}
use Rattle.written.specs.Lists.{total, list_of, zeros, padded}
use Rattle.written.specs.Clauses.{State}
use Rattle.written.specs.Tables.{word_of, words_of, over}
use Rattle.written.specs.Flips.{turned}
use Rattle.written.specs.Printed.{chosen}
use Rattle.laws.specs.Valid.{Bits}
use Rattle.laws.proofs.Basics.{by-eq, by-lt, both_first, both-second}
use Rattle.laws.proofs.Lists.{list_from-length, list_of-is, get_or-list_of}
use Rattle.laws.proofs.Sums.{total-next}
use Rattle.laws.proofs.All.{all_take, all_drop, all-list_from}
use Rattle.laws.proofs.Padding.{get_or-zeros}
use Rattle.laws.proofs.Turning.{turned-length, turned-bits, turned_same, turned-other}

-- ---- one word

pub word_lt : (bs : List ℕ) → Bits bs → word_of bs < 2 ^ length bs
unfolding word_of
word_lt [] h = omega arith
word_lt (b ∷ bs) h =
    let w = word_lt bs (both-second (ltb b 2) _ h) in
    let l = ltb-true b 2 (both_first (ltb b 2) _ h) in
    omega (arith, pow-suc 2 (length bs))

-- digit j of a word is entry j of its bits
pub word_bit : (bs : List ℕ) (j : ℕ) → Bits bs → bit_of (word_of bs) j ≡ get_or bs j 0
unfolding word_of bit_of
word_bit [] j h = bit_cleared 0 0 j (omega arith)
word_bit (b ∷ bs) zero h = low_bit (word_of (b ∷ bs)) ∙ (let l = ltb-true b 2 (both_first (ltb b 2) _ h) in omega arith)
word_bit (b ∷ bs) (suc j) h =
    let l = ltb-true b 2 (both_first (ltb b 2) _ h) in
    let e : word_of (b ∷ bs) / 2 ≡ word_of bs = omega arith in
    sym (half_bit (word_of (b ∷ bs)) j) ∙ ap (λ (w : ℕ). bit_of w j) e ∙ word_bit bs j (both-second (ltb b 2) _ h)

-- ---- the words

pub words-length : (vs : List ℕ) → length (words_of vs) ≡ word_count (length vs)
unfolding words_of
words-length vs = list_from-length 0 (word_count (length vs)) _

-- word k holds the values from 32 k on
pub word_at : (vs : List ℕ) (k : ℕ) → get_or (words_of vs) k 0 ≡ word_of (take 32 (drop (32 * k) vs))
unfolding words_of word_of word_count
word_at vs k =
    by-lt k (word_count (length vs)) (λ h. get_or-list_of (word_count (length vs)) k _ 0 h)
    (λ h. get_or-eq_default (words_of vs) 0 {n = k} (omega (arith, words-length vs)) ∙ ap (λ l. word_of (take 32 l)) (sym (drop_of_length-le vs {i = 32 * k} (omega arith))))

pub words-lt : (vs : List ℕ) (k : ℕ) → Bits vs → get_or (words_of vs) k 0 < 2 ^ 32
words-lt vs k h =
    let bs : List ℕ = take 32 (drop (32 * k) vs) in
    let few : length bs ≤ 32 = omega (arith, length-take 32 (drop (32 * k) vs)) in
    rw (word_at vs k) (lt_of_lt_of_le (word_lt bs (all_take _ 32 (drop (32 * k) vs) (all_drop _ (32 * k) vs h))) (pow_mono few))

-- term t has its value in the words, and 0 past the last term
pub words_bit : (vs : List ℕ) (t : ℕ) → Bits vs → bit_at (words_of vs) t ≡ get_or vs t 0
unfolding bit_at
words_bit vs t h =
    let k : ℕ = t / 32 in
    ap (λ (w : ℕ). bit_of w (t % 32)) (word_at vs k)
    ∙ word_bit (take 32 (drop (32 * k) vs)) (t % 32) (all_take _ 32 (drop (32 * k) vs) (all_drop _ (32 * k) vs h))
    ∙ get_or-take 32 (drop (32 * k) vs) (t % 32) 0 (omega arith)
    ∙ get_or-drop (32 * k) vs (t % 32) 0
    ∙ ap (λ (i : ℕ). get_or vs i 0) (omega arith)

pub value-at : (vs rest : List ℕ) (t : ℕ) → Bits vs → t < length vs → bit_at (words_of vs ++ rest) t ≡ get_or vs t 0
unfolding bit_at word_count
value-at vs rest t h l =
    ap (λ (w : ℕ). bit_of w (t % 32)) (get_or-append (words_of vs) rest 0 (t / 32) (omega (arith, words-length vs))) ∙ words_bit vs t h

-- the values are had back from their words
pub values-back : (vs rest : List ℕ) → Bits vs → list_of (length vs) (bit_at (words_of vs ++ rest)) ≡ vs
values-back vs rest h = list_of-is (length vs) (bit_at (words_of vs ++ rest)) vs 0 refl (λ t l. value-at vs rest t h l)

-- the values that words give are 0 and 1
pub values-bits : (n : ℕ) (ws : List ℕ) → Bits (list_of n (bit_at ws))
unfolding bit_at
values-bits n ws = all-list_from (λ v. ltb v 2) 0 n (bit_at ws) (λ t. lt-ltb (bit_at ws t) 2 (bit_lt _ _))

-- words are had back from the values of n terms, if their digits past the last term are 0
pub words_back : (ws : List ℕ) (n : ℕ) → length ws ≡ word_count n → ((k : ℕ) → get_or ws k 0 < 2 ^ 32) → ((t : ℕ) → n ≤ t → bit_at ws t ≡ 0)
    → words_of (list_of n (bit_at ws)) ≡ ws
words_back ws n many fits past =
    let vs : List ℕ = list_of n (bit_at ws) in
    let long : length vs ≡ n = list_from-length 0 n (bit_at ws) in
    words_ext (words_of vs) ws (words-length vs ∙ ap word_count long ∙ sym many) (λ k. words-lt vs k (values-bits n ws)) fits
    (λ t. words_bit vs t (values-bits n ws)
    ∙ by-lt t n (λ l. get_or-list_of n t (bit_at ws) 0 l) (λ l. get_or-eq_default vs 0 {n = t} (omega arith) ∙ sym (past t l)))

-- ---- a turned term

-- words of 32 bits stay such words
turn-fits : (ws : List ℕ) (t k : ℕ) → ((j : ℕ) → get_or ws j 0 < 2 ^ 32) → t / 32 < length ws → get_or (turn_at ws t) k 0 < 2 ^ 32
unfolding turn_at
turn-fits ws t k h l =
    let w : ℕ = bit_xor (get_or ws (t / 32) 0) (2 ^ (t % 32)) in
    by-eq k (t / 32)
    (λ e. rw (e, get_or-set_same ws (t / 32) w 0 l) (xor_lt 32 (get_or ws (t / 32) 0) (2 ^ (t % 32)) (h (t / 32)) (pow-lt {j = 32} (omega arith))))
    (λ d. rw (get_or-set_other ws (t / 32) k w 0 d) (h k))

turn-words : (vs : List ℕ) (t : ℕ) → Bits vs → t < length vs → turn_at (words_of vs) t ≡ words_of (turned t vs)
unfolding word_count
turn-words vs t h l =
    let within : t / 32 < length (words_of vs) = omega (arith, words-length vs) in
    let still = turned-bits t vs h in
    words_ext (turn_at (words_of vs) t) (words_of (turned t vs))
    (turn-length (words_of vs) t ∙ words-length vs ∙ ap word_count (sym (turned-length t vs)) ∙ sym (words-length (turned t vs)))
    (λ k. turn-fits (words_of vs) t k (λ j. words-lt vs j h) within)
    (λ k. words-lt (turned t vs) k still)
    (λ u. by-eq u t
    (λ e. rw e (turn-same (words_of vs) t within ∙ ap (λ (v : ℕ). 1 - v) (words_bit vs t h) ∙ sym (turned_same t vs l) ∙ sym (words_bit (turned t vs) t still)))
    (λ d. turn-other (words_of vs) t u within d ∙ words_bit vs u h ∙ sym (turned-other t u vs d) ∙ sym (words_bit (turned t vs) u still)))

pub turn-value : (vs rest : List ℕ) (t : ℕ) → Bits vs → t < length vs
    → turn_at (words_of vs ++ rest) t ≡ words_of (turned t vs) ++ rest
unfolding turn_at word_count
turn-value vs rest t h l =
    let within : t / 32 < length (words_of vs) = omega (arith, words-length vs) in
    ap (λ (w : ℕ). set (words_of vs ++ rest) (t / 32) (bit_xor w (2 ^ (t % 32)))) (get_or-append (words_of vs) rest 0 (t / 32) within)
    ∙ set-append_left (words_of vs) rest (t / 32) (bit_xor (get_or (words_of vs) (t / 32) 0) (2 ^ (t % 32))) within
    ∙ ap (λ (ws : List ℕ). ws ++ rest) (turn-words vs t h l)

-- so in words that are filled up and written over others
pub turn-over : (n : ℕ) (vs old : List ℕ) (t : ℕ) → Bits vs → t < length vs
    → turn_at (over (padded n (words_of vs)) old) t ≡ over (padded n (words_of (turned t vs))) old
turn-over n vs old t h l =
    let ws : List ℕ = words_of vs in
    let us : List ℕ = words_of (turned t vs) in
    let e : length ws ≡ length us = words-length vs ∙ ap word_count (sym (turned-length t vs)) ∙ sym (words-length (turned t vs)) in
    let f : length (padded n ws) ≡ length (padded n us) = length-append ws _ ∙ ap (λ (k : ℕ). k + length (zeros (n - k))) e ∙ sym (length-append us _) in
    ap (λ (xs : List ℕ). turn_at xs t) (append_assoc ws (zeros (n - length ws)) _)
    ∙ turn-value vs (zeros (n - length ws) ++ drop (length (padded n ws)) old) t h l
    ∙ sym (append_assoc us (zeros (n - length ws)) _)
    ∙ ap₂ {C = List ℕ} (λ k j. (us ++ zeros (n - k)) ++ drop j old) e f

-- ---- the true terms

-- the first n terms, summed
trues-of : (ws vs : List ℕ) (n : ℕ) → ((t : ℕ) → bit_at ws t ≡ get_or vs t 0) → n ≤ length vs → trues ws n ≡ total (λ v. v) (take n vs)
unfolding trues
trues-of ws vs zero e h = refl
trues-of ws vs (suc n) e h =
    omega (arith, trues-of ws vs n e (omega arith), e n, total-next (λ v. v) vs n 0 h)

-- the ones of the stored words, spare bits and all, are the true terms
pub trues-stored : (vs : List ℕ) (k n : ℕ) → Bits vs → length vs ≤ n → trues (words_of vs ++ zeros k) n ≡ total (λ v. v) vs
unfolding bit_at
trues-stored vs k n h l =
    let ws : List ℕ = words_of vs ++ zeros k in
    let at : (t : ℕ) → bit_at ws t ≡ get_or vs t 0 = λ t. ap (λ (w : ℕ). bit_of w (t % 32)) (get_or-zeros (words_of vs) k (t / 32)) ∙ words_bit vs t h in
    let more : n ≡ length vs + (n - length vs) = omega arith in
    ap (trues ws) more ∙ trues-past ws (length vs) (n - length vs) (λ t p. at t ∙ get_or-eq_default vs 0 {n = t} p)
    ∙ trues-of ws vs (length vs) at (omega arith) ∙ ap (total (λ v. v)) (take-length vs)

pub trues-padded : (full : ℕ) (vs : List ℕ) → Bits vs → word_count (length vs) ≤ full
    → trues (padded full (words_of vs)) (32 * full) ≡ total (λ v. v) vs
unfolding word_count
trues-padded full vs h l = trues-stored vs (full - length (words_of vs)) (32 * full) h (omega arith)

-- document 01's "chosen"
pub chosen-padded : (full : ℕ) (s : State) → Bits s.values → word_count (length s.values) ≤ full
    → trues (padded full (words_of s.values)) (32 * full) ≡ chosen s
unfolding chosen
chosen-padded full s h l = trues-padded full s.values h l
