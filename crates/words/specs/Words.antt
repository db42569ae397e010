-- The values of the terms lie in words of 32 bits, 32 terms to a word, low bit first. Assumes nothing.
use Rattle.std.specs.Prelude.{cond, List, ℕ, zero, suc, ◌+◌, ◌-◌, ◌*◌, ◌/◌, ◌%◌, ◌^◌, min, get_or, set, eqb}
use Rattle.std.specs.Int.Bits.{bit_xor}
use Rattle.draw.specs.Xorshift.{next_of}

-- digit j of the number w, counted from the lowest
unfoldable pub bit_of : ℕ → ℕ → ℕ
bit_of w j = w / 2 ^ j % 2

-- the value of the term t, 0 or 1
unfoldable pub bit_at : List ℕ → ℕ → ℕ
bit_at ws t = bit_of (get_or ws (t / 32) 0) (t % 32)

-- the words with the value of the term t turned
unfoldable pub turn_at : List ℕ → ℕ → List ℕ
turn_at ws t = set ws (t / 32) (bit_xor (get_or ws (t / 32) 0) (2 ^ (t % 32)))

-- the words with the value of the term t as its mark m has it: 0 leaves it, 1 puts 0, any other 1
unfoldable pub hold_at : List ℕ → ℕ → ℕ → List ℕ
hold_at ws t m = cond (eqb m 0) ws (cond (eqb (bit_at ws t) (cond (eqb m 1) 0 1)) ws (turn_at ws t))

-- the drawn word, of which the k lowest digits are kept
unfoldable pub keep_low : ℕ → ℕ → ℕ
keep_low k w = w % 2 ^ min k 32

-- the words with the drawn word w as word k, where n terms are known: the digits past the last term are 0
unfoldable pub put_at : List ℕ → ℕ → ℕ → ℕ → List ℕ
put_at ws n k w = set ws k (keep_low (n - 32 * k) w)

-- how many of the terms below n are true
unfoldable pub trues : List ℕ → ℕ → ℕ
trues ws zero = 0
trues ws (suc t) = trues ws t + bit_at ws t

-- the generator's state after k draws from the state y
unfoldable pub state_after : ℕ → ℕ → ℕ
state_after y zero = y
state_after y (suc k) = next_of (state_after y k)

-- the words after the first k of them have been drawn, for n terms, from the state y
unfoldable pub filled : List ℕ → ℕ → ℕ → ℕ → List ℕ
filled ws n y zero = ws
filled ws n y (suc k) = put_at (filled ws n y k) n k (state_after y (suc k))

-- how many words n terms take
unfoldable pub word_count : ℕ → ℕ
word_count n = (n + 31) / 32
