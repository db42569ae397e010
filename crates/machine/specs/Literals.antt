-- The values of literals, read from the value words, and the terms of true literals. Assumes nothing.
use Rattle.std.specs.Prelude.{ℕ, ◌+◌, ◌/◌, ◌%◌, ◌<◌, cond, List, [], ◌∷◌, length, get_or, eqb}
use Rattle.std.specs.Int.Bits.{bit_xor}
use Rattle.words.specs.Words.{bit_at}
use Rattle.written.specs.Clauses.{term_of}

-- the value of literal l, where the words hold the values of the terms
unfoldable pub value_in : List ℕ → ℕ → ℕ
value_in ws l = (bit_at ws (term_of l) + l % 2) % 2

-- the term of a true literal, else 0; `val` gives each literal's value
unfoldable pub term_if : (ℕ → ℕ) → ℕ → ℕ
term_if val l = cond (eqb (val l) 1) (term_of l) 0

-- the terms of a clause's true literals, all xored: where one literal is true, its term
unfoldable pub xor_true : (ℕ → ℕ) → List ℕ → ℕ
xor_true val [] = 0
xor_true val (l ∷ ls) = bit_xor (term_if val l) (xor_true val ls)

-- every literal of a clause has its value in the words
unfoldable pub Readable : List ℕ → List ℕ → Type 0
Readable ws ls = (k : ℕ) → k < length ls → get_or ls k 0 / 64 < length ws
