-- Document 01, "Drawing and choosing": Marsaglia's 32-bit xorshift. `bit_xor` is the library's exclusive or of two numbers, digit by digit.
-- Assumes nothing.
use Rattle.std.specs.Prelude.{ℕ, ◌*◌, ◌/◌, ◌%◌, ◌^◌}
use Rattle.std.specs.Int.Bits.{bit_xor}

-- "y xor (y shifted left k)", "kept to 32 bits"
unfoldable pub left_step : ℕ → ℕ → ℕ
left_step k y = bit_xor y (y * 2 ^ k % 2 ^ 32)

-- "y xor (y shifted right k)"
unfoldable pub right_step : ℕ → ℕ → ℕ
right_step k y = bit_xor y (y / 2 ^ k)

-- "One draw": left 13, then right 17, then left 5
unfoldable pub next_of : ℕ → ℕ
next_of y = left_step 5 (right_step 17 (left_step 13 y))
