-- Document 02, "Even choices": a choice that favours no number, drawn again where the remainder would. Assumes nothing.
use Rattle.std.specs.Prelude.{ℕ, zero, suc, ◌-◌, ◌*◌, ◌/◌, ◌%◌, Bool, cond, ◌||◌, eqb, ltb}
use Rattle.draw.specs.declared.Drawn.{Drawn}
use Rattle.draw.specs.Xorshift.{next_of}
use Rattle.draw.specs.Draw.{refused_at, drawn_to}

-- "take the draw less 1; if it is below m times the whole part of 4294967295 / m": n is the draw
abbrev pub is_even : ℕ → ℕ → Bool
is_even m n = ltb (n - 1) (m * (4294967295 / m))

-- "its remainder by m is the choice"
abbrev pub less_one : ℕ → ℕ → Drawn
less_one m n = drawn_to n ((n - 1) % m)

-- "otherwise draw again": n is drawn, and k more draws may follow; the last is taken "anyway"
unfoldable pub even_from : ℕ → ℕ → ℕ → Drawn
even_from zero m n = less_one m n
even_from (suc k) m n = cond (is_even m n) (less_one m n) (even_from k m (next_of n))

-- "at most eight draws in all"; from state 0 or among 0 it is refused, as the choice of document 01 is
unfoldable pub even_of : ℕ → ℕ → Drawn
even_of m y = cond (eqb y 0 || eqb m 0) (refused_at y) (even_from 7 m (next_of y))
