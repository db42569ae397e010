-- Document 01, "Drawing and choosing": a draw, a choice and heads, each asked for alone. Assumes nothing.
use Rattle.std.specs.Prelude.{ℕ, ◌%◌, cond, ◌||◌, eqb, ltb}
use Rattle.draw.specs.declared.Drawn.{Drawn}
use Rattle.draw.specs.Xorshift.{next_of}

-- "reason 11"; "the number is then 0 and the state stays"
abbrev pub refused_at : ℕ → Drawn
refused_at y = record { reason = 11; number = 0; next = record { state = y } }

-- "Each draw moves the generator on and gives a number": here to the state y, with the number n
abbrev pub drawn_to : ℕ → ℕ → Drawn
drawn_to y n = record { reason = 0; number = n; next = record { state = y } }

-- "the new y is both draw and state"
unfoldable pub draw_of : ℕ → Drawn
draw_of y = cond (eqb y 0) (refused_at y) (drawn_to (next_of y) (next_of y))

-- "A choice among m is the draw's remainder by m, counted from 0."
unfoldable pub choice_of : ℕ → ℕ → Drawn
choice_of m y = cond (eqb y 0 || eqb m 0) (refused_at y) (drawn_to (next_of y) (next_of y % m))

-- "Heads means that the draw's remainder by 1,000 is below the bias": the number 1, else 0
unfoldable pub heads_of : ℕ → ℕ → Drawn
heads_of bias y = cond (eqb y 0 || ltb 1000 bias) (refused_at y) (drawn_to (next_of y) (cond (ltb (next_of y % 1000) bias) 1 0))
