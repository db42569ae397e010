-- The picks that request 3 lists, and some by even choices or with terms pinned, as one table under one statement, which antt computes.
-- They are made in the clause 0 2 4 6, with bias 0 or 1,000. Assumes nothing.
use Rattle.std.specs.Prelude.{ℕ, ◌≡◌, refl, List, [], ◌∷◌, map}
use Rattle.draw.specs.Xorshift.{next_of, left_step, right_step}
use Rattle.draw.specs.Draw.{choice_of, heads_of}
use Rattle.draw.specs.Even.{even_from, even_of}
use Rattle.written.specs.declared.Order.{Order}
use Rattle.written.specs.Clauses.{term_of}
use Rattle.written.specs.Drawing.{Pick, choice, heads, chosen_from}
use Rattle.written.specs.Marks.{is_free, free_in}
use Rattle.written.specs.Walk.{one_of, after_heads}
use Rattle.walking_choice.specs.Choosing.{pick, break_in, least_by, ties_by, literal_by}

pub record Example : Type 0 where
  pub asked : Pick
  pub told : Pick

-- the marks and the bias; then the mode, four break counts and a state, then the literal and the state afterwards
abbrev pub marked : List ℕ → ℕ → ℕ → ℕ → ℕ → ℕ → ℕ → ℕ → ℕ → ℕ → Example
marked ms bias e a b c d y l z =
    let o : Order = record { seed = 1; flips = 1; walks = 1; bias = bias; even = e } in
    record { asked = literal_by o (break_in (a ∷ b ∷ c ∷ d ∷ [])) (free_in ms (0 ∷ 2 ∷ 4 ∷ 6 ∷ [])) y; told = pick l z }

-- no term pinned, and tails whenever it is drawn for heads
abbrev pub row : ℕ → ℕ → ℕ → ℕ → ℕ → ℕ → ℕ → ℕ → Example
row = marked [] 0

abbrev pub table : List Example
table =
    -- one breaks nothing: no draw
    row 0 0 3 3 3 1 0 1
    -- two break nothing: one draw, odd and even
    ∷ row 0 1 0 1 0 1 6 270369
    ∷ row 0 1 0 1 0 2 2 540738
    -- all at 1: tails, and a choice among four
    ∷ row 0 1 1 1 1 1 2 67634689
    -- one at 1: tails alone
    ∷ row 0 2 1 2 2 1 2 270369
    -- by even choices: no draw for one, the draw less 1 among two and four, and tails as before
    ∷ row 1 0 3 3 3 1 0 1
    ∷ row 1 1 0 1 0 1 2 270369
    ∷ row 1 1 0 1 0 2 6 540738
    ∷ row 1 1 1 1 1 1 0 67634689
    ∷ row 1 2 1 2 2 1 2 270369
    -- the one that breaks nothing is pinned: tails, and the least of the others
    ∷ marked (1 ∷ 0 ∷ 0 ∷ 0 ∷ []) 0 0 0 1 2 2 1 2 270369
    -- of three that break nothing one is pinned: a choice among two
    ∷ marked (0 ∷ 2 ∷ 0 ∷ 0 ∷ []) 0 0 0 0 0 3 1 4 270369
    -- heads: a choice among the three that are free
    ∷ marked (1 ∷ 0 ∷ 0 ∷ 0 ∷ []) 1000 0 1 1 1 1 1 4 67634689
    -- one is free: heads, and a choice that is drawn even for one
    ∷ marked (1 ∷ 2 ∷ 2 ∷ 0 ∷ []) 1000 0 0 0 0 3 1 6 67634689
    ∷ []

pub shown : map (λ e. e.asked) table ≡ map (λ e. e.told) table
unfolding literal_by break_in free_in is_free term_of least_by ties_by one_of after_heads heads chosen_from choice choice_of even_of even_from heads_of next_of
    left_step right_step
shown = refl
