-- Document 01's draws and refusals, and the even choices of document 02, as one table under one statement, which antt computes. Assumes nothing.
use Rattle.std.specs.Prelude.{ℕ, ◌≡◌, refl, List, [], ◌∷◌, map}
use Rattle.draw.specs.declared.Drawn.{Drawn}
use Rattle.draw.specs.Xorshift.{next_of, left_step, right_step}
use Rattle.draw.specs.Draw.{draw_of, choice_of, heads_of}
use Rattle.draw.specs.Even.{even_from, even_of}

pub record Example : Type 0 where
  pub asked : Drawn
  pub told : Drawn

infix 20 ◌tells◌
abbrev pub ◌tells◌ : Drawn → Drawn → Example
◌tells◌ a b = record { asked = a; told = b }

-- a number, and the state that it leaves
abbrev pub gives : ℕ → ℕ → Drawn
gives n y = record { reason = 0; number = n; next = record { state = y } }

-- reason 11, and the state that stays
abbrev pub refuses : ℕ → Drawn
refuses y = record { reason = 11; number = 0; next = record { state = y } }

abbrev pub table : List Example
table =
    -- "seed 1 draws 270369, 67634689, 2647435461; 67634689 chooses 1 among 3"
    (draw_of 1 tells gives 270369 270369)
    ∷ (draw_of 270369 tells gives 67634689 67634689)
    ∷ (draw_of 67634689 tells gives 2647435461 2647435461)
    ∷ (choice_of 3 270369 tells gives 1 67634689)
    -- "a draw from state 0 or a choice among 0 is reason 11, as is heads with a bias over 1,000"
    ∷ (draw_of 0 tells refuses 0)
    ∷ (choice_of 0 7 tells refuses 7)
    ∷ (choice_of 3 0 tells refuses 0)
    ∷ (heads_of 1001 7 tells refuses 7)
    ∷ (heads_of 400 0 tells refuses 0)
    -- "the draw's remainder by 1,000 is below the bias": here the remainder is 369
    ∷ (heads_of 370 1 tells gives 1 270369)
    ∷ (heads_of 369 1 tells gives 0 270369)
    ∷ (heads_of 1000 1 tells gives 1 270369)
    ∷ (heads_of 0 1 tells gives 0 270369)
    -- document 02: "take the draw less 1", where the remainder of the draw itself is 0 and 1
    ∷ (even_of 3 1 tells gives 2 270369)
    ∷ (even_of 3 270369 tells gives 0 67634689)
    ∷ (even_of 1 1 tells gives 0 270369)
    -- "if it is below": 4294967295 less 1 is not for 2, is for 3, and 4294967292 less 1 is the last for 7
    ∷ (even_of 2 1584200935 tells gives 0 253983)
    ∷ (even_of 3 1584200935 tells gives 2 4294967295)
    ∷ (even_of 7 1236431772 tells gives 6 4294967292)
    ∷ (even_of 7 3137861301 tells gives 5 761949)
    -- "at most eight draws in all, and then take the remainder of the eighth less 1 anyway": here 1264041421 of 3411525070
    ∷ (even_of 2147483649 8368 tells gives 1264041421 3411525071)
    ∷ (even_of 3 0 tells refuses 0)
    ∷ (even_of 0 7 tells refuses 7)
    ∷ []

pub shown : map (λ e. e.asked) table ≡ map (λ e. e.told) table
unfolding draw_of choice_of heads_of even_of even_from next_of left_step right_step
shown = refl
