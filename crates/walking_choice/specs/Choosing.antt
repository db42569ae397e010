-- The literal that is picked in a clause, by break counts h of its literals; and what the code asks to pick it. Assumes nothing.
use Rattle.std.specs.Prelude.{ℕ, ◌+◌, ◌/◌, ◌<◌, ◌≡◌, Bool, false, cond, ◌&&◌, List, [], ◌∷◌, map, length, get_or, eqb, ltb}
use Rattle.written.specs.declared.Order.{Order}
use Rattle.written.specs.Lists.{those, least_of}
use Rattle.written.specs.Clauses.{term_of}
use Rattle.written.specs.Drawing.{Pick, heads}
use Rattle.written.specs.Marks.{is_free, free_in}
use Rattle.written.specs.Walk.{one_of, after_heads}

abbrev pub pick : ℕ → ℕ → Pick
pick k y = record { picked = k; state = y }

-- 1 for a test that holds, else 0
unfoldable pub one_if : Bool → ℕ
one_if b = cond b 1 0

-- the break count of a literal's term, by a table
unfoldable pub break_in : List ℕ → ℕ → ℕ
break_in bs l = get_or bs (l / 2) 0

-- a literal of a free term, by marks; and at the break count m too
unfoldable pub is_free_in : List ℕ → ℕ → Bool
is_free_in ms l = is_free ms (term_of l)

unfoldable pub is_tie : List ℕ → List ℕ → ℕ → ℕ → Bool
is_tie bs ms m l = is_free_in ms l && eqb (break_in bs l) m

-- the least of the literals, and those at it
unfoldable pub least_by : (ℕ → ℕ) → List ℕ → ℕ
least_by h [] = 0
least_by h (l ∷ ls) = least_of (h l) (map h ls)

unfoldable pub ties_by : (ℕ → ℕ) → ℕ → List ℕ → List ℕ
ties_by h b ls = those (λ l. eqb (h l) b) ls

-- what one look at each of the literals gives: the least, how many are at it, and the first of them; number 0 where there are none
pub record Lowest : Type 0 where
  pub low : ℕ
  pub number : ℕ
  pub first : ℕ

abbrev pub lowest : ℕ → ℕ → ℕ → Lowest
lowest b k l = record { low = b; number = k; first = l }

-- the least is looked for from top down, which is above every break count
unfoldable pub lowest_in : ℕ → (ℕ → ℕ) → List ℕ → Lowest
lowest_in top h ls =
    let low : ℕ = least_of top (map h ls) in
    let ties : List ℕ = ties_by h low ls in
    lowest low (length ties) (get_or ties 0 0)

-- and what it gives with a literal l more, whose break count is b
unfoldable pub besides : Lowest → ℕ → ℕ → Lowest
besides s l b = cond (ltb b s.low) (lowest b 1 l) (lowest s.low (s.number + one_if (eqb b s.low)) s.first)

-- the literal that is picked
unfoldable pub literal_by : Order → (ℕ → ℕ) → List ℕ → ℕ → Pick
literal_by o h ls y =
    let ties : List ℕ = ties_by h (least_by h ls) ls in
    cond (ltb 0 (least_by h ls)) (after_heads o ls ties (heads o y)) (one_of o ties y)

-- what a choice among the entries of a list asks; top is 2 to the width of an entry
pub record CanDraw (top : ℕ) (xs : List ℕ) : Type 0 where
  pub some : 0 < length xs
  pub short : length xs < top

-- the literals' terms have entries in a table
pub record HaveEntries (xs ls : List ℕ) : Type 0 where
  pub terms : (i : ℕ) → i < length ls → get_or ls i 0 / 2 < length xs

-- what it asks to pick a literal, by break counts and marks
pub record CanPick (top : ℕ) (bs ms ls : List ℕ) : Type 0 where
  pub short : length ls < top
  pub breaks : HaveEntries bs ls
  pub marks : HaveEntries ms ls

-- that no literal of a clause is of a pinned term is known where `pinned` is false
abbrev pub Plain : Bool → List ℕ → List ℕ → Type 0
Plain pinned ms ls = pinned ≡ false → free_in ms ls ≡ ls
