-- Document 02, request 8: "An eleventh lent table of 2,048 bytes marks terms (0 free, 1 pinned at 0, 2 pinned at 1)". The marks are a list beside the ten
-- tables. Assumes nothing.
use Rattle.std.specs.Prelude.{ℕ, Bool, cond, ◌&&◌, List, length, get_or, take, drop, eqb, leb}
use Rattle.written.specs.declared.Counts.{Counts}
use Rattle.written.specs.Lists.{all, those, list_of, below, zeros}
use Rattle.written.specs.Limits.{Limits}
use Rattle.written.specs.Clauses.{term_of}
use Rattle.written.specs.Tables.{Tables, are_full, over}
use Rattle.written.specs.Agreement.{state_in, agree}

-- "0 free"
unfoldable pub is_free : List ℕ → ℕ → Bool
is_free ms t = eqb (get_or ms t 0) 0

-- "Step 4 of the walk looks only at literals of free terms"
unfoldable pub free_in : List ℕ → List ℕ → List ℕ
free_in ms ls = those (λ l. is_free ms (term_of l)) ls

-- "0 free, 1 pinned at 0, 2 pinned at 1": the value that a mark gives where v stood
unfoldable pub held_at : ℕ → ℕ → ℕ
held_at m v = cond (eqb m 0) v (cond (eqb m 1) 0 1)

-- "A start gives a pinned term its value in place of the drawn bit"
unfoldable pub held : List ℕ → List ℕ → List ℕ
held ms vs = list_of (length vs) (λ t. held_at (get_or ms t 0) (get_or vs t 0))

-- "reason 1 counts it": no table is shorter than its full size, the marks are not either
unfoldable pub marks_full : Limits → List ℕ → Bool
marks_full lim ms = leb lim.terms (length ms)

unfoldable pub full_marked : Limits → Tables → List ℕ → Bool
full_marked lim t ms = are_full lim t && marks_full lim ms

-- "reading leaves it 0"
unfoldable pub unmarked : Limits → List ℕ → List ℕ
unmarked lim ms = over (zeros lim.terms) ms

-- "marks are 0 to 2, each pinned value is as marked"
unfoldable pub marks_hold : List ℕ → List ℕ → Bool
marks_hold ms vs = all (λ t. leb (get_or ms t 0) 2 && eqb (get_or vs t 0) (held_at (get_or ms t 0) (get_or vs t 0))) (below (length vs))

-- document 01: "Entries past those in use, up to the full size, are 0."
unfoldable pub marks_rest : Limits → Counts → List ℕ → Bool
marks_rest lim n ms = all (λ m. eqb m 0) (drop n.terms (take lim.terms ms))

-- "Tables agree only if"
unfoldable pub agree_marked : Limits → Counts → Tables → List ℕ → Bool
agree_marked lim n t ms = agree lim n t && marks_hold ms (state_in n t).values && marks_rest lim n ms
