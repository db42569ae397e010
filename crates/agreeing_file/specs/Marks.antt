-- A clause tested by marks, one for each term: a term that has the clause's mark has stood before. Assumes nothing.
use Rattle.std.specs.Prelude.{ℕ, ◌≤◌, ◌<◌, Bool, not, ◌&&◌, List, get_or, set, eqb, ltb}
use Rattle.written.specs.Clauses.{term_of}
use Rattle.machine.specs.Moving.{CanPart}

-- the literal's term is one of T and has no mark m
unfoldable pub is_fresh : ℕ → ℕ → ℕ → List ℕ → Bool
is_fresh T m l ms = ltb (term_of l) T && not (eqb (get_or ms (term_of l) 0) m)

-- the literal's term gets the mark m
unfoldable pub mark_term : ℕ → ℕ → List ℕ → List ℕ
mark_term m l ms = set ms (term_of l) m

-- what it asks to test C clauses over T terms with R marks; top is 2 to the width of a mark
pub record CanMark (top R T C : ℕ) (ss ls : List ℕ) : Type 0 where
  pub parts : (c : ℕ) → c < C → CanPart ss ls c
  pub terms : T ≤ R
  pub clauses : C < top
