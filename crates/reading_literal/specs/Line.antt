-- The open line among the literals held, and the stamps that say where each of its terms stands. Assumes nothing.
use Rattle.std.specs.Prelude.{ℕ, ◌-◌, ◌≤◌, ◌<◌, ◌≡◌, Bool, not, cond, List, length, get_or, take, drop}
use Rattle.written.specs.Lists.{has}
use Rattle.written.specs.Clauses.{literal_of, term_of}
use Rattle.reading_literal.specs.declared.Stands.{Stands}
use Rattle.reading_literal.specs.declared.Stands.TheVariants.{Not, Same, Opposite}

-- the literals of the line that begins at `from`, where `held` are held in all
abbrev pub line_in : List ℕ → ℕ → ℕ → List ℕ
line_in ls from held = take (held - from) (drop from ls)

-- how a term's literal stands to a line: it is there already, its opposite is, or neither
unfoldable pub stands_in : ℕ → Bool → List ℕ → Stands
stands_in term negated line =
    cond (has (literal_of term negated) line) Same
    (cond (has (literal_of term (not negated)) line) Opposite Not)

-- the line's terms are known, and the stamp of each is its literal's place; a stamp of any other term may be anything
pub record Stamped (ls : List ℕ) (from held : ℕ) (stamps : List ℕ) (terms : ℕ) : Type 0 where
  pub order : from ≤ held
  pub room : held ≤ length ls
  pub below : (p : ℕ) → from ≤ p → p < held → term_of (get_or ls p 0) < terms
  pub here : (p : ℕ) → from ≤ p → p < held → get_or stamps (term_of (get_or ls p 0)) 0 ≡ p
