-- A lent buffer that is written from its front. Assumes nothing.
use Rattle.std.specs.Prelude.{ℕ, ◌+◌, ◌≤◌, List, [], ◌∷◌, ◌++◌, length, take, drop}
use Rattle.pages.specs.declared.Page as lent

-- the buffer, and the place where the next byte goes
pub record Page : Type 0 where
  pub at : ℕ
  pub buffer : List ℕ

abbrev pub page : ℕ → List ℕ → Page
page at b = record { at = at; buffer = b }

-- as the code holds it
abbrev pub page_of : lent.Page → Page
page_of p = page p.at p.out.now

-- bytes put at the place, which moves past them; the rest of the buffer stays
unfoldable pub put : List ℕ → Page → Page
put bs p = page (p.at + length bs) (take p.at p.buffer ++ bs ++ drop (p.at + length bs) p.buffer)

-- they fit
pub record CanPut (bs : List ℕ) (p : Page) : Type 0 where
  pub room : p.at + length bs ≤ length p.buffer

-- a key, a value and byte 10
abbrev pub keyed : List ℕ → List ℕ → List ℕ
keyed key value = key ++ value ++ 10 ∷ []
