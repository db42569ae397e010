-- Tables of nothing but 0. Assumes nothing.
use Rattle.std.specs.Prelude.{◌≡◌, true}
use Rattle.written.specs.Limits.{Limits}
use Rattle.written.specs.Tables.{Tables, are_full, cleared}

-- full tables of nothing but 0
pub record Bare (lim : Limits) (t : Tables) : Type 0 where
  pub full : are_full lim t ≡ true
  pub zero : cleared lim t ≡ t
