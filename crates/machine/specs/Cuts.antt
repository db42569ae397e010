-- Starts that cut entries into parts, one after another. Assumes nothing.
use Rattle.std.specs.Prelude.{ℕ, ◌+◌, ◌≤◌, ◌<◌, ◌≡◌, List, length, get_or}

-- n starts and one past the last: they begin at 0, never fall, and end at L
pub record Cuts (n L : ℕ) (ss : List ℕ) : Type 0 where
  pub first : get_or ss 0 0 ≡ 0
  pub rise : (k : ℕ) → k < n → get_or ss k 0 ≤ get_or ss (k + 1) 0
  pub last : get_or ss n 0 ≡ L
  pub size : n < length ss
