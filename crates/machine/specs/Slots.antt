-- Names found by slots: a slot holds 0, or a term's number counted from 1; a search goes from a name's home upwards and never round. Assumes nothing.
use Rattle.std.specs.Prelude.{ℕ, ◌+◌, ◌*◌, ◌%◌, ◌≤◌, ◌<◌, ◌≡◌, true, List, length, get_or}
use Rattle.written.specs.Lists.{differ}

-- the slot from which a name is looked for, one of H: short names spread by it, however they count up (docs/DECISIONS.md, "The reading")
unfoldable pub home_of : ℕ → ℕ → ℕ
home_of H x = ((x % 1000003) * 617) % H

-- term k stands in a slot that a search from its name's home comes to
pub record Reached (H : ℕ) (known slots : List ℕ) (k : ℕ) : Type 0 where
  pub at : ℕ
  pub from : home_of H (get_or known k 0) ≤ at
  pub here : get_or slots at 0 ≡ k + 1
  pub run : (i : ℕ) → home_of H (get_or known k 0) ≤ i → i < at → get_or slots i 0 ≡ 0 → ⊥

-- the known names differ and each is found; H homes and at most L names, so H + L + 1 slots, of which the last is empty
pub record Indexed (H L : ℕ) (known slots : List ℕ) : Type 0 where
  pub some : 0 < H
  pub few : length known ≤ L
  pub room : H + L < length slots
  pub apart : differ known ≡ true
  pub low : (j : ℕ) → j ≤ H + L → get_or slots j 0 ≤ length known
  pub bare : (j : ℕ) → H + length known ≤ j → j ≤ H + L → get_or slots j 0 ≡ 0
  pub reached : (k : ℕ) → k < length known → Reached H known slots k

-- s is the first empty slot from a name's home upwards
pub record Vacant (H : ℕ) (known slots : List ℕ) (name s : ℕ) : Type 0 where
  pub from : home_of H name ≤ s
  pub upto : s ≤ H + length known
  pub empty : get_or slots s 0 ≡ 0
  pub run : (i : ℕ) → home_of H name ≤ i → i < s → get_or slots i 0 ≡ 0 → ⊥
