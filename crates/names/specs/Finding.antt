-- What a search for a name answers. Assumes nothing.
use Rattle.std.specs.Prelude.{ℕ, ◌≡◌, true, false, List, Result, Ok, Err}
use Rattle.written.specs.Lists.{has, place_of}
use Rattle.machine.specs.Slots.{Vacant}

-- how many homes there are; with 2,048 names, 8,116 slots
abbrev pub homes : ℕ
homes = 6067

-- the term where the name first stands, or that it is not known, and the first empty slot from its home upwards
abbrev pub Finds : ℕ → List ℕ → List ℕ → ℕ → Result ℕ ℕ → Type 0
Finds H known slots name (Ok t) = (has name known ≡ true) × (t ≡ place_of name known)
Finds H known slots name (Err s) = (has name known ≡ false) × Vacant H known slots name s
