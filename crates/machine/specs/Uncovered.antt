-- The uncovered list with its places and its number, and what is done to it. Assumes nothing.
use Rattle.std.specs.Prelude.{ℕ, ◌+◌, ◌-◌, ◌≤◌, ◌<◌, List, length, get_or, set}

-- entries below `number` are in use; a listed clause has its slot for its place
pub record Uncovered : Type 0 where
  pub list : List ℕ
  pub places : List ℕ
  pub number : ℕ

abbrev pub uncovered : List ℕ → List ℕ → ℕ → Uncovered
uncovered us ps n = record { list = us; places = ps; number = n }

-- clause c leaves the list: the last entry takes its slot, the last slot becomes 0, and c's place becomes y
unfoldable pub leaves : ℕ → ℕ → Uncovered → Uncovered
leaves c y u =
    record {
      list = set (set u.list (get_or u.places c 0) (get_or u.list (u.number - 1) 0)) (u.number - 1) 0;
      places = set (set u.places (get_or u.list (u.number - 1) 0) (get_or u.places c 0)) c y;
      number = u.number - 1;
    }

-- covered clause c's place becomes y
unfoldable pub marks : ℕ → ℕ → Uncovered → Uncovered
marks c y u = record { list = u.list; places = set u.places c y; number = u.number }

-- clause c is put at the end
unfoldable pub enters : ℕ → Uncovered → Uncovered
enters c u = record { list = set u.list u.number c; places = set u.places c u.number; number = u.number + 1 }

-- what `leaves` asks
pub record CanLeave (c : ℕ) (u : Uncovered) : Type 0 where
  pub placed : c < length u.places
  pub slot : get_or u.places c 0 < length u.list
  pub some : 0 < u.number
  pub room : u.number ≤ length u.list
  pub last : get_or u.list (u.number - 1) 0 < length u.places

-- what `enters` asks; top is 2 to the width of an entry
pub record CanEnter (top c : ℕ) (u : Uncovered) : Type 0 where
  pub placed : c < length u.places
  pub room : u.number < length u.list
  pub fits : u.number < top
