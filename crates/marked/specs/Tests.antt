-- The test of one term: "marks are 0 to 2, each pinned value is as marked". Assumes nothing.
use Rattle.std.specs.Prelude.{ℕ, Bool, ◌&&◌, eqb, leb}
use Rattle.written.specs.Marks.{held_at}

-- the mark m goes with the value v
unfoldable pub as_marked : ℕ → ℕ → Bool
as_marked m v = leb m 2 && eqb v (held_at m v)
