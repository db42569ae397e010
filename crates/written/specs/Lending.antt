-- How contracts name what is lent, by what stands in each slice: of one that is written `old` at entry and `new` at exit, of one that is only read `now`.
-- Assumes nothing.
use Rattle.std.specs.Prelude.{ℕ, List}
use Rattle.written.specs.Tables.{Tables, lent}

-- what stands in a lent slice at one moment
abbrev pub Held : Type 0
Held = List ℕ

-- the ten tables, of what stands in the ten slices
abbrev pub lent_at : Held → Held → Held → Held → Held → Held → Held → Held → Held → Held → Tables
lent_at n v s l os oc tc bc u p = lent n v s l os oc tc bc u p
