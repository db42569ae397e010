-- `tables::Tables::all_full` meets its contract: the ten, and the marks. Assumes nothing.
use mathlib.Core.Path.{refl}
use Rattle.written.specs.Marks.{marks_full, full_marked}
use Rattle.tables.proofs.Tables.all_full.Goals as goal

pub returns : goal.returns
unfolding full_marked marks_full
returns c = rw c.are_full.ensures refl
