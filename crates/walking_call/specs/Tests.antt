-- The tests of a walk, in their order: "1, 11, 12". Assumes nothing.
use Rattle.std.specs.Prelude.{ℕ, not, cond, List, Result, Ok, Err, ⊤}
use Rattle.written.specs.declared.Reason.{Reason}
use Rattle.written.specs.declared.Counts.{Counts}
use Rattle.written.specs.declared.Order.{Order}
use Rattle.written.specs.declared.Reason.TheVariants.{TableTooShort, OutOfRange, TablesDisagree}
use Rattle.written.specs.Limits.{Limits}
use Rattle.written.specs.Tables.{Tables}
use Rattle.written.specs.Marks.{full_marked, agree_marked}
use Rattle.written.specs.Orders.{in_range}

-- what they come to
unfoldable pub tests_of : Limits → Order → Counts → Tables → List ℕ → Result ⊤ Reason
tests_of lim o n t ms =
    cond (not (full_marked lim t ms)) (Err TableTooShort)
    (cond (not (in_range o)) (Err OutOfRange)
    (cond (not (agree_marked lim n t ms)) (Err TablesDisagree) (Ok tt)))
