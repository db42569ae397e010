-- The tests of a pin and of a lift, in their order: "pinning and lifting test 1, 12, then 13 for an unknown term". Assumes nothing.
use Rattle.std.specs.Prelude.{ℕ, not, cond, List, ltb, Result, Ok, Err, ⊤}
use Rattle.written.specs.declared.Reason.{Reason}
use Rattle.written.specs.declared.Counts.{Counts}
use Rattle.written.specs.declared.Reason.TheVariants.{TableTooShort, TablesDisagree, UnknownTerm}
use Rattle.written.specs.Limits.{Limits}
use Rattle.written.specs.Tables.{Tables}
use Rattle.written.specs.Marks.{full_marked, agree_marked}

-- what they come to
unfoldable pub tests_of : Limits → ℕ → Counts → Tables → List ℕ → Result ⊤ Reason
tests_of lim k n t ms =
    cond (not (full_marked lim t ms)) (Err TableTooShort)
    (cond (not (agree_marked lim n t ms)) (Err TablesDisagree)
    (cond (not (ltb k n.terms)) (Err UnknownTerm) (Ok tt)))
