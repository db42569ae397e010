-- The tests of a text as a whole: "2, 3". Assumes nothing.
use Rattle.std.specs.Prelude.{cond, List, ℕ, length, ltb, Result, Ok, Err, ⊤}
use Rattle.scan.specs.Scan.{open_end}
use Rattle.written.specs.declared.Reason.{Reason}
use Rattle.written.specs.declared.Reason.TheVariants.{TextTooLong, TextCut}
use Rattle.written.specs.Limits.{Limits}

-- what they come to
unfoldable pub text_tests : Limits → List ℕ → Result ⊤ Reason
text_tests lim t = cond (ltb lim.text (length t)) (Err TextTooLong) (cond (open_end t) (Err TextCut) (Ok tt))
