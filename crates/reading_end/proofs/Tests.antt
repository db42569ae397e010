-- The tests of a text as a whole: what they come to, by each way through them. Assumes nothing.
use mathlib.Core.Path.{◌≡◌, refl, sym, ◌∙◌}
use mathlib.Core.Bool.{Bool, true, false}
use mathlib.Core.List.{List}
use Prim.Native.Nat.{ℕ, ◌≤◌, ◌<◌}
use lib.ListN.{length}
use borrow.Author.Tests.{lt-ltb, le-ltb}
use Rattle.std.specs.Prelude.{Ok, Err}
use Rattle.scan.specs.Scan.{open_end}
use Rattle.written.specs.declared.Reason.TheVariants.{TextTooLong, TextCut}
use Rattle.written.specs.Limits.{Limits}
use Rattle.reading_end.specs.Tests.{text_tests}

module _ (lim : Limits) (text : List ℕ) where
  pub tests-long : lim.text < length text → Err TextTooLong ≡ text_tests lim text
  unfolding text_tests
  tests-long long = rw (lt-ltb lim.text (length text) long) refl

  -- cut was answered to whether the text ends inside a line
  module _ (short : length text ≤ lim.text) {cut : Bool} (asked : cut ≡ open_end text) where
    pub tests_open : cut ≡ true → Err TextCut ≡ text_tests lim text
    unfolding text_tests
    tests_open h = rw (le-ltb lim.text (length text) short, sym asked ∙ h) refl

    pub tests-passed : cut ≡ false → Ok tt ≡ text_tests lim text
    unfolding text_tests
    tests-passed h = rw (le-ltb lim.text (length text) short, sym asked ∙ h) refl
