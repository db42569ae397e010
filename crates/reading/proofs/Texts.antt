-- What the tests of a text as a whole say of its reading, of whatever kind the text is. Assumes nothing.
use mathlib.Core.Path.{◌≡◌, refl, subst}
use mathlib.Core.List.{List}
use mathlib.Core.Bool.{false}
use Prim.Native.Nat.{ℕ, ◌≤◌}
use lib.ListN.{length}
use lib.Dec.{ltb}
use borrow.Author.Tests.{ltb-false}
use Rattle.std.specs.Prelude.{Result, Ok, Err, ⊤}
use Rattle.scan.specs.Scan.{open_end}
use Rattle.written.specs.declared.Reason.{Reason}
use Rattle.written.specs.declared.Reason.TheVariants.{TextTooLong, TextCut}
use Rattle.written.specs.Limits.{Limits}
use Rattle.written.specs.Reasons.{fault}
use Rattle.written.specs.Reading.{Reading, refused, after_tests}
use Rattle.laws.proofs.Basics.{by_cases}
use Rattle.reading_end.specs.Tests.{text_tests}

-- the text's bytes come to r
module _ (lim : Limits) (text : List ℕ) (r : Reading) where
  -- what the tests say by what they come to
  abbrev Says : Result ⊤ Reason → Type 0
  Says (Ok tt) = (length text ≤ lim.text) × (open_end text ≡ false) × (after_tests lim text r ≡ r)
  Says (Err e) = after_tests lim text r ≡ refused (fault e)

  tests_say : Says (text_tests lim text)
  unfolding text_tests
  tests_say =
      by_cases (ltb lim.text (length text)) (λ a. let q : Says (Err TextTooLong) = rw a refl in rw a q)
      (λ a. by_cases (open_end text) (λ b. let q : Says (Err TextCut) = rw (a, b) refl in rw (a, b) q)
      (λ b. let q : Says (Ok tt) = (ltb-false _ _ a, b, rw (a, b) refl) in rw (a, b) q))

  pub failed-read : {e : Reason} → text_tests lim text ≡ Err e → after_tests lim text r ≡ refused (fault e)
  failed-read h = subst Says h tests_say

  module _ (h : text_tests lim text ≡ Ok tt) where
    pub passed-read : after_tests lim text r ≡ r
    passed-read = (subst Says h tests_say).2

    pub passed-short : length text ≤ lim.text
    passed-short = (subst Says h tests_say).0

    pub passed-closed : open_end text ≡ false
    passed-closed = (subst Says h tests_say).1
