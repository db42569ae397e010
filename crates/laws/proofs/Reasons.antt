-- Every reason by its number, and what a test of each gives of all. Assumes nothing.
use Prim.Native.Nat.{◌≤◌, ◌<◌}
use mathlib.Core.Logic.{◌⊎◌, inl, inr}
use mathlib.Core.Path.{◌≡◌, refl, ap, sym, ◌∙◌}
use mathlib.Core.Bool.{Bool, true, false, not, ◌||◌}
use mathlib.Core.List.{List, [], ◌∷◌}
use native.Mathlib.Omega.{arith}
use lib.ListN.{length, get_or}
use lib.Dec.{eqb, ltb, lit<}
use borrow.Author.Tests.{ltb-true, eqb-false, not-true}
use Rattle.written.specs.declared.Reason.{Reason}
use Rattle.written.specs.declared.Reason.TheVariants.{TableTooShort, TextTooLong, TextCut, ByteNotAllowed, NinthByte, TooManyTerms, TooManyLiterals, TooManyClauses, NoClause, SheetForm, OutOfRange, TablesDisagree, UnknownTerm, ListTooLong, BlankLine, HeaderForm, ClauseCount, PastHeader, PinnedTerm}
use Rattle.written.specs.Lists.{all}
use Rattle.written.specs.Reasons.{number_of}
use Rattle.laws.specs.Reasons.{names_line, of_text, of_sheet, past_tests}
use Rattle.laws.proofs.All.{all_get_d}

-- ---- each reason by its number

-- no reason is 0, and none is 19
abbrev pub reasons : List Reason
reasons =
    TableTooShort
    ∷ TableTooShort
    ∷ TextTooLong
    ∷ TextCut
    ∷ ByteNotAllowed
    ∷ NinthByte
    ∷ TooManyTerms
    ∷ TooManyLiterals
    ∷ TooManyClauses
    ∷ NoClause
    ∷ SheetForm
    ∷ OutOfRange
    ∷ TablesDisagree
    ∷ UnknownTerm
    ∷ ListTooLong
    ∷ BlankLine
    ∷ HeaderForm
    ∷ ClauseCount
    ∷ PastHeader
    ∷ TableTooShort
    ∷ PinnedTerm
    ∷ []

pub reason-at : (r : Reason) → get_or reasons (number_of r) TableTooShort ≡ r
reason-at TableTooShort = refl
reason-at TextTooLong = refl
reason-at TextCut = refl
reason-at ByteNotAllowed = refl
reason-at NinthByte = refl
reason-at TooManyTerms = refl
reason-at TooManyLiterals = refl
reason-at TooManyClauses = refl
reason-at NoClause = refl
reason-at SheetForm = refl
reason-at OutOfRange = refl
reason-at TablesDisagree = refl
reason-at UnknownTerm = refl
reason-at ListTooLong = refl
reason-at BlankLine = refl
reason-at HeaderForm = refl
reason-at ClauseCount = refl
reason-at PastHeader = refl
reason-at PinnedTerm = refl

pub reason-below : (r : Reason) → number_of r < length reasons
reason-below TableTooShort = lit< tt
reason-below TextTooLong = lit< tt
reason-below TextCut = lit< tt
reason-below ByteNotAllowed = lit< tt
reason-below NinthByte = lit< tt
reason-below TooManyTerms = lit< tt
reason-below TooManyLiterals = lit< tt
reason-below TooManyClauses = lit< tt
reason-below NoClause = lit< tt
reason-below SheetForm = lit< tt
reason-below OutOfRange = lit< tt
reason-below TablesDisagree = lit< tt
reason-below UnknownTerm = lit< tt
reason-below ListTooLong = lit< tt
reason-below BlankLine = lit< tt
reason-below HeaderForm = lit< tt
reason-below ClauseCount = lit< tt
reason-below PastHeader = lit< tt
reason-below PinnedTerm = lit< tt

-- ---- what holds of each holds of all

every-reason : (p : Reason → Bool) → all p reasons ≡ true → (r : Reason) → p r ≡ true
every-reason p h r = ap p (sym (reason-at r)) ∙ all_get_d p reasons (number_of r) TableTooShort (reason-below r) h

follows : (p q : Reason → Bool) → all (λ r. not (p r) || q r) reasons ≡ true → (r : Reason) → p r ≡ true → q r ≡ true
follows p q h r e = sym (ap (λ (b : Bool). not b || q r) e) ∙ every-reason (λ r. not (p r) || q r) h r

-- no reason is 0
pub number-pos : (r : Reason) → 0 < number_of r
number-pos r = ltb-true 0 (number_of r) (every-reason (λ r. ltb 0 (number_of r)) refl r)

-- a reason that names a line is the text's own
pub line-of-text : (r : Reason) → names_line r ≡ true → of_text r ≡ true
line-of-text r h = follows names_line of_text refl r h

-- and none of 1, 2 and 3, nor 9
line_late : (r : Reason) → names_line r ≡ true → 4 ≤ number_of r
line_late r h = ltb-true 3 (number_of r) (follows names_line (λ r. ltb 3 (number_of r)) refl r h)

pub line-not-last : (r : Reason) → names_line r ≡ true → number_of r ≡ 9 → ⊥
line-not-last r h = eqb-false (number_of r) 9 (not-true _ (follows names_line (λ r. not (eqb (number_of r) 9)) refl r h))

-- 4 to 9 and 15
pub late_number : (r : Reason) → (names_line r ≡ true) ⊎ (r ≡ NoClause) → 4 ≤ number_of r
late_number r (inl h) = line_late r h
late_number r (inr h) = omega (arith, ap number_of h)

-- what is the text's own is not the sheet's
pub text-not-sheet : (r : Reason) → of_text r ≡ true → of_sheet r ≡ false
text-not-sheet r h = not-true _ (follows of_text (λ r. not (of_sheet r)) refl r h)

-- a numbered text's own, past the tests of the text as a whole: none of 1, 2 and 3
pub past_late : (r : Reason) → past_tests r ≡ true → 4 ≤ number_of r
past_late r h = ltb-true 3 (number_of r) (follows past_tests (λ r. ltb 3 (number_of r)) refl r h)
