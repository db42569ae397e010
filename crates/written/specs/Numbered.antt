-- Document 02, [4]: a reading of a numbered clause file, number by number. Assumes nothing.
use Rattle.std.specs.Prelude.{ℕ, zero, suc, Bool, true, false, cond, ◌||◌, List, [], length, eqb, ltb, leb, Option, Some, None}
use Rattle.scan.specs.declared.Cursor.{Cursor}
use Rattle.scan.specs.Scan.{packed, start}
use Rattle.written.specs.declared.Reason.TheVariants.{ByteNotAllowed, TooManyTerms, HeaderForm, ClauseCount, PastHeader}
use Rattle.written.specs.declared.Form.{Form}
use Rattle.written.specs.declared.Form.TheVariants.{Own, Numbered}
use Rattle.written.specs.declared.Header.{Header}
use Rattle.written.specs.declared.Signed.{Signed}
use Rattle.written.specs.declared.Numeral.{Numeral}
use Rattle.written.specs.declared.Numeral.TheVariants.{Number, Bad, End}
use Rattle.written.specs.Lists.{list_of}
use Rattle.written.specs.Limits.{Limits}
use Rattle.written.specs.Reasons.{fault, fault_at}
use Rattle.written.specs.Reading.{Reading, refused, Draft, Turn, goes, drops, ends, at_literal, at_line_end, at_text_end, after_tests, from_left}
use Rattle.written.specs.Numerals.{past_comments, header_at, number_at}
use Rattle.written.specs.Printed.{decimal}

-- "named by its decimal number"
unfoldable pub name_for : ℕ → ℕ
name_for v = packed (decimal v)

-- "Variable v becomes term v less 1", "known even if unused"
unfoldable pub names_to : ℕ → List ℕ
names_to n = list_of n (λ k. name_for (suc k))

-- a reading on its way: the open clause is the draft's line; whether it is dropped; how many clauses have ended, those dropped too
pub record Sum : Type 0 where
  pub draft : Draft
  pub is_dropped : Bool
  pub ended : ℕ

abbrev pub sum : Draft → Bool → ℕ → Sum
sum d b n = record { draft = d; is_dropped = b; ended = n }

-- where a number leads: on, or to the end
pub data Pass : Type 0 where
  on : Sum → Pass
  to : Reading → Pass

-- after a turn of the open clause, when n have ended
abbrev pub turned : ℕ → Turn → Pass
turned n (goes d) = on (sum d false n)
turned n (drops d) = on (sum d true n)
turned n (ends r) = to r

-- "17 a clause's end past the header's count, 15 a clause of 0 alone, then [..] 8 as before"; a dropped clause "still counts towards the header's number"
unfoldable pub at_zero : Limits → Header → Sum → ℕ → Pass
at_zero lim h s n =
    cond (leb h.clauses s.ended) (to (refused (fault_at n ClauseCount)))
    (cond s.is_dropped (on (sum s.draft false (suc s.ended)))
    (turned (suc s.ended) (at_line_end lim s.draft n s.draft.line)))

-- "18 number above that"; "Repeats and opposites are treated as in our own files, but the rest of a dropped clause is read to its 0 for faults 4 and 18"
unfoldable pub at_number : Limits → Header → Sum → Signed → Pass
at_number lim h s x =
    cond (ltb h.variables x.number) (to (refused (fault_at x.line PastHeader)))
    (cond (eqb x.number 0) (at_zero lim h s x.line)
    (cond s.is_dropped (on s)
    (turned s.ended (at_literal lim s.draft (record { negated = x.negated; name = name_for x.number; line = x.line })))))

-- a clause has begun
abbrev pub is_open : Sum → Bool
is_open s = s.is_dropped || ltb 0 (length s.draft.line)

-- "at the end 17, line 0, for a last clause unended or too few clauses, then 9"
unfoldable pub at_numbers_end : Header → Sum → Reading
at_numbers_end h s = cond (is_open s || ltb s.ended h.clauses) (refused (fault ClauseCount)) (at_text_end s.draft.names s.draft.clauses)

unfoldable pub at_numeral : Limits → Header → Sum → Numeral → Pass
at_numeral lim h s (Number x) = at_number lim h s x
at_numeral lim h s (Bad n) = to (refused (fault_at n ByteNotAllowed))
at_numeral lim h s End = to (at_numbers_end h s)

abbrev pub passed : Pass → (Sum → Reading) → Reading
passed (on s) next = next s
passed (to r) next = r

-- the numbers from a cursor on; each takes a byte, so a turn for each byte and one more are enough, and the first case is not met
unfoldable pub numbers_from : ℕ → Limits → List ℕ → Header → Cursor → Sum → Reading
numbers_from zero lim t h c s = at_numbers_end h s
numbers_from (suc k) lim t h c s = passed (at_numeral lim h s (number_at t c).numeral) (λ s'. numbers_from k lim t h (number_at t c).next s')

-- the names stand from the header on
abbrev pub begun : Header → Sum
begun h = sum (record { names = names_to h.variables; clauses = []; line = [] }) false 0

-- "16 header malformed [..], 6 a header of over 2,048 variables": of the header's line n, and the numbers after it
unfoldable pub after_header : Limits → List ℕ → ℕ → Option Header → Reading
after_header lim t n None = refused (fault_at n HeaderForm)
after_header lim t n (Some h) =
    cond (ltb lim.terms h.variables) (refused (fault_at n TooManyTerms))
    (numbers_from (suc (length t)) lim t h (record { at = h.end; line = n }) (begun h))

-- "or missing (line 0 at the text's end)"
unfoldable pub from_header : Limits → List ℕ → Cursor → Reading
from_header lim t c = cond (leb (length t) c.at) (refused (fault HeaderForm)) (after_header lim t c.line (header_at t c.at))

-- the text past tests 1, 2 and 3
abbrev pub numbers_in : Limits → List ℕ → Reading
numbers_in lim t = from_header lim t (past_comments (length t) t start)

unfoldable pub read_numbered : Limits → List ℕ → Reading
read_numbered lim t = after_tests lim t (numbers_in lim t)

-- ---- a text of either form

abbrev pub read_by : Form → Limits → List ℕ → Reading
read_by Own lim t = from_left lim t
read_by Numbered lim t = numbers_in lim t

abbrev pub read_as : Form → Limits → List ℕ → Reading
read_as form lim t = after_tests lim t (read_by form lim t)
