-- A reading as a call, in the document's words: `reading_of lim text t ms` is what it answers and leaves, of clause text, lent tables t and marks ms.
-- `read_into lim r t ms` is what such a call leaves of a text of either form that comes to r. Assumes nothing.
use Rattle.std.specs.Prelude.{ℕ, ◌≤◌, ◌<◌, ◌↔◌, ◌⊎◌, ◌≡◌, Bool, true, false, not, List, [], length, get_or, take, drop, eqb, Err}
use Rattle.scan.specs.declared.Cursor.{Cursor}
use Rattle.scan.specs.declared.Lit.{Lit}
use Rattle.scan.specs.declared.Token.{Token}
use Rattle.scan.specs.declared.Token.TheVariants.{Literal, Line, End, Bad, Long}
use Rattle.scan.specs.Scan.{past, scan, start, open_end}
use Rattle.written.specs.declared.Counts.{Counts}
use Rattle.written.specs.declared.Reason.TheVariants.{TableTooShort, TextTooLong, ByteNotAllowed, NinthByte, TooManyTerms, TooManyLiterals, TooManyClauses, NoClause, BlankLine}
use Rattle.written.specs.declared.Fault.{Fault}
use Rattle.written.specs.Lists.{has, times, zeros}
use Rattle.written.specs.Limits.{Limits}
use Rattle.written.specs.Reasons.{number_of, fault, fault_at}
use Rattle.written.specs.Clauses.{File, afresh, as_read}
use Rattle.written.specs.Reading.{Reading, Draft, accepted, refused, goes, drops, numbered, held, nothing, at_token, next_line, read_text}
use Rattle.written.specs.Tables.{Tables, each, full_sizes, cleared, no_counts}
use Rattle.written.specs.Agreement.{file_in, state_in}
use Rattle.written.specs.Marks.{full_marked, unmarked, agree_marked}
use Rattle.written.specs.Outcomes.{read_into, reading_of, read_values}
use Rattle.laws.specs.Calls.{Stands}
use Rattle.laws.specs.Reasons.{names_line, of_text}

-- ---- what a call leaves

-- an accepted one, of which f is the file: counts n, tables u where t stood, and marks us where ms did
pub record Filled (lim : Limits) (f : File) (t : Tables) (ms : List ℕ) (n : Counts) (u : Tables) (us : List ℕ) : Type 0 where
  -- "A library reads clause text into lent tables": these hold the file, and agree with the counts
  pub stands : Stands lim (as_read f) t n u us
  -- "An accepted reading leaves every value 0", and so each word of 32
  pub values : (state_in n u).values ≡ zeros n.terms
  pub words : take (full_sizes lim).values u.values ≡ zeros (full_sizes lim).values
  -- "and all counts worked out for that, with the uncovered list in rising clause order"
  pub worked_out : state_in n u ≡ afresh (file_in n u) (zeros n.terms)
  -- "reading leaves it 0"
  pub marks : us ≡ unmarked lim ms

-- one refused by reason 1
pub record LeftAlone (lim : Limits) (t : Tables) (ms : List ℕ) (e : Fault) (u : Tables) (us : List ℕ) : Type 0 where
  -- "a lent table is shorter than its full size"
  pub short : full_marked lim t ms ≡ false
  -- "The line is that of the fault for 4 to 8 [..], else 0."
  pub reason : e ≡ fault TableTooShort
  -- "all unchanged"
  pub left : u ≡ t
  pub marks : us ≡ ms
  -- "A refused reading returns four counts of 0, for reason 1 too"
  pub values : read_values (Err e) ≡ record { result = 0; reason = 1; line = 0; walks = 0; flips = 0; counts = no_counts }
  -- no table agrees with these counts
  pub disagrees : agree_marked lim no_counts u us ≡ false

-- one refused by another reason, whatever kind of text it was given: "tables 0"
pub record Zeroed (lim : Limits) (t : Tables) (ms : List ℕ) (e : Fault) (u : Tables) (us : List ℕ) : Type 0 where
  pub lent-full : full_marked lim t ms ≡ true
  -- '"Tables 0" means the full sizes'
  pub left : u ≡ cleared lim t
  pub marks : us ≡ unmarked lim ms
  pub in_full-sizes : each take (full_sizes lim) u ≡ each (λ n xs. zeros n) (full_sizes lim) t
  -- "the excess is never read or written"
  pub beyond : each drop (full_sizes lim) u ≡ each drop (full_sizes lim) t
  pub full : full_marked lim u us ≡ true
  -- "all four counts are then 0"
  pub values : read_values (Err e) ≡ record { result = 0; reason = number_of e.reason; line = e.line; walks = 0; flips = 0; counts = no_counts }
  -- no clause stands in such tables, so no counts agree with them, these four neither
  pub disagrees : (m : Counts) → agree_marked lim m u us ≡ false

-- so one of our own text: "tables 0"
pub record Emptied (lim : Limits) (text : List ℕ) (t : Tables) (ms : List ℕ) (e : Fault) (u : Tables) (us : List ℕ) : Type 0 where
  pub lent-full : full_marked lim t ms ≡ true
  pub read : read_text lim text ≡ refused e
  -- "A reading tests 1, 2, 3, then the text from the left, then 9."
  pub which : (e.reason ≡ TextTooLong) ⊎ (of_text e.reason ≡ true)
  -- "The line is that of the fault for 4 to 8", and 15: one of the text's, of which there are as many as bytes 10
  pub some-line : names_line e.reason ≡ true → 0 < e.line
  pub last_line_lem : e.line ≤ times 10 text
  -- "else 0"
  pub no_line : names_line e.reason ≡ false → e.line ≡ 0
  -- '"Tables 0" means the full sizes'
  pub left : u ≡ cleared lim t
  pub marks : us ≡ unmarked lim ms
  pub in_full-sizes : each take (full_sizes lim) u ≡ each (λ n xs. zeros n) (full_sizes lim) t
  -- "the excess is never read or written"
  pub beyond : each drop (full_sizes lim) u ≡ each drop (full_sizes lim) t
  pub full : full_marked lim u us ≡ true
  -- "all four counts are then 0"
  pub values : read_values (Err e) ≡ record { result = 0; reason = number_of e.reason; line = e.line; walks = 0; flips = 0; counts = no_counts }
  -- no clause stands in such tables, so no counts agree with them, these four neither
  pub disagrees : (m : Counts) → agree_marked lim m u us ≡ false

-- ---- "then the text from the left": where a reading comes by, and what it cannot pass

-- its start, and then where each turn leads: on, or past a line that is dropped
pub data Comes (lim : Limits) (text : List ℕ) : Cursor → Draft → Type 0 where
  begins : Comes lim text start nothing
  goes_on : (c : Cursor) (d then : Draft) → Comes lim text c d → at_token lim d (scan text c).token ≡ goes then → Comes lim text (scan text c).next then
  drops-line : (c : Cursor) (d then : Draft) → Comes lim text c d → at_token lim d (scan text c).token ≡ drops then
      → Comes lim text (next_line text (scan text c).next) then

-- a literal that is not skipped and does not drop its line: it does not stand in it, and neither does its opposite
pub record Fresh (d : Draft) (l : Lit) : Type 0 where
  pub once : has (numbered d l l.negated) d.line ≡ false
  pub one_way : has (numbered d l (not l.negated)) d.line ≡ false

-- a token that a reading cannot pass where it has read d: reasons 4 to 9 and 15, "given exactly when", with the line of the token
pub data Fails (lim : Limits) (d : Draft) : Token → Fault → Type 0 where
  -- "a byte not allowed there"
  bad-byte : (n : ℕ) → Fails lim d (Bad n) (fault_at n ByteNotAllowed)
  -- "a name's ninth byte"
  ninth_byte : (n : ℕ) → Fails lim d (Long n) (fault_at n NinthByte)
  -- "a new term when 2,048 are known"
  term-room : (l : Lit) → Fresh d l → has l.name d.names ≡ false → lim.terms ≤ length d.names → Fails lim d (Literal l) (fault_at l.line TooManyTerms)
  -- "a literal when 16,384 are held", its term known or given room
  literal-room : (l : Lit) → Fresh d l → (has l.name d.names ≡ false → length d.names < lim.terms) → lim.literals ≤ held d
      → Fails lim d (Literal l) (fault_at l.line TooManyLiterals)
  -- "a kept line when 8,192 are held"
  clause-room : (n : ℕ) → 0 < length d.line → lim.clauses ≤ length d.clauses → Fails lim d (Line n) (fault_at n TooManyClauses)
  -- "Lines of nothing or only spaces", "met at its end"
  blank-line : (n : ℕ) → d.line ≡ [] → Fails lim d (Line n) (fault_at n BlankLine)
  -- "no clause kept"
  no_clause : (n : ℕ) → d.clauses ≡ [] → Fails lim d (End n) (fault NoClause)

-- "nothing or only spaces" from a place on, up to the line's byte 10
abbrev pub is_space : ℕ → Bool
is_space b = eqb b 32

pub record Bare (text : List ℕ) (at : ℕ) : Type 0 where
  pub within : past is_space text at < length text
  pub ended : get_or text (past is_space text at) 0 ≡ 10

-- "Reading stops at the first fault": the tests 1, 2 and 3 are passed, and the reading comes to a token that it cannot pass
pub record Stopped (lim : Limits) (text : List ℕ) (t : Tables) (ms : List ℕ) (e : Fault) : Type 0 where
  pub full : full_marked lim t ms ≡ true
  pub short : length text ≤ lim.text
  pub closed : open_end text ≡ false
  pub cursor : Cursor
  pub draft : Draft
  pub comes : Comes lim text cursor draft
  pub fails : Fails lim draft (scan text cursor).token e

-- ---- what a call gives

-- the reason's number, and 0 where there is none, of a text that comes to r
abbrev pub reason_into : Limits → Reading → Tables → List ℕ → ℕ
reason_into lim r t ms = (read_values (read_into lim r t ms).answer).reason

abbrev pub counts_into : Limits → Reading → Tables → List ℕ → Counts
counts_into lim r t ms = (read_values (read_into lim r t ms).answer).counts

-- and of our own text
abbrev pub reason_given : Limits → List ℕ → Tables → List ℕ → ℕ
reason_given lim text t ms = (read_values (reading_of lim text t ms).answer).reason

abbrev pub counts_given : Limits → List ℕ → Tables → List ℕ → Counts
counts_given lim text t ms = (read_values (reading_of lim text t ms).answer).counts

-- "given exactly when": each test is made when those before it have not refused
pub record Given (lim : Limits) (text : List ℕ) (t : Tables) (ms : List ℕ) : Type 0 where
  -- "a lent table is shorter than its full size"
  pub reason_1 : (reason_given lim text t ms ≡ 1) ↔ (full_marked lim t ms ≡ false)
  -- "text [..] over 65,536 bytes"
  pub reason-2 : (reason_given lim text t ms ≡ 2) ↔ ((full_marked lim t ms ≡ true) × (lim.text < length text))
  -- "text not empty and last byte not 10"
  pub reason_3 : (reason_given lim text t ms ≡ 3) ↔ ((full_marked lim t ms ≡ true) × ((length text ≤ lim.text) × (open_end text ≡ true)))
  -- those that name a line, and 9, each as `Fails` says it
  pub from-left : (e : Fault) → (names_line e.reason ≡ true) ⊎ (e.reason ≡ NoClause) → ((reading_of lim text t ms).answer ≡ Err e) ↔ Stopped lim text t ms e
  -- "no clause kept"
  pub reason_9 : (reason_given lim text t ms ≡ 9) ↔ ((full_marked lim t ms ≡ true) × (read_text lim text ≡ refused (fault NoClause)))
  -- no other than 1, 2 and the text's own
  pub no_other : (e : Fault) → (reading_of lim text t ms).answer ≡ Err e → (e.reason ≡ TableTooShort) ⊎ ((e.reason ≡ TextTooLong) ⊎ (of_text e.reason ≡ true))
  -- none is given to a text that can be read
  pub no_reason : (reason_given lim text t ms ≡ 0) ↔ ((full_marked lim t ms ≡ true) × ((f : File) × (read_text lim text ≡ accepted f)))
