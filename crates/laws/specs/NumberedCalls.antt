-- A reading of numbered text in the document's words: its header, where its numbers lead, and what it cannot pass. Assumes nothing.
use Rattle.std.specs.Prelude.{ℕ, ◌-◌, ◌≤◌, ◌<◌, ◌⊎◌, ◌≡◌, true, false, not, List, [], length, Some, None}
use Rattle.scan.specs.declared.Cursor.{Cursor}
use Rattle.scan.specs.Scan.{start}
use Rattle.written.specs.declared.Reason.TheVariants.{ByteNotAllowed, TooManyTerms, TooManyLiterals, TooManyClauses, NoClause, BlankLine, HeaderForm, ClauseCount, PastHeader}
use Rattle.written.specs.declared.Fault.{Fault}
use Rattle.written.specs.declared.Header.{Header}
use Rattle.written.specs.declared.Signed.{Signed}
use Rattle.written.specs.declared.Numeral.{Numeral}
use Rattle.written.specs.declared.Numeral.TheVariants.{Number, Bad, End}
use Rattle.written.specs.Lists.{has, times}
use Rattle.written.specs.Limits.{Limits}
use Rattle.written.specs.Reasons.{fault, fault_at}
use Rattle.written.specs.Clauses.{File, literal_of}
use Rattle.written.specs.Reading.{held}
use Rattle.written.specs.Numerals.{past_comments, header_at, number_at}
use Rattle.written.specs.Numbered.{Sum, on, is_open, at_numeral, begun}
use Rattle.laws.specs.Reasons.{names_numbered, may_name}

-- ---- the header

-- where it is to begin: past the "comment lines starting with c"
abbrev pub head_at : List ℕ → Cursor
head_at t = past_comments (length t) t start

-- what it says, of no more variables than there may be terms
pub record Heading (lim : Limits) (t : List ℕ) (h : Header) : Type 0 where
  pub there : (head_at t).at < length t
  pub says : header_at t (head_at t).at ≡ Some h
  pub few : h.variables ≤ lim.terms

-- one that a reading cannot pass: reasons 16 and 6, "given exactly when"
pub data Heads (lim : Limits) (t : List ℕ) : Fault → Type 0 where
  -- "or missing (line 0 at the text's end)"
  missing : length t ≤ (head_at t).at → Heads lim t (fault HeaderForm)
  -- "header malformed", with its line
  malformed : (head_at t).at < length t → header_at t (head_at t).at ≡ None → Heads lim t (fault_at (head_at t).line HeaderForm)
  -- "a header of over 2,048 variables"
  term-room : (h : Header) → (head_at t).at < length t → header_at t (head_at t).at ≡ Some h → lim.terms < h.variables → Heads lim t (fault_at (head_at t).line TooManyTerms)

-- ---- the numbers: where a reading comes by, and what it cannot pass

-- the header's end, on its line
abbrev pub numbers_at : List ℕ → Header → Cursor
numbers_at t h = record { at = h.end; line = (head_at t).line }

-- there with every variable known, and then where each number leads
pub data Comes (lim : Limits) (t : List ℕ) (h : Header) : Cursor → Sum → Type 0 where
  begins : Comes lim t h (numbers_at t h) (begun h)
  goes_on : (c : Cursor) (s then : Sum) → Comes lim t h c s → at_numeral lim h s (number_at t c).numeral ≡ on then → Comes lim t h (number_at t c).next then

-- a number whose literal does not stand in the open clause, and neither does its opposite
pub record Fresh (ls : List ℕ) (x : Signed) : Type 0 where
  pub once : has (literal_of (x.number - 1) x.negated) ls ≡ false
  pub one_way : has (literal_of (x.number - 1) (not x.negated)) ls ≡ false

-- what a reading cannot pass where it has read s: reasons 4, 18, 17, 15, 7 and 8 with the line of the number, and at the end 17 and 9
pub data Fails (lim : Limits) (h : Header) (s : Sum) : Numeral → Fault → Type 0 where
  -- "anything else is reason 4"
  bad-word : (n : ℕ) → Fails lim h s (Bad n) (fault_at n ByteNotAllowed)
  -- "18 number above that", in a dropped clause too
  past-header : (x : Signed) → h.variables < x.number → Fails lim h s (Number x) (fault_at x.line PastHeader)
  -- "17 a clause's end past the header's count"
  past-count : (x : Signed) → x.number ≡ 0 → h.clauses ≤ s.ended → Fails lim h s (Number x) (fault_at x.line ClauseCount)
  -- "15 a clause of 0 alone"
  zero-alone : (x : Signed) → x.number ≡ 0 → s.ended < h.clauses → s.is_dropped ≡ false → s.draft.line ≡ [] → Fails lim h s (Number x) (fault_at x.line BlankLine)
  -- "7 [..] as before": a literal when 16,384 are held
  literal-room : (x : Signed) → 0 < x.number → x.number ≤ h.variables → s.is_dropped ≡ false → Fresh s.draft.line x → lim.literals ≤ held s.draft
      → Fails lim h s (Number x) (fault_at x.line TooManyLiterals)
  -- "and 8 as before": a kept clause when 8,192 are held
  clause-room : (x : Signed) → x.number ≡ 0 → s.ended < h.clauses → s.is_dropped ≡ false → 0 < length s.draft.line → lim.clauses ≤ length s.draft.clauses
      → Fails lim h s (Number x) (fault_at x.line TooManyClauses)
  -- "at the end 17, line 0, for a last clause unended or too few clauses"
  count-end : (is_open s ≡ true) ⊎ (s.ended < h.clauses) → Fails lim h s End (fault ClauseCount)
  -- "then 9"
  no_clause : is_open s ≡ false → h.clauses ≤ s.ended → s.draft.clauses ≡ [] → Fails lim h s End (fault NoClause)

-- the reading passes the header and comes to what it cannot pass
pub record Stopped (lim : Limits) (t : List ℕ) (e : Fault) : Type 0 where
  pub header : Header
  pub heading : Heading lim t header
  pub cursor : Cursor
  pub read : Sum
  pub comes : Comes lim t header cursor read
  pub fails : Fails lim header read (number_at t cursor).numeral e

-- the reading passes the header and comes to the text's end with no clause begun, as many ended as the header says, and one kept: f is what it has read
pub record Arrived (lim : Limits) (t : List ℕ) (f : File) : Type 0 where
  pub header : Header
  pub heading : Heading lim t header
  pub cursor : Cursor
  pub read : Sum
  pub comes : Comes lim t header cursor read
  pub at-end : (number_at t cursor).numeral ≡ End
  pub closed : is_open read ≡ false
  pub counted : read.ended ≡ header.clauses
  pub some : 0 < length read.draft.clauses
  pub file : f ≡ record { names = read.draft.names; clauses = read.draft.clauses }

-- a refused reading's line: one of the text's, or 0
pub record NumberedPlaced (t : List ℕ) (e : Fault) : Type 0 where
  pub most : e.line ≤ times 10 t
  pub some : names_numbered e.reason ≡ true → 0 < e.line
  pub none : names_numbered e.reason ≡ false → may_name e.reason ≡ false → e.line ≡ 0
