-- Document 02, [4]: what stands in the text of a numbered clause file, byte by byte. A text is the list of its bytes. Assumes nothing.
use Rattle.std.specs.Prelude.{ℕ, zero, suc, ◌+◌, ◌-◌, Bool, not, cond, ◌&&◌, List, length, get_or, take, drop, eqb, leb, ltb, Option, Some, None}
use Rattle.scan.specs.declared.Cursor.{Cursor}
use Rattle.scan.specs.declared.Kind.TheVariants.{Blank, Gap, Word}
use Rattle.scan.specs.Scan.{is_of, past, rest_at}
use Rattle.scan.specs.Text.{bytes}
use Rattle.written.specs.declared.Header.{Header}
use Rattle.written.specs.declared.Numeral.{Numeral}
use Rattle.written.specs.declared.Numeral.TheVariants.{Number, Bad, End}
use Rattle.written.specs.declared.Met.{Met}
use Rattle.written.specs.Lists.{times}
use Rattle.written.specs.Sheet.{is_number, value_of_digits, begins}

-- "spaces or tabs"
abbrev pub is_blank : ℕ → Bool
is_blank b = is_of Blank b

-- "Numbers stand apart by spaces, tabs or byte 10"
abbrev pub is_gap : ℕ → Bool
is_gap b = is_of Gap b

abbrev pub is_word : ℕ → Bool
is_word b = is_of Word b

-- where the word that begins at a place ends, and the word
abbrev pub word_end : List ℕ → ℕ → ℕ
word_end t at = past is_word t at

abbrev pub word_at : List ℕ → ℕ → List ℕ
word_at t at = take (word_end t at - at) (drop at t)

-- ---- the header

-- "comment lines starting with c (before the header only)": past those at a cursor. Each takes a byte, so a turn for each byte is enough.
unfoldable pub past_comments : ℕ → List ℕ → Cursor → Cursor
past_comments zero t c = c
past_comments (suc k) t c = cond (eqb (get_or t c.at 0) 99) (past_comments k t (record { at = suc (rest_at t c.at); line = suc c.line })) c

-- "one line `p cnf V C` (variables, clauses, no minus; spaces or tabs between, nothing after)": V and C from the place where V begins
unfoldable pub sizes_at : List ℕ → ℕ → Option Header
sizes_at t v =
    let c : ℕ = past is_blank t (word_end t v) in
    cond (is_number (word_at t v) && ltb (word_end t v) c && is_number (word_at t c) && eqb (get_or t (word_end t c) 0) 10)
    (Some (record { variables = value_of_digits (word_at t v); clauses = value_of_digits (word_at t c); end = word_end t c }))
    None

-- the line that begins at a place, as a header: its p, and then its cnf at k and its V at v
unfoldable pub header_at : List ℕ → ℕ → Option Header
header_at t at =
    let k : ℕ = past is_blank t (suc at) in
    let v : ℕ = past is_blank t (k + 3) in
    cond (begins (bytes "p") (drop at t) && ltb (suc at) k && begins (bytes "cnf") (drop k t) && ltb (k + 3) v) (sizes_at t v) None

-- ---- the numbers after it

abbrev pub is_minus : List ℕ → Bool
is_minus w = eqb (get_or w 0 0) 45

abbrev pub digits_of : List ℕ → List ℕ
digits_of w = cond (is_minus w) (drop 1 w) w

-- "an optional minus and 1 to 10 digits with no leading 0, and 0 stands without a minus"
unfoldable pub is_signed : List ℕ → Bool
is_signed w = is_number (digits_of w) && not (is_minus w && eqb (value_of_digits (digits_of w)) 0)

-- past the gaps at a cursor, the lines that end there counted
unfoldable pub past_gaps : List ℕ → Cursor → Cursor
past_gaps t c =
    let e : ℕ = past is_gap t c.at in
    record { at = e; line = c.line + times 10 (take (e - c.at) (drop c.at t)) }

-- a word on a line n as a number, or "anything else is reason 4"
unfoldable pub numeral_of : List ℕ → ℕ → Numeral
numeral_of w n = cond (is_signed w) (Number (record { negated = is_minus w; number = value_of_digits (digits_of w); line = n })) (Bad n)

-- what stands where the gaps end, and the cursor past it
unfoldable pub met : List ℕ → Cursor → Met
met t c =
    cond (leb (length t) c.at) (record { numeral = End; next = c })
    (record { numeral = numeral_of (word_at t c.at) c.line; next = record { at = word_end t c.at; line = c.line } })

unfoldable pub number_at : List ℕ → Cursor → Met
number_at t c = met t (past_gaps t c)
