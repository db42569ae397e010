-- The reasons told apart by what gives them: a new reason takes its place in each test by its name, whatever its number. Assumes nothing.
use Rattle.std.specs.Prelude.{Bool, true, false}
use Rattle.written.specs.declared.Reason.{Reason}
use Rattle.written.specs.declared.Reason.TheVariants.{TableTooShort, TextTooLong, TextCut, ByteNotAllowed, NinthByte, TooManyTerms, TooManyLiterals, TooManyClauses, NoClause, SheetForm, OutOfRange, TablesDisagree, UnknownTerm, ListTooLong, BlankLine, HeaderForm, ClauseCount, PastHeader, PinnedTerm}

-- "The line is that of the fault for 4 to 8 [..], else 0", and for 15 "with its line": a line of the text
abbrev pub names_line : Reason → Bool
names_line TableTooShort = false
names_line TextTooLong = false
names_line TextCut = false
names_line ByteNotAllowed = true
names_line NinthByte = true
names_line TooManyTerms = true
names_line TooManyLiterals = true
names_line TooManyClauses = true
names_line NoClause = false
names_line SheetForm = false
names_line OutOfRange = false
names_line TablesDisagree = false
names_line UnknownTerm = false
names_line ListTooLong = false
names_line BlankLine = true
names_line HeaderForm = false
names_line ClauseCount = false
names_line PastHeader = false
names_line PinnedTerm = false

-- a text's own, read under its limit: 3, "then the text from the left", then 9
abbrev pub of_text : Reason → Bool
of_text TableTooShort = false
of_text TextTooLong = false
of_text TextCut = true
of_text ByteNotAllowed = true
of_text NinthByte = true
of_text TooManyTerms = true
of_text TooManyLiterals = true
of_text TooManyClauses = true
of_text NoClause = true
of_text SheetForm = false
of_text OutOfRange = false
of_text TablesDisagree = false
of_text UnknownTerm = false
of_text ListTooLong = false
of_text BlankLine = true
of_text HeaderForm = false
of_text ClauseCount = false
of_text PastHeader = false
of_text PinnedTerm = false

-- the order sheet's: 10 and 11
abbrev pub of_sheet : Reason → Bool
of_sheet TableTooShort = false
of_sheet TextTooLong = false
of_sheet TextCut = false
of_sheet ByteNotAllowed = false
of_sheet NinthByte = false
of_sheet TooManyTerms = false
of_sheet TooManyLiterals = false
of_sheet TooManyClauses = false
of_sheet NoClause = false
of_sheet SheetForm = true
of_sheet OutOfRange = true
of_sheet TablesDisagree = false
of_sheet UnknownTerm = false
of_sheet ListTooLong = false
of_sheet BlankLine = false
of_sheet HeaderForm = false
of_sheet ClauseCount = false
of_sheet PastHeader = false
of_sheet PinnedTerm = false

-- a numbered text's own, read under its limit: 3, "in reading order" 4, 16, 6, 18, 17, 15, 7 and 8, "at the end 17 [..], then 9"
abbrev pub of_numbered : Reason → Bool
of_numbered TableTooShort = false
of_numbered TextTooLong = false
of_numbered TextCut = true
of_numbered ByteNotAllowed = true
of_numbered NinthByte = false
of_numbered TooManyTerms = true
of_numbered TooManyLiterals = true
of_numbered TooManyClauses = true
of_numbered NoClause = true
of_numbered SheetForm = false
of_numbered OutOfRange = false
of_numbered TablesDisagree = false
of_numbered UnknownTerm = false
of_numbered ListTooLong = false
of_numbered BlankLine = true
of_numbered HeaderForm = true
of_numbered ClauseCount = true
of_numbered PastHeader = true
of_numbered PinnedTerm = false

-- of a numbered text's, those with a line of the text: 4, 6, 7, 8, 15 and 18
abbrev pub names_numbered : Reason → Bool
names_numbered TableTooShort = false
names_numbered TextTooLong = false
names_numbered TextCut = false
names_numbered ByteNotAllowed = true
names_numbered NinthByte = false
names_numbered TooManyTerms = true
names_numbered TooManyLiterals = true
names_numbered TooManyClauses = true
names_numbered NoClause = false
names_numbered SheetForm = false
names_numbered OutOfRange = false
names_numbered TablesDisagree = false
names_numbered UnknownTerm = false
names_numbered ListTooLong = false
names_numbered BlankLine = true
names_numbered HeaderForm = false
names_numbered ClauseCount = false
names_numbered PastHeader = true
names_numbered PinnedTerm = false

-- and those with one, or with 0 "at the text's end": 16 and 17
abbrev pub may_name : Reason → Bool
may_name TableTooShort = false
may_name TextTooLong = false
may_name TextCut = false
may_name ByteNotAllowed = false
may_name NinthByte = false
may_name TooManyTerms = false
may_name TooManyLiterals = false
may_name TooManyClauses = false
may_name NoClause = false
may_name SheetForm = false
may_name OutOfRange = false
may_name TablesDisagree = false
may_name UnknownTerm = false
may_name ListTooLong = false
may_name BlankLine = false
may_name HeaderForm = true
may_name ClauseCount = true
may_name PastHeader = false
may_name PinnedTerm = false

-- of these, those past the tests of the text as a whole
abbrev pub past_tests : Reason → Bool
past_tests TableTooShort = false
past_tests TextTooLong = false
past_tests TextCut = false
past_tests ByteNotAllowed = true
past_tests NinthByte = false
past_tests TooManyTerms = true
past_tests TooManyLiterals = true
past_tests TooManyClauses = true
past_tests NoClause = true
past_tests SheetForm = false
past_tests OutOfRange = false
past_tests TablesDisagree = false
past_tests UnknownTerm = false
past_tests ListTooLong = false
past_tests BlankLine = true
past_tests HeaderForm = true
past_tests ClauseCount = true
past_tests PastHeader = true
past_tests PinnedTerm = false
