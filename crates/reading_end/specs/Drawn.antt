-- What a draft of any kind of text asks of its tables, and what it came to: the reading's file laid in them, or the reading's fault. Assumes nothing.
use Rattle.std.specs.Prelude.{ℕ, ◌+◌, ◌≤◌, ◌<◌, ◌≡◌, List, false, length, get_or, Result, Ok, Err}
use Rattle.scan.specs.Scan.{open_end}
use Rattle.written.specs.declared.Fault.{Fault}
use Rattle.written.specs.Limits.{Limits}
use Rattle.written.specs.Clauses.{File}
use Rattle.written.specs.Reading.{Reading, accepted, refused}
use Rattle.reading_lines.specs.declared.Place.{Place}
use Rattle.reading_lines.specs.Drafting.{Desk}
use Rattle.reading_end.specs.Laid.{PastOn, LaidOn}

-- a text that is not too long and ends with its last line, and tables in their full sizes, the first start and the slots 0
pub record CanLay (lim : Limits) (t : List ℕ) (w : Desk) : Type 0 where
  pub short : length t ≤ lim.text
  pub closed : open_end t ≡ false
  pub names-room : lim.terms ≤ length w.names
  pub starts-room : lim.clauses + 1 ≤ length w.starts
  pub literals_room : lim.literals ≤ length w.literals
  pub stamps-room : lim.terms ≤ length w.stamps
  pub slots-room : lim.clauses ≤ length w.slots
  pub first : get_or w.starts 0 0 ≡ 0
  pub bare : (j : ℕ) → j < lim.clauses → get_or w.slots j 0 ≡ 0

-- the reading r gives a file, which is laid in the tables w, up to the place p
pub record Gives (lim : Limits) (r : Reading) (w₀ w : Desk) (p : Place) : Type 0 where
  pub file : File
  pub is : r ≡ accepted file
  pub laid : LaidOn lim w₀ w p file

-- what a draft ends with is the reading r of its text; the tables were w₀ when they were lent
abbrev pub Laying : Limits → Reading → Desk → Desk → Result Place Fault → Type 0
Laying lim r w₀ w (Ok p) = Gives lim r w₀ w p
Laying lim r w₀ w (Err e) = (r ≡ refused e) × PastOn lim w₀ w
