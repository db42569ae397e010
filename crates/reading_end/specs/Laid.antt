-- What a reading of any kind of text has left at its end: a file in names, starts and literals, and what it used on its way. Assumes nothing.
use Rattle.std.specs.Prelude.{◌+◌, ◌≤◌, ◌≡◌, length, take, drop}
use mathlib.Core.List.{flatten}
use Rattle.written.specs.Lists.{total}
use Rattle.written.specs.Limits.{Limits}
use Rattle.written.specs.Clauses.{File}
use Rattle.written.specs.Tables.{Tables, starts_from, over}
use Rattle.reading_lines.specs.declared.Place.{Place}
use Rattle.reading_lines.specs.Drafting.{Desk}
use Rattle.reading_end.specs.Clearing.{desk_in}

-- the tables w of a draft have their full sizes, those that stamps and slots stand in too, and past these they are what was lent, w₀
pub record PastOn (lim : Limits) (w₀ w : Desk) : Type 0 where
  pub names-room : lim.terms ≤ length w.names
  pub starts-room : lim.clauses + 1 ≤ length w.starts
  pub literals_room : lim.literals ≤ length w.literals
  pub stamps-room : lim.terms ≤ length w.stamps
  pub slots-room : lim.clauses ≤ length w.slots
  pub names-past : drop lim.terms w.names ≡ drop lim.terms w₀.names
  pub starts-past : drop (lim.clauses + 1) w.starts ≡ drop (lim.clauses + 1) w₀.starts
  pub literals-past : drop lim.literals w.literals ≡ drop lim.literals w₀.literals
  pub stamps-past : drop lim.terms w.stamps ≡ drop lim.terms w₀.stamps
  pub slots-past : drop lim.clauses w.slots ≡ drop lim.clauses w₀.slots

-- the file f is laid in them, and p says how far it goes; of literals past those kept, of stamps and of slots nothing is asked
pub record LaidOn (lim : Limits) (w₀ w : Desk) (p : Place) (f : File) : Type 0 where
  pub terms_are : p.terms ≡ length f.names
  pub clauses_are : p.clauses ≡ length f.clauses
  pub from_is : p.from ≡ total length f.clauses
  pub names_are : w.names ≡ over f.names w₀.names
  pub starts_are : w.starts ≡ over (starts_from 0 f.clauses) w₀.starts
  pub kept_are : take p.from w.literals ≡ flatten f.clauses
  pub past : PastOn lim w₀ w

-- the same of lent tables t: stamps stand in the break counts, slots in the places
abbrev pub Past : Limits → Tables → Desk → Type 0
Past lim t w = PastOn lim (desk_in t) w

abbrev pub Laid : Limits → Tables → Desk → Place → File → Type 0
Laid lim t w p f = LaidOn lim (desk_in t) w p f
