-- Tables made 0: all of them, those of a draft, the others, and one from a place on. Assumes nothing.
use Rattle.std.specs.Prelude.{List, ℕ, take}
use Rattle.written.specs.Lists.{padded}
use Rattle.written.specs.Limits.{Limits}
use Rattle.written.specs.Tables.{Tables, each, full_sizes, over}
use Rattle.written.specs.Lending.{Held}
use Rattle.machine.specs.Passes.{zeroed}
use Rattle.reading_lines.specs.Drafting.{Desk, desk}

-- the ten tables, each in its full size
unfoldable pub blanked : Limits → Tables → Tables
blanked lim t = each zeroed (full_sizes lim) t

-- the tables in which a draft is made: stamps stand in the break counts, slots in the places
abbrev pub desk_in : Tables → Desk
desk_in t = desk t.names t.starts t.literals t.breaks t.places

-- and these cleared
unfoldable pub wiped : Limits → Desk → Desk
wiped lim w =
    desk (zeroed (full_sizes lim).names w.names) (zeroed (full_sizes lim).starts w.starts) (zeroed (full_sizes lim).literals w.literals)
    (zeroed (full_sizes lim).breaks w.stamps) (zeroed (full_sizes lim).places w.slots)

-- the tables that a draft does not use
pub record Others : Type 0 where
  pub values : List ℕ
  pub occurrence_starts : List ℕ
  pub occurrences : List ℕ
  pub trues : List ℕ
  pub uncovered : List ℕ

abbrev pub others : List ℕ → List ℕ → List ℕ → List ℕ → List ℕ → Others
others v os oc tc u = record { values = v; occurrence_starts = os; occurrences = oc; trues = tc; uncovered = u }

abbrev pub others_at : Held → Held → Held → Held → Held → Others
others_at v os oc tc u = others v os oc tc u

abbrev pub others_in : Tables → Others
others_in t = others t.values t.occurrence_starts t.occurrences t.trues t.uncovered

-- and these cleared
unfoldable pub wiped_others : Limits → Others → Others
wiped_others lim o =
    others (zeroed (full_sizes lim).values o.values) (zeroed (full_sizes lim).occurrence_starts o.occurrence_starts)
    (zeroed (full_sizes lim).occurrences o.occurrences) (zeroed (full_sizes lim).trues o.trues) (zeroed (full_sizes lim).uncovered o.uncovered)

-- the first entries stay, and from there up to n all become 0
unfoldable pub rest_zeroed : ℕ → ℕ → List ℕ → List ℕ
rest_zeroed n from xs = over (padded n (take from xs)) xs
