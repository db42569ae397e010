-- A draft that gave a file, in tables that were cleared: it can be finished, and leaves the tables written for the text's reading. Assumes nothing.
use mathlib.Core.Path.{◌≡◌, ap, sym, ◌∙◌, subst}
use mathlib.Core.List.{List, []}
use Prim.Native.Nat.{ℕ, ◌+◌, ◌*◌, ◌≤◌, ◌<◌}
use Rattle.std.specs.Prelude.{Result, Ok, ⊤}
use Rattle.written.specs.declared.Reason.{Reason}
use Rattle.written.specs.declared.Counts.{Counts}
use Rattle.written.specs.declared.Fault.{Fault}
use Rattle.written.specs.Limits.{Limits}
use Rattle.written.specs.Clauses.{File}
use Rattle.written.specs.Reading.{Reading, accepted, after_tests}
use Rattle.written.specs.Tables.{Tables, lent}
use Rattle.written.specs.Outcomes.{ten, ten_of, read_leaves}
use Rattle.laws.specs.Valid.{Proper}
use Rattle.laws.proofs.Drafts.{Sound}
use Rattle.machine.specs.Tallies.{tallies}
use Rattle.machine.specs.Moving.{Fixed, fixed, Moving, moving}
use Rattle.reading_lines.specs.declared.Place.{Place}
use Rattle.reading_lines.specs.Drafting.{Desk}
use Rattle.reading_end.specs.Tests.{text_tests}
use Rattle.reading_end.specs.Bare.{Bare}
use Rattle.reading_end.specs.Clearing.{desk_in}
use Rattle.reading_end.specs.Finishing.{finishing, finished, CanFinish}
use Rattle.reading_end.specs.Drawn.{Gives, Laying}
use Rattle.reading_end.proofs.Whole.{can-finish, whole-leaves}
use Rattle.reading.proofs.Texts.{passed-read}

-- put together from what the calls gave, as they gave it: the text's bytes come to r, v was answered to its tests, and the draft ended by z, in the tables w
module _ (lim : Limits) (text : List ℕ) (r : Reading) (sound : Sound lim (after_tests lim text r)) (t : Tables) (b : Bare lim t) {v : Result ⊤ Reason} (asked : v ≡ text_tests lim text)
    (told : v ≡ Ok tt) (w : Desk) {z : Result Place Fault} (drawn : Laying lim r (desk_in t) w z) {p : Place} (ended : z ≡ Ok p)
    (top : ℕ) (fc : lim.clauses + 1 < top) (ft : 2 * lim.terms < top) (fl : lim.literals < top) (cursors-fit : 2 * lim.terms ≤ lim.clauses) where
  gives : Gives lim r (desk_in t) w p
  gives = subst (Laying lim r (desk_in t) w) ended drawn

  abbrev f : File
  f = gives.file

  read_is : after_tests lim text r ≡ accepted f
  read_is = passed-read lim text r (sym asked ∙ told) ∙ gives.is

  proper : Proper lim f
  proper = subst (Sound lim) read_is sound

  abbrev cut : Fixed
  cut = fixed w.starts w.literals t.occurrence_starts t.occurrences

  abbrev bare : Moving
  bare = moving t.values (tallies t.trues w.stamps t.uncovered w.slots 0)

  pub finish-can : CanFinish top lim p cut bare
  finish-can = can-finish lim t b f proper w p gives.laid top fc ft fl cursors-fit

  pub was-whole : {n : Counts} {y : Fixed} {m : Moving} → finishing n y m ≡ finished lim p cut bare
      → ten (Ok n) (lent w.names m.words y.starts y.literals y.occurrence_starts y.occurrences m.tallies.trues m.tallies.breaks
      m.tallies.uncovered.list m.tallies.uncovered.places)
      ≡ ten_of (read_leaves lim t [] (after_tests lim text r))
  was-whole e = whole-leaves lim t b f proper w p gives.laid top fc ft fl cursors-fit e ∙ sym (ap (λ q. ten_of (read_leaves lim t [] q)) read_is)
