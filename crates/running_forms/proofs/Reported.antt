-- What is printed by the tables that a walk leaves is what is written of its outcome, in either form. Assumes nothing.
use mathlib.Core.Path.{◌≡◌}
use mathlib.Core.Bool.{true}
use mathlib.Core.List.{List}
use Prim.Native.Nat.{ℕ}
use Rattle.written.specs.declared.Form.{Form}
use Rattle.written.specs.declared.Form.TheVariants.{Own, Numbered}
use Rattle.written.specs.Limits.{Limits}
use Rattle.written.specs.Tables.{Tables, are_full}
use Rattle.written.specs.Walk.{Outcome}
use Rattle.written.specs.Outcomes.{walk_leaves}
use Rattle.written.specs.Competition.{report_as}
use Rattle.laws.specs.Valid.{Valid}
use Rattle.running_report.proofs.Reported.{reported}
use Rattle.running_values.proofs.Competed.{competed-is}
use Rattle.running_forms.specs.Reporting.{report_by}

pub form-reported : (form : Form) (lim : Limits) (e : Outcome) (t : Tables) (ms : List ℕ) → Valid lim e.last.state → are_full lim t ≡ true
    → report_by form lim (walk_leaves lim t ms e).answer (walk_leaves lim t ms e).tables.names (walk_leaves lim t ms e).tables.values ≡ report_as form e
unfolding report_by
form-reported Own lim e t ms v full = reported lim e t ms v full
form-reported Numbered lim e t ms v full = competed-is lim e t ms v
