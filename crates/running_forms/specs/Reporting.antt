-- The lines of an answer, by the form of the text, the names and the value words that stand in the tables. Assumes nothing.
use Rattle.std.specs.Prelude.{ℕ, ◌≤◌, List, length, Result}
use Rattle.written.specs.declared.Refusal.{Refusal}
use Rattle.written.specs.declared.Form.{Form}
use Rattle.written.specs.declared.Form.TheVariants.{Own, Numbered}
use Rattle.written.specs.declared.Walked.{Walked}
use Rattle.written.specs.Limits.{Limits}
use Rattle.pages.specs.Pages.{Page, CanPut}
use Rattle.running_report.specs.Reporting.{report_in, names_in}
use Rattle.running_values.specs.Valuing.{competed_in}

-- the competition's lines name no term: a variable has its number
unfoldable pub report_by : Form → Limits → Result Walked Refusal → List ℕ → List ℕ → List ℕ
report_by Own lim a names words = report_in lim a names words
report_by Numbered lim a names words = competed_in a words

pub record CanReportBy (form : Form) (lim : Limits) (a : Result Walked Refusal) (names words : List ℕ) (p : Page) : Type 0 where
  pub named : names_in a ≤ length names
  pub fits : CanPut (report_by form lim a names words) p
