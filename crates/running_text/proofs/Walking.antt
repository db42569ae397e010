-- Walks and their report: what they print and leave is what is written of their outcome. Assumes nothing.
use Prim.Native.Nat.{ℕ, ◌^◌, ◌≤◌, ◌<◌}
use mathlib.Core.Path.{◌≡◌, ap, ap₂, sym, subst, subst₂, ◌∙◌}
use mathlib.Core.Bool.{true}
use mathlib.Core.List.{List, []}
use native.Mathlib.Omega.{arith}
use lib.ListN.{length, get_or}
use Rattle.std.specs.Prelude.{Result}
use Rattle.written.specs.declared.Refusal.{Refusal}
use Rattle.written.specs.declared.Counts.{Counts}
use Rattle.written.specs.declared.Form.{Form}
use Rattle.written.specs.declared.Order.{Order}
use Rattle.written.specs.declared.Walked.{Walked}
use Rattle.written.specs.Limits.{Limits}
use Rattle.written.specs.Tables.{Tables, are_full}
use Rattle.written.specs.Agreement.{file_in, state_in}
use Rattle.written.specs.Walk.{Outcome, walk_over}
use Rattle.written.specs.Outcomes.{leaves, walk_leaves}
use Rattle.written.specs.Competition.{report_as}
use Rattle.written.specs.Program.{walked, said_as, tables_after, marks_after, ran_as}
use Rattle.laws.specs.Valid.{Proper, Valid}
use Rattle.laws.proofs.Leaves.{the_answer, the_tables}
use Rattle.laws.proofs.Agreeing.{agree-valid}
use Rattle.laws.proofs.Marks.{unmarked_get, full-tables, agree-tables}
use Rattle.laws.proofs.Valids.{end-valid}
use Rattle.laws.proofs.Pins.{unpinned}
use Rattle.laws.proofs.Sheets.{ranged}
use Rattle.laws.proofs.Competition.{form_walked}
use Rattle.walking.specs.Made.{walk_made}
use Rattle.pages.specs.Pages.{page, put, CanPut}
use Rattle.running_report.specs.Reporting.{names_in}
use Rattle.running_forms.specs.Reporting.{report_by, CanReportBy}
use Rattle.running_text.specs.Running.{ended, CanWalk}
use Rattle.running_report.proofs.Reported.{report-named}
use Rattle.running_forms.proofs.Reported.{form-reported}
use Rattle.running_text.proofs.Ends.{ended_by, fits}

-- an answer a and tables u that the walks have given
module _ (form : Form) (lim : Limits) (o : Order) (n : Counts) (t : Tables) (ms b : List ℕ) (can : CanWalk lim o n t ms b) {a : Result Walked Refusal} {u : Tables}
    (made : leaves a u ms ≡ walk_made lim o n t ms) where
  answer : a ≡ (walk_made lim o n t ms).answer
  answer = the_answer made

  tables : u ≡ (walk_made lim o n t ms).tables
  tables = the_tables made

  abbrev outcome : Outcome
  outcome = walk_over o ms (file_in n t)

  full : are_full lim t ≡ true
  full = full-tables lim t ms can.allowed.full

  proper : Proper lim (file_in n t)
  unfolding state_in
  proper = (agree-valid lim n t (agree-tables lim t ms n can.allowed.agrees) full).proper

  valid : Valid lim outcome.last.state
  valid = end-valid lim o ms (file_in n t) proper

  -- no term is marked: the walk is document 01's
  free : outcome ≡ walk_over o [] (file_in n t)
  free =
      unpinned lim o ms (file_in n t) proper
      (λ k l. ap (λ (xs : List ℕ). get_or xs k 0) (sym can.clear) ∙ unmarked_get lim ms k (omega (arith, proper.few-terms)))

  lines : report_by form lim a u.names u.values ≡ report_as form outcome
  lines = ap₂ (λ (x : Result Walked Refusal) (w : Tables). report_by form lim x w.names w.values) answer tables ∙ form-reported form lim outcome t ms valid full

  pub walk_reports : lim.terms < 10 ^ 7 → CanReportBy form lim a u.names u.values (page 0 b)
  walk_reports few =
      record {
        named = subst₂ (λ (x : Result Walked Refusal) (w : Tables). names_in x ≤ length w.names) (sym answer) (sym tables) (report-named lim outcome t ms valid full);
        fits = subst (λ (bs : List ℕ). CanPut bs (page 0 b)) (sym lines)
            (fits lim (report_as form outcome) b (form_walked form lim o ms (file_in n t) (ranged o can.allowed.range) proper few) can.room);
      }

  pub walk_ends : {r : ℕ} {out : List ℕ} → page r out ≡ put (report_by form lim a u.names u.values) (page 0 b)
      → ended r u ms out ≡ ran_as form lim t ms b (walked (walk_over o [] (file_in n t)))
  unfolding walk_leaves tables_after marks_after said_as
  walk_ends written =
      ended_by form lim t ms b (walked outcome) tables (sym can.clear) (written ∙ ap (λ (bs : List ℕ). put bs (page 0 b)) lines)
      ∙ ap (λ (e : Outcome). ran_as form lim t ms b (walked e)) free
