-- How a run ends by what was put into its buffer, and what fits into that. Assumes nothing.
use Prim.Native.Nat.{ℕ, ◌+◌, ◌^◌, ◌≤◌, ◌<◌}
use mathlib.Core.Path.{◌≡◌, ap, ◌∙◌}
use mathlib.Core.List.{List, ◌++◌}
use native.Mathlib.Omega.{arith}
use lib.ListN.{length, drop}
use Rattle.written.specs.declared.Fault.{Fault}
use Rattle.written.specs.declared.Form.{Form}
use Rattle.written.specs.Limits.{Limits}
use Rattle.written.specs.Tables.{Tables, over}
use Rattle.written.specs.Competition.{refusal_as}
use Rattle.written.specs.Program.{Course, said_as, report_size, tables_after, marks_after, ran_as}
use Rattle.laws.specs.Sheets.{last_line}
use Rattle.laws.proofs.Competition.{form-refused}
use Rattle.pages.specs.Pages.{page, put, CanPut}
use Rattle.running_text.specs.Running.{ended, CanRun}

-- bytes put first into a buffer
pub front : (bs b : List ℕ) → put bs (page 0 b) ≡ page (length bs) (over bs b)
unfolding put
front bs b = let none : 0 + length bs ≡ length bs = omega arith in ap (λ (n : ℕ). page n (bs ++ drop n b)) none

-- those of a course, and the tables and marks that it leaves
pub ended_by : (form : Form) (lim : Limits) (t : Tables) (ms b : List ℕ) (c : Course) {n : ℕ} {u : Tables} {us out : List ℕ} → u ≡ tables_after lim t c → us ≡ marks_after lim ms c
    → page n out ≡ put (said_as form c) (page 0 b) → ended n u us out ≡ ran_as form lim t ms b c
unfolding ran_as
ended_by form lim t ms b c tables marks written = let all = written ∙ front (said_as form c) b in λ i. ended (all i).at (tables i) (marks i) (all i).buffer

-- what is no longer than a report can be fits
pub fits : (lim : Limits) (bs b : List ℕ) → length bs ≤ report_size lim → report_size lim ≤ length b → CanPut bs (page 0 b)
fits lim bs b short room = record { room = omega arith }

-- and so does a refusal by a line of a text within the limits, or of the sheet
pub refusal-room : (form : Form) (lim : Limits) (t : Tables) (ms b : List ℕ) → CanRun lim t ms b → (e : Fault) → lim.text + 1 < 10 ^ 16 → e.line ≤ lim.text + last_line
    → CanPut (refusal_as form e) (page 0 b)
refusal-room form lim t ms b can e short line = fits lim (refusal_as form e) b (form-refused form lim e short line) can.room
