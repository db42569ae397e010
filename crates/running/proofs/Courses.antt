-- A run by how it sets out: what each way comes to. Assumes nothing.
use Prim.Native.Nat.{ℕ, ◌+◌, ◌-◌, ◌^◌, ◌≤◌, ◌<◌}
use mathlib.Core.Logic.{inl, inr}
use mathlib.Core.Path.{◌≡◌, refl, ap, sym, subst, ◌∙◌}
use mathlib.Core.Bool.{Bool, true, false, not}
use mathlib.Core.List.{List, []}
use native.Mathlib.Omega.{arith}
use lib.ListN.{length, take, drop}
use borrow.Author.Tests.{leb-true}
use borrow.Author.Rules.{part_to_end}
use Rattle.std.specs.Prelude.{Err}
use Rattle.written.specs.declared.Form.{Form}
use Rattle.written.specs.declared.Order.{Order}
use Rattle.written.specs.declared.Fault.{Fault}
use Rattle.written.specs.declared.Sheet.{Sheet}
use Rattle.written.specs.declared.RunAnswer.{RunAnswer}
use Rattle.written.specs.Limits.{Limits}
use Rattle.written.specs.Reading.{Reading, accepted, refused}
use Rattle.written.specs.Numbered.{read_as}
use Rattle.written.specs.Tables.{Tables, lent, over}
use Rattle.written.specs.Marks.{marks_full, full_marked, unmarked}
use Rattle.written.specs.Walk.{walk_over}
use Rattle.written.specs.Competition.{refusal_as}
use Rattle.written.specs.Program.{Ran, unbegun, unread, walked, after_reading, course_as, said_as, report_size, tables_after, marks_after, run_refused, ran_as, run_as}
use Rattle.laws.proofs.Marks.{unmarked-drop, unmarked-full, unmarked-by, full-tables, full-marks, full-both}
use Rattle.laws.proofs.Forms.{form-short, form-ran}
use Rattle.machine.specs.Passes.{zeroed}
use Rattle.machine.proofs.Cleared.{zeroed-over}
use Rattle.laws.proofs.Tests.{said_no, said-yes}
use Rattle.running_input.specs.declared.Outset.{Outset}
use Rattle.running_input.specs.declared.Outset.TheVariants.{Long, Refused, Begins}
use Rattle.running_input.specs.Outsets.{outset_of}
use Rattle.running_input.proofs.Courses.{Says, outset-says}
use Rattle.reading_lines.specs.Drafting.{Desk}
use Rattle.reading_end.specs.Clearing.{Others, wiped, wiped_others, desk_in, others_in}
use Rattle.reading_end.proofs.Cleared.{both-wiped, blanked-is}
use Rattle.pages.specs.Pages.{page, put, CanPut}
use Rattle.running_text.specs.Running.{answered, ended, CanRun, CanRead}
use Rattle.running_text.proofs.Ends.{ended_by, refusal-room}

-- marks that were cleared
module _ (lim : Limits) (t : Tables) (ms : List ℕ) (full : full_marked lim t ms ≡ true) {ns : List ℕ} (wiped : ns ≡ zeroed lim.terms ms) where
  now_clear : ns ≡ unmarked lim ms
  unfolding unmarked marks_full
  now_clear = wiped ∙ zeroed-over lim.terms ms (leb-true lim.terms (length ms) (full-marks lim t ms full))

  still_full : full_marked lim t ns ≡ true
  still_full = full-both lim t ns (full-tables lim t ms full) (ap (marks_full lim) now_clear ∙ unmarked-full lim ms (full-marks lim t ms full))

  stays-clear : unmarked lim ns ≡ unmarked lim ms
  stays-clear = ap (unmarked lim) now_clear ∙ unmarked-by lim (unmarked lim ms) ms (unmarked-drop lim ms)

  -- a run that reads leaves the same as if they were not
  same-ran : (form : Form) (b : List ℕ) (o : Order) (r : Reading) → ran_as form lim t ns b (after_reading o r) ≡ ran_as form lim t ms b (after_reading o r)
  unfolding ran_as marks_after after_reading
  same-ran form b o (accepted f) =
      let lines : List ℕ = said_as form (walked (walk_over o [] f)) in
      λ i. ended (length lines) (tables_after lim t (walked (walk_over o [] f))) (stays-clear i) (over lines b)
  same-ran form b o (refused e) = λ i. ended (length (said_as form (unread e))) (tables_after lim t (unread e)) (stays-clear i) (over (said_as form (unread e)) b)

module _ (form : Form) (lim : Limits) (input : List ℕ) (t : Tables) (ms b : List ℕ) (can : CanRun lim t ms b) where
  -- a was told of how it sets out, and is o
  module _ (o : Outset) {a : Outset} (answer : a ≡ outset_of lim input) (told : a ≡ o) where
    known : Says form lim input o
    known = subst (Says form lim input) (sym answer ∙ told) (outset-says form lim input)

  -- an input that is too long
  module _ (e : Fault) {a : Outset} (answer : a ≡ outset_of lim input) (told : a ≡ Long e) where
    pub long-fits : lim.text + 1 < 10 ^ 16 → CanPut (refusal_as form e) (page 0 b)
    long-fits short = refusal-room form lim t ms b can e short (omega (arith, (known (Long e) answer told).1))

    pub long-ends : {w : Desk} {o : Others} {ns : List ℕ} → w ≡ wiped lim (desk_in t) → o ≡ wiped_others lim (others_in t) → ns ≡ zeroed lim.terms ms
        → {r : ℕ} {out : List ℕ} → page r out ≡ put (refusal_as form e) (page 0 b)
        → ended r (lent w.names o.values w.starts w.literals o.occurrence_starts o.occurrences o.trues w.stamps o.uncovered w.slots) ns out
        ≡ ran_as form lim t ms b (course_as form lim input)
    unfolding said_as tables_after marks_after
    long-ends draft others marks written =
        ended_by form lim t ms b (unread e) (both-wiped lim t draft others ∙ blanked-is lim t (full-tables lim t ms can.full)) (now_clear lim t ms can.full marks) written
        ∙ ap (ran_as form lim t ms b) (sym (known (Long e) answer told).0)

  -- a sheet that is refused
  module _ (e : Fault) {a : Outset} (answer : a ≡ outset_of lim input) (told : a ≡ Refused e) where
    pub sheet-fits : lim.text + 1 < 10 ^ 16 → CanPut (refusal_as form e) (page 0 b)
    sheet-fits short = refusal-room form lim t ms b can e short (omega (arith, (known (Refused e) answer told).1))

    pub sheet-ends : {r : ℕ} {out : List ℕ} → page r out ≡ put (refusal_as form e) (page 0 b) → ended r t ms out ≡ ran_as form lim t ms b (course_as form lim input)
    unfolding said_as tables_after marks_after
    sheet-ends written = ended_by form lim t ms b (unbegun (Err e)) refl refl written ∙ ap (ran_as form lim t ms b) (sym (known (Refused e) answer told).0)

  -- a text that is to be read
  module _ (s : Sheet) {a : Outset} (answer : a ≡ outset_of lim input) (told : a ≡ Begins s) where
    pub text-within : s.at ≤ length input
    text-within = (known (Begins s) answer told).2

    -- the marks ns are those cleared
    module _ {ns : List ℕ} (marks : ns ≡ zeroed lim.terms ms) where
      pub sheet-reads : CanRead lim s.order t ns b
      sheet-reads =
          record {
            run = record { full = still_full lim t ms can.full marks; room = can.room };
            range = (known (Begins s) answer told).1;
            clear = stays-clear lim t ms can.full marks ∙ sym (now_clear lim t ms can.full marks);
          }

      -- it is lent as the part of the input from its place to the end
      pub text-ends : {z : Ran} → z ≡ ran_as form lim t ns b (after_reading s.order (read_as form lim (take (length input - s.at) (drop s.at input))))
          → z ≡ ran_as form lim t ms b (course_as form lim input)
      text-ends e =
          e ∙ same-ran lim t ms can.full marks form b s.order _
          ∙ ap (λ (text : List ℕ). ran_as form lim t ms b (after_reading s.order (read_as form lim text))) (part_to_end input s.at)
          ∙ ap (ran_as form lim t ms b) (sym (known (Begins s) answer told).0)

-- whether a run can begin
module _ (form : Form) (lim : Limits) (t : Tables) (ms b : List ℕ) where
  -- a is answered to a run that is refused
  pub buffer-short : {a : RunAnswer} → a ≡ run_refused → length b < report_size lim → (input : List ℕ) → answered a t ms b ≡ run_as form lim input t ms b
  buffer-short told short input = ap (λ (x : RunAnswer). answered x t ms b) told ∙ sym (form-short form lim input t ms b (inr short))

  -- r was answered to whether the tables are full
  module _ {r : Bool} (asked : r ≡ full_marked lim t ms) where
    pub tables-short : {a : RunAnswer} → a ≡ run_refused → not r ≡ true → (input : List ℕ) → answered a t ms b ≡ run_as form lim input t ms b
    tables-short told short input = ap (λ (x : RunAnswer). answered x t ms b) told ∙ sym (form-short form lim input t ms b (inl (said_no short asked)))

    module _ (yes : not r ≡ false) (room : report_size lim ≤ length b) where
      pub can-run : CanRun lim t ms b
      can-run = record { full = said-yes yes asked; room = room }

      pub run_ends : (input : List ℕ) {z : Ran} → z ≡ ran_as form lim t ms b (course_as form lim input) → z ≡ run_as form lim input t ms b
      run_ends input e = e ∙ sym (form-ran form lim input t ms b (said-yes yes asked) room)
