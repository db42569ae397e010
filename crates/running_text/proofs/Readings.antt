-- A reading in a run: refused, it is printed and the tables are 0; accepted, a walk can follow and goes over the file that was read. Assumes nothing.
use Prim.Native.Nat.{ℕ, ◌+◌, ◌^◌, ◌≤◌, ◌<◌}
use mathlib.Core.Logic.{◌⊎◌, inl, inr}
use mathlib.Core.Path.{◌≡◌, ap, sym, subst₂, ◌∙◌}
use mathlib.Core.Bool.{true≢false}
use mathlib.Core.List.{List, []}
use native.Mathlib.Omega.{arith}
use lib.ListN.{length}
use Rattle.std.specs.Prelude.{Result, Ok, Err}
use Rattle.written.specs.declared.Counts.{Counts}
use Rattle.written.specs.declared.Order.{Order}
use Rattle.written.specs.declared.Fault.{Fault}
use Rattle.written.specs.declared.Form.{Form}
use Rattle.written.specs.Limits.{Limits}
use Rattle.written.specs.Clauses.{File, State, as_read, afresh}
use Rattle.written.specs.Reading.{Reading, accepted, refused}
use Rattle.written.specs.Tables.{Tables, over}
use Rattle.written.specs.Agreement.{file_in, state_in}
use Rattle.written.specs.Walk.{walk_over}
use Rattle.written.specs.Marks.{unmarked}
use Rattle.written.specs.Outcomes.{leaves, ten, ten_of, read_leaves, read_into}
use Rattle.written.specs.Competition.{refusal_as}
use Rattle.written.specs.Program.{Ran, walked, after_reading, said_as, tables_after, marks_after, ran_as}
use Rattle.laws.specs.Calls.{Stands}
use Rattle.laws.proofs.Leaves.{the_answer, the_tables, the_marks}
use Rattle.laws.proofs.Drafts.{Sound}
use Rattle.laws.proofs.Holding.{holding-by}
use Rattle.laws.proofs.Stands.{stands-allowed}
use Rattle.laws.proofs.Valids.{end-valid}
use Rattle.laws.proofs.ReadCalls.{ten_into, into_accepted, into_refused}
use Rattle.laws.specs.ReadCalls.{LeftAlone, Zeroed}
use Rattle.pages.specs.Pages.{page, put, CanPut}
use Rattle.running_text.specs.Running.{ended, CanRead, CanWalk}
use Rattle.running_text.proofs.Ends.{ended_by, refusal-room}

-- a reading r that answered a and left u, under marks of 0
module _ (form : Form) (lim : Limits) (o : Order) (r : Reading) (t : Tables) (ms b : List ℕ) (can : CanRead lim o t ms b) {a : Result Counts Fault} {u : Tables}
    (read : ten a u ≡ ten_of (read_leaves lim t [] r)) where
  whole : leaves a u (unmarked lim ms) ≡ read_into lim r t ms
  whole = ten_into lim r t ms can.run.full read

  answer : a ≡ (read_into lim r t ms).answer
  answer = the_answer whole

  tables : u ≡ (read_into lim r t ms).tables
  tables = the_tables whole

  marks : ms ≡ (read_into lim r t ms).marks
  marks = sym can.clear ∙ the_marks whole

  module _ (e : Fault) (told : a ≡ Err e) where
    abbrev Left : Type 0
    Left = (r ≡ refused e) × Zeroed lim t ms e (read_into lim r t ms).tables (read_into lim r t ms).marks

    emptied : Left
    emptied = by_fullness (into_refused lim r t ms e (sym answer ∙ told))
      where
        by_fullness : LeftAlone lim t ms e (read_into lim r t ms).tables (read_into lim r t ms).marks ⊎ Left → Left
        by_fullness (inl h) = absurd (true≢false (sym can.run.full ∙ h.short))
        by_fullness (inr h) = h

    pub refused-fits : lim.text + 1 < 10 ^ 16 → ((d : Fault) → r ≡ refused d → d.line ≤ lim.text) → CanPut (refusal_as form e) (page 0 b)
    refused-fits short lines = refusal-room form lim t ms b can.run e short (omega (arith, lines e emptied.0))

    pub refused-ends : {n : ℕ} {out : List ℕ} → page n out ≡ put (refusal_as form e) (page 0 b) → ended n u ms out ≡ ran_as form lim t ms b (after_reading o r)
    unfolding after_reading said_as tables_after marks_after
    refused-ends written =
        rw emptied.0 (ended_by form lim t ms b (after_reading o (refused e)) (tables ∙ emptied.1.left) (sym can.clear) written)

  module _ (sound : Sound lim r) (n : Counts) (told : a ≡ Ok n) where
    abbrev file : File
    file = (into_accepted lim r t ms sound n (sym answer ∙ told)).0

    said_so : r ≡ accepted file
    said_so = (into_accepted lim r t ms sound n (sym answer ∙ told)).2

    stands : Stands lim (as_read file) t n u ms
    stands =
        subst₂ (λ (w : Tables) (us : List ℕ). Stands lim (as_read file) t n w us) (sym tables) (sym marks)
        (into_accepted lim r t ms sound n (sym answer ∙ told)).3.stands

    pub accepted-walks : CanWalk lim o n u ms b
    accepted-walks = record { allowed = stands-allowed lim (as_read file) t n u ms stands o can.range; room = can.run.room; clear = can.clear }

    same-file : file_in n u ≡ file
    unfolding state_in as_read afresh
    same-file = ap (λ (s : State). s.file) stands.state

    same-ran : ran_as form lim u ms b (walked (walk_over o [] file)) ≡ ran_as form lim t ms b (walked (walk_over o [] file))
    unfolding ran_as said_as tables_after as_read afresh
    same-ran =
        let held = holding-by lim (walk_over o [] file).last.state u t (end-valid lim o [] file stands.valid.proper) stands.beyond in
        let lines : List ℕ = said_as form (walked (walk_over o [] file)) in
        λ i. ended (length lines) (held i) (marks_after lim ms (walked (walk_over o [] file))) (over lines b)

    pub accepted-ends : {z : Ran} → z ≡ ran_as form lim u ms b (walked (walk_over o [] (file_in n u))) → z ≡ ran_as form lim t ms b (after_reading o r)
    unfolding after_reading
    accepted-ends e =
        e ∙ ap (λ (f : File). ran_as form lim u ms b (walked (walk_over o [] f))) same-file ∙ same-ran
        ∙ ap (λ (s : Reading). ran_as form lim t ms b (after_reading o s)) (sym said_so)
