-- A reading of numbered text as a call: `numbered_of lim text t ms` is what it answers and leaves, of numbered text, lent tables t and marks ms.
-- Assumes nothing.
use Rattle.std.specs.Prelude.{ℕ, ◌≤◌, ◌<◌, ◌↔◌, ◌⊎◌, ◌≡◌, true, false, List, length, Err}
use Rattle.scan.specs.Scan.{open_end}
use Rattle.written.specs.declared.Counts.{Counts}
use Rattle.written.specs.declared.Reason.TheVariants.{TableTooShort, TextTooLong}
use Rattle.written.specs.declared.Fault.{Fault}
use Rattle.written.specs.Limits.{Limits}
use Rattle.written.specs.Clauses.{File}
use Rattle.written.specs.Reading.{accepted}
use Rattle.written.specs.Numbered.{read_numbered}
use Rattle.written.specs.Tables.{Tables}
use Rattle.written.specs.Marks.{full_marked}
use Rattle.written.specs.Outcomes.{numbered_of, read_values}
use Rattle.laws.specs.Reasons.{of_numbered, past_tests}
use Rattle.laws.specs.NumberedCalls.{Heads, Stopped}

-- the reason's number, and 0 where there is none
abbrev pub reason_numbered : Limits → List ℕ → Tables → List ℕ → ℕ
reason_numbered lim text t ms = (read_values (numbered_of lim text t ms).answer).reason

abbrev pub counts_numbered : Limits → List ℕ → Tables → List ℕ → Counts
counts_numbered lim text t ms = (read_values (numbered_of lim text t ms).answer).counts

-- each reason "exactly when"
pub record Given (lim : Limits) (text : List ℕ) (t : Tables) (ms : List ℕ) : Type 0 where
  -- "after 1, 2 and 3"
  pub reason_1 : (reason_numbered lim text t ms ≡ 1) ↔ (full_marked lim t ms ≡ false)
  pub reason-2 : (reason_numbered lim text t ms ≡ 2) ↔ ((full_marked lim t ms ≡ true) × (lim.text < length text))
  pub reason_3 : (reason_numbered lim text t ms ≡ 3) ↔ ((full_marked lim t ms ≡ true) × ((length text ≤ lim.text) × (open_end text ≡ true)))
  -- "in reading order with the line": 16 and 6 as `Heads` says it, 4, 18, 17, 15, 7, 8 and 9 as `Fails` does
  pub in_order : (e : Fault) → past_tests e.reason ≡ true → ((numbered_of lim text t ms).answer ≡ Err e)
      ↔ ((full_marked lim t ms ≡ true) × (length text ≤ lim.text) × (open_end text ≡ false) × (Heads lim text e ⊎ Stopped lim text e))
  -- no other than 1, 2 and the text's own
  pub no_other : (e : Fault) → (numbered_of lim text t ms).answer ≡ Err e
      → (e.reason ≡ TableTooShort) ⊎ ((e.reason ≡ TextTooLong) ⊎ (of_numbered e.reason ≡ true))
  -- none is given to a text that can be read
  pub no_reason : (reason_numbered lim text t ms ≡ 0) ↔ ((full_marked lim t ms ≡ true) × ((f : File) × (read_numbered lim text ≡ accepted f)))
