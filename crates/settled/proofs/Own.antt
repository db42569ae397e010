-- Of our own text, as it was shown before any text was spoken of: each is the case of a theorem on a text of any form. Assumes nothing.
use Prim.Native.Nat.{ℕ, ◌+◌, ◌≤◌, ◌<◌}
use mathlib.Core.Path.{◌≡◌, refl}
use mathlib.Core.Bool.{true}
use mathlib.Core.List.{List, []}
use Rattle.std.specs.Prelude.{Result, Ok, ⊤}
use Rattle.written.specs.declared.Reason.{Reason}
use Rattle.written.specs.declared.Fault.{Fault}
use Rattle.written.specs.declared.Counts.{Counts}
use Rattle.written.specs.declared.Order.{Order}
use Rattle.written.specs.declared.Form.TheVariants.{Own}
use Rattle.written.specs.Limits.{Limits}
use Rattle.written.specs.Reading.{from_left, read_text}
use Rattle.written.specs.Tables.{Tables, lent, are_full}
use Rattle.written.specs.Agreement.{file_in}
use Rattle.written.specs.Walk.{walk_over}
use Rattle.written.specs.Outcomes.{Ten, ten, ten_of, read_leaves, read_into, reading_of}
use Rattle.written.specs.Numbered.{read_as}
use Rattle.written.specs.Program.{Ran, ran, walked, after_reading}
use Rattle.laws.proofs.Readings.{reading-sound}
use Rattle.reading_lines.specs.Drafting.{Desk, Blank}
use Rattle.reading_end.specs.Bare.{Bare}
use Rattle.reading_end.specs.Tests.{text_tests}
use Rattle.reading_end.specs.Clearing.{desk_in, wiped, Others, others_in, wiped_others}
use Rattle.reading_end.proofs.Drawn as drawn
use Rattle.reading.proofs.Refused.{can_lay}
use Rattle.reading.proofs.Decided as decided
use Rattle.running_text.specs.Running.{CanRead}
use Rattle.running_text.proofs.Readings as readings

-- cleared tables are tables that a draft of clause text can be made in; H homes of names
module _ (lim : Limits) (text : List ℕ) (t : Tables) (b : Bare lim t) where
  pub can-draft : text_tests lim text ≡ Ok tt → (H : ℕ) → H + lim.terms + 1 ≤ lim.clauses → 0 < H → Blank H lim text (desk_in t)
  can-draft passed H slots-fit some = drawn.can-draft H lim slots-fit text (desk_in t) (can_lay lim text (from_left lim text) t b refl passed) some

  pub draft-can : {v : Result ⊤ Reason} → v ≡ text_tests lim text → v ≡ Ok tt → (H : ℕ) → H + lim.terms + 1 ≤ lim.clauses → 0 < H → Blank H lim text (desk_in t)
  draft-can asked told H slots-fit some = drawn.can-draft H lim slots-fit text (desk_in t) (can_lay lim text (from_left lim text) t b asked told) some

-- the ten tables, those of a draft and the others
abbrev joined : Desk → Others → Tables
joined w o = lent w.names o.values w.starts w.literals o.occurrence_starts o.occurrences o.trues w.stamps o.uncovered w.slots

-- what was read into cleared tables is what is read into the lent ones
pub was_read : (lim : Limits) (t : Tables) → are_full lim t ≡ true → {w : Desk} → w ≡ wiped lim (desk_in t) → {o : Others} → o ≡ wiped_others lim (others_in t)
    → (text : List ℕ) {l : Ten (Result Counts Fault)} → l ≡ ten_of (read_leaves lim (joined w o) [] (read_text lim text)) → l ≡ ten_of (read_leaves lim t [] (read_text lim text))
was_read lim t full p q text e = decided.was_read lim t full p q (read_text lim text) (reading-sound lim text) e

-- a reading that was accepted, and the walks over it, are the run
pub accepted-ends : (lim : Limits) (o : Order) (text : List ℕ) (t : Tables) (ms b : List ℕ) → CanRead lim o t ms b → {a : Result Counts Fault} {u : Tables}
    → ten a u ≡ ten_of (read_leaves lim t [] (read_text lim text)) → (n : Counts) → a ≡ Ok n
    → {z : Ran} → z ≡ ran lim u ms b (walked (walk_over o [] (file_in n u))) → z ≡ ran lim t ms b (after_reading o (read_text lim text))
accepted-ends lim o text t ms b can read n told e = readings.accepted-ends Own lim o (read_text lim text) t ms b can read (reading-sound lim text) n told e

-- what a reading of our own form leaves is the reading of clause text
pub own-reading : (lim : Limits) (text : List ℕ) (t : Tables) (ms : List ℕ) → read_into lim (read_as Own lim text) t ms ≡ reading_of lim text t ms
unfolding reading_of read_text
own-reading lim text t ms = refl

pub own-text : (lim : Limits) (text : List ℕ) → read_as Own lim text ≡ read_text lim text
unfolding read_text
own-text lim text = refl
