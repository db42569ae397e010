-- What is printed by the value words that a walk leaves is what is written of its outcome. Assumes nothing.
use mathlib.Core.Path.{◌≡◌, ap}
use mathlib.Core.List.{List, append_assoc}
use Prim.Native.Nat.{ℕ}
use Rattle.words.specs.Words.{bit_at}
use Rattle.written.specs.Lists.{list_of}
use Rattle.written.specs.Limits.{Limits}
use Rattle.written.specs.Clauses.{State}
use Rattle.written.specs.Tables.{Tables, counts_of, holding}
use Rattle.written.specs.Agreement.{state_in}
use Rattle.written.specs.Walk.{Outcome}
use Rattle.written.specs.Outcomes.{walk_leaves}
use Rattle.written.specs.Competition.{value_lines, tour_told, satisfiable, competed}
use Rattle.laws.specs.Valid.{Valid}
use Rattle.laws.proofs.Basics.{by_cases}
use Rattle.laws.proofs.Back.{holding-back}
use Rattle.running_values.specs.Valuing.{found_values, up_lines, competed_in}

-- the values that the words of a valid state's tables hold are its values
pub values-left : (lim : Limits) (s : State) (t : Tables) → Valid lim s → list_of (counts_of s).terms (bit_at (holding lim s t).values) ≡ s.values
unfolding state_in
values-left lim s t v = ap (λ (r : State). r.values) (holding-back lim s t v)

module _ (lim : Limits) (e : Outcome) (t : Tables) (ms : List ℕ) (v : Valid lim e.last.state) where
  pub competed-is : competed_in (walk_leaves lim t ms e).answer (walk_leaves lim t ms e).tables.values ≡ competed e
  unfolding walk_leaves competed_in found_values up_lines competed
  competed-is =
      by_cases e.found
      (λ q. rw (q, values-left lim e.last.state t v) (append_assoc (tour_told e.walks e.last.flips) satisfiable (value_lines e.last.state.values)))
      (λ q. rw q)
