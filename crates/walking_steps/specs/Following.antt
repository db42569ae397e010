-- What it means that tables on which a walk stands hold a written moment, and that a walk can go on from there. Assumes nothing.
use Rattle.std.specs.Prelude.{ℕ, ◌+◌, ◌≤◌, ◌<◌, ◌≡◌, Bool, false, List, [], length, get_or}
use Rattle.written.specs.Lists.{padded}
use Rattle.written.specs.Clauses.{State, value_of}
use Rattle.written.specs.Tables.{words_of, over}
use Rattle.written.specs.Walk.{Moment}
use Rattle.laws.specs.Valid.{Bits}
use Rattle.machine.specs.Literals.{xor_true}
use Rattle.machine.specs.Tallies.{SameSizes}
use Rattle.machine.specs.Moving.{Fixed, Moving}
use Rattle.machine.specs.Holds.{HoldsAt, Kept}
use Rattle.walking_steps.specs.Stepping.{Stand}

-- the place of a covered clause, at rest and while walking
abbrev pub at_rest : State → ℕ → ℕ
at_rest s c = 0

abbrev pub walking : State → ℕ → ℕ
walking s c = xor_true (value_of s.values) (get_or s.file.clauses c [])

-- the tables x and those of v hold the moment m; base is what was lent, of which `full` value words are in use, ρ gives the places of covered clauses
pub record Follows (ρ : State → ℕ → ℕ) (top full : ℕ) (x : Fixed) (base : Moving) (m : Moment) (v : Stand) : Type 0 where
  pub tables : HoldsAt (ρ m.state) top m.state x v.tables
  pub one_each : length m.state.values ≡ length m.state.file.names
  pub bits : Bits m.state.values
  -- what is not in use stays
  pub words : v.tables.words ≡ over (padded full (words_of m.state.values)) base.words
  pub sizes : SameSizes v.tables.tallies base.tallies
  pub kept : Kept (length m.state.file.clauses) (length m.state.values) base.tallies v.tables.tallies
  pub generator : v.generator ≡ m.generator
  pub flips : v.flips ≡ m.flips

-- there is a moment that the tables hold: a walk over T terms and C clauses can start, under the marks ms
pub record CanBegin (top T C : ℕ) (ms : List ℕ) (x : Fixed) (v : Stand) : Type 0 where
  pub place : State → ℕ → ℕ
  pub full : ℕ
  pub base : Moving
  pub moment : Moment
  pub follows : Follows place top full x base moment v
  pub terms : length moment.state.file.names ≡ T
  pub clauses : length moment.state.file.clauses ≡ C
  pub marks : T ≤ length ms

-- and a walk can go on for k steps more, whose flips are counted below most; where `pinned` is false, no term is pinned
pub record CanGo (top k most : ℕ) (pinned : Bool) (ms : List ℕ) (x : Fixed) (v : Stand) : Type 0 where
  pub full : ℕ
  pub base : Moving
  pub moment : Moment
  pub follows : Follows walking top full x base moment v
  pub few : v.flips + k < most
  pub marks : length moment.state.values ≤ length ms
  pub plain : pinned ≡ false → (t : ℕ) → t < length moment.state.values → get_or ms t 0 ≡ 0
