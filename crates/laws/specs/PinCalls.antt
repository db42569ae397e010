-- A pin and a lift as calls, in the words of request 8: `pin_of lim k v n t ms` and `lift_of lim k n t ms` are what they answer and leave, of the term k, with
-- counts n, lent tables t and marks ms. Assumes nothing.
use Rattle.std.specs.Prelude.{ℕ, ◌+◌, ◌≤◌, ◌<◌, ◌↔◌, ◌⊎◌, ◌≡◌, true, false, List, length, get_or, Result, Ok, Err}
use Rattle.written.specs.declared.Counts.{Counts}
use Rattle.written.specs.declared.Reason.{Reason}
use Rattle.written.specs.declared.Reason.TheVariants.{TableTooShort, TablesDisagree, UnknownTerm}
use Rattle.written.specs.declared.Refusal.{Refusal}
use Rattle.written.specs.Limits.{Limits}
use Rattle.written.specs.Reasons.{number_of}
use Rattle.written.specs.Clauses.{State}
use Rattle.written.specs.Flips.{flipped}
use Rattle.written.specs.Tables.{Tables}
use Rattle.written.specs.Agreement.{state_in}
use Rattle.written.specs.Marks.{full_marked, agree_marked}
use Rattle.written.specs.Outcomes.{Leaves, flip_values, value_asked, flips_for}
use Rattle.laws.specs.Calls.{Stands, SameFile}
use Rattle.laws.specs.Demands.{WorkedOut}

-- ---- "pinning and lifting test 1, 12, then 13 for an unknown term"

-- all three are passed
pub record Known (lim : Limits) (k : ℕ) (n : Counts) (t : Tables) (ms : List ℕ) : Type 0 where
  pub full : full_marked lim t ms ≡ true
  pub agrees : agree_marked lim n t ms ≡ true
  pub known : k < n.terms

-- one fails that is made: each is when those before it are passed
pub data Fails (lim : Limits) (k : ℕ) (n : Counts) (t : Tables) (ms : List ℕ) : Reason → Type 0 where
  short : full_marked lim t ms ≡ false → Fails lim k n t ms TableTooShort
  disagree : full_marked lim t ms ≡ true → agree_marked lim n t ms ≡ false → Fails lim k n t ms TablesDisagree
  unknown : full_marked lim t ms ≡ true → agree_marked lim n t ms ≡ true → n.terms ≤ k → Fails lim k n t ms UnknownTerm

-- the reason's number, and 0 where there is none, of what a call answers and leaves
abbrev pub reason_in : Leaves (Result Counts Refusal) → ℕ
reason_in l = (flip_values l.answer).reason

-- "given exactly when"
pub record Given (lim : Limits) (k : ℕ) (n : Counts) (t : Tables) (ms : List ℕ) (l : Leaves (Result Counts Refusal)) : Type 0 where
  pub reason_1 : (reason_in l ≡ 1) ↔ (full_marked lim t ms ≡ false)
  pub reason_12 : (reason_in l ≡ 12) ↔ ((full_marked lim t ms ≡ true) × (agree_marked lim n t ms ≡ false))
  pub reason_13 : (reason_in l ≡ 13) ↔ ((full_marked lim t ms ≡ true) × (agree_marked lim n t ms ≡ true) × (n.terms ≤ k))
  -- none is given where all tests are passed, and no other is given
  pub no_reason : (reason_in l ≡ 0) ↔ Known lim k n t ms
  pub no_other : ((reason_in l ≡ 0) ⊎ (reason_in l ≡ 1)) ⊎ ((reason_in l ≡ 12) ⊎ (reason_in l ≡ 13))

-- a refusal e: "all unchanged"
pub record Refused (lim : Limits) (k : ℕ) (n : Counts) (t : Tables) (ms : List ℕ) (e : Refusal) (l : Leaves (Result Counts Refusal)) : Type 0 where
  pub fails : Fails lim k n t ms e.reason
  pub left : l.tables ≡ t
  pub marks : l.marks ≡ ms
  -- the counts that were given; its line is 0
  pub values : flip_values (Err e) ≡ record { result = 0; reason = number_of e.reason; line = 0; walks = 0; flips = 0; counts = n }

-- ---- what an accepted call does

-- the marks ns are ms but for that of the term k, which is m
pub record MarkedAt (k m : ℕ) (ms ns : List ℕ) : Type 0 where
  pub mark : get_or ns k 0 ≡ m
  pub others : (j : ℕ) → (j ≡ k → ⊥) → get_or ns j 0 ≡ get_or ms j 0
  pub as_many : length ns ≡ length ms

-- the state that a pin leaves: "flips it if its value differs"
abbrev pub state_pinned : ℕ → ℕ → Counts → Tables → State
state_pinned k v n t = flipped (flips_for k (value_asked v) (state_in n t)) (state_in n t)

-- "Pinning a term marks it and flips it if its value differs": the call answered with counts m and left l
pub record Pinned (lim : Limits) (k v : ℕ) (n : Counts) (t : Tables) (ms : List ℕ) (m : Counts) (l : Leaves (Result Counts Refusal)) : Type 0 where
  pub known : Known lim k n t ms
  -- its value is the one asked for, and every other value stays
  pub value : get_or (state_pinned k v n t).values k 0 ≡ value_asked v
  pub other-values : (j : ℕ) → (j ≡ k → ⊥) → get_or (state_pinned k v n t).values j 0 ≡ get_or (state_in n t).values j 0
  -- the marks differ at that term alone
  pub marked : MarkedAt k (1 + value_asked v) ms l.marks
  -- the tables hold that state, agree with the counts and the marks, and have the counts and the uncovered set worked out
  pub stands : Stands lim (state_pinned k v n t) t m l.tables l.marks
  pub worked_out : WorkedOut n m (state_pinned k v n t) l.tables
  pub counts : SameFile n m
  -- a term that has the value already is not flipped: the tables and the counts are as they were
  pub standing : get_or (state_in n t).values k 0 ≡ value_asked v → (l.tables ≡ t) × (m ≡ n)

-- "lifting a pin clears only the mark"
pub record Lifted (lim : Limits) (k : ℕ) (n : Counts) (t : Tables) (ms : List ℕ) (l : Leaves (Result Counts Refusal)) : Type 0 where
  pub known : Known lim k n t ms
  pub answer : l.answer ≡ Ok n
  pub left : l.tables ≡ t
  pub marked : MarkedAt k 0 ms l.marks
  -- a call that follows is given neither reason 1 nor reason 12
  pub full : full_marked lim t l.marks ≡ true
  pub agrees : agree_marked lim n t l.marks ≡ true
