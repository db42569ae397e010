-- A walk on tables that hold a moment: the tables then hold the moment that is written for its end, and a walk can start from there. Assumes nothing.
use mathlib.Core.Path.{◌≡◌, ap, ◌∙◌}
use mathlib.Core.Bool.{true, false}
use mathlib.Core.List.{List}
use Prim.Native.Nat.{ℕ, zero, suc, ◌+◌, ◌≤◌}
use native.Mathlib.Omega.{arith}
use lib.ListN.{length}
use borrow.Author.Tests.{eqb-false}
use Rattle.written.specs.declared.Order.{Order}
use Rattle.written.specs.Clauses.{File, State}
use Rattle.written.specs.Walk.{Moment, start, stuck_at, onwards}
use Rattle.laws.proofs.Basics.{by_cases}
use Rattle.laws.proofs.Pins.{walk-file}
use Rattle.machine.specs.Moving.{Fixed, Moving}
use Rattle.walking_steps.specs.Stepping.{Stand, uncovered_number, is_stuck_in, step_in, start_in, is_found_in, onwards_in, walk_in}
use Rattle.walking_steps.specs.Following.{walking, Follows, CanBegin}
use Rattle.walking_steps.proofs.Starts.{start-follows}
use Rattle.walking_steps.proofs.Steps.{found-same, stuck-same, stuck-follows, step_follows}

-- not found: a clause is uncovered
some_left : (v : Stand) → is_found_in v ≡ false → uncovered_number v ≡ 0 → ⊥
unfolding is_found_in
some_left v q = eqb-false (uncovered_number v) 0 q

module _ (top full : ℕ) (o : Order) (ms : List ℕ) (x : Fixed) (base : Moving) where
  -- where a walk is stuck, its tables hold the written end
  ends_stuck : (m : Moment) (v : Stand) → (f : Follows walking top full x base m v) → is_found_in v ≡ false → is_stuck_in o ms x v ≡ true
      → Follows walking top full x base (stuck_at o m) (step_in o ms x v)
  unfolding step_in
  ends_stuck m v f q r = rw r (stuck-follows top full o ms x base m v f (some_left v q))

  pub onwards-follows : (k : ℕ) (m : Moment) (v : Stand) → Follows walking top full x base m v
      → Follows walking top full x base (onwards o ms k m) (onwards_in o ms x k v)
  unfolding onwards onwards_in
  onwards-follows zero m v f = f
  onwards-follows (suc k) m v f =
      rw (← found-same walking top full x base m v f)
      (by_cases (is_found_in v) (λ q. rw q f)
      (λ q. rw (q, ← stuck-same top full o ms x base m v f (some_left v q))
      (by_cases (is_stuck_in o ms x v) (λ r. rw r (ends_stuck m v f q r))
      (λ r. rw r (onwards-follows k _ (step_in o ms x v) (step_follows top full o ms x base m v f (some_left v q) r))))))

pub walk-follows : (ρ : State → ℕ → ℕ) (top full T C : ℕ) (o : Order) (ms : List ℕ) (x : Fixed) (base : Moving) (m : Moment) (v : Stand) → Follows ρ top full x base m v
    → length m.state.file.names ≡ T → length m.state.file.clauses ≡ C
    → Follows walking top full x base (onwards o ms o.flips (start ms m)) (walk_in o ms T C x v)
unfolding walk_in
walk-follows ρ top full T C o ms x base m v f t c =
    onwards-follows top full o ms x base o.flips (start ms m) (start_in ms T C x v) (start-follows ρ top full T C ms x base m v f t c)

-- the file stays, so a walk can start again
pub walk_begins : (top T C : ℕ) (o : Order) (ms : List ℕ) (x : Fixed) (v : Stand) → CanBegin top T C ms x v → CanBegin top T C ms x (walk_in o ms T C x v)
walk_begins top T C o ms x v b =
    record {
      place = walking;
      full = b.full;
      base = b.base;
      moment = onwards o ms o.flips (start ms b.moment);
      follows = walk-follows b.place top b.full T C o ms x b.base b.moment v b.follows b.terms b.clauses;
      terms = ap (λ (f : File). length f.names) (walk-file o ms b.moment) ∙ b.terms;
      clauses = ap (λ (f : File). length f.clauses) (walk-file o ms b.moment) ∙ b.clauses;
      marks = b.marks;
    }

-- a walk makes at most its flips
step-made : (o : Order) (ms : List ℕ) (x : Fixed) (v : Stand) → (step_in o ms x v).flips ≤ suc v.flips
unfolding step_in
step-made o ms x v = by_cases (is_stuck_in o ms x v) (λ r. rw r (omega arith)) (λ r. rw r (omega arith))

pub onwards-made : (o : Order) (ms : List ℕ) (x : Fixed) (k : ℕ) (v : Stand) → (onwards_in o ms x k v).flips ≤ k + v.flips
unfolding onwards_in
onwards-made o ms x zero v = omega arith
onwards-made o ms x (suc k) v =
    let one = step-made o ms x v in
    by_cases (is_found_in v) (λ q. rw q (omega arith))
    (λ q. rw q (by_cases (is_stuck_in o ms x v) (λ r. rw r (omega arith)) (λ r. rw r (let h = onwards-made o ms x k (step_in o ms x v) in omega arith))))

pub walk-made : (o : Order) (ms : List ℕ) (T C : ℕ) (x : Fixed) (v : Stand) → (walk_in o ms T C x v).flips ≤ o.flips + v.flips
unfolding walk_in start_in
walk-made o ms T C x v = onwards-made o ms x o.flips (start_in ms T C x v)
