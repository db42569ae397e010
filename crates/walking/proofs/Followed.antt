-- Walks one after the other: those on the tables follow those that are written, and can be made. Assumes nothing.
use Prim.Native.Nat.{ℕ, zero, suc, ◌+◌, ◌<◌}
use mathlib.Core.Path.{◌≡◌, refl, ap, ◌∙◌}
use mathlib.Core.List.{List}
use native.Mathlib.Omega.{arith}
use lib.ListN.{length}
use Rattle.written.specs.declared.Order.{Order}
use Rattle.written.specs.Clauses.{File, State}
use Rattle.written.specs.Walk.{Moment, Outcome, start, onwards, is_found, walks_from}
use Rattle.laws.proofs.Basics.{by_cases}
use Rattle.laws.proofs.Pins.{walk-file}
use Rattle.machine.specs.Moving.{Fixed, Moving}
use Rattle.walking_steps.specs.Stepping.{Stand, walk_in}
use Rattle.walking_steps.specs.Following.{Follows, walking}
use Rattle.walking_steps.proofs.Steps.{found-same}
use Rattle.walking_steps.proofs.Onward.{walk-follows, walk_begins, walk-made}
use Rattle.walking.specs.Walking.{End, walks_in, CanWalks}

-- a moment over T terms and C clauses
pub record Sized (T C : ℕ) (m : Moment) : Type 0 where
  pub terms : length m.state.file.names ≡ T
  pub clauses : length m.state.file.clauses ≡ C

-- so is a walk's end
sized-after : (o : Order) (ms : List ℕ) (T C : ℕ) (m : Moment) → Sized T C m → Sized T C (onwards o ms o.flips (start ms m))
sized-after o ms T C m z =
    record {
      terms = ap (λ (f : File). length f.names) (walk-file o ms m) ∙ z.terms;
      clauses = ap (λ (f : File). length f.clauses) (walk-file o ms m) ∙ z.clauses;
    }

-- ---- what they come to

module _ (top full : ℕ) (x : Fixed) (base : Moving) where
  -- the same is found, in as many walks, and the tables hold the last moment
  pub record Ends (r : Outcome) (e : End) : Type 0 where
    pub found : e.found ≡ r.found
    pub walks : e.walks ≡ r.walks
    pub follows : Follows walking top full x base r.last e.last

  module _ (o : Order) (ms : List ℕ) (T C : ℕ) where
    -- one walk more, before k walks from where it ends
    walks_next : (ρ : State → ℕ → ℕ) (k n : ℕ) (m : Moment) (v : Stand) → Follows ρ top full x base m v → Sized T C m
        → ((e : Moment) (w : Stand) → Follows walking top full x base e w → Sized T C e → Ends (walks_from o ms k (suc n) e) (walks_in o ms T C x k (suc n) w))
        → Ends (walks_from o ms (suc k) n m) (walks_in o ms T C x (suc k) n v)
    unfolding walks_from walks_in
    walks_next ρ k n m v h z rest =
        let e : Moment = onwards o ms o.flips (start ms m) in
        let w : Stand = walk_in o ms T C x v in
        let g : Follows walking top full x base e w = walk-follows ρ top full T C o ms x base m v h z.terms z.clauses in
        rw (found-same walking top full x base e w g)
        (by_cases (is_found e.state) (λ q. rw q (record { found = refl; walks = refl; follows = g }))
        (λ q. rw q (rest e w g (sized-after o ms T C m z))))

    -- from where a walk has ended
    walks-end : (k n : ℕ) (m : Moment) (v : Stand) → Follows walking top full x base m v → Sized T C m → Ends (walks_from o ms k n m) (walks_in o ms T C x k n v)
    unfolding walks_from walks_in
    walks-end zero n m v h z = record { found = refl; walks = refl; follows = h }
    walks-end (suc k) n m v h z = walks_next walking k n m v h z (walks-end k (suc n))

    -- from anywhere, if there is a walk to make
    pub walks_follow : (ρ : State → ℕ → ℕ) (k n : ℕ) (m : Moment) (v : Stand) → 0 < k → Follows ρ top full x base m v → Sized T C m
        → Ends (walks_from o ms k n m) (walks_in o ms T C x k n v)
    walks_follow ρ zero n m v l h z = absurd (omega arith)
    walks_follow ρ (suc k) n m v l h z = walks_next ρ k n m v h z (walks-end k (suc n))

-- ---- that they can be made

-- after one walk the others can
pub walks-on : (top most T C k : ℕ) (o : Order) (ms : List ℕ) (x : Fixed) (v : Stand) → CanWalks top most T C (suc k) o ms x v
    → CanWalks top most T C k o ms x (walk_in o ms T C x v)
walks-on top most T C k o ms x v h =
    record {
      begin = walk_begins top T C o ms x v h.begin;
      few = let made = walk-made o ms T C x v in omega (arith, h.few);
    }

-- the flips of one more can be counted
pub one-fits : (top most T C k : ℕ) (o : Order) (ms : List ℕ) (x : Fixed) (v : Stand) → CanWalks top most T C (suc k) o ms x v → v.flips + o.flips < most
one-fits top most T C k o ms x v h = omega (arith, h.few)
