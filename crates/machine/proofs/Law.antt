-- A flip on walking tables is the written flip. Assumes nothing.
use mathlib.Core.Path.{◌≡◌}
use mathlib.Core.List.{List, map}
use Prim.Native.Nat.{ℕ, ◌<◌}
use native.Mathlib.Omega.{arith}
use lib.ListN.{length, get_or, length-map}
use Rattle.written.specs.Clauses.{State, value_of, occurrences_of}
use Rattle.written.specs.Flips.{turned, false_literal, true_literal, flip}
use Rattle.written.specs.Agreement.{part_of}
use Rattle.machine.specs.Moving.{Fixed, Moving, up_of, down_of, gained, lost, flip_term, CanFlip}
use Rattle.machine.specs.Holds.{Walking, Kept}
use Rattle.machine.proofs.Status.{status}
use Rattle.machine.proofs.Mid.{Mid}
use Rattle.machine.proofs.Turned.{bit_small, in_words, up_is, down_is, turned-values}
use Rattle.machine.proofs.Flipped.{can_gain, can_lose, mid-flip}
use Rattle.machine.proofs.Standings.{to-mid, from-mid}
use Rattle.laws.proofs.Turning.{turned-length}
use Rattle.laws.proofs.Literals.{false_below, true_below}

module _ (top : ℕ) (s : State) (x : Fixed) (w : Moving) (g : Walking top s x w) (v : ℕ) (lv : v < length s.values) where
  abbrev cs : List (List ℕ)
  cs = s.file.clauses

  abbrev vs : List ℕ
  vs = s.values

  small : get_or vs v 0 < 2
  small = bit_small vs w.words g.words v lv

  up : up_of w.words v ≡ false_literal vs v
  up = up_is vs w.words g.words v lv

  down : down_of w.words v ≡ true_literal vs v
  down = down_is vs w.words g.words v lv

  run_up : part_of x.occurrence_starts x.occurrences (up_of w.words v) ≡ occurrences_of cs (false_literal vs v)
  run_up = rw up (g.holds.occurs (false_literal vs v) (false_below vs v (length vs) lv))

  run_down : part_of x.occurrence_starts x.occurrences (down_of w.words v) ≡ occurrences_of cs (true_literal vs v)
  run_down = rw down (g.holds.occurs (true_literal vs v) (true_below vs v (length vs) lv))

  -- the flip can be made
  pub flip-can : CanFlip top x v w
  unfolding gained
  flip-can =
      record {
        word = in_words vs w.words g.words v lv;
        small = let f = g.holds.few-terms in omega arith;
        up = rw up (g.holds.occurs-part (false_literal vs v) (false_below vs v (length vs) lv));
        down = rw down (g.holds.occurs-part (true_literal vs v) (true_below vs v (length vs) lv));
        gains = rw run_up (can_gain w.tallies top cs vs x g.holds v lv small s.uncovered w.tallies (to-mid top s x w g));
        loses = rw (run_down, run_up) (can_lose w.tallies top cs vs x g.holds v lv small s.uncovered w.tallies (to-mid top s x w g));
      }

  size : length (turned v vs) ≡ length vs
  size = turned-length v vs

  mid : Mid w.tallies (length (turned v vs)) (map (status (value_of (turned v vs))) cs) (flip v s).uncovered (flip_term x v w).tallies
  unfolding flip flip_term gained lost
  mid = rw (run_down, run_up, size) (mid-flip w.tallies top cs vs x g.holds v lv small s.uncovered w.tallies (to-mid top s x w g))

  -- and leaves walking tables of the state that the written flip gives
  pub flip-walking : Walking top (flip v s) x (flip_term x v w)
  unfolding flip flip_term
  flip-walking = from-mid top (flip v s) x (flip_term x v w) (rw size g.holds) (turned-values vs w.words g.words v lv) mid

  -- what is past the entries in use stays
  pub flip-kept : Kept (length cs) (length vs) w.tallies (flip_term x v w).tallies
  flip-kept = rw (← length-map cs (status (value_of (turned v vs))), ← size) mid.kept
