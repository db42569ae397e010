-- The loop over the walks: those that are left make the whole. Assumes nothing.
use Prim.Native.Nat.{ℕ, zero, suc, ◌+◌, ◌≤◌, ◌<◌}
use mathlib.Core.Path.{◌≡◌, refl, sym, ◌∙◌}
use mathlib.Core.Bool.{Bool, true, false, cond, false≢true}
use mathlib.Core.List.{List}
use native.Mathlib.Omega.{arith}
use lib.Dec.{eqb, ltb}
use borrow.Author.Tests.{ltb-true, ltb-false}
use Rattle.written.specs.declared.Order.{Order}
use Rattle.machine.specs.Moving.{Fixed}
use Rattle.walking_steps.specs.Stepping.{Stand, uncovered_number, is_found_in, walk_in}
use Rattle.walking_steps.specs.Following.{CanBegin}
use Rattle.walking.specs.Walking.{End, end, walks_in, CanWalks}
use Rattle.walking.proofs.Followed.{walks-on, one-fits}

-- a walk begins only where not all have been made
pub more : {r : Bool} (b : Bool) (n m : ℕ) → r ≡ cond b false (ltb n m) → r ≡ true → n < m
more true n m t h = absurd (false≢true (sym t ∙ h))
more false n m t h = ltb-true n m (sym t ∙ h)

module _ (top most T C : ℕ) (o : Order) (ms : List ℕ) (x : Fixed) (u : Stand) where
  abbrev whole : End
  whole = walks_in o ms T C x o.walks 0 u

  -- from v, after n walks, k are left of those that were to be made from u
  pub record Left (k n : ℕ) (v : Stand) : Type 0 where
    pub sum : n + k ≡ o.walks
    pub can : CanWalks top most T C k o ms x v
    pub rest : walks_in o ms T C x k n v ≡ whole

  -- some number of them is left
  pub record Going (n : ℕ) (v : Stand) : Type 0 where
    pub count : ℕ
    pub left : Left count n v

  -- either a walk has found, and all is done, or they go on
  pub record Standing (b : Bool) (n : ℕ) (v : Stand) : Type 0 where
    pub done : b ≡ true → end true n v ≡ whole
    pub going : b ≡ false → Going n v

  pub begun : CanWalks top most T C o.walks o ms x u → Standing false 0 u
  begun h =
      record {
        done = λ e. absurd (false≢true e);
        going = λ e. record { count = o.walks; left = record { sum = omega arith; can = h; rest = refl } };
      }

  module _ (v : Stand) (n : ℕ) where
    -- none is left
    none_left : (k : ℕ) → Left k n v → o.walks ≤ n → end false n v ≡ whole
    unfolding walks_in
    none_left zero g h = g.rest
    none_left (suc k) g h = absurd (omega (arith, g.sum, h))

    -- one more can be made
    left-can : (k : ℕ) → Left k n v → n < o.walks → CanBegin top T C ms x v × (v.flips + o.flips < most)
    left-can zero g h = absurd (omega (arith, g.sum, h))
    left-can (suc k) g h = (g.can.begin, one-fits top most T C k o ms x v g.can)

    -- by the test whether another begins
    module _ {r : Bool} where
      goes : (b : Bool) → r ≡ cond b false (ltb n o.walks) → r ≡ true → Standing b n v → Going n v
      goes true t h s = absurd (false≢true (sym t ∙ h))
      goes false t h s = s.going refl

      pub over : (b : Bool) → r ≡ cond b false (ltb n o.walks) → r ≡ false → Standing b n v → end b n v ≡ whole
      over true t h s = s.done refl
      over false t h s = let g = s.going refl in none_left g.count g.left (ltb-false _ _ (sym t ∙ h))

      pub next-can : (b : Bool) → r ≡ cond b false (ltb n o.walks) → r ≡ true → Standing b n v → CanBegin top T C ms x v × (v.flips + o.flips < most)
      next-can b t h s = let g = goes b t h s in left-can g.count g.left (more b n o.walks t h)

    module _ {w : Stand} (f : w ≡ walk_in o ms T C x v) where
      -- and has found
      left-found : (k : ℕ) → Left k n v → n < o.walks → eqb (uncovered_number w) 0 ≡ true → end true (n + 1) w ≡ whole
      unfolding walks_in is_found_in
      left-found zero g h e = absurd (omega (arith, g.sum, h))
      left-found (suc k) g h e = let next : n + 1 ≡ suc n = omega arith in rw (next, f) (rw (rw f at e) at g.rest)

      -- or not, and one less is left
      left-again : (k : ℕ) → Left k n v → n < o.walks → eqb (uncovered_number w) 0 ≡ false → Going (n + 1) w
      unfolding walks_in is_found_in
      left-again zero g h e = absurd (omega (arith, g.sum, h))
      left-again (suc k) g h e =
          let next : n + 1 ≡ suc n = omega arith in
          record {
            count = k;
            left =
                record {
                  sum = omega (arith, g.sum);
                  can = rw f (walks-on top most T C k o ms x v g.can);
                  rest = rw (next, f) (rw (rw f at e) at g.rest);
                };
          }

      pub again : {r : Bool} (b : Bool) → r ≡ cond b false (ltb n o.walks) → r ≡ true → Standing b n v → Standing (eqb (uncovered_number w) 0) (n + 1) w
      again b t h s =
          let g = goes b t h s in
          record {
            done = left-found g.count g.left (more b n o.walks t h);
            going = left-again g.count g.left (more b n o.walks t h);
          }
