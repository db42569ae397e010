-- The loop over the steps of a walk: what is left to do makes the whole. Assumes nothing.
use Prim.Native.Nat.{ℕ, zero, suc, ◌+◌, ◌-◌, ◌≤◌, ◌<◌}
use mathlib.Core.Path.{◌≡◌, refl, ap, sym, subst, ◌∙◌}
use mathlib.Core.Bool.{Bool, true, false}
use mathlib.Core.List.{List}
use native.Mathlib.Omega.{arith}
use borrow.Author.Tests.{eq-eqb, ne_eqb}
use Rattle.written.specs.declared.Order.{Order}
use Rattle.laws.proofs.Basics.{by_cases}
use Rattle.machine.specs.Moving.{Fixed}
use Rattle.walking_steps.specs.Stepping.{Stand, uncovered_number, is_stuck_in, step_in, CanStep, is_found_in, onwards_in}
use Rattle.walking_steps.specs.Following.{CanGo}
use Rattle.walking_steps.proofs.Steps.{step-can, step-goes}

module _ (top most : ℕ) (pinned : Bool) (o : Order) (ms : List ℕ) (x : Fixed) (u : Stand) where
  -- at v so many steps are left of those that were to be made from u
  abbrev left_at : Stand → ℕ
  left_at v = u.flips + o.flips - v.flips

  pub record Going (v : Stand) : Type 0 where
    pub can : CanGo top (left_at v) most pinned ms x v
    pub rest : onwards_in o ms x (left_at v) v ≡ onwards_in o ms x o.flips u

  pub begun : CanGo top o.flips most pinned ms x u → Going u
  begun h = let e : left_at u ≡ o.flips = omega arith in record { can = rw e h; rest = rw e }

  module _ (v : Stand) (g : Going v) where
    -- no clause is uncovered: no step changes anything
    stays : (k : ℕ) → uncovered_number v ≡ 0 → onwards_in o ms x k v ≡ v
    unfolding onwards_in is_found_in
    stays zero e = refl
    stays (suc k) e = rw (eq-eqb _ _ e)

    pub found : uncovered_number v ≡ 0 → v ≡ onwards_in o ms x o.flips u
    found e = sym (stays (left_at v) e) ∙ g.rest

    -- no step is left
    pub ended : u.flips + o.flips ≤ v.flips → v ≡ onwards_in o ms x o.flips u
    unfolding onwards_in
    ended h = let e : left_at v ≡ 0 = omega arith in rw e at g.rest

    -- one more can be made
    module _ (h : v.flips < u.flips + o.flips) (e : uncovered_number v ≡ 0 → ⊥) where
      pub next-can : CanStep top pinned o ms x v × (v.flips + 1 < most)
      next-can = (step-can top (left_at v) most pinned o ms x v g.can e, omega (arith, g.can.few, h))

      module _ {v' : Stand} (f : v' ≡ step_in o ms x v) where
        -- it made a flip exactly if it is not stuck
        pub moved : (v'.flips ≡ v.flips → ⊥) → is_stuck_in o ms x v ≡ false
        unfolding step_in
        moved d = by_cases (is_stuck_in o ms x v) (λ r. absurd (d (rw r at (ap (λ (w : Stand). w.flips) f)))) (λ r. r)

        rested : v'.flips ≡ v.flips → is_stuck_in o ms x v ≡ true
        unfolding step_in
        rested d = by_cases (is_stuck_in o ms x v) (λ r. r) (λ r. absurd (one_more (rw r at (ap (λ (w : Stand). w.flips) f)) d))
          where
            one_more : v'.flips ≡ suc v.flips → v'.flips ≡ v.flips → ⊥
            one_more a b = omega arith

        -- stuck, the walk is over
        pub stuck : v'.flips ≡ v.flips → v' ≡ onwards_in o ms x o.flips u
        unfolding onwards_in is_found_in
        stuck d =
            let left : left_at v ≡ suc (left_at v - 1) = omega (arith, h) in
            f ∙ (rw (left, ne_eqb _ _ e, rested d) at g.rest)

        -- or one less is left
        pub one-made : (v'.flips ≡ v.flips → ⊥) → v'.flips ≡ suc v.flips
        unfolding step_in
        one-made d = rw (moved d) at (ap (λ (w : Stand). w.flips) f)

        pub again : (v'.flips ≡ v.flips → ⊥) → Going v'
        unfolding onwards_in is_found_in
        again d =
            let less : left_at v ≡ suc (left_at v') = omega (arith, h, one-made d) in
            let can : CanGo top (suc (left_at v')) most pinned ms x v = rw less at g.can in
            let rest : onwards_in o ms x (left_at v') (step_in o ms x v) ≡ onwards_in o ms x o.flips u = rw (less, ne_eqb _ _ e, moved d) at g.rest in
            record {
              can = subst (λ (w : Stand). CanGo top (left_at v') most pinned ms x w) (sym f) (step-goes top (left_at v') most pinned o ms x v can e (moved d));
              rest = ap (onwards_in o ms x (left_at v')) f ∙ rest;
            }
