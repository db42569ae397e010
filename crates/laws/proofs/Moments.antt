-- The moments that walks come by: what starts and steps keep holds at each, and the generator's state is never 0 where a draw is made.
-- The walks' end is one of them. Assumes nothing.
use Prim.Native.Nat.{ℕ, zero, suc, ◌+◌, ◌^◌, ◌≤◌, ◌<◌}
use mathlib.Core.Path.{◌≡◌, refl, sym, subst, ◌∙◌}
use mathlib.Core.Bool.{true, false, true≢false}
use mathlib.Core.List.{List}
use native.Mathlib.Omega.{arith}
use Rattle.draw.specs.Xorshift.{next_of}
use Rattle.draw.proofs.Laws.{next-pos, next_fits}
use Rattle.written.specs.declared.Order.{Order}
use Rattle.written.specs.Limits.{Limits}
use Rattle.written.specs.Clauses.{File}
use Rattle.written.specs.Drawing.{heads}
use Rattle.written.specs.Walk.{Moment, Outcome, start, is_found, clause_picked, step, is_stuck, stuck_at, onwards, walks_from, walk_over}
use Rattle.written.specs.Orders.{seeds, in_range}
use Rattle.laws.specs.Valid.{Proper, Valid}
use Rattle.laws.specs.WalkCalls.{Comes, DrawsAt}
use Rattle.laws.specs.WalkCalls.Comes.{seeded, starts, goes_on, sticks}
use Rattle.laws.specs.WalkCalls.DrawsAt.{at-start, for-clause, in_clause_lem, after-heads, again}
use Rattle.laws.proofs.Readings.{as_read-valid}
use Rattle.laws.proofs.Walks.{begun, found_or_lem, go_on}
use Rattle.laws.proofs.Endings.{stuck_keeps}
use Rattle.laws.proofs.Draws.{from-keeps, heads-keeps, step_keeps, stuck_keeps as drawn-keeps, after-keeps, start-keeps}
use Rattle.laws.proofs.Sheets.{ranged}
use Rattle.laws.proofs.Valids.{start-valid, step-valid}

-- ---- what starts and steps keep

module _ (P : Moment → Type 0) (o : Order) (ms : List ℕ) (f : File) (begin : P (begun o f)) (first : (m : Moment) → P m → P (start ms m))
    (on : (m : Moment) → is_found m.state ≡ false → is_stuck o ms m ≡ false → P m → P (step o ms m))
    (stuck : (m : Moment) → P m → P (stuck_at o m)) where
  pub comes-keep : (n k : ℕ) (m : Moment) → Comes o ms f n k m → P m
  comes-keep n k m seeded = begin
  comes-keep _ _ _ (starts n m h few missed) = first m (comes-keep n 0 m h)
  comes-keep _ _ _ (goes_on n k m h missed goes) = on m missed goes (comes-keep n (suc k) m h)
  comes-keep _ _ _ (sticks n k m h missed none) = stuck m (comes-keep n (suc k) m h)

-- every state that walks come by is valid
pub comes-valid : (lim : Limits) (o : Order) (ms : List ℕ) (f : File) → Proper lim f → (n k : ℕ) (m : Moment) → Comes o ms f n k m → Valid lim m.state
comes-valid lim o ms f p =
    comes-keep (λ m. Valid lim m.state) o ms f (as_read-valid lim f p) (start-valid lim ms) (λ m q r v. step-valid lim o ms m v q r) (stuck_keeps (Valid lim) o)

-- ---- the end

module _ (o : Order) (ms : List ℕ) (f : File) where
  -- a walk comes to its end, and if it has not found, no flip is left to it
  on-comes : (n k : ℕ) (m : Moment) → Comes o ms f n k m
      → (j : ℕ) × Comes o ms f n j (onwards o ms k m) × (is_found (onwards o ms k m).state ≡ false → j ≡ 0)
  unfolding onwards
  on-comes n zero m h = (0, h, λ q. refl)
  on-comes n (suc k) m h =
      go_on (λ e. (j : ℕ) × Comes o ms f n j e × (is_found e.state ≡ false → j ≡ 0)) o ms k m (λ q. (suc k, h, λ r. absurd (true≢false (sym q ∙ r))))
      (λ q r. (0, sticks n k m h q r, λ _. refl))
      (λ q r. on-comes n k (step o ms m) (goes_on n k m h q r))

  -- and so do the walks
  abbrev pub ComesTo : Outcome → Type 0
  ComesTo e = (j : ℕ) × Comes o ms f e.walks j e.last × (e.found ≡ false → j ≡ 0)

  walks-come : (k n : ℕ) (m : Moment) → n + k ≡ o.walks → Comes o ms f n 0 m → (0 < n → is_found m.state ≡ false) → ComesTo (walks_from o ms k n m)
  unfolding walks_from
  walks-come zero n m all h missed = (0, h, λ q. refl)
  walks-come (suc k) n m all h missed =
      let e = onwards o ms o.flips (start ms m) in
      let c = on-comes (suc n) o.flips (start ms m) (starts n m h (omega arith) missed) in
      found_or_lem ComesTo (suc n) e (λ e. walks_from o ms k (suc n) e) (λ q. (c.0, c.1, λ z. absurd (true≢false z)))
      (λ q. walks-come k (suc n) e (omega arith) (subst (λ j. Comes o ms f (suc n) j e) (c.2 q) c.1) (λ _. q))

  pub comes-to-end : ComesTo (walk_over o ms f)
  unfolding walk_over
  comes-to-end = walks-come o.walks 0 (begun o f) (omega arith) seeded (λ h. absurd (omega arith))

-- ---- the generator

-- what every draw keeps holds wherever the walks draw
module _ (P : ℕ → Type 0) (next : (y : ℕ) → P y → P (next_of y)) (o : Order) (ms : List ℕ) (f : File) (seed : P o.seed) where
  at-moment : (n k : ℕ) (m : Moment) → Comes o ms f n k m → P m.generator
  at-moment =
      comes-keep (λ m. P m.generator) o ms f seed (start-keeps P next ms) (λ m q r h. step_keeps P next o ms m h) (drawn-keeps P next o)

  pub draws-keep : (y : ℕ) → DrawsAt o ms f y → P y
  unfolding heads clause_picked
  draws-keep _ (at-start n j m h few missed part) = after-keeps P next m.generator j (at-moment n 0 m h)
  draws-keep _ (for-clause n k m h missed) = at-moment n (suc k) m h
  draws-keep _ (in_clause_lem n k m h missed) = from-keeps P next o m.state.uncovered m.generator (at-moment n (suc k) m h)
  draws-keep _ (again y h) = next y (draws-keep y h)
  draws-keep _ (after-heads n k m h missed) = heads-keeps P next o.bias _ (from-keeps P next o m.state.uncovered m.generator (at-moment n (suc k) m h))

-- "The generator's state is a number from 1 to 4,294,967,295": no draw of a walk is made at the state 0
pub draws_in_range : (o : Order) (ms : List ℕ) (f : File) → in_range o ≡ true → (y : ℕ) → DrawsAt o ms f y → (seeds.least ≤ y) × (y ≤ seeds.most)
draws_in_range o ms f h y d =
    let r = ranged o h in (
      draws-keep (λ y. 0 < y) next-pos o ms f (omega (arith, r.seed-pos)) y d,
      omega (arith, draws-keep (λ y. y < 2 ^ 32) next_fits o ms f (omega (arith, r.seed-fits)) y d),
    )
