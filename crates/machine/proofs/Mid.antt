-- In the middle of a flip: the tables are those of a list of standings, one for each clause, and a step brings them to the list with one changed.
-- Assumes nothing.
use mathlib.Core.Path.{◌≡◌, ap, ◌∙◌, sym, subst}
use mathlib.Core.List.{List}
use Prim.Native.Nat.{ℕ, ◌+◌, ◌-◌, ◌≤◌, ◌<◌}
use native.Mathlib.Omega.{arith}
use lib.ListN.{length, get_or, set, take, length-set}
use lib.Seq.{get_or-set_same, get_or-set_other}
use Rattle.written.specs.Lists.{total}
use Rattle.written.specs.Flips.{leave, enter}
use Rattle.laws.proofs.Basics.{by-eq}
use Rattle.laws.proofs.Lists.{kept_set}
use Rattle.laws.proofs.Sums.{total-set, total-has, total-most, total_fewer}
use Rattle.machine.specs.Uncovered.{Uncovered, leaves, marks, enters, CanLeave, CanEnter}
use Rattle.machine.specs.Tallies.{Tallies, CanRaise, CanLower}
use Rattle.machine.specs.Holds.{Placed, Kept}
use Rattle.machine.proofs.Status.{Standing, fresh, critical, bare, critical-on, critical-le, bare-on, bare-off, bare-le, Breaks}
use Rattle.machine.proofs.Placed.{placed-keep, placed-leave, placed-enter}
use Rattle.machine.proofs.Fronts.{front-leave, front-enter, leave-list-kept, leave-places-kept, enter-list-kept, enter-places-kept}

-- how many true literals clause c has
abbrev pub count_in : List Standing → ℕ → ℕ
count_in sts c = (get_or sts c fresh).count

-- the xor of their terms
abbrev pub xor_in : List Standing → ℕ → ℕ
xor_in sts c = (get_or sts c fresh).xored

-- us is the uncovered list as it is written
pub record Mid (o : Tallies) (T : ℕ) (sts : List Standing) (us : List ℕ) (t : Tallies) : Type 0 where
  pub room : length sts ≤ length t.trues
  pub counts : (c : ℕ) → c < length sts → get_or t.trues c 0 ≡ count_in sts c
  pub breaks : Breaks T sts t.breaks
  pub number : t.uncovered.number ≡ total bare sts
  pub list : Placed (length sts) (count_in sts) (xor_in sts) t.uncovered
  pub front : take t.uncovered.number t.uncovered.list ≡ us
  pub kept : Kept (length sts) T o t

module _ (o : Tallies) (T : ℕ) (sts : List Standing) (us : List ℕ) (t : Tallies) (h : Mid o T sts us t) (c : ℕ) (lc : c < length sts) (s : Standing) where
  abbrev old : Standing
  old = get_or sts c fresh

  abbrev next : List Standing
  next = set sts c s

  count-off : (d : ℕ) → (d ≡ c → ⊥) → count_in next d ≡ count_in sts d
  count-off d q = ap (λ (x : Standing). x.count) (get_or-set_other sts c d s fresh q)

  count-new : count_in next c ≡ s.count
  count-new = ap (λ (x : Standing). x.count) (get_or-set_same sts c s fresh lc)

  xored-off : (d : ℕ) → (d ≡ c → ⊥) → xor_in next d ≡ xor_in sts d
  xored-off d q = ap (λ (x : Standing). x.xored) (get_or-set_other sts c d s fresh q)

  xored-new : xor_in next c ≡ s.xored
  xored-new = ap (λ (x : Standing). x.xored) (get_or-set_same sts c s fresh lc)

  number_step : total bare next + bare old ≡ total bare sts + bare s
  number_step = total-set bare sts c s fresh lc

  -- a clause that is covered leaves room in the list
  free : (old.count ≡ 0 → ⊥) → t.uncovered.number < length sts
  free wk = let e = h.number in let f = total_fewer bare bare-le sts c fresh lc (bare-off old wk) in omega arith

  counts_with : (y : ℕ) → y ≡ s.count → (d : ℕ) → d < length next → get_or (set t.trues c y) d 0 ≡ count_in next d
  counts_with y e d l =
      by-eq d c
      (λ q.
      let r = h.room in
      rw (q, count-new) (get_or-set_same t.trues c y 0 (omega arith) ∙ e))
      (λ q. rw (count-off d q) (get_or-set_other t.trues c d y 0 q ∙ h.counts d (rw (length-set sts c s) at l)))

  module _ (bs : List ℕ) (y : ℕ) (ey : y ≡ s.count) (b : Breaks T next bs) (kb : (j : ℕ) → T ≤ j → get_or bs j 0 ≡ get_or o.breaks j 0) where
    -- with an uncovered list u that is in order at the new standings, and is written us'
    mid_with : {u : Uncovered} {us' : List ℕ} → Placed (length sts) (count_in next) (xor_in next) u → u.number + bare old ≡ t.uncovered.number + bare s
        → take u.number u.list ≡ us' → ((j : ℕ) → length sts ≤ j → get_or u.list j 0 ≡ get_or o.uncovered.list j 0)
        → ((j : ℕ) → length sts ≤ j → get_or u.places j 0 ≡ get_or o.uncovered.places j 0)
        → Mid o T next us' (record { trues = set t.trues c y; breaks = bs; uncovered = u })
    mid_with {u} placed size front ku kp =
        record {
          room = simp length-set h.room;
          counts = counts_with y ey;
          breaks = b;
          number = omega (arith, number_step, h.number);
          list = subst (λ (n : ℕ). Placed n (count_in next) (xor_in next) u) (sym (length-set sts c s)) placed;
          front = front;
          kept =
              rw (length-set sts c s)
              (record { trues-kept = kept_set (length sts) t.trues c y o.trues lc h.kept.trues-kept; breaks-kept = kb; list-kept = ku; places-kept = kp });
        }

    pub mid-keep : (p : ℕ) → p ≡ s.xored → (old.count ≡ 0 → ⊥) → (s.count ≡ 0 → ⊥)
        → Mid o T next us (record { trues = set t.trues c y; breaks = bs; uncovered = marks c p t.uncovered })
    unfolding marks
    mid-keep p ep wk n =
        mid_with
        (placed-keep (length sts) (count_in sts) (count_in next) (xor_in sts) (xor_in next) t.uncovered h.list c lc count-off xored-off p wk
        (λ q. n (sym count-new ∙ q)) (ep ∙ sym xored-new))
        (omega (arith, bare-off old wk, bare-off s n))
        h.front
        h.kept.list-kept
        (kept_set (length sts) t.uncovered.places c p o.uncovered.places lc h.kept.places-kept)

    pub mid-leave : (p : ℕ) → p ≡ s.xored → old.count ≡ 0 → (s.count ≡ 0 → ⊥)
        → Mid o T next (leave c us) (record { trues = set t.trues c y; breaks = bs; uncovered = leaves c p t.uncovered })
    mid-leave p ep wk n =
        mid_with
        (placed-leave (length sts) (count_in sts) (count_in next) (xor_in sts) (xor_in next) t.uncovered h.list c lc count-off xored-off p wk
        (λ q. n (sym count-new ∙ q)) (ep ∙ sym xored-new))
        (let some = h.list.low c lc wk in unfold leaves in omega (arith, bare-on old wk, bare-off s n))
        (front-leave (length sts) (count_in sts) (xor_in sts) t.uncovered h.list us h.front c p lc wk)
        (leave-list-kept (length sts) (count_in sts) (xor_in sts) t.uncovered h.list c p lc o.uncovered.list wk h.kept.list-kept)
        (leave-places-kept (length sts) (count_in sts) (xor_in sts) t.uncovered h.list c p lc o.uncovered.places wk h.kept.places-kept)

    pub mid-enter : (old.count ≡ 0 → ⊥) → s.count ≡ 0
        → Mid o T next (enter c us) (record { trues = set t.trues c y; breaks = bs; uncovered = enters c t.uncovered })
    mid-enter wk z =
        mid_with
        (placed-enter (length sts) (count_in sts) (count_in next) (xor_in sts) (xor_in next) t.uncovered h.list c lc count-off xored-off 0 wk (count-new ∙ z)
        (free wk))
        (unfold enters in omega (arith, bare-off old wk, bare-on s z))
        (front-enter (length sts) (count_in sts) (xor_in sts) t.uncovered h.list us h.front c (free wk))
        (enter-list-kept (length sts) (count_in sts) (xor_in sts) t.uncovered h.list c 0 lc o.uncovered.list (free wk) h.kept.list-kept)
        (enter-places-kept (length sts) (count_in sts) (xor_in sts) t.uncovered h.list c 0 lc o.uncovered.places h.kept.places-kept)

-- what the tables can do at clause c
module _ (o : Tallies) (T : ℕ) (sts : List Standing) (us : List ℕ) (t : Tallies) (h : Mid o T sts us t) (top : ℕ) (few : length sts + 1 < top) (c : ℕ)
    (lc : c < length sts) where
  pub can-leave : count_in sts c ≡ 0 → CanLeave c t.uncovered
  can-leave z =
      let i = h.list in
      let p = i.low c lc z in
      let r₁ = i.places-room in
      let r₂ = i.list-room in
      let r₃ = i.fits in
      let w = i.within (t.uncovered.number - 1) (omega arith) in
      record { placed = omega arith; slot = omega arith; some = omega arith; room = omega arith; last = omega arith }

  pub can-enter : (count_in sts c ≡ 0 → ⊥) → CanEnter top c t.uncovered
  can-enter nz =
      let i = h.list in
      let r₁ = i.places-room in
      let r₂ = i.list-room in
      let e = h.number in
      let g = total_fewer bare bare-le sts c fresh lc (bare-off (get_or sts c fresh) nz) in
      record { placed = omega arith; room = omega arith; fits = omega arith }

  pub can-raise : (w : ℕ) → w < T → CanRaise top t.breaks w
  can-raise w lw =
      let e = h.breaks.all w lw in
      let g = total-most (critical w) (critical-le w) sts in
      let r = h.breaks.room in
      record { within = omega arith; fits = omega arith }

  pub can-lower : (w : ℕ) → w < T → count_in sts c ≡ 1 → (get_or sts c fresh).xored ≡ w → CanLower t.breaks w
  can-lower w lw k b =
      let e = h.breaks.all w lw in
      let g = total-has (critical w) sts c fresh lc in
      let on = critical-on w (get_or sts c fresh) k b in
      let r = h.breaks.room in
      record { within = omega arith; some = omega arith }
