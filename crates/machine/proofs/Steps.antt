-- What is done for one clause, by the cases of its count: tables that have the parts of a case are those of the step. Assumes nothing.
use mathlib.Core.Path.{◌≡◌, ap, ◌∙◌}
use mathlib.Core.Bool.{cond}
use mathlib.Core.List.{List}
use Prim.Native.Nat.{ℕ, suc, ◌+◌, ◌-◌, ◌<◌, ◌≤◌}
use native.Mathlib.Nat.{add-zero, sub-zero}
use native.Mathlib.Omega.{arith}
use lib.ListN.{length, get_or, set}
use lib.Seq.{set-get_or}
use lib.Dec.{eqb}
use lib.Bits.{bit_xor}
use borrow.Author.Tests.{eq-eqb, ne_eqb, lt-ltb, le-ltb}
use Rattle.machine.specs.Uncovered.{Uncovered, leaves, marks, enters}
use Rattle.machine.specs.Tallies.{Tallies, raised, lowered, gain_one, gain_breaks, lose_one, lose_breaks, pick_of, below_of, CanGain, CanLose}
use Rattle.machine.specs.Moving.{View, count_at, xor_at}
use Rattle.machine.specs.Passes.{count_one}
use Rattle.laws.proofs.Basics.{by-eq}

-- tables with equal parts are equal
made : {ts ts' bs bs' : List ℕ} {u u' : Uncovered} → ts ≡ ts' → bs ≡ bs' → u ≡ u'
    → ◌≡◌ {A = Tallies} (record { trues = ts; breaks = bs; uncovered = u }) (record { trues = ts'; breaks = bs'; uncovered = u' })
made e₁ e₂ e₃ = λ i. record { trues = e₁ i; breaks = e₂ i; uncovered = e₃ i }

module _ (v c : ℕ) (t : Tallies) {ts bs : List ℕ} {u : Uncovered} where
  pub gain_0 : get_or t.trues c 0 ≡ 0 → ts ≡ raised t.trues c → bs ≡ raised t.breaks v → u ≡ leaves c v t.uncovered
      → record { trues = ts; breaks = bs; uncovered = u } ≡ gain_one v c t
  unfolding gain_one gain_breaks
  gain_0 k e₁ e₂ e₃ = rw (eq-eqb _ _ k) (made e₁ e₂ e₃)

  pub gain_1 : get_or t.trues c 0 ≡ 1 → ts ≡ raised t.trues c → bs ≡ lowered t.breaks (get_or t.uncovered.places c 0)
      → u ≡ marks c (bit_xor (get_or t.uncovered.places c 0) v) t.uncovered → record { trues = ts; breaks = bs; uncovered = u } ≡ gain_one v c t
  unfolding gain_one gain_breaks
  gain_1 k e₁ e₂ e₃ = rw k (made e₁ e₂ e₃)

  pub gain_2 : (get_or t.trues c 0 ≡ 0 → ⊥) → (get_or t.trues c 0 ≡ 1 → ⊥) → ts ≡ raised t.trues c → bs ≡ t.breaks
      → u ≡ marks c (bit_xor (get_or t.uncovered.places c 0) v) t.uncovered → record { trues = ts; breaks = bs; uncovered = u } ≡ gain_one v c t
  unfolding gain_one gain_breaks
  gain_2 k₀ k₁ e₁ e₂ e₃ = rw (ne_eqb _ _ k₀, ne_eqb _ _ k₁) (made e₁ e₂ e₃)

  pub lose_1 : get_or t.trues c 0 ≡ 1 → ts ≡ lowered t.trues c → bs ≡ lowered t.breaks v → u ≡ enters c t.uncovered
      → record { trues = ts; breaks = bs; uncovered = u } ≡ lose_one v c t
  unfolding lose_one lose_breaks
  lose_1 k e₁ e₂ e₃ = rw (eq-eqb _ _ k) (made e₁ e₂ e₃)

  pub lose_2 : get_or t.trues c 0 ≡ 2 → ts ≡ lowered t.trues c → bs ≡ raised t.breaks (bit_xor (get_or t.uncovered.places c 0) v)
      → u ≡ marks c (bit_xor (get_or t.uncovered.places c 0) v) t.uncovered → record { trues = ts; breaks = bs; uncovered = u } ≡ lose_one v c t
  unfolding lose_one lose_breaks
  lose_2 k e₁ e₂ e₃ = rw k (made e₁ e₂ e₃)

  pub lose_3 : (get_or t.trues c 0 ≡ 1 → ⊥) → (get_or t.trues c 0 ≡ 2 → ⊥) → ts ≡ lowered t.trues c → bs ≡ t.breaks
      → u ≡ marks c (bit_xor (get_or t.uncovered.places c 0) v) t.uncovered → record { trues = ts; breaks = bs; uncovered = u } ≡ lose_one v c t
  unfolding lose_one lose_breaks
  lose_3 k₀ k₁ e₁ e₂ e₃ = rw (ne_eqb _ _ k₀, ne_eqb _ _ k₁) (made e₁ e₂ e₃)

-- the breaks by what the code does in place of a branch: a count that is at least m is m where it is below the next
module _ (bs : List ℕ) (k m w v : ℕ) (least : m ≤ k) where
  pick-on : k ≡ m → pick_of k (suc m) w v ≡ w
  unfolding pick_of
  pick-on e = rw (lt-ltb k (suc m) (omega arith))

  pick-off : (k ≡ m → ⊥) → pick_of k (suc m) w v ≡ v
  unfolding pick_of
  pick-off e = rw (le-ltb k (suc m) (omega (arith, e)))

  below_on : k ≡ m → below_of k (suc m) ≡ 1
  unfolding below_of
  below_on e = rw (lt-ltb k (suc m) (omega arith))

  below-off : (k ≡ m → ⊥) → below_of k (suc m) ≡ 0
  unfolding below_of
  below-off e = rw (le-ltb k (suc m) (omega (arith, e)))

  pick_in : v < length bs → (k ≡ m → w < length bs) → {i : ℕ} → i ≡ pick_of k (suc m) w v → i < length bs
  pick_in l h e = rw e (by-eq k m (λ q. rw (pick-on q) (h q)) (λ q. rw (pick-off q) l))

  lower-fits : (k ≡ m → 0 < get_or bs w 0) → {i d : ℕ} → i ≡ pick_of k (suc m) w v → d ≡ below_of k (suc m) → d ≤ get_or bs i 0
  lower-fits h e f = rw (e, f) (by-eq k m (λ q. rw (pick-on q, below_on q) (h q)) (λ q. rw (below-off q) (omega arith)))

  raise-fits : (top : ℕ) → (k ≡ m → get_or bs w 0 + 1 < top) → {i d : ℕ} → get_or bs i 0 < top → i ≡ pick_of k (suc m) w v → d ≡ below_of k (suc m) → get_or bs i 0 + d < top
  raise-fits top h {i} l e f = by-eq k m (λ q. rw (e, f, pick-on q, below_on q) (h q)) (λ q. rw (f, below-off q) (omega arith))

  lower-is : {i d : ℕ} → i ≡ pick_of k (suc m) w v → d ≡ below_of k (suc m) → set bs i (get_or bs i 0 - d) ≡ cond (eqb k m) (lowered bs w) bs
  unfolding lowered
  lower-is e f =
      rw (e, f)
      (by-eq k m (λ q. rw (pick-on q, below_on q, eq-eqb k m q)) (λ q. rw (pick-off q, below-off q, ne_eqb k m q, sub-zero (get_or bs v 0)) (set-get_or bs v 0)))

  raise-is : {i d : ℕ} → i ≡ pick_of k (suc m) w v → d ≡ below_of k (suc m) → set bs i (get_or bs i 0 + d) ≡ cond (eqb k m) (raised bs w) bs
  unfolding raised
  raise-is e f =
      rw (e, f)
      (by-eq k m (λ q. rw (pick-on q, below_on q, eq-eqb k m q)) (λ q. rw (pick-off q, below-off q, ne_eqb k m q, add-zero (get_or bs v 0)) (set-get_or bs v 0)))

module _ (v c : ℕ) (t : Tallies) {ts bs : List ℕ} {u : Uncovered} {i d : ℕ} where
  pub gain_light : (get_or t.trues c 0 ≡ 0 → ⊥) → ts ≡ raised t.trues c → bs ≡ set t.breaks i (get_or t.breaks i 0 - d)
      → i ≡ pick_of (get_or t.trues c 0) 2 (get_or t.uncovered.places c 0) v → d ≡ below_of (get_or t.trues c 0) 2
      → u ≡ marks c (bit_xor (get_or t.uncovered.places c 0) v) t.uncovered → record { trues = ts; breaks = bs; uncovered = u } ≡ gain_one v c t
  unfolding gain_one gain_breaks
  gain_light k e₁ e₂ ei ed e₃ = rw (ne_eqb _ _ k) (made e₁ (e₂ ∙ lower-is t.breaks (get_or t.trues c 0) 1 (get_or t.uncovered.places c 0) v (omega (arith, k)) ei ed) e₃)

  pub lose_light : 0 < get_or t.trues c 0 → (get_or t.trues c 0 ≡ 1 → ⊥) → ts ≡ lowered t.trues c → bs ≡ set t.breaks i (get_or t.breaks i 0 + d)
      → i ≡ pick_of (get_or t.trues c 0) 3 (bit_xor (get_or t.uncovered.places c 0) v) v → d ≡ below_of (get_or t.trues c 0) 3
      → u ≡ marks c (bit_xor (get_or t.uncovered.places c 0) v) t.uncovered → record { trues = ts; breaks = bs; uncovered = u } ≡ lose_one v c t
  unfolding lose_one lose_breaks
  lose_light some k e₁ e₂ ei ed e₃ = rw (ne_eqb _ _ k) (made e₁ (e₂ ∙ raise-is t.breaks (get_or t.trues c 0) 2 (bit_xor (get_or t.uncovered.places c 0) v) v (omega (arith, some, k)) ei ed) e₃)

-- what the entry that is lowered or raised in place of a branch asks
module _ (top v c : ℕ) (t : Tallies) {i d : ℕ} where
  pub can-lower-by : CanGain top v c t → (get_or t.trues c 0 ≡ 0 → ⊥) → i ≡ pick_of (get_or t.trues c 0) 2 (get_or t.uncovered.places c 0) v → d ≡ below_of (get_or t.trues c 0) 2
      → (i < length t.breaks) × (d ≤ get_or t.breaks i 0)
  can-lower-by h k e f = (
    pick_in t.breaks (get_or t.trues c 0) 1 (get_or t.uncovered.places c 0) v (omega (arith, k)) h.term (λ q. (h.second q).within) e,
    lower-fits t.breaks (get_or t.trues c 0) 1 (get_or t.uncovered.places c 0) v (omega (arith, k)) (λ q. (h.second q).some) e f,
  )

  pub can-raise-by : CanLose top v c t → (get_or t.trues c 0 ≡ 1 → ⊥) → get_or t.breaks i 0 < top → i ≡ pick_of (get_or t.trues c 0) 3 (bit_xor (get_or t.uncovered.places c 0) v) v
      → d ≡ below_of (get_or t.trues c 0) 3 → (i < length t.breaks) × (get_or t.breaks i 0 + d < top)
  can-raise-by h k l e f = (
    pick_in t.breaks (get_or t.trues c 0) 2 (bit_xor (get_or t.uncovered.places c 0) v) v (omega (arith, k, h.count.some)) h.term (λ q. (h.second q).within) e,
    raise-fits t.breaks (get_or t.trues c 0) 2 (bit_xor (get_or t.uncovered.places c 0) v) v (omega (arith, k, h.count.some)) top (λ q. (h.second q).fits) l e f,
  )

-- `count_one` by its cases
module _ (f : View) (c : ℕ) (t : Tallies) {ts bs : List ℕ} {u : Uncovered} {k : ℕ} (ek : k ≡ count_at f c) where
  pub count-0 : k ≡ 0 → ts ≡ set t.trues c k → bs ≡ t.breaks → u ≡ enters c t.uncovered
      → record { trues = ts; breaks = bs; uncovered = u } ≡ count_one f c t
  unfolding count_one
  count-0 z e₁ e₂ e₃ = rw (← ek) (rw z (made (e₁ ∙ ap (set t.trues c) z) e₂ e₃))

  pub count_1 : {w : ℕ} → k ≡ 1 → w ≡ xor_at f c → ts ≡ set t.trues c k → bs ≡ raised t.breaks w → u ≡ marks c w t.uncovered
      → record { trues = ts; breaks = bs; uncovered = u } ≡ count_one f c t
  unfolding count_one
  count_1 z ew e₁ e₂ e₃ = rw (← ek, ← ew) (rw z (made (e₁ ∙ ap (set t.trues c) z) e₂ e₃))

  pub count-2 : {w : ℕ} → (k ≡ 0 → ⊥) → (k ≡ 1 → ⊥) → w ≡ xor_at f c → ts ≡ set t.trues c k → bs ≡ t.breaks → u ≡ marks c w t.uncovered
      → record { trues = ts; breaks = bs; uncovered = u } ≡ count_one f c t
  unfolding count_one
  count-2 n₀ n₁ ew e₁ e₂ e₃ = rw (← ek, ← ew, ne_eqb k 0 n₀, ne_eqb k 1 n₁) (made e₁ e₂ e₃)
