-- Runs as they are filled: what is left of each is what the clauses to come put there. Assumes nothing.
use mathlib.Core.Path.{◌≡◌, refl, ap, ap₂, ◌∙◌, sym}
use mathlib.Core.Bool.{true, cond}
use mathlib.Core.List.{List, [], ◌∷◌, ◌++◌, append_assoc, append-nil}
use Prim.Native.Nat.{ℕ, zero, suc, ◌+◌, ◌-◌, ◌<◌, ◌≤◌}
use native.Mathlib.Omega.{arith}
use lib.ListN.{length, get_or, take, drop, set, length-set}
use lib.Seq.{take-suc-set, take_all, drop-set-lt, drop-set-add, take-set-le, take-set-lt}
use lib.Dec.{ltb}
use borrow.Author.Tests.{eq-eqb, ne_eqb, ltb-true}
use borrow.Rule.Slice.PartMut.{mid_of, put_mid, set_mid_at, mid_len}
use Rattle.written.specs.Lists.{all, where_from, list_from, list_of, has, differ, steps}
use Rattle.written.specs.Agreement.{part_of}
use Rattle.laws.proofs.Basics.{by-eq, by-lt, both_first, both-second}
use Rattle.laws.proofs.Membership.{differ-first, differ-rest}
use Rattle.machine.specs.Tallies.{raised, CanSteps}
use Rattle.machine.specs.Moving.{CanPart}
use Rattle.machine.specs.Passes.{up_to}
use Rattle.machine.specs.Cuts.{Cuts}
use Rattle.machine.specs.Filling.{Filling, filling, put_one, CanPut, put_clause, CanPutAll}
use Rattle.machine.proofs.Cuts.{length_part, start-low, can-cut}
use Rattle.occurrences.proofs.Tallying.{raised-length, raised-same, raised-other, raised-beyond}

-- a clause put into a run that was lent as a part of the occurrences
pub put_is : (top : ℕ) (os oc cu : List ℕ) (c l : ℕ) {mid cu' : List ℕ} → CanPut top os c l (filling oc cu)
    → mid ≡ set (mid_of (get_or os l 0) (get_or os (l + 1) 0 - get_or os l 0) oc) (get_or cu l 0) c → cu' ≡ raised cu l
    → filling (put_mid (get_or os l 0) (get_or os (l + 1) 0 - get_or os l 0) oc mid) cu' ≡ put_one os c l (filling oc cu)
unfolding put_one
put_is top os oc cu c l h e f =
    let a = get_or os l 0 in
    let b = get_or os (l + 1) 0 in
    let z : get_or cu l 0 < length (mid_of a (b - a) oc) = omega (arith, mid_len a b oc h.part.within, h.room) in
    ap₂ filling (ap (put_mid a (b - a) oc) e ∙ set_mid_at a (b - a) (get_or cu l 0) oc c z) f

-- a clause that was lent as a part of the literals
module _ (ss ls os : List ℕ) (c : ℕ) (s : Filling) {clause : List ℕ} (e : clause ≡ part_of ss ls c) where
  pub clause-can : (top C : ℕ) (s₀ : Filling) → CanPutAll top C ss ls os s₀ → c < C → s ≡ up_to (put_clause ss ls os) c s₀
      → CanSteps (CanPut top os c) (put_one os c) clause s
  clause-can top C s₀ h l f = rw (e, f) (h.each c l).puts

  pub clause-is : {s' : Filling} → s' ≡ steps (put_one os c) clause s → s' ≡ put_clause ss ls os c s
  unfolding put_clause
  clause-is f = f ∙ ap (λ (t : List ℕ). steps (put_one os c) t s) e

-- ---- a store into one run, seen from each

module _ (n L : ℕ) (os : List ℕ) (cut : Cuts n L os) where
  -- starts never fall
  starts-rise : (j k m : ℕ) → k + j ≡ m → m ≤ n → get_or os k 0 ≤ get_or os m 0
  starts-rise zero k m e h = omega (arith, ap (λ (i : ℕ). get_or os i 0) (let z : k ≡ m = omega arith in z))
  starts-rise (suc j) k m e h = omega (arith, cut.rise k (omega arith), starts-rise j (k + 1) m (omega arith) h)

  module _ (xs : List ℕ) (l k v : ℕ) (h : k < get_or os (l + 1) 0 - get_or os l 0) where
    part_same : part_of os (set xs (get_or os l 0 + k) v) l ≡ set (part_of os xs l) k v
    unfolding part_of
    part_same = rw (drop-set-add (get_or os l 0) xs k v) (take-set-lt _ (drop (get_or os l 0) xs) k v h)

    part-other : (m : ℕ) → l < n → m < n → (m ≡ l → ⊥) → part_of os (set xs (get_or os l 0 + k) v) m ≡ part_of os xs m
    unfolding part_of
    part-other m hl hm ne =
        let a = get_or os m 0 in
        let d = get_or os (m + 1) 0 - a in
        let j = get_or os l 0 + k in
        by-lt l m
        (λ q. ap (take d) (drop-set-lt a xs j v (omega (arith, starts-rise (m - (l + 1)) (l + 1) m (omega arith) (omega arith)))))
        (λ q.
        let b = starts-rise (l - (m + 1)) (m + 1) l (omega arith) (omega arith) in
        let r = cut.rise m hm in
        let e : j ≡ a + (j - a) = omega arith in
        ap (λ (i : ℕ). take d (drop a (set xs i v))) e ∙ ap (take d) (drop-set-add a xs (j - a) v) ∙ take-set-le d (drop a xs) (j - a) v (omega arith))

-- ---- what is left

-- before what X says is to come, clause c is to be put into the runs of the literals ls
abbrev pub coming : ℕ → List ℕ → (ℕ → List ℕ) → ℕ → List ℕ
coming c ls X m = cond (has m ls) (c ∷ X m) (X m)

module _ (top n L : ℕ) (os : List ℕ) (cut : Cuts n L os) (few : L < top) (W : ℕ → List ℕ) (s₀ : Filling) where
  -- X m is still to be put into the run of m, which is to hold W m at the end
  pub record Left (X : ℕ → List ℕ) (s : Filling) : Type 0 where
    pub cursors : n ≤ length s.cursors
    pub fits : L ≤ length s.occurrences
    pub rooms : (m : ℕ) → m < n → get_or s.cursors m 0 + length (X m) ≡ get_or os (m + 1) 0 - get_or os m 0
    pub whole : (m : ℕ) → m < n → take (get_or s.cursors m 0) (part_of os s.occurrences m) ++ X m ≡ W m
    pub kept : drop L s.occurrences ≡ drop L s₀.occurrences
    pub beyond : drop n s.cursors ≡ drop n s₀.cursors

  -- one literal
  module _ (c l : ℕ) (X Y : ℕ → List ℕ) (s : Filling) (hl : l < n) (first : X l ≡ c ∷ Y l) (others : (m : ℕ) → (m ≡ l → ⊥) → X m ≡ Y m) (f : Left X s) where
    abbrev k : ℕ
    k = get_or s.cursors l 0

    more : k + suc (length (Y l)) ≡ get_or os (l + 1) 0 - get_or os l 0
    more = ap (λ (t : List ℕ). k + length t) (sym first) ∙ f.rooms l hl

    can-part : CanPart os s.occurrences l
    can-part = can-cut n L os cut s.occurrences f.fits l hl

    put-can : CanPut top os c l s
    put-can =
        let m = more in
        let e = start-low n L os cut (l + 1) (omega arith) in
        record { part = can-part; cursor = record { within = omega (arith, f.cursors); fits = omega arith }; room = omega arith }

    whole_same : take (suc k) (part_of os (set s.occurrences (get_or os l 0 + k) c) l) ++ Y l ≡ W l
    whole_same =
        let m = more in
        let p = part_of os s.occurrences l in
        let z : k < length p = omega (arith, length_part os s.occurrences l can-part) in
        rw (part_same n L os cut s.occurrences l k c (omega arith), take-suc-set p k c z, append_assoc (take k p) (c ∷ []) (Y l))
        (ap (λ (t : List ℕ). take k p ++ t) (sym first) ∙ f.whole l hl)

    put-left : Left Y (put_one os c l s)
    unfolding put_one
    put-left =
        let e = more in
        let next = raised-same s.cursors l (omega (arith, f.cursors)) in
        record {
          cursors = omega (arith, f.cursors, raised-length s.cursors l);
          fits = omega (arith, f.fits, length-set s.occurrences (get_or os l 0 + k) c);
          rooms = λ m hm. by-eq m l (λ q. rw (q, next) (omega arith)) (λ q. rw (raised-other s.cursors l m q, ← others m q) (f.rooms m hm));
          whole = λ m hm.
              by-eq m l (λ q. rw (q, next) whole_same)
              (λ q.
              rw (raised-other s.cursors l m q, ← others m q, part-other n L os cut s.occurrences l k c (omega arith) m hl hm q) (f.whole m hm));
          kept = drop-set-lt L s.occurrences _ c (omega (arith, start-low n L os cut (l + 1) (omega arith))) ∙ f.kept;
          beyond = raised-beyond s.cursors l n hl ∙ f.beyond;
        }

  -- the literals of a clause
  clause-left : (c : ℕ) (ls : List ℕ) (X : ℕ → List ℕ) (s : Filling) → all (λ l. ltb l n) ls ≡ true → differ ls ≡ true → Left (coming c ls X) s
      → CanSteps (CanPut top os c) (put_one os c) ls s × Left X (steps (put_one os c) ls s)
  unfolding CanSteps
  clause-left c [] X s a d f = (tt, f)
  clause-left c (l ∷ ls) X s a d f =
      let hl = ltb-true l n (both_first (ltb l n) (all (λ l. ltb l n) ls) a) in
      let first : coming c (l ∷ ls) X l ≡ c ∷ coming c ls X l = rw (eq-eqb l l refl, differ-first l ls d) in
      let others : (m : ℕ) → (m ≡ l → ⊥) → coming c (l ∷ ls) X m ≡ coming c ls X m = λ m q. rw (ne_eqb m l q) in
      let r = clause-left c ls X (put_one os c l s) (both-second (ltb l n) (all (λ l. ltb l n) ls) a) (differ-rest l ls d) (put-left c l _ _ s hl first others f) in
      ((put-can c l _ _ s hl first others f, r.0), r.1)

  -- the clauses of the tables, one after another
  module _ (ss ls : List ℕ) (C : ℕ) (low : (c : ℕ) → c < C → all (λ l. ltb l n) (part_of ss ls c) ≡ true) (once : (c : ℕ) → c < C → differ (part_of ss ls c) ≡ true)
      (f : Left (λ m. where_from 0 (has m) (list_of C (part_of ss ls))) s₀) where
    abbrev after : ℕ → Filling
    after i = up_to (put_clause ss ls os) i s₀

    left_at : (i j : ℕ) → i + j ≡ C → Left (λ m. where_from i (has m) (list_from i j (part_of ss ls))) (after i)
    unfolding up_to put_clause
    left_at zero j e = rw (let q : j ≡ C = omega arith in q) f
    left_at (suc i) j e = (clause-left i (part_of ss ls i) _ (after i) (low i (omega arith)) (once i (omega arith)) (left_at i (suc j) (omega arith))).1

    -- each can be put, and in the end nothing is left
    pub all_left : C ≤ top → ((c : ℕ) → c < C → CanPart ss ls c) → CanPutAll top C ss ls os s₀ × Left (λ m. []) (after C)
    all_left t p = (
      record {
        each = λ c l.
            record {
              number = omega arith;
              part = p c l;
              puts = (clause-left c (part_of ss ls c) _ (after c) (low c l) (once c l) (left_at c (suc (C - suc c)) (omega arith))).0;
            };
      },
      left_at C 0 (omega arith),
    )

  -- a run of which nothing is left
  pub filled : (s : Filling) → Left (λ m. []) s → (m : ℕ) → m < n → part_of os s.occurrences m ≡ W m
  filled s f m hm =
      let p = part_of os s.occurrences m in
      let k = get_or s.cursors m 0 in
      let e = length_part os s.occurrences m (can-cut n L os cut s.occurrences f.fits m hm) in
      let z : length p ≤ k = omega (arith, f.rooms m hm) in
      sym (take_all k p z) ∙ sym (append-nil (take k p)) ∙ f.whole m hm
