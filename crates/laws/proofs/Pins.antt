-- Pinned terms in walks: their marked values stand at the end; equal marks of a file's terms give equal walks; without a mark all is document 01's.
-- Assumes nothing.
use Prim.Native.Nat.{ℕ, zero, suc, ◌+◌, ◌*◌, ◌≤◌, ◌<◌}
use mathlib.Core.Path.{◌≡◌, refl, sym, ap, subst, ◌∙◌}
use mathlib.Core.Bool.{true, false, false≢true, true≢false}
use mathlib.Core.List.{List, []}
use native.Mathlib.Omega.{arith}
use lib.ListN.{length, get_or}
use lib.Dec.{eqb}
use borrow.Author.Tests.{ltb-true, ne_eqb}
use Rattle.written.specs.declared.Order.{Order}
use Rattle.written.specs.Limits.{Limits}
use Rattle.written.specs.Clauses.{File, afresh, as_read}
use Rattle.written.specs.Flips.{flip}
use Rattle.written.specs.Drawing.{chosen_from, start_values, start_state}
use Rattle.written.specs.Marks.{marks_hold}
use Rattle.written.specs.Walk.{Moment, Outcome, start, is_found, literal_in, flip_picked, clause_picked, looked_at, in_clause, step, is_stuck, onwards, found_or, walks_from, walk_over}
use Rattle.laws.specs.Valid.{is_clause, Proper, Valid}
use Rattle.laws.proofs.Basics.{by_cases}
use Rattle.laws.proofs.Lists.{list_from-length}
use Rattle.laws.proofs.All.{all_get_d}
use Rattle.laws.proofs.Sizes.{clause-some, clause-below}
use Rattle.laws.proofs.Readings.{as_read-valid}
use Rattle.laws.proofs.Marks.{all-free, held-holds, turn_holds, held_by, free-by}
use Rattle.laws.proofs.Walks.{begun, step-flips, go_on, found_or_lem, start-flips}
use Rattle.laws.proofs.Endings.{onwards-keeps, stuck_keeps, start-file, step-file}
use Rattle.laws.proofs.Valids.{literal-free, picked-below, not_stuck, start-valid, step-valid}

-- ---- "Placements settled by an editor must not move": pinned terms have their marked values at the end of every walk

drawn-length : (m : Moment) → length (start_values (length m.state.file.names) m.generator) ≡ length m.state.file.names
unfolding start_values
drawn-length m = list_from-length 0 (length m.state.file.names) _

-- "A start gives a pinned term its value"
start-holds : (ms : List ℕ) (m : Moment) → ((t : ℕ) → t < length m.state.file.names → get_or ms t 0 ≤ 2) → marks_hold ms (start ms m).state.values ≡ true
unfolding start afresh
start-holds ms m small = held-holds ms _ (λ t l. small t (omega (arith, drawn-length m)))

-- "Step 4 of the walk looks only at literals of free terms"
step-holds : (o : Order) (ms : List ℕ) (m : Moment) → is_stuck o ms m ≡ false → marks_hold ms m.state.values ≡ true
    → marks_hold ms (step o ms m).state.values ≡ true
unfolding step in_clause flip_picked flip looked_at
step-holds o ms m r h = turn_holds ms m.state.values _ (literal-free o m.state ms _ _ (not_stuck o ms m r)) h

-- a walk keeps the file
pub walk-file : (o : Order) (ms : List ℕ) (m : Moment) → (onwards o ms o.flips (start ms m)).state.file ≡ m.state.file
walk-file o ms m =
    onwards-keeps (λ e. e.state.file ≡ m.state.file) o ms (λ e q r h. step-file o ms e ∙ h) (stuck_keeps (λ s. s.file ≡ m.state.file) o) o.flips
    (start ms m)
    (start-file ms m)

-- and leaves a valid state
walk-valid : (lim : Limits) (o : Order) (ms : List ℕ) (m : Moment) → Valid lim m.state → Valid lim (onwards o ms o.flips (start ms m)).state
walk-valid lim o ms m v =
    onwards-keeps (λ e. Valid lim e.state) o ms (λ e q r w. step-valid lim o ms e w q r) (stuck_keeps (Valid lim) o) o.flips (start ms m)
    (start-valid lim ms m v)

-- what holds of every term of a file, where another is the same file
known_in : (P : ℕ → Type 0) {f g : File} → g ≡ f → ((t : ℕ) → t < length f.names → P t) → (t : ℕ) → t < length g.names → P t
known_in P e h t l = h t (subst (λ (f : File). t < length f.names) e l)

module _ (o : Order) (ms : List ℕ) (f : File) (small : (t : ℕ) → t < length f.names → get_or ms t 0 ≤ 2) where
  -- a walk over the file
  one_holds : (m : Moment) → m.state.file ≡ f → marks_hold ms (onwards o ms o.flips (start ms m)).state.values ≡ true
  one_holds m same =
      onwards-keeps (λ e. marks_hold ms e.state.values ≡ true) o ms (λ e q r h. step-holds o ms e r h) (stuck_keeps (λ s. marks_hold ms s.values ≡ true) o)
      o.flips
      (start ms m)
      (start-holds ms m (λ t l. small t (subst (λ (g : File). t < length g.names) same l)))

  -- and all of them
  walks-hold : (k n : ℕ) (m : Moment) → m.state.file ≡ f → (k ≡ 0 → marks_hold ms m.state.values ≡ true)
      → marks_hold ms (walks_from o ms k n m).last.state.values ≡ true
  unfolding walks_from
  walks-hold zero n m same h = h refl
  walks-hold (suc k) n m same h =
      let e = onwards o ms o.flips (start ms m) in
      found_or_lem (λ r. marks_hold ms r.last.state.values ≡ true) (suc n) e (λ e. walks_from o ms k (suc n) e) (λ q. one_holds m same)
      (λ q. walks-hold k (suc n) e (walk-file o ms m ∙ same) (λ _. one_holds m same))

  pub held_after : 0 < o.walks → marks_hold ms (walk_over o ms f).last.state.values ≡ true
  unfolding walk_over as_read afresh
  held_after some = walks-hold o.walks 0 (begun o f) refl (λ z. absurd (omega arith))

-- ---- marks that say the same of a file's terms

module _ (lim : Limits) (o : Order) (ms ns : List ℕ) where
  abbrev Same : Moment → Type 0
  Same m = (t : ℕ) → t < length m.state.file.names → get_or ms t 0 ≡ get_or ns t 0

  starts_by : (m : Moment) → Same m → start ms m ≡ start ns m
  unfolding start
  starts_by m same =
      ap (λ (vs : List ℕ). record { state = afresh m.state.file vs; generator = start_state (length m.state.file.names) m.generator; flips = m.flips })
      (held_by ms ns (length m.state.file.names) same _ (omega (arith, drawn-length m)))

  looks_by : (m : Moment) → Valid lim m.state → is_found m.state ≡ false → Same m → looked_at ms m (clause_picked o m) ≡ looked_at ns m (clause_picked o m)
  unfolding looked_at clause_picked
  looks_by m v q same =
      let n = length m.state.file.names in
      let c = (chosen_from o m.state.uncovered m.generator).picked in
      let ok = all_get_d (is_clause n) m.state.file.clauses c [] (picked-below lim o m.state v m.generator q) v.proper.clauses-valid in
      free-by ms ns n same (get_or m.state.file.clauses c []) (clause-below n (get_or m.state.file.clauses c []) ok)

  stuck-by : (m : Moment) → Valid lim m.state → is_found m.state ≡ false → Same m → is_stuck o ms m ≡ is_stuck o ns m
  unfolding is_stuck
  stuck-by m v q same = ap (λ (ls : List ℕ). eqb (length ls) 0) (looks_by m v q same)

  steps-by : (m : Moment) → Valid lim m.state → is_found m.state ≡ false → Same m → step o ms m ≡ step o ns m
  unfolding step in_clause
  steps-by m v q same = ap (λ (ls : List ℕ). flip_picked m (literal_in o m.state ls (clause_picked o m).state)) (looks_by m v q same)

  abbrev Alike : ℕ → Type 0
  Alike t = get_or ms t 0 ≡ get_or ns t 0

  onwards-by : (k : ℕ) (m : Moment) → Valid lim m.state → Same m → onwards o ms k m ≡ onwards o ns k m
  unfolding onwards
  onwards-by zero m v same = refl
  onwards-by (suc k) m v same =
      by_cases (is_found m.state) (λ q. rw q refl)
      (λ q. by_cases (is_stuck o ms m) (λ r. rw (q, r, sym (stuck-by m v q same) ∙ r) refl)
      (λ r. rw (q, r, sym (stuck-by m v q same) ∙ r)
      (onwards-by k (step o ms m) (step-valid lim o ms m v q r) (known_in Alike (step-file o ms m) same) ∙ ap (onwards o ns k) (steps-by m v q same))))

  ends_by : (m : Moment) → Valid lim m.state → Same m → onwards o ms o.flips (start ms m) ≡ onwards o ns o.flips (start ns m)
  ends_by m v same =
      onwards-by o.flips (start ms m) (start-valid lim ms m v) (known_in Alike (start-file ms m) same) ∙ ap (onwards o ns o.flips) (starts_by m same)

  walks-by : (k n : ℕ) (m : Moment) → Valid lim m.state → Same m → walks_from o ms k n m ≡ walks_from o ns k n m
  unfolding walks_from
  walks-by zero n m v same = refl
  walks-by (suc k) n m v same =
      let e : Moment = onwards o ms o.flips (start ms m) in
      ap (λ (on : Outcome). found_or (suc n) e (λ _. on)) (walks-by k (suc n) e (walk-valid lim o ms m v) (known_in Alike (walk-file o ms m) same))
      ∙ ap (λ (x : Moment). found_or (suc n) x (λ y. walks_from o ns k (suc n) y)) (ends_by m v same)

  pub walk-by : (f : File) → Proper lim f → ((t : ℕ) → t < length f.names → Alike t) → walk_over o ms f ≡ walk_over o ns f
  unfolding walk_over as_read afresh
  walk-by f p same = walks-by o.walks 0 (begun o f) (as_read-valid lim f p) same

-- ---- without a mark

-- "No call without pins differs": the walk is document 01's
pub unpinned : (lim : Limits) (o : Order) (ms : List ℕ) (f : File) → Proper lim f → ((t : ℕ) → t < length f.names → get_or ms t 0 ≡ 0)
    → walk_over o ms f ≡ walk_over o [] f
unpinned lim o ms f p free = walk-by lim o ms [] f p free

module _ (lim : Limits) (o : Order) (ms : List ℕ) where
  abbrev Free : ℕ → Type 0
  Free t = get_or ms t 0 ≡ 0

  abbrev AllFree : Moment → Type 0
  AllFree m = (t : ℕ) → t < length m.state.file.names → Free t

  -- no walk is stuck: no clause is empty
  moves_on : (m : Moment) → Valid lim m.state → is_found m.state ≡ false → AllFree m → is_stuck o ms m ≡ false
  unfolding is_stuck
  moves_on m v q free = rw (looks_by lim o ms [] m v q free) (ne_eqb (length (looked_at [] m (clause_picked o m))) 0 (λ e. omega (arith, some m v q)))
    where
      some : (m : Moment) → Valid lim m.state → is_found m.state ≡ false → 0 < length (looked_at [] m (clause_picked o m))
      some m v q =
          unfold looked_at clause_picked in
          let n = length m.state.file.names in
          let c = (chosen_from o m.state.uncovered m.generator).picked in
          let ls = get_or m.state.file.clauses c [] in
          let ok = all_get_d (is_clause n) m.state.file.clauses c [] (picked-below lim o m.state v m.generator q) v.proper.clauses-valid in
          rw (all-free ls) (ltb-true 0 (length ls) (clause-some n ls ok))

  -- so a walk that does not find makes all its flips
  onwards-all : (k : ℕ) (m : Moment) → Valid lim m.state → AllFree m → is_found (onwards o ms k m).state ≡ false → (onwards o ms k m).flips ≡ k + m.flips
  unfolding onwards
  onwards-all zero m v free = λ h. omega arith
  onwards-all (suc k) m v free =
      go_on (λ e. is_found e.state ≡ false → e.flips ≡ suc k + m.flips) o ms k m (λ q h. absurd (true≢false (sym q ∙ h)))
      (λ q r. absurd (true≢false (sym r ∙ moves_on m v q free)))
      (λ q r h. omega (arith, onwards-all k (step o ms m) (step-valid lim o ms m v q r) (known_in Free (step-file o ms m) free) h, step-flips o ms m))

  flips-all : (k n : ℕ) (m : Moment) → Valid lim m.state → AllFree m → (walks_from o ms k n m).found ≡ false
      → (walks_from o ms k n m).last.flips ≡ k * o.flips + m.flips
  unfolding walks_from
  flips-all zero n m v free = λ h. omega arith
  flips-all (suc k) n m v free =
      let e = onwards o ms o.flips (start ms m) in
      let same = start-flips ms m in
      found_or_lem (λ e. e.found ≡ false → e.last.flips ≡ suc k * o.flips + m.flips) (suc n) e (λ e. walks_from o ms k (suc n) e) (λ q h. absurd (false≢true (sym h)))
      (λ q h.
      omega (arith, onwards-all o.flips (start ms m) (start-valid lim ms m v) (known_in Free (start-file ms m) free) q, flips-all k (suc n) e (walk-valid lim o ms m v) (known_in Free (walk-file o ms m) free) h))

  -- and walks that are given up all of them
  pub gave_up-flips : (f : File) → Proper lim f → ((t : ℕ) → t < length f.names → Free t) → (walk_over o ms f).found ≡ false
      → (walk_over o ms f).last.flips ≡ o.walks * o.flips
  unfolding walk_over as_read afresh
  gave_up-flips f p free h = omega (arith, flips-all o.walks 0 (begun o f) (as_read-valid lim f p) free h)
