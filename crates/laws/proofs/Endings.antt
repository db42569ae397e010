-- What stands at the end of walks: whatever a start and a step keep. The file stays, and each term has a value of 0 or 1. Assumes nothing.
use Prim.Native.Nat.{ℕ, zero, suc, ◌≤◌}
use mathlib.Core.Path.{◌≡◌, refl, ap, ◌∙◌}
use mathlib.Core.Bool.{false}
use mathlib.Core.List.{List, [], ◌∷◌}
use native.Mathlib.Omega.{arith}
use lib.ListN.{length, length-replicate, length-set}
use lib.Dec.{ltb}
use borrow.Author.Tests.{ltb-true}
use Rattle.written.specs.declared.Order.{Order}
use Rattle.written.specs.Lists.{total, all}
use Rattle.written.specs.Clauses.{File, State, as_read, afresh}
use Rattle.written.specs.Flips.{flip, turned}
use Rattle.written.specs.Drawing.{start_values}
use Rattle.written.specs.Walk.{Moment, start, step, onwards, is_stuck, stuck_at, is_found, flip_picked, in_clause, walks_from, walk_over}
use Rattle.written.specs.Printed.{chosen}
use Rattle.laws.proofs.Basics.{both_first, both-second}
use Rattle.laws.proofs.Lists.{list_from-length}
use Rattle.laws.proofs.All.{all-zeros}
use Rattle.laws.specs.Valid.{Bits}
use Rattle.laws.proofs.Turning.{turned-bits}
use Rattle.laws.proofs.Starts.{start-bits as drawn-bits}
use Rattle.laws.proofs.Marks.{held-length, held-bits}
use Rattle.laws.proofs.Walks.{begun, found_or_lem, go_on}

-- ---- what every start and every step keeps, holds at the end

module _ (P : Moment → Type 0) (o : Order) (ms : List ℕ)
    (on : (m : Moment) → is_found m.state ≡ false → is_stuck o ms m ≡ false → P m → P (step o ms m))
    (sticks : (m : Moment) → P m → P (stuck_at o m)) where
  -- at a walk's end
  pub onwards-keeps : (k : ℕ) (m : Moment) → P m → P (onwards o ms k m)
  unfolding onwards
  onwards-keeps zero m h = h
  onwards-keeps (suc k) m h = go_on P o ms k m (λ q. h) (λ q r. sticks m h) (λ q r. onwards-keeps k (step o ms m) (on m q r h))

  -- at the end of all walks
  pub walks-keep : ((m : Moment) → P m → P (start ms m)) → (k n : ℕ) (m : Moment) → P m → P (walks_from o ms k n m).last
  unfolding walks_from
  walks-keep begin zero n m h = h
  walks-keep begin (suc k) n m h =
      let e = onwards o ms o.flips (start ms m) in
      let p = onwards-keeps o.flips (start ms m) (begin m h) in
      found_or_lem (λ r. P r.last) (suc n) e (λ e. walks_from o ms k (suc n) e) (λ q. p) (λ q. walks-keep begin k (suc n) e p)

-- ---- a walk that is stuck leaves the state as it stands

pub stuck_keeps : (P : State → Type 0) (o : Order) (m : Moment) → P m.state → P (stuck_at o m).state
unfolding stuck_at
stuck_keeps P o m h = h

-- ---- the file stays

pub start-file : (ms : List ℕ) (m : Moment) → (start ms m).state.file ≡ m.state.file
unfolding start afresh
start-file ms m = refl

pub step-file : (o : Order) (ms : List ℕ) (m : Moment) → (step o ms m).state.file ≡ m.state.file
unfolding step in_clause flip_picked flip
step-file o ms m = refl

pub end-file : (o : Order) (ms : List ℕ) (f : File) → (walk_over o ms f).last.state.file ≡ f
unfolding walk_over as_read afresh
end-file o ms f = walks-keep (λ m. m.state.file ≡ f) o ms (λ m q r h. step-file o ms m ∙ h) (stuck_keeps (λ s. s.file ≡ f) o) (λ m h. start-file ms m ∙ h) o.walks 0 (begun o f) refl

-- ---- a value for each term

abbrev pub OneEach : State → Type 0
OneEach s = length s.values ≡ length s.file.names

pub start-values : (ms : List ℕ) (m : Moment) → OneEach (start ms m).state
unfolding start afresh start_values
start-values ms m = held-length ms _ ∙ list_from-length 0 (length m.state.file.names) _

pub step-values : (o : Order) (ms : List ℕ) (m : Moment) → OneEach m.state → OneEach (step o ms m).state
unfolding step in_clause flip_picked flip turned
step-values o ms m h = length-set m.state.values _ _ ∙ h

pub end-values : (o : Order) (ms : List ℕ) (f : File) → length (walk_over o ms f).last.state.values ≡ length f.names
unfolding walk_over as_read afresh
end-values o ms f =
    walks-keep (λ m. OneEach m.state) o ms (λ m q r h. step-values o ms m h) (stuck_keeps OneEach o) (λ m h. start-values ms m) o.walks 0 (begun o f)
    (length-replicate (length f.names) 0)
    ∙ ap (λ (g : File). length g.names) (end-file o ms f)

-- ---- each 0 or 1

pub start-bits : (ms : List ℕ) (m : Moment) → Bits (start ms m).state.values
unfolding start afresh
start-bits ms m = held-bits ms _ (drawn-bits _ _)

pub step-bits : (o : Order) (ms : List ℕ) (m : Moment) → Bits m.state.values → Bits (step o ms m).state.values
unfolding step in_clause flip_picked flip
step-bits o ms m h = turned-bits _ m.state.values h

pub end-bits : (o : Order) (ms : List ℕ) (f : File) → Bits (walk_over o ms f).last.state.values
unfolding walk_over as_read afresh
end-bits o ms f =
    walks-keep (λ m. Bits m.state.values) o ms (λ m q r h. step-bits o ms m h) (stuck_keeps (λ s. Bits s.values) o) (λ m h. start-bits ms m) o.walks 0 (begun o f) (all-zeros (λ v. ltb v 2) refl (length f.names))

-- at most as many are chosen as there are values
pub bits-total : (vs : List ℕ) → Bits vs → total (λ v. v) vs ≤ length vs
bits-total [] h = omega arith
bits-total (v ∷ vs) h =
    let one = ltb-true v 2 (both_first (ltb v 2) (all (λ v. ltb v 2) vs) h) in
    let more = bits-total vs (both-second (ltb v 2) (all (λ v. ltb v 2) vs) h) in
    omega arith

pub end-chosen : (o : Order) (ms : List ℕ) (f : File) → chosen (walk_over o ms f).last.state ≤ length f.names
unfolding chosen
end-chosen o ms f = let n = end-values o ms f in let h = bits-total (walk_over o ms f).last.state.values (end-bits o ms f) in omega arith
