-- How walks end: found means that no clause is uncovered, and the walks and flips are bounded. Assumes nothing.
use Prim.Native.Nat.{ℕ, zero, suc, ◌+◌, ◌*◌, ◌≤◌, ◌<◌, min}
use mathlib.Core.Path.{◌≡◌, refl, sym}
use mathlib.Core.Bool.{true, false, false≢true}
use mathlib.Core.List.{List, [], ◌∷◌}
use native.Mathlib.Omega.{arith}
use native.Mathlib.Nat.{le_refl, mul_comm, mul-le-mul}
use lib.ListN.{length}
use borrow.Author.Tests.{eqb-true}
use Rattle.written.specs.declared.Order.{Order}
use Rattle.written.specs.Clauses.{File, as_read}
use Rattle.written.specs.Walk.{Moment, Outcome, start, step, is_stuck, stuck_at, onwards, is_found, walks_from, walk_over, found_or, flip_picked, in_clause}
use Rattle.laws.proofs.Basics.{by_cases}

-- where the walks of an order over a file begin
abbrev pub begun : Order → File → Moment
begun o f = record { state = as_read f; generator = o.seed; flips = 0 }

-- a step makes one flip
pub step-flips : (o : Order) (ms : List ℕ) (m : Moment) → (step o ms m).flips ≡ suc m.flips
unfolding step in_clause flip_picked
step-flips o ms m = refl

stuck-flips : (o : Order) (m : Moment) → (stuck_at o m).flips ≡ m.flips
unfolding stuck_at
stuck-flips o m = refl

-- a walk that has a flip left has found, is stuck or goes on
pub go_on : (P : Moment → Type 0) (o : Order) (ms : List ℕ) (k : ℕ) (m : Moment) → (is_found m.state ≡ true → P m)
    → (is_found m.state ≡ false → is_stuck o ms m ≡ true → P (stuck_at o m))
    → (is_found m.state ≡ false → is_stuck o ms m ≡ false → P (onwards o ms k (step o ms m))) → P (onwards o ms (suc k) m)
unfolding onwards
go_on P o ms k m found stuck on =
    by_cases (is_found m.state) (λ q. rw q (found q)) (λ q. rw q (by_cases (is_stuck o ms m) (λ r. rw r (stuck q r)) (λ r. rw r (on q r))))

-- a walk makes at most its flips
pub onwards-flips : (o : Order) (ms : List ℕ) (k : ℕ) (m : Moment) → (onwards o ms k m).flips ≤ k + m.flips
unfolding onwards
onwards-flips o ms zero m = omega arith
onwards-flips o ms (suc k) m =
    go_on (λ e. e.flips ≤ suc k + m.flips) o ms k m (λ q. omega arith) (λ q r. omega (arith, stuck-flips o m))
    (λ q r. omega (arith, onwards-flips o ms k (step o ms m), step-flips o ms m))

-- what holds of a walk that has found and of what follows one that has not
pub found_or_lem : (P : Outcome → Type 0) (n : ℕ) (m : Moment) (on : Moment → Outcome) → (is_found m.state ≡ true → P (record { found = true; walks = n; last = m }))
    → (is_found m.state ≡ false → P (on m)) → P (found_or n m on)
found_or_lem P n m on here next = by_cases (is_found m.state) (λ q. rw q (here q)) (λ q. rw q (next q))

-- found means that no clause is uncovered
pub found-is : (o : Order) (ms : List ℕ) (k n : ℕ) (m : Moment) → (walks_from o ms k n m).found ≡ true → is_found (walks_from o ms k n m).last.state ≡ true
unfolding walks_from
found-is o ms zero n m = λ h. absurd (false≢true h)
found-is o ms (suc k) n m =
    found_or_lem (λ e. e.found ≡ true → is_found e.last.state ≡ true) (suc n) (onwards o ms o.flips (start ms m)) (λ e. walks_from o ms k (suc n) e) (λ q h. q)
    (λ q. found-is o ms k (suc n) (onwards o ms o.flips (start ms m)))

none_left : (us : List ℕ) → length us ≡ 0 → us ≡ []
none_left [] h = refl
none_left (u ∷ us) h = absurd (omega arith)

pub found-covers : (o : Order) (ms : List ℕ) (f : File) → (walk_over o ms f).found ≡ true → (walk_over o ms f).last.state.uncovered ≡ []
unfolding walk_over is_found
found-covers o ms f h = none_left _ (eqb-true _ 0 (found-is o ms o.walks 0 (begun o f) h))

-- at most the walks asked for are begun
pub walks-bound : (o : Order) (ms : List ℕ) (k n : ℕ) (m : Moment) → (walks_from o ms k n m).walks ≤ n + k
unfolding walks_from
walks-bound o ms zero n m = omega arith
walks-bound o ms (suc k) n m =
    let e = onwards o ms o.flips (start ms m) in
    found_or_lem (λ e. e.walks ≤ n + suc k) (suc n) e (λ e. walks_from o ms k (suc n) e) (λ q. omega arith)
    (λ q. let h = walks-bound o ms k (suc n) e in omega arith)

pub walks-most : (o : Order) (ms : List ℕ) (f : File) → (walk_over o ms f).walks ≤ o.walks
unfolding walk_over
walks-most o ms f = let h = walks-bound o ms o.walks 0 (begun o f) in omega arith

-- and at least one, if any is
walks-least : (o : Order) (ms : List ℕ) (k n : ℕ) (m : Moment) → n + min k 1 ≤ (walks_from o ms k n m).walks
unfolding walks_from
walks-least o ms zero n m = omega arith
walks-least o ms (suc k) n m =
    let e = onwards o ms o.flips (start ms m) in
    found_or_lem (λ e. n + min (suc k) 1 ≤ e.walks) (suc n) e (λ e. walks_from o ms k (suc n) e) (λ q. omega arith) (λ q. omega (arith, walks-least o ms k (suc n) e))

pub some_walk : (o : Order) (ms : List ℕ) (f : File) → 0 < o.walks → 0 < (walk_over o ms f).walks
unfolding walk_over
some_walk o ms f h = omega (arith, walks-least o ms o.walks 0 (begun o f))

-- walks are given up when all of them have been begun
pub gave_up : (o : Order) (ms : List ℕ) (k n : ℕ) (m : Moment) → (walks_from o ms k n m).found ≡ false → (walks_from o ms k n m).walks ≡ n + k
unfolding walks_from
gave_up o ms zero n m = λ h. omega arith
gave_up o ms (suc k) n m =
    let e = onwards o ms o.flips (start ms m) in
    found_or_lem (λ e. e.found ≡ false → e.walks ≡ n + suc k) (suc n) e (λ e. walks_from o ms k (suc n) e) (λ q h. absurd (false≢true (sym h)))
    (λ q h. let w = gave_up o ms k (suc n) e h in omega arith)

pub gave_up-walks : (o : Order) (ms : List ℕ) (f : File) → (walk_over o ms f).found ≡ false → (walk_over o ms f).walks ≡ o.walks
unfolding walk_over
gave_up-walks o ms f h = omega (arith, gave_up o ms o.walks 0 (begun o f) h)

-- and then a clause is still uncovered
missed : (o : Order) (ms : List ℕ) (k n : ℕ) (m : Moment) → (k ≡ 0 → is_found m.state ≡ false) → (walks_from o ms k n m).found ≡ false
    → is_found (walks_from o ms k n m).last.state ≡ false
unfolding walks_from
missed o ms zero n m p = λ h. p refl
missed o ms (suc k) n m p =
    let e = onwards o ms o.flips (start ms m) in
    found_or_lem (λ e. e.found ≡ false → is_found e.last.state ≡ false) (suc n) e (λ e. walks_from o ms k (suc n) e) (λ q h. absurd (false≢true (sym h)))
    (λ q. missed o ms k (suc n) e (λ z. q))

pub gave_up_misses : (o : Order) (ms : List ℕ) (f : File) → 0 < o.walks → (walk_over o ms f).found ≡ false → is_found (walk_over o ms f).last.state ≡ false
unfolding walk_over
gave_up_misses o ms f h = missed o ms o.walks 0 (begun o f) (λ z. absurd (omega arith))

pub start-flips : (ms : List ℕ) (m : Moment) → (start ms m).flips ≡ m.flips
unfolding start
start-flips ms m = refl

-- of the walks begun, each makes at most its flips
flips-begun : (o : Order) (ms : List ℕ) (k n : ℕ) (m : Moment) → (walks_from o ms k n m).last.flips + n * o.flips ≤ m.flips + (walks_from o ms k n m).walks * o.flips
unfolding walks_from
flips-begun o ms zero n m = omega arith
flips-begun o ms (suc k) n m =
    let e = onwards o ms o.flips (start ms m) in
    let one = onwards-flips o ms o.flips (start ms m) in
    let same = start-flips ms m in
    found_or_lem (λ e. e.last.flips + n * o.flips ≤ m.flips + e.walks * o.flips) (suc n) e (λ e. walks_from o ms k (suc n) e) (λ q. omega arith)
    (λ q. let h = flips-begun o ms k (suc n) e in omega arith)

pub flips-few : (o : Order) (ms : List ℕ) (f : File) → (walk_over o ms f).last.flips ≤ (walk_over o ms f).walks * o.flips
unfolding walk_over
flips-few o ms f = omega (arith, flips-begun o ms o.walks 0 (begun o f))

-- so at most the flips of all the walks that are asked for
pub flips-most : (o : Order) (ms : List ℕ) (f : File) → (walk_over o ms f).last.flips ≤ o.flips * o.walks
flips-most o ms f =
    let asked : (walk_over o ms f).walks * o.flips ≤ o.walks * o.flips = mul-le-mul (walks-most o ms f) (le_refl o.flips) in
    rw (mul_comm o.flips o.walks) (omega (arith, flips-few o ms f, asked))
