-- Every start and every step of a walk leave a valid state, and so the walks end at one. Assumes nothing.
use Prim.Native.Nat.{ℕ, ◌*◌, ◌<◌}
use mathlib.Core.Path.{◌≡◌, sym, ◌∙◌}
use mathlib.Core.Bool.{true, false}
use mathlib.Core.List.{List, []}
use native.Mathlib.Omega.{arith}
use lib.ListN.{length, get_or}
use borrow.Author.Tests.{eqb-false}
use Rattle.written.specs.declared.Order.{Order}
use Rattle.written.specs.Limits.{Limits}
use Rattle.written.specs.Clauses.{File, State, term_of, afresh}
use Rattle.written.specs.Drawing.{chosen_from}
use Rattle.written.specs.Marks.{is_free, free_in}
use Rattle.written.specs.Walk.{Moment, start, is_found, literal_in, flip_picked, clause_picked, looked_at, in_clause, step, is_stuck, walk_over}
use Rattle.laws.specs.Valid.{is_clause, Proper, Valid}
use Rattle.laws.proofs.All.{all_get_d}
use Rattle.laws.proofs.Kept.{flip-valid}
use Rattle.laws.proofs.AnyOrder.{afresh-listed}
use Rattle.laws.proofs.Counted.{listed_has, uncovered-below}
use Rattle.laws.proofs.Sizes.{clause-below}
use Rattle.laws.proofs.Readings.{as_read-valid}
use Rattle.laws.proofs.Walks.{begun}
use Rattle.laws.proofs.Endings.{walks-keep, stuck_keeps, start-values, start-bits}
use Rattle.laws.proofs.Picks.{chosen-has, those-has, those-pass, literal-has, has-below}

-- where a walk is not stuck, the chosen clause has a literal of a free term
pub not_stuck : (o : Order) (ms : List ℕ) (m : Moment) → is_stuck o ms m ≡ false → 0 < length (looked_at ms m (clause_picked o m))
unfolding is_stuck
not_stuck o ms m r = let none = eqb-false (length (looked_at ms m (clause_picked o m))) 0 r in omega arith

-- and what is picked in it is one
pub literal-free : (o : Order) (s : State) (ms ls : List ℕ) (y : ℕ) → 0 < length (free_in ms ls)
    → is_free ms (term_of (literal_in o s (free_in ms ls) y).picked) ≡ true
unfolding free_in
literal-free o s ms ls y some = those-pass (λ l. is_free ms (term_of l)) _ ls (literal-has o s (free_in ms ls) y some)

module _ (lim : Limits) where
  -- a start works the counts out afresh
  pub start-valid : (ms : List ℕ) (m : Moment) → Valid lim m.state → Valid lim (start ms m).state
  unfolding start afresh
  start-valid ms m v = record { proper = v.proper; one_each = start-values ms m; bits = start-bits ms m; listed = afresh-listed _ _ }

  -- a clause that is not covered is a clause of the file, and the literal picked in it of a known term
  module _ (o : Order) (s : State) (v : Valid lim s) where
    abbrev clause_at : ℕ → List ℕ
    clause_at c = get_or s.file.clauses c []

    pub picked-below : (y : ℕ) → is_found s ≡ false → (chosen_from o s.uncovered y).picked < length s.file.clauses
    unfolding is_found
    picked-below y q =
        let some = eqb-false (length s.uncovered) 0 q in
        let c = (chosen_from o s.uncovered y).picked in
        uncovered-below s.values s.file.clauses c (sym (listed_has s v.listed c) ∙ chosen-has o s.uncovered y (omega arith))

    pub picked-known : (ms : List ℕ) (c y : ℕ) → 0 < length (free_in ms (clause_at c)) → c < length s.file.clauses
        → term_of (literal_in o s (free_in ms (clause_at c)) y).picked < length s.file.names
    unfolding term_of free_in
    picked-known ms c y some l =
        let n = length s.file.names in
        let literal = (literal_in o s (free_in ms (clause_at c)) y).picked in
        let ok = all_get_d (is_clause n) s.file.clauses c [] l v.proper.clauses-valid in
        let in_clause_lem = those-has (λ k. is_free ms (term_of k)) literal (clause_at c) (literal-has o s (free_in ms (clause_at c)) y some) in
        omega (arith, has-below (2 * n) literal (clause_at c) in_clause_lem (clause-below n (clause_at c) ok))

  pub step-valid : (o : Order) (ms : List ℕ) (m : Moment) → Valid lim m.state → is_found m.state ≡ false → is_stuck o ms m ≡ false
      → Valid lim (step o ms m).state
  unfolding step in_clause flip_picked looked_at clause_picked
  step-valid o ms m v q r =
      flip-valid lim _ m.state v
      (picked-known o m.state v ms _ _ (not_stuck o ms m r) (picked-below o m.state v m.generator q))

  pub end-valid : (o : Order) (ms : List ℕ) (f : File) → Proper lim f → Valid lim (walk_over o ms f).last.state
  unfolding walk_over
  end-valid o ms f p =
      walks-keep (λ m. Valid lim m.state) o ms (λ m q r v. step-valid o ms m v q r) (stuck_keeps (Valid lim) o) (start-valid ms) o.walks 0
      (begun o f)
      (as_read-valid lim f p)
