-- Literals counted, the counts summed, and clauses put into the runs: the literals turned round. Assumes nothing.
use mathlib.Core.Path.{◌≡◌, refl, ap, ap₂, ◌∙◌, sym}
use mathlib.Core.Bool.{true}
use mathlib.Core.List.{List, [], ◌++◌, flatten}
use Prim.Native.Nat.{ℕ, ◌*◌, ◌<◌, ◌≤◌}
use native.Mathlib.Omega.{arith}
use lib.ListN.{length, get_or, take, drop, take-append-drop}
use lib.Seq.{length-take-le, take_all}
use lib.Dec.{ltb}
use Rattle.written.specs.Lists.{total, all, where_from, list_of, has, steps}
use Rattle.written.specs.Clauses.{occurrences_of}
use Rattle.written.specs.Tables.{starts_from, over}
use Rattle.written.specs.Agreement.{part_of}
use Rattle.laws.proofs.Lists.{list_from-length, get_or-list_of, list_of-is}
use Rattle.laws.proofs.Parts.{flatten-length}
use Rattle.machine.specs.Tallies.{CanSteps}
use Rattle.machine.specs.Passes.{zeroed, up_to}
use Rattle.machine.specs.Judging.{clauses_in, clause_right}
use Rattle.machine.specs.Lent.{Begins}
use Rattle.machine.specs.Cuts.{Cuts}
use Rattle.machine.specs.Filling.{rounds_in, tally, CanTally, summed, CanSum, Filling, filling, put_clause, CanPutAll, CanRound}
use Rattle.machine.proofs.Cuts.{can-cut}
use Rattle.machine.proofs.Cleared.{zeroed-back}
use Rattle.occurrences.proofs.Tallying.{tally-can, tallied_length, tallied_at, tallied_beyond}
use Rattle.occurrences.proofs.Summing.{sums_same, summed-starts, start-step, starts-cut}
use Rattle.occurrences.proofs.Rounds.{right-low, right-once, joined-parts, clause-right, literals-low, run_length, rounds-length}
use Rattle.occurrences.proofs.Filling.{Left, all_left, filled}

module _ (top T C L : ℕ) (ss ls os oc cu : List ℕ) (t : CanRound top T C L ss ls os oc cu) where
  abbrev cs : List (List ℕ)
  cs = clauses_in C ss ls

  abbrev rounds : List (List ℕ)
  rounds = rounds_in T C ss ls

  clause-is : (c : ℕ) → c < C → clause_right T (part_of ss ls c) ≡ true
  clause-is = clause-right T C L ss ls t.cut t.literals t.right

  low : all (λ l. ltb l (2 * T)) (take L ls) ≡ true
  low = literals-low T C L ss ls t.cut t.literals t.right

  many : length (take L ls) ≡ L
  many = length-take-le L ls t.literals

  runs-many : length rounds ≡ 2 * T
  runs-many = list_from-length 0 (2 * T) (occurrences_of cs)

  run_at : (m : ℕ) → m < 2 * T → get_or rounds m [] ≡ occurrences_of cs m
  run_at m l = get_or-list_of (2 * T) m (occurrences_of cs) [] l

  all_runs : length (flatten rounds) ≡ L
  all_runs = rounds-length T C L ss ls t.cut t.literals t.right

  runs-total : total length rounds ≡ L
  runs-total = sym (flatten-length rounds) ∙ all_runs

  -- ---- counted, and summed

  abbrev counts : List ℕ
  counts = steps tally (take L ls) cu

  counted : (m : ℕ) → m < 2 * T → get_or counts m 0 ≡ length (get_or rounds m [])
  counted m l =
      let a = tallied_at (take L ls) cu m (omega (arith, t.cursors-room)) in
      rw (run_at m l, run_length T C L ss ls t.cut t.literals t.right m) (omega (arith, t.zero m l))

  counts-room : 2 * T ≤ length counts
  counts-room = omega (arith, tallied_length (take L ls) cu, t.cursors-room)

  pub count-can : CanSteps (CanTally top) tally (take L ls) cu
  count-can = tally-can top (2 * T) (take L ls) cu low t.cursors-room (λ m l. omega (arith, t.zero m l, many, t.few-literals))

  pub sum-can : CanSum top (2 * T) counts os
  sum-can =
      let a = sums_same rounds (2 * T) runs-many counts counts-room counted (2 * T) (omega arith) in
      let b = ap (total length) (take_all (2 * T) rounds (omega (arith, runs-many))) in
      record { counts = counts-room; room = t.starts-room; fits = omega (arith, runs-total, t.few-literals) }

  abbrev starts : List ℕ
  starts = over (starts_from 0 rounds) os

  starts_are : summed (2 * T) counts os ≡ starts
  starts_are = summed-starts rounds (2 * T) runs-many counts counts-room counted os t.starts-room

  cleared_are : zeroed (2 * T) counts ≡ cu
  cleared_are = zeroed-back (2 * T) counts cu counts-room t.cursors-room t.zero (tallied_beyond (2 * T) (take L ls) cu low)

  -- ---- put

  begins : Begins (starts_from 0 rounds) starts
  begins = record { rest = drop (length (starts_from 0 rounds)) os; is = refl }

  cuts : Cuts (2 * T) L starts
  cuts = rw runs-total at (starts-cut rounds (2 * T) runs-many begins)

  -- X m is still to be put into the run of m
  abbrev Still : (ℕ → List ℕ) → Filling → Type 0
  Still X s = Left top (2 * T) L starts cuts t.few-literals (occurrences_of cs) (filling oc cu) X s

  at_first : Still (λ m. where_from 0 (has m) (list_of C (part_of ss ls))) (filling oc cu)
  unfolding clauses_in occurrences_of
  at_first =
      record {
        cursors = t.cursors-room;
        fits = t.room;
        rooms = λ m l. omega (arith, t.zero m l, start-step rounds (2 * T) runs-many begins m l, ap length (run_at m l));
        whole = λ m l. rw (t.zero m l);
        kept = refl;
        beyond = refl;
      }

  puts : CanPutAll top C ss ls starts (filling oc cu) × Still (λ m. []) (up_to (put_clause ss ls starts) C (filling oc cu))
  puts =
      all_left top (2 * T) L starts cuts t.few-literals (occurrences_of cs) (filling oc cu) ss ls C (λ c l. right-low T (part_of ss ls c) (clause-is c l))
      (λ c l. right-once T (part_of ss ls c) (clause-is c l)) at_first t.few-clauses (λ c l. can-cut C L ss t.cut ls t.literals c l)

  -- the starts and the cursors as they are then
  module _ {os₁ cu₁ : List ℕ} (e : os₁ ≡ summed (2 * T) counts os) (f : cu₁ ≡ zeroed (2 * T) counts) where
    pub put-can : CanPutAll top C ss ls os₁ (filling oc cu₁)
    put-can = rw (e, f, starts_are, cleared_are) puts.0

    -- and after every clause is put
    module _ {oc₂ cu₂ : List ℕ} (g : filling oc₂ cu₂ ≡ up_to (put_clause ss ls os₁) C (filling oc cu₁)) where
      ended : Still (λ m. []) (filling oc₂ cu₂)
      ended = rw (let q : filling oc₂ cu₂ ≡ up_to (put_clause ss ls starts) C (filling oc cu) = rw (e, f, starts_are, cleared_are) at g in q) puts.1

      runs_are : list_of (2 * T) (part_of starts oc₂) ≡ rounds
      runs_are =
          list_of-is (2 * T) (part_of starts oc₂) rounds [] runs-many
          (λ m l. filled top (2 * T) L starts cuts t.few-literals (occurrences_of cs) (filling oc cu) (filling oc₂ cu₂) ended m l ∙ sym (run_at m l))

      occurrences_are : oc₂ ≡ over (flatten rounds) oc
      occurrences_are =
          sym (take-append-drop L oc₂) ∙ ap₂ {C = List ℕ} (λ a r. a ++ r) (sym (joined-parts (2 * T) L starts oc₂ cuts ended.fits) ∙ ap flatten runs_are)
          (ended.kept ∙ ap (λ (k : ℕ). drop k oc) (sym all_runs))

      pub turned_round_lem : {cu₃ : List ℕ} → cu₃ ≡ zeroed (2 * T) cu₂ → (os₁ ≡ over (starts_from 0 rounds) os) × (oc₂ ≡ over (flatten rounds) oc) × (cu₃ ≡ cu)
      turned_round_lem h = (e ∙ starts_are, occurrences_are, h ∙ zeroed-back (2 * T) cu₂ cu ended.cursors t.cursors-room t.zero ended.beyond)
