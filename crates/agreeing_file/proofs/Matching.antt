-- What the tests of the occurrences say, as the code makes them, and that they can be made. Assumes nothing.
use mathlib.Core.Path.{◌≡◌, ap, sym, ◌∙◌}
use mathlib.Core.Bool.{Bool, true, false, ◌&&◌}
use mathlib.Core.List.{List}
use Prim.Native.Nat.{ℕ, ◌+◌, ◌≤◌, ◌<◌}
use native.Mathlib.Omega.{arith}
use lib.ListN.{length, get_or}
use lib.Dec.{eqb, leb, ltb}
use borrow.Author.Tests.{eqb-true, eq-eqb, leb-true, le-leb, lt-leb, ltb-true}
use Rattle.written.specs.Agreement.{part_of}
use Rattle.laws.proofs.Basics.{both, both_first, both-second}
use Rattle.laws.proofs.All.{all-below, below_all}
use Rattle.machine.specs.Cuts.{Cuts}
use Rattle.agreeing_file.specs.Matching.{never_fall, cuts_right, stands_at, is_next, clause_next, runs_passed, CanPass}
use Rattle.laws.proofs.Tests.{tested-more, test_fails}

-- starts that never fall
module _ (ss : List ℕ) where
  abbrev rises : ℕ → Bool
  rises k = leb (get_or ss k 0) (get_or ss (k + 1) 0)

  rise-at : (n k : ℕ) → k < n → never_fall n ss ≡ true → get_or ss k 0 ≤ get_or ss (k + 1) 0
  unfolding never_fall
  rise-at n k l h = leb-true _ _ (all-below rises n k l h)

  rise-by : (n : ℕ) → ((k : ℕ) → k < n → get_or ss k 0 ≤ get_or ss (k + 1) 0) → never_fall n ss ≡ true
  unfolding never_fall
  rise-by n h = below_all rises n (λ k l. le-leb _ _ (h k l))

-- where the test of starts ends, and what it says
module _ (n L : ℕ) (ss : List ℕ) where
  pub cuts-yes : n < length ss → cuts_right n L ss ≡ true → Cuts n L ss
  unfolding cuts_right
  cuts-yes size h =
      let a = eqb (get_or ss 0 0) 0 in
      let b = never_fall n ss in
      let d = eqb (get_or ss n 0) L in
      let ab = both_first (a && b) d h in
      record {
        first = eqb-true _ _ (both_first a b ab);
        rise = λ k l. rise-at ss n k l (both-second a b ab);
        last = eqb-true _ _ (both-second (a && b) d h);
        size = size;
      }

  pub cuts_back : Cuts n L ss → cuts_right n L ss ≡ true
  unfolding cuts_right
  cuts_back c = both _ _ (both _ _ (eq-eqb _ _ c.first) (rise-by ss n c.rise)) (eq-eqb _ _ c.last)

-- the runs passed so far, by the count of each
module _ (os oc ns : List ℕ) where
  abbrev is_passed : ℕ → Bool
  is_passed l = leb (length (part_of os oc l)) (get_or ns l 0)

  pub passed-fails : (n l : ℕ) {run : List ℕ} → l < n → run ≡ part_of os oc l → get_or ns l 0 < length run → false ≡ runs_passed n (part_of os oc) ns
  unfolding runs_passed
  passed-fails n l b e h = test_fails is_passed n l b (lt-leb _ _ (rw e at h))

  pub passed-more : (l : ℕ) {run : List ℕ} → runs_passed l (part_of os oc) ns ≡ true → run ≡ part_of os oc l → length run ≤ get_or ns l 0
      → runs_passed (l + 1) (part_of os oc) ns ≡ true
  unfolding runs_passed
  passed-more l a e h = tested-more is_passed l a (le-leb _ _ (rw e at h))

-- one literal: what was tested of its run, and that its count fits
pub next-is : (os oc ns : List ℕ) (c l : ℕ) {run : List ℕ} {r : Bool} → r ≡ stands_at run (get_or ns l 0) c → run ≡ part_of os oc l → r ≡ is_next (part_of os oc) c l ns
unfolding is_next
next-is os oc ns c l e p = e ∙ ap (λ run. stands_at run (get_or ns l 0) c) p

module _ {top : ℕ} {os oc ns : List ℕ} {l : ℕ} (p : CanPass top os oc ns l) where
  pub next_fits : (c : ℕ) → true ≡ is_next (part_of os oc) c l ns → get_or ns l 0 + 1 < top
  unfolding is_next stands_at
  next_fits c h =
      let k = get_or ns l 0 in
      let run = part_of os oc l in
      omega (arith, p.short, ltb-true k (length run) (both_first (ltb k (length run)) (eqb (get_or run k 0) c) (sym h)))

  -- among as many counts
  pub can-still : {ms : List ℕ} → length ms ≡ length ns → CanPass top os oc ms l
  can-still e = record { run = p.run; short = p.short; count = omega (arith, p.count) }

-- one clause
module _ (ss ls os oc ns : List ℕ) (c : ℕ) {clause : List ℕ} (e : clause ≡ part_of ss ls c) where
  pub clause-is : {r : Bool} → r ≡ clause_next (part_of os oc) c clause ns → clause_next (part_of os oc) c (part_of ss ls c) ns ≡ r
  clause-is q = sym (q ∙ ap (λ xs. clause_next (part_of os oc) c xs ns) e)
