-- Occurrence tables are right exactly if they cut, each clause stands next in the runs of its literals, and every run is passed. Assumes nothing.
use mathlib.Core.Path.{◌≡◌, refl, ap, sym, ◌∙◌}
use mathlib.Core.Bool.{Bool, true, false, ◌&&◌}
use mathlib.Core.List.{List, []}
use Prim.Native.Nat.{ℕ, ◌*◌, ◌≤◌, ◌<◌}
use native.Mathlib.Omega.{arith}
use lib.ListN.{length, get_or, drop, length-replicate, get_or-replicate}
use lib.Dec.{ltb}
use borrow.Author.Tests.{ltb-true}
use Rattle.written.specs.Lists.{all, same, zeros}
use Rattle.written.specs.Clauses.{occurrences_of}
use Rattle.written.specs.Agreement.{part_of}
use Rattle.laws.proofs.Basics.{by_cases, both_first, same-eq, same_tests}
use Rattle.laws.proofs.All.{all_get_d, all-below, below_all, same_refl}
use Rattle.laws.proofs.Lists.{list_from-length, get_or-list_of}
use Rattle.machine.specs.Moving.{CanPart}
use Rattle.machine.specs.Judging.{clauses_in, clause_right, literals_right, turned_right}
use Rattle.machine.specs.Cuts.{Cuts}
use Rattle.agreeing_file.specs.Matching.{cuts_right, clauses_next, pass_clauses, runs_passed, CanPassAll, CanMatch}
use Rattle.laws.proofs.Tests.{not-both}
use Rattle.machine.proofs.Cuts.{can-cut, short-part}
use Rattle.machine.proofs.Occurrences.{turned-cuts, turned-part, parts-turned}
use Rattle.agreeing_file.proofs.Matching.{cuts-yes, cuts_back}
use Rattle.agreeing_file.proofs.Left.{is_left, left-nothing, left-clauses}

-- where nothing is passed, tables that cut are right exactly if the occurrences are left
left-first : (T L : ℕ) (cs : List (List ℕ)) (os oc ns : List ℕ) → Cuts (2 * T) L os → L ≤ length oc → ((l : ℕ) → l < 2 * T → get_or ns l 0 ≡ 0)
    → turned_right T L cs os oc ≡ is_left (2 * T) (part_of os oc) (occurrences_of cs) ns
unfolding is_left
left-first T L cs os oc ns c f z =
    let p : ℕ → Bool = λ l. same (drop (get_or ns l 0) (part_of os oc l)) (occurrences_of cs l) in
    same_tests _ _
    (λ h. below_all p (2 * T) (λ l b. rw (z l b, turned-part T L cs os oc c.size f h l b) (same_refl (occurrences_of cs l))))
    (λ h. parts-turned T L cs os oc f c (λ l b. same-eq _ _ (rw (z l b) at (all-below p (2 * T) l b h))))

-- the tables are right exactly if every clause comes next and then every run is passed
pub matched : (T L C : ℕ) (ss ls os oc ns : List ℕ) → Cuts (2 * T) L os → L ≤ length oc → literals_right T (clauses_in C ss ls) ≡ true → 2 * T ≤ length ns
    → ((l : ℕ) → l < 2 * T → get_or ns l 0 ≡ 0)
    → turned_right T L (clauses_in C ss ls) os oc
    ≡ (clauses_next (part_of os oc) (part_of ss ls) C ns && runs_passed (2 * T) (part_of os oc) (pass_clauses (part_of ss ls) C ns))
unfolding clauses_next pass_clauses literals_right clauses_in occurrences_of
matched T L C ss ls os oc ns c f a r z =
    left-first T L (clauses_in C ss ls) os oc ns c f z ∙ left-clauses T (part_of os oc) (part_of ss ls) 0 C ns r a
    ∙ ap (λ (t : Bool). clauses_next (part_of os oc) (part_of ss ls) C ns && t) (left-nothing (2 * T) (part_of os oc) (pass_clauses (part_of ss ls) C ns))

-- what the code asks and answers, test by test
module _ {top R T C L : ℕ} {ss ls os oc : List ℕ} (m : CanMatch top R T C L ss ls os oc) where
  pub no_cuts : false ≡ cuts_right (2 * T) L os → false ≡ turned_right T L (clauses_in C ss ls) os oc
  no_cuts e =
      by_cases (turned_right T L (clauses_in C ss ls) os oc)
      (λ h. not-both (cuts_back (2 * T) L os (turned-cuts T L (clauses_in C ss ls) os oc m.starts m.occurrences h)) (sym e)) sym

  -- a clause's literals have their runs
  low : (c : ℕ) → c < C → (k : ℕ) → k < length (part_of ss ls c) → get_or (part_of ss ls c) k 0 < 2 * T
  unfolding literals_right clauses_in clause_right
  low c b k l =
      let right = all_get_d (clause_right T) (clauses_in C ss ls) c [] (omega (arith, list_from-length 0 C (part_of ss ls))) m.right in
      let lows = both_first (all (λ l. ltb l (2 * T)) (part_of ss ls c)) _ (rw (get_or-list_of C c (part_of ss ls) [] b) at right) in
      ltb-true _ _ (all_get_d (λ l. ltb l (2 * T)) (part_of ss ls c) k 0 l lows)

  module _ (e : true ≡ cuts_right (2 * T) L os) where
    cuts : Cuts (2 * T) L os
    cuts = cuts-yes (2 * T) L os m.starts (sym e)

    pub match_run : (l : ℕ) → l < 2 * T → CanPart os oc l
    match_run l b = can-cut (2 * T) L os cuts oc m.occurrences l b

    -- R counts of 0
    module _ (ns : List ℕ) (z : ns ≡ zeros R) where
      size : length ns ≡ R
      size = ap length z ∙ length-replicate {A = ℕ} R 0

      pub match_all : CanPassAll top C ss ls os oc ns
      match_all =
          record {
            few = m.few-clauses;
            clause = can-cut C L ss m.cuts ls m.literals;
            pass = λ c b k l.
                let h = low c b k l in
                record {
                  run = match_run _ h;
                  short = omega (arith, short-part (2 * T) L os cuts oc m.occurrences _ h, m.few-literals);
                  count = omega (arith, m.few-terms, size);
                };
          }

      whole : turned_right T L (clauses_in C ss ls) os oc
          ≡ (clauses_next (part_of os oc) (part_of ss ls) C ns && runs_passed (2 * T) (part_of os oc) (pass_clauses (part_of ss ls) C ns))
      whole =
          matched T L C ss ls os oc ns cuts m.occurrences m.right (omega (arith, m.few-terms, size))
          (λ l b. ap (λ xs. get_or xs l 0) z ∙ get_or-replicate R l 0 0 (omega (arith, m.few-terms)))

      pub no_match : false ≡ clauses_next (part_of os oc) (part_of ss ls) C ns → false ≡ turned_right T L (clauses_in C ss ls) os oc
      no_match q = rw (whole, ← q) refl

      pub match_ends : (ms : List ℕ) → true ≡ clauses_next (part_of os oc) (part_of ss ls) C ns → ms ≡ pass_clauses (part_of ss ls) C ns
          → runs_passed (2 * T) (part_of os oc) ms ≡ turned_right T L (clauses_in C ss ls) os oc
      match_ends ms q i = rw (whole, ← q, i) refl
