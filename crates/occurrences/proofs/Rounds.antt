-- The literals turned round, of clauses that starts cut: how many they are, and how long each run is. Assumes nothing.
use mathlib.Core.Path.{◌≡◌, ap, ◌∙◌, sym}
use mathlib.Core.Bool.{true}
use mathlib.Core.List.{List, [], map, flatten}
use Prim.Native.Nat.{ℕ, ◌*◌, ◌<◌, ◌≤◌}
use native.Mathlib.Omega.{arith}
use lib.ListN.{length, take}
use lib.Seq.{length-take-le}
use lib.Dec.{ltb}
use Rattle.written.specs.Lists.{all, list_of, times, differ}
use Rattle.written.specs.Clauses.{term_of, occurrences_of}
use Rattle.written.specs.Agreement.{part_of}
use Rattle.laws.proofs.Basics.{both_first, both-second}
use Rattle.laws.proofs.Lists.{list_from-length, get_or-list_of}
use Rattle.laws.proofs.All.{all-flatten, all_implied, all_get_d}
use Rattle.laws.proofs.Membership.{differ-map}
use Rattle.laws.proofs.Parts.{flatten-length, parts-entries}
use Rattle.laws.proofs.Sizes.{occurrences-times, round-length}
use Rattle.machine.specs.Judging.{clauses_in, clause_right, literals_right}
use Rattle.machine.specs.Cuts.{Cuts}
use Rattle.machine.specs.Filling.{rounds_in}

-- a clause that is right
module _ (T : ℕ) (ls : List ℕ) (h : clause_right T ls ≡ true) where
  pub right-low : all (λ l. ltb l (2 * T)) ls ≡ true
  unfolding clause_right
  right-low = both_first _ (differ (map term_of ls)) h

  pub right-once : differ ls ≡ true
  unfolding clause_right
  right-once = differ-map term_of ls (both-second (all (λ l. ltb l (2 * T)) ls) _ h)

-- parts that starts cut, laid one after another again
pub joined-parts : (n L : ℕ) (ss xs : List ℕ) → Cuts n L ss → L ≤ length xs → flatten (list_of n (part_of ss xs)) ≡ take L xs
joined-parts n L ss xs cut fits =
    parts-entries ss xs n cut.rise cut.size (omega (arith, cut.last)) cut.first ∙ ap (λ (k : ℕ). take k xs) cut.last

module _ (T C L : ℕ) (ss ls : List ℕ) (cut : Cuts C L ss) (fits : L ≤ length ls) where
  abbrev cs : List (List ℕ)
  cs = clauses_in C ss ls

  joined : flatten cs ≡ take L ls
  unfolding clauses_in
  joined = joined-parts C L ss ls cut fits

  module _ (right : literals_right T cs ≡ true) where
    pub clause-right : (c : ℕ) → c < C → clause_right T (part_of ss ls c) ≡ true
    unfolding literals_right clauses_in
    clause-right c l = rw (get_or-list_of C c (part_of ss ls) [] l) at (all_get_d (clause_right T) cs c [] (omega (arith, list_from-length 0 C (part_of ss ls))) right)

    all-low : all (all (λ l. ltb l (2 * T))) cs ≡ true
    unfolding literals_right
    all-low = all_implied (clause_right T) _ (right-low T) cs right

    all_once : all differ cs ≡ true
    unfolding literals_right
    all_once = all_implied (clause_right T) _ (right-once T) cs right

    pub literals-low : all (λ l. ltb l (2 * T)) (take L ls) ≡ true
    literals-low = rw joined at (all-flatten (λ l. ltb l (2 * T)) cs all-low)

    -- a run is as long as its literal stands often
    pub run_length : (m : ℕ) → length (occurrences_of cs m) ≡ times m (take L ls)
    run_length m = occurrences-times m cs all_once ∙ ap (times m) joined

    -- the literals turned round are as many
    pub rounds-length : length (flatten (rounds_in T C ss ls)) ≡ L
    rounds-length = round-length T cs all-low all_once ∙ sym (flatten-length cs) ∙ ap length joined ∙ length-take-le L ls fits
