-- The four tables and the number that a flip writes beside the words, and what is done to them for one clause. While walking, the place of a
-- covered clause is the xor of the terms of its true literals. Assumes nothing.
use Rattle.std.specs.Prelude.{ℕ, ◌+◌, ◌-◌, ◌<◌, ◌≡◌, cond, List, [], ◌∷◌, length, get_or, set, eqb, ltb}
use Rattle.std.specs.Int.Bits.{bit_xor}
use Rattle.written.specs.Lending.{Held}
use Rattle.machine.specs.Uncovered.{Uncovered, leaves, marks, enters, CanLeave, CanEnter}

-- true counts, break counts and the uncovered list
pub record Tallies : Type 0 where
  pub trues : List ℕ
  pub breaks : List ℕ
  pub uncovered : Uncovered

abbrev pub tallies : List ℕ → List ℕ → List ℕ → List ℕ → ℕ → Tallies
tallies ts bs us ps n = record { trues = ts; breaks = bs; uncovered = record { list = us; places = ps; number = n } }

-- those of lent tables as they stand, at entry and at exit
abbrev pub tallies_at : Held → Held → Held → Held → ℕ → Tallies
tallies_at ts bs us ps n = tallies ts bs us ps n

-- entry k one more, and one less
unfoldable pub raised : List ℕ → ℕ → List ℕ
raised xs k = set xs k (get_or xs k 0 + 1)

unfoldable pub lowered : List ℕ → ℕ → List ℕ
lowered xs k = set xs k (get_or xs k 0 - 1)

-- the break counts as a clause with k true literals and place p gains one, of term v
unfoldable pub gain_breaks : ℕ → ℕ → ℕ → List ℕ → List ℕ
gain_breaks v k p bs = cond (eqb k 0) (raised bs v) (cond (eqb k 1) (lowered bs p) bs)

-- clause c gains a true literal, of term v
unfoldable pub gain_one : ℕ → ℕ → Tallies → Tallies
gain_one v c t =
    record {
      trues = raised t.trues c;
      breaks = gain_breaks v (get_or t.trues c 0) (get_or t.uncovered.places c 0) t.breaks;
      uncovered = cond (eqb (get_or t.trues c 0) 0) (leaves c v t.uncovered) (marks c (bit_xor (get_or t.uncovered.places c 0) v) t.uncovered);
    }

-- the break counts as a clause with k true literals and place p loses one, of term v
unfoldable pub lose_breaks : ℕ → ℕ → ℕ → List ℕ → List ℕ
lose_breaks v k p bs = cond (eqb k 1) (lowered bs v) (cond (eqb k 2) (raised bs (bit_xor p v)) bs)

-- clause c loses a true literal, of term v
unfoldable pub lose_one : ℕ → ℕ → Tallies → Tallies
lose_one v c t =
    record {
      trues = lowered t.trues c;
      breaks = lose_breaks v (get_or t.trues c 0) (get_or t.uncovered.places c 0) t.breaks;
      uncovered = cond (eqb (get_or t.trues c 0) 1) (enters c t.uncovered) (marks c (bit_xor (get_or t.uncovered.places c 0) v) t.uncovered);
    }

-- what is done in place of a branch: entry p with 1 where k is below m, else entry v with 0
unfoldable pub pick_of : ℕ → ℕ → ℕ → ℕ → ℕ
pick_of k m p v = cond (ltb k m) p v

unfoldable pub below_of : ℕ → ℕ → ℕ
below_of k m = cond (ltb k m) 1 0

-- 1 where k is m, else 0
unfoldable pub hit_of : ℕ → ℕ → ℕ
hit_of k m = cond (eqb k m) 1 0

-- what `raised` and `lowered` ask; top is 2 to the width of an entry
pub record CanRaise (top : ℕ) (xs : List ℕ) (k : ℕ) : Type 0 where
  pub within : k < length xs
  pub fits : get_or xs k 0 + 1 < top

pub record CanLower (xs : List ℕ) (k : ℕ) : Type 0 where
  pub within : k < length xs
  pub some : 0 < get_or xs k 0

-- what `gain_one` asks
pub record CanGain (top v c : ℕ) (t : Tallies) : Type 0 where
  pub count : CanRaise top t.trues c
  pub place : c < length t.uncovered.places
  pub term : v < length t.breaks
  pub first : get_or t.trues c 0 ≡ 0 → CanRaise top t.breaks v × CanLeave c t.uncovered
  pub second : get_or t.trues c 0 ≡ 1 → CanLower t.breaks (get_or t.uncovered.places c 0)

-- what `lose_one` asks
pub record CanLose (top v c : ℕ) (t : Tallies) : Type 0 where
  pub count : CanLower t.trues c
  pub place : c < length t.uncovered.places
  pub term : v < length t.breaks
  pub last : get_or t.trues c 0 ≡ 1 → CanLower t.breaks v × CanEnter top c t.uncovered
  pub second : get_or t.trues c 0 ≡ 2 → CanRaise top t.breaks (bit_xor (get_or t.uncovered.places c 0) v)

-- what steps over a list ask: at each entry, what its step asks of the state as it is then
unfoldable pub CanSteps : {A S : Type 0} → (A → S → Type 0) → (A → S → S) → List A → S → Type 0
CanSteps P g [] t = Unit {0}
CanSteps P g (c ∷ cs) t = P c t × CanSteps P g cs (g c t)

-- tables as long as others
pub record SameSizes (t s : Tallies) : Type 0 where
  pub trues-size : length t.trues ≡ length s.trues
  pub breaks-size : length t.breaks ≡ length s.breaks
  pub list-size : length t.uncovered.list ≡ length s.uncovered.list
  pub places-size : length t.uncovered.places ≡ length s.uncovered.places
