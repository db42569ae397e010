-- Break counts that are those of a state for the literals of a clause pick the literal that is written. Assumes nothing.
use mathlib.Core.Path.{◌≡◌, refl, ap₂}
use mathlib.Core.List.{List, [], ◌∷◌}
use Prim.Native.Nat.{ℕ, suc, ◌<◌}
use native.Mathlib.Omega.{arith}
use lib.ListN.{length, get_or}
use Rattle.written.specs.declared.Order.{Order}
use Rattle.written.specs.Lists.{least_of}
use Rattle.written.specs.Clauses.{State}
use Rattle.written.specs.Walk.{break_of, least_break, at_least, literal_in}
use Rattle.laws.proofs.Lists.{map-by}
use Rattle.walking_choice.specs.Choosing.{least_by, ties_by, literal_by}

module _ (h : ℕ → ℕ) (s : State) where
  -- h gives the break counts of the literals ls
  pub record GivesBreaks (ls : List ℕ) : Type 0 where
    pub at : (k : ℕ) → k < length ls → h (get_or ls k 0) ≡ break_of s (get_or ls k 0)

  gives-rest : (l : ℕ) (ls : List ℕ) → GivesBreaks (l ∷ ls) → GivesBreaks ls
  gives-rest l ls c = record { at = λ k q. c.at (suc k) (omega arith) }

  least-same : (ls : List ℕ) → GivesBreaks ls → least_by h ls ≡ least_break s ls
  unfolding least_by least_break
  least-same [] c = refl
  least-same (l ∷ ls) c = ap₂ least_of (c.at 0 (omega arith)) (map-by h (break_of s) ls 0 (gives-rest l ls c).at)

  ties-same : (b : ℕ) (ls : List ℕ) → GivesBreaks ls → ties_by h b ls ≡ at_least s b ls
  unfolding ties_by at_least
  ties-same b [] c = refl
  ties-same b (l ∷ ls) c = rw (c.at 0 (omega arith), ties-same b ls (gives-rest l ls c))

  pub literal-same : (o : Order) (ls : List ℕ) (y : ℕ) → GivesBreaks ls → literal_by o h ls y ≡ literal_in o s ls y
  unfolding literal_by literal_in
  literal-same o ls y c = rw (least-same ls c, ties-same (least_break s ls) ls c)
