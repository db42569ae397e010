-- The state that tables hold is valid if its file is proper. Assumes nothing.
use mathlib.Core.Path.{◌≡◌, ◌∙◌, sym}
use mathlib.Core.Bool.{true}
use mathlib.Core.List.{List}
use Prim.Native.Nat.{ℕ}
use lib.ListN.{length}
use lib.Dec.{ltb}
use borrow.Author.Tests.{eqb-true, lt-ltb}
use Rattle.written.specs.Lists.{has, times}
use Rattle.written.specs.Limits.{Limits}
use Rattle.written.specs.Clauses.{State, is_uncovered, uncovered_in}
use Rattle.laws.specs.Valid.{Proper, Valid}
use Rattle.laws.proofs.Basics.{both-second}
use Rattle.laws.proofs.All.{all-by}
use Rattle.laws.proofs.Counted.{uncovered-has, uncovered-below, listed_by}
use Rattle.machine.specs.Moving.{Fixed, Moving}
use Rattle.machine.specs.Holds.{HoldsAt}
use Rattle.machine.proofs.Fronts.{front-size, front-once}
use Rattle.machine.proofs.Turned.{bit_small}

module _ (ρ : ℕ → ℕ) (top : ℕ) (s : State) (x : Fixed) (w : Moving) (g : HoldsAt ρ top s x w) where
  abbrev cs : List (List ℕ)
  cs = s.file.clauses

  abbrev vs : List ℕ
  vs = s.values

  -- each uncovered clause is listed once
  once : (c : ℕ) → has c (uncovered_in vs cs) ≡ true → times c s.uncovered ≡ 1
  unfolding is_uncovered
  once c m =
      front-once (length cs) _ ρ w.tallies.uncovered g.places s.uncovered g.list c (uncovered-below vs cs c m)
      (eqb-true _ 0 (both-second (ltb c (length cs)) _ (sym (uncovered-has vs cs c) ∙ m)))

  pub held-valid : (lim : Limits) → Proper lim s.file → length vs ≡ length s.file.names → Valid lim s
  held-valid lim p e =
      record {
        proper = p;
        one_each = e;
        bits = all-by (λ v. ltb v 2) vs 0 (λ k l. lt-ltb _ 2 (bit_small vs w.words g.words k l));
        listed = listed_by s (front-size (length cs) _ ρ w.tallies.uncovered g.places s.uncovered g.list ∙ g.number) once;
      }
