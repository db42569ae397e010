-- A loop that tests each entry of a run and goes on, or stops at the first that fails. Assumes nothing.
use mathlib.Core.Path.{◌≡◌, refl, ap, sym, ◌∙◌}
use mathlib.Core.Bool.{Bool, true, false, ◌&&◌}
use mathlib.Core.List.{List}
use Prim.Native.Nat.{ℕ, suc, ◌+◌, ◌<◌, ◌≤◌, zero-le}
use native.Mathlib.Numerals.{add-one}
use native.Mathlib.Omega.{arith}
use lib.ListN.{length, get_or, drop, drop_of_length-le}
use lib.Seq.{drop-cons}
use Rattle.written.specs.Lists.{steps, below}
use Rattle.laws.proofs.Lists.{list_from-length, get_or-list_of}
use Rattle.machine.specs.Judging.{passes}

module _ {S : Type 0} (p : ℕ → S → Bool) (g : ℕ → S → S) (run : List ℕ) (s₀ : S) where
  -- i entries passed their test and the state is s
  pub record Passing (i : ℕ) (s : S) : Type 0 where
    pub within : i ≤ length run
    pub tests : passes p g (drop i run) s ≡ passes p g run s₀
    pub state : steps g (drop i run) s ≡ steps g run s₀

  pub begun : Passing 0 s₀
  begun = record { within = zero-le; tests = refl; state = refl }

  pub fails : (i : ℕ) (s : S) → Passing i s → i < length run → p (get_or run i 0) s ≡ false → false ≡ passes p g run s₀
  unfolding passes
  fails i s r h e = sym (ap (λ (b : Bool). b && passes p g (drop (suc i) run) (g (get_or run i 0) s)) e) ∙ (rw (drop-cons run i 0 h) at r.tests)

  pub again : (i : ℕ) (s s' : S) → Passing i s → i < length run → p (get_or run i 0) s ≡ true → s' ≡ g (get_or run i 0) s → Passing (i + 1) s'
  unfolding passes
  again i s s' r h e e' =
      record {
        within = omega arith;
        tests = rw (add-one, e') (sym (ap (λ (b : Bool). b && passes p g (drop (suc i) run) (g (get_or run i 0) s)) e) ∙ (rw (drop-cons run i 0 h) at r.tests));
        state = rw (add-one, e') (rw (drop-cons run i 0 h) at r.state);
      }

  pub ended : (i : ℕ) (s : S) → Passing i s → length run ≤ i → (true ≡ passes p g run s₀) × (s ≡ steps g run s₀)
  unfolding passes
  ended i s r h = (rw (drop_of_length-le run h) at r.tests, rw (drop_of_length-le run h) at r.state)

-- over the numbers below n
module _ {S : Type 0} (p : ℕ → S → Bool) (g : ℕ → S → S) (n : ℕ) (s₀ : S) (i : ℕ) (s : S) (r : Passing p g (below n) s₀ i s) where
  size : length (below n) ≡ n
  size = list_from-length 0 n (λ (j : ℕ). j)

  entry : i < n → get_or (below n) i 0 ≡ i
  entry l = get_or-list_of n i (λ j. j) 0 l

  pub range-fails : i < n → p i s ≡ false → false ≡ passes p g (below n) s₀
  range-fails l e = fails p g (below n) s₀ i s r (omega (arith, size)) (rw (entry l) e)

  pub range-again : (s' : S) → i < n → p i s ≡ true → s' ≡ g i s → Passing p g (below n) s₀ (i + 1) s'
  range-again s' l e e' = again p g (below n) s₀ i s s' r (omega (arith, size)) (rw (entry l) e) (rw (entry l) e')

  pub range-ended : n ≤ i → (true ≡ passes p g (below n) s₀) × (s ≡ steps g (below n) s₀)
  range-ended l = ended p g (below n) s₀ i s r (omega (arith, size))
