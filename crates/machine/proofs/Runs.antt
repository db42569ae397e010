-- A loop over a run: its invariant, and that it holds at first, again and at the end. One law for every kind of step. Assumes nothing.
use mathlib.Core.Path.{◌≡◌, refl}
use mathlib.Core.List.{List}
use Prim.Native.Nat.{ℕ, ◌+◌, ◌<◌, ◌≤◌, zero-le}
use native.Mathlib.Numerals.{add-one}
use native.Mathlib.Omega.{arith}
use lib.ListN.{length, get_or, drop, drop_of_length-le}
use lib.Seq.{drop-cons}
use Rattle.written.specs.Lists.{steps}
use Rattle.machine.specs.Tallies.{CanSteps}

module _ {S : Type 0} (P : ℕ → S → Type 0) (g : ℕ → S → S) (run : List ℕ) (t₀ : S) where
  -- i entries of the run are done and the state is t: the rest can be done, and gives what the whole run gives
  pub record Running (i : ℕ) (t : S) : Type 0 where
    pub below : i ≤ length run
    pub can : CanSteps P g (drop i run) t
    pub rest : steps g (drop i run) t ≡ steps g run t₀

  pub begun : CanSteps P g run t₀ → Running 0 t₀
  begun h = record { below = zero-le; can = h; rest = refl }

  pub next-can : (i : ℕ) (t : S) → Running i t → i < length run → P (get_or run i 0) t
  unfolding CanSteps
  next-can i t r h = (rw (drop-cons run i 0 h) at r.can).0

  pub again : (i : ℕ) (t t' : S) → Running i t → i < length run → t' ≡ g (get_or run i 0) t → Running (i + 1) t'
  unfolding CanSteps
  again i t t' r h e =
      record {
        below = omega arith;
        can = rw (add-one, e) (rw (drop-cons run i 0 h) at r.can).1;
        rest = rw (add-one, e) (rw (drop-cons run i 0 h) at r.rest);
      }

  pub ended : (i : ℕ) (t : S) → Running i t → length run ≤ i → t ≡ steps g run t₀
  ended i t r h = rw (drop_of_length-le run h) at r.rest
