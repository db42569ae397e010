-- What a flip keeps, and joined flip lists. Assumes nothing.
use Prim.Native.Nat.{ℕ}
use mathlib.Core.Path.{◌≡◌, refl}
use mathlib.Core.List.{List, [], ◌∷◌, ◌++◌}
use Rattle.written.specs.Clauses.{State}
use Rattle.written.specs.Flips.{flip, flipped}
use Rattle.laws.proofs.Lists.{steps-joined}

-- flips keep the file
pub flipped-file : (ts : List ℕ) (s : State) → (flipped ts s).file ≡ s.file
unfolding flipped flip
flipped-file [] s = refl
flipped-file (t ∷ ts) s = flipped-file ts (flip t s)

-- joined flip lists
pub flips-joined : (xs ys : List ℕ) (s : State) → flipped (xs ++ ys) s ≡ flipped ys (flipped xs s)
unfolding flipped
flips-joined xs ys s = steps-joined flip xs ys s
