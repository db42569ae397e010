-- Names as bytes, and the answer line: how long they are. Assumes nothing.
use Prim.Native.Nat.{ℕ, zero, suc, ◌-◌, ◌*◌, ◌/◌, ◌≤◌}
use mathlib.Core.List.{List, [], ◌∷◌}
use native.Mathlib.Omega.{arith}
use lib.ListN.{length, length-append, length-drop}
use lib.Dec.{eqb}
use Rattle.written.specs.Printed.{name_of, signed, spaced, answer}
use Rattle.laws.proofs.Basics.{by_cases}

-- a name has at most the bytes that are asked for
pub name-length : (k x : ℕ) → length (name_of k x) ≤ k
unfolding name_of
name-length zero x = omega arith
name-length (suc k) x = by_cases (eqb x 0) (λ e. rw e (omega arith)) (λ e. rw e (let h = name-length k (x / 256) in omega arith))

-- with its sign at most nine
pub signed-length : (v x : ℕ) → length (signed v x) ≤ 9
unfolding signed
signed-length v x = let h = name-length 8 x in by_cases (eqb v 0) (λ e. rw e (omega arith)) (λ e. rw e (omega arith))

pub spaced-length : (xs vs : List ℕ) → length (spaced xs vs) ≤ 10 * length xs
unfolding spaced
spaced-length [] vs = omega arith
spaced-length (x ∷ xs) [] = omega arith
spaced-length (x ∷ xs) (v ∷ vs) = omega (arith, length-append (signed v x) (spaced xs vs), signed-length v x, spaced-length xs vs)

-- an answer has at most ten bytes a term, and no space before the first
pub answer-length : (xs vs : List ℕ) → length (answer xs vs) ≤ 10 * length xs - 1
unfolding answer
answer-length xs vs = omega (arith, length-drop 1 (spaced xs vs), spaced-length xs vs)
