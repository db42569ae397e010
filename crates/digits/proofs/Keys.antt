-- A part of the bytes as it is lent: what is left from a place on. Assumes nothing.
use Prim.Native.Nat.{ℕ, ◌-◌}
use mathlib.Core.Path.{◌≡◌}
use mathlib.Core.List.{List}
use native.Mathlib.Omega.{arith}
use lib.ListN.{length, take, drop, length-drop}
use lib.Seq.{take_all}

-- the rest from a place on, as it is lent
pub from_place : (at : ℕ) (xs : List ℕ) → take (length xs - at) (drop at xs) ≡ drop at xs
from_place at xs = take_all (length xs - at) (drop at xs) (omega (arith, length-drop at xs))
