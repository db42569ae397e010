-- A name tested byte by byte: what is left decides. Assumes nothing.
use mathlib.Core.Path.{◌≡◌, refl, ap}
use mathlib.Core.Bool.{Bool, true, ◌&&◌}
use mathlib.Core.List.{List, [], ◌∷◌}
use Prim.Native.Nat.{ℕ, zero, suc, ◌+◌, ◌-◌, ◌/◌, ◌%◌, ◌≤◌, ◌<◌}
use native.Mathlib.Omega.{arith}
use lib.Dec.{eqb}
use borrow.Author.Tests.{eq-eqb, ne_eqb}
use Rattle.std.specs.List.{list_all}
use Rattle.written.specs.Lists.{all}
use Rattle.written.specs.Agreement.{is_name_byte, name_bytes, is_name}

pub name-begun : (x : ℕ) → (x ≡ 0 → ⊥) → name_bytes 8 x ≡ is_name x
unfolding is_name
name-begun x n = rw (ne_eqb x 0 n)

pub name-ended : (k r : ℕ) → r ≡ 0 → name_bytes k r ≡ true
unfolding name_bytes
name-ended zero r e = eq-eqb r 0 e
name-ended (suc k) r e = rw (eq-eqb r 0 e)

-- i bytes are passed, and one more
pub name-left : (i r : ℕ) → i < 8 → (r ≡ 0 → ⊥) → name_bytes (8 - i) r ≡ (is_name_byte (r % 256) && name_bytes (8 - (i + 1)) (r / 256))
unfolding name_bytes
name-left i r h n = let e : 8 - i ≡ suc (8 - (i + 1)) = omega arith in rw (e, ne_eqb r 0 n)

-- all 8 are passed
pub name-over : (i r : ℕ) → 8 ≤ i → name_bytes (8 - i) r ≡ eqb r 0
unfolding name_bytes
name-over i r h = let e : 8 - i ≡ 0 = omega arith in rw e refl

-- the library's test of every entry is the document's
pub every-entry : (p : ℕ → Bool) (xs : List ℕ) → list_all p xs ≡ all p xs
every-entry p [] = refl
every-entry p (x ∷ xs) = ap (λ (b : Bool). p x && b) (every-entry p xs)
