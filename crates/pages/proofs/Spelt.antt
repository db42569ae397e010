-- A number's last digit; a name byte by byte, with its sign or without. Assumes nothing.
use Prim.Native.Nat.{ℕ, zero, suc, ◌+◌, ◌-◌, ◌/◌, ◌%◌, ◌≤◌, ◌<◌}
use mathlib.Core.Path.{◌≡◌, refl}
use mathlib.Core.List.{[], ◌∷◌, ◌++◌}
use native.Mathlib.Omega.{arith}
use borrow.Author.Tests.{eq-eqb, ne_eqb}
use Rattle.written.specs.Printed.{decimal, name_of, signed}
use Rattle.laws.proofs.Decimals.{decimal-one}

pub decimal_last : (n : ℕ) → n < 10 → decimal n ≡ (48 + n % 10) ∷ []
decimal_last n h = let small : n % 10 ≡ n = omega arith in rw small (decimal-one n h)

pub name-none : (k x : ℕ) → k ≤ 0 → name_of k x ≡ []
unfolding name_of
name-none zero x h = refl
name-none (suc k) x h = absurd (omega arith)

pub name-over : (k x : ℕ) → x ≡ 0 → name_of k x ≡ []
unfolding name_of
name-over zero x e = refl
name-over (suc k) x e = rw (eq-eqb x 0 e)

pub name-more : (k x : ℕ) → 0 < k → (x ≡ 0 → ⊥) → name_of k x ≡ (x % 256 ∷ []) ++ name_of (k - 1) (x / 256)
unfolding name_of
name-more zero x h n = absurd (omega arith)
name-more (suc k) x h n = let e : suc k - 1 ≡ k = omega arith in rw (e, ne_eqb x 0 n)

-- a term at 0, and any other
pub signed_no : (v x : ℕ) → v ≡ 0 → signed v x ≡ (126 ∷ []) ++ name_of 8 x
unfolding signed
signed_no v x e = rw (eq-eqb v 0 e)

pub signed_yes : (v x : ℕ) → (v ≡ 0 → ⊥) → signed v x ≡ name_of 8 x
unfolding signed
signed_yes v x n = rw (ne_eqb v 0 n)
