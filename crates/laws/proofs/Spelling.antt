-- A valid name as bytes: one to eight bytes of a name, whose number is the name again. Assumes nothing.
use Prim.Native.Nat.{ℕ, zero, suc, ◌/◌, ◌%◌, ◌<◌}
use mathlib.Core.Path.{◌≡◌, refl, sym}
use mathlib.Core.Bool.{true, false, not, ◌&&◌}
use native.Mathlib.Omega.{arith}
use lib.ListN.{length}
use lib.Dec.{eqb}
use borrow.Author.Tests.{eqb-true, not-true}
use Rattle.scan.specs.Scan.{packed}
use Rattle.written.specs.Lists.{all}
use Rattle.written.specs.Agreement.{is_name_byte, name_bytes, is_name}
use Rattle.written.specs.Printed.{name_of}
use Rattle.laws.proofs.Basics.{by_cases, both, both_first, both-second}

-- the first byte and the rest of a name that is not over
more_bytes : (k x : ℕ) → eqb x 0 ≡ false → name_bytes (suc k) x ≡ true → (is_name_byte (x % 256) && name_bytes k (x / 256)) ≡ true
unfolding name_bytes
more_bytes k x e h = rw e at h

pub name-bytes : (k x : ℕ) → name_bytes k x ≡ true → all is_name_byte (name_of k x) ≡ true
unfolding name_of
name-bytes zero x h = refl
name-bytes (suc k) x h =
    by_cases (eqb x 0) (λ e. rw e refl)
    (λ e. let m = more_bytes k x e h in
    rw e (both (is_name_byte (x % 256)) (all is_name_byte (name_of k (x / 256))) (both_first (is_name_byte (x % 256)) (name_bytes k (x / 256)) m)
    (name-bytes k (x / 256) (both-second (is_name_byte (x % 256)) (name_bytes k (x / 256)) m))))

-- the bytes packed are the name
pub name-packed : (k x : ℕ) → name_bytes k x ≡ true → packed (name_of k x) ≡ x
unfolding name_of name_bytes
name-packed zero x h = sym (eqb-true x 0 h)
name-packed (suc k) x h =
    by_cases (eqb x 0) (λ e. rw e (sym (eqb-true x 0 e)))
    (λ e. let m = more_bytes k x e h in
    let q = name-packed k (x / 256) (both-second (is_name_byte (x % 256)) (name_bytes k (x / 256)) m) in
    rw e (omega arith))

-- what is known of a valid name
pub record Spelt (x : ℕ) : Type 0 where
  pub bytes : all is_name_byte (name_of 8 x) ≡ true
  pub some : 0 < length (name_of 8 x)
  pub says : packed (name_of 8 x) ≡ x

pub spelt : (x : ℕ) → is_name x ≡ true → Spelt x
unfolding is_name name_of
spelt x h =
    let e = not-true (eqb x 0) (both_first (not (eqb x 0)) (name_bytes 8 x) h) in
    let b = both-second (not (eqb x 0)) (name_bytes 8 x) h in
    record { bytes = name-bytes 8 x b; some = rw e (omega arith); says = name-packed 8 x b }
