-- A name packed from its first byte on, each byte with its weight, up to a number of bytes past which the weight is 0. Assumes nothing.
use mathlib.Core.Path.{◌≡◌, refl, ap, sym, ◌∙◌}
use mathlib.Core.Bool.{Bool, true, false}
use mathlib.Core.List.{List, [], ◌∷◌}
use Prim.Native.Nat.{ℕ, zero, suc, ◌+◌, ◌*◌, ◌-◌, ◌%◌, ◌^◌, ◌≤◌, ◌<◌}
use native.Mathlib.Nat.{sub_self, mul-zero, mul_assoc, mul-le-mul_left, mod-eq_of_lt, mod_self, zero-mod}
use native.Mathlib.Numerals.{add-one}
use native.Mathlib.Omega.{arith}
use borrow.Author.Tests.{ltb-true, ltb-false}
use lib.ListN.{get_or, take, drop}
use lib.Seq.{get_or-drop}
use lib.Dec.{ltb}
use lib.Pow.{pow-add, pow_mono, pow-lt, pow_pos}
use Rattle.scan.specs.Scan.{packed}

-- the weight of the next byte
up : (k : ℕ) → 2 ^ (8 * k) * 2 ^ 8 ≡ 2 ^ (8 * (k + 1))
up k = let e : 8 * k + 8 ≡ 8 * (k + 1) = omega arith in sym (pow-add 2 (8 * k) 8) ∙ ap (λ (n : ℕ). 2 ^ n) e

-- a name with one byte more
packed_more : (l : List ℕ) (k : ℕ) → packed (take (suc k) l) ≡ packed (take k l) + 2 ^ (8 * k) * get_or l k 0
packed_more [] zero = refl
packed_more [] (suc k) = omega (arith, mul-zero (2 ^ (8 * suc k)))
packed_more (x ∷ l) zero = omega arith
packed_more (x ∷ l) (suc k) =
    let weight : 2 ^ (8 * suc k) ≡ 256 * 2 ^ (8 * k) = let e : 8 * suc k ≡ 8 + 8 * k = omega arith in ap (λ (n : ℕ). 2 ^ n) e ∙ pow-add 2 8 (8 * k) in
    let byte : 2 ^ (8 * suc k) * get_or l k 0 ≡ 256 * (2 ^ (8 * k) * get_or l k 0) = ap (λ (n : ℕ). n * get_or l k 0) weight ∙ mul_assoc 256 (2 ^ (8 * k)) (get_or l k 0) in
    omega (arith, packed_more l k, byte)

by_less : {A : Type 0} (k few : ℕ) → (k < few → A) → (few ≤ k → A) → A
by_less k few f g = go (ltb k few) (λ e. f (ltb-true k few e)) (λ e. g (ltb-false k few e))
  where
    go : {A : Type 0} (b : Bool) → (b ≡ true → A) → (b ≡ false → A) → A
    go true f g = f refl
    go false f g = g refl

-- the first k bytes of a list are packed, of which the first few count
pub record Packing (few : ℕ) (l : List ℕ) (k name weight : ℕ) : Type 0 where
  pub within : k < few → weight ≡ 2 ^ (8 * k)
  pub beyond : few ≤ k → weight ≡ 0
  pub whole : k ≤ few → name ≡ packed (take k l)
  pub bound : k ≤ few → name < 2 ^ (8 * k)
  pub fits : name < 2 ^ (8 * few)

pub packing_none : (few : ℕ) (l : List ℕ) (s : ℕ) → 0 < few → Packing few l (s - s) 0 1
packing_none few l s h =
    rw (sub_self s) (record { within = λ _. refl; beyond = λ k. absurd (omega arith); whole = λ _. refl; bound = λ _. pow_pos 0; fits = pow_pos (8 * few) })

module _ (few : ℕ) (l : List ℕ) (k name weight b : ℕ) (p : Packing few l k name weight) (byte : b < 256) where
  next-bound : k < few → name + weight * b < 2 ^ (8 * (k + 1))
  next-bound h =
      let le : b ≤ 255 = omega arith in
      omega (arith, up k, p.bound (omega arith), ap (λ (n : ℕ). n * b) (p.within h), mul-le-mul_left (2 ^ (8 * k)) le)

  -- there is room for a further byte
  pub packing_room : name + weight * b < 2 ^ (8 * few)
  packing_room =
      by_less k few
      (λ h. let e : 8 * (k + 1) ≤ 8 * few = omega arith in omega (arith, next-bound h, pow_mono e))
      (λ h. omega (arith, ap (λ (n : ℕ). n * b) (p.beyond h), p.fits))

  next-weight : k < few → weight * 2 ^ 8 ≡ 2 ^ (8 * (k + 1))
  next-weight h = ap (λ (n : ℕ). n * 2 ^ 8) (p.within h) ∙ up k

  next-within : k + 1 < few → (weight * 2 ^ 8) % 2 ^ (8 * few) ≡ 2 ^ (8 * (k + 1))
  next-within h =
      let e : 8 * (k + 1) < 8 * few = omega arith in
      ap (λ (n : ℕ). n % 2 ^ (8 * few)) (next-weight (omega arith)) ∙ mod-eq_of_lt (pow-lt e)

  next-beyond : few ≤ k + 1 → (weight * 2 ^ 8) % 2 ^ (8 * few) ≡ 0
  next-beyond m =
      by_less k few
      (λ h. let e : k + 1 ≡ few = omega arith in ap (λ (n : ℕ). n % 2 ^ (8 * few)) (next-weight h ∙ ap (λ (n : ℕ). 2 ^ (8 * n)) e) ∙ mod_self (2 ^ (8 * few)))
      (λ h. ap (λ (n : ℕ). (n * 2 ^ 8) % 2 ^ (8 * few)) (p.beyond h) ∙ zero-mod (2 ^ (8 * few)))

  next-whole : get_or l k 0 ≡ b → k < few → name + weight * b ≡ packed (take (k + 1) l)
  next-whole here h =
      let one : packed (take (k + 1) l) ≡ packed (take k l) + 2 ^ (8 * k) * b =
      ap (λ (n : ℕ). packed (take n l)) (add-one k) ∙ packed_more l k ∙ ap (λ (n : ℕ). packed (take k l) + 2 ^ (8 * k) * n) here in
      omega (arith, one, p.whole (omega arith), ap (λ (n : ℕ). n * b) (p.within h))

  packing_more : get_or l k 0 ≡ b → Packing few l (k + 1) (name + weight * b) ((weight * 2 ^ 8) % 2 ^ (8 * few))
  packing_more here =
      record { within = next-within; beyond = next-beyond; whole = λ h. next-whole here (omega arith); bound = λ h. next-bound (omega arith); fits = packing_room }

-- the same of the bytes of a text from s on
pub packing_on : (few : ℕ) (t : List ℕ) (s i name weight b : ℕ) → s ≤ i → Packing few (drop s t) (i - s) name weight → b ≡ get_or t i 0 → b < 256
    → Packing few (drop s t) (i + 1 - s) (name + weight * b) ((weight * 2 ^ 8) % 2 ^ (8 * few))
packing_on few t s i name weight b h p e byte =
    let place : s + (i - s) ≡ i = omega arith in
    let next : i - s + 1 ≡ i + 1 - s = omega arith in
    let here : get_or (drop s t) (i - s) 0 ≡ b = get_or-drop s t (i - s) 0 ∙ ap (λ (n : ℕ). get_or t n 0) place ∙ sym e in
    rw next at (packing_more few (drop s t) (i - s) name weight b p byte here)
