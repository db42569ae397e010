-- A draw from a state of 1 to 2 ^ 32 - 1 leaves such a state, so a walk never meets the state 0.
-- Two equal numbers alone have the exclusive or 0, and no number but 0 is equal to itself shifted. Assumes nothing.
use mathlib.Core.Path.{◌≡◌, refl, sym, ap, ◌∙◌}
use Prim.Native.Nat.{ℕ, zero, suc, ◌+◌, ◌*◌, ◌/◌, ◌%◌, ◌^◌, ◌≤◌, ◌<◌}
use native.Mathlib.Omega.{arith}
use native.Mathlib.Nat.{mod-lt, lt_of_le_of_lt, div-le_self, div-add-mod', add-mul, mul_assoc, mul_comm, mul-add-mod_self_right, zero-lt-suc}
use lib.Bits.{bit_xor, xor_add_and, and_le_l, and_le_r, xor_lt}
use borrow.Author.Tests.{ne_eqb, le-ltb}
use lib.Dec.{ltb, eqb-suc-zero}
use mathlib.Core.Bool.{cond}
use lib.Pow.{pow_pos}
use Rattle.draw.specs.Xorshift.{left_step, right_step, next_of}
use Rattle.draw.specs.Draw.{draw_of, choice_of, heads_of, drawn_to}

-- the exclusive or of two numbers that differ is above 0
pub xor_pos : (a b : ℕ) → (a ≡ b → ⊥) → 0 < bit_xor a b
xor_pos a b n = omega (arith, n, xor_add_and a b, and_le_l a b, and_le_r a b)

-- a remainder may be taken before a product as well as after it
mod_product : (a c m : ℕ) → a % m * c % m ≡ a * c % m
mod_product a c m =
    sym (ap (λ (x : ℕ). x * c % m) (sym (div-add-mod' a m)) ∙ ap (λ (x : ℕ). x % m) (add-mul (a / m * m) (a % m) c)
    ∙ ap (λ (x : ℕ). (x + a % m * c) % m) (mul_assoc (a / m) m c ∙ ap (λ (x : ℕ). a / m * x) (mul_comm m c) ∙ sym (mul_assoc (a / m) c m))
    ∙ mul-add-mod_self_right (a / m * c) m (a % m * c))

-- a number that a product leaves, the product's square leaves too
square : (y c m : ℕ) → y ≡ y * c % m → y ≡ y * (c * c) % m
square y c m e = e ∙ ap (λ (x : ℕ). x * c % m) e ∙ mod_product (y * c) c m ∙ ap (λ (x : ℕ). x % m) (mul_assoc y c c)

abbrev eighth : ℕ → ℕ
eighth c = (c * c) * (c * c) * ((c * c) * (c * c))

-- eight shifts by k leave nothing of 32 bits
left-pos : (k : ℕ) → ((y : ℕ) → y * eighth (2 ^ k) % 2 ^ 32 ≡ 0) → (y : ℕ) → 0 < y → 0 < left_step k y
unfolding left_step
left-pos k none y h = xor_pos y _ (λ e. omega (arith, none y, square y _ _ (square y _ _ (square y _ _ e))))

right-pos : (y : ℕ) → 0 < y → 0 < right_step 17 y
unfolding right_step
right-pos y h = xor_pos y _ (λ e. omega arith)

left-fits : (k y : ℕ) → y < 2 ^ 32 → left_step k y < 2 ^ 32
unfolding left_step
left-fits k y l = xor_lt 32 y (y * 2 ^ k % 2 ^ 32) l (mod-lt (y * 2 ^ k) (pow_pos 32))

right-fits : (k y : ℕ) → y < 2 ^ 32 → right_step k y < 2 ^ 32
unfolding right_step
right-fits k y l = xor_lt 32 y (y / 2 ^ k) l (lt_of_le_of_lt (div-le_self y (2 ^ k)) l)

pub next_fits : (y : ℕ) → y < 2 ^ 32 → next_of y < 2 ^ 32
unfolding next_of
next_fits y l = left-fits 5 _ (right-fits 17 _ (left-fits 13 y l))

pub next-pos : (y : ℕ) → 0 < y → 0 < next_of y
unfolding next_of
next-pos y h = left-pos 5 (λ x. omega arith) _ (right-pos _ (left-pos 13 (λ x. omega arith) y h))

-- A draw gives the next state, from the state 0 too, where that is 0.
pub draw-number : (y : ℕ) → (draw_of y).number ≡ next_of y
unfolding draw_of next_of left_step right_step
draw-number zero = refl
draw-number (suc y) = simp (eqb-suc-zero y)

pub draw-next : (y : ℕ) → (draw_of y).next.state ≡ next_of y
unfolding draw_of next_of left_step right_step
draw-next zero = refl
draw-next (suc y) = simp (eqb-suc-zero y)

-- ---- in range: what a walk uses, whose state is never 0 and whose choices are among 1 or more

pub draw-given : (y : ℕ) → 0 < y → draw_of y ≡ drawn_to (next_of y) (next_of y)
unfolding draw_of
draw-given y h = simp (ne_eqb y 0 (λ e. omega arith))

pub choice-given : (m y : ℕ) → 0 < y → 0 < m → choice_of m y ≡ drawn_to (next_of y) (next_of y % m)
unfolding choice_of
choice-given m y h l = simp (ne_eqb y 0 (λ e. omega arith), ne_eqb m 0 (λ e. omega arith))

pub heads-given : (bias y : ℕ) → 0 < y → bias ≤ 1000 → heads_of bias y ≡ drawn_to (next_of y) (cond (ltb (next_of y % 1000) bias) 1 0)
unfolding heads_of
heads-given bias y h l = simp (ne_eqb y 0 (λ e. omega arith), le-ltb 1000 bias l)

-- a choice is below its number
pub choice-lt : (m y : ℕ) → 0 < m → (choice_of m y).number < m
unfolding choice_of
choice-lt m zero l = l
choice-lt m (suc y) l = simp (eqb-suc-zero y, ne_eqb m 0 (λ e. omega arith)) (mod-lt (next_of (suc y)) l)

-- a draw of 0 is exactly the refusal
pub draw-zero : (y : ℕ) → (draw_of y).number ≡ 0 → y ≡ 0
draw-zero zero e = refl
draw-zero (suc y) e = absurd (omega (arith, next-pos (suc y) (zero-lt-suc y), draw-number (suc y)))
