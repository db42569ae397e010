-- Xor is associative, and with 1 it turns the last digit. Assumes nothing.
use Prim.Native.Nat.{ℕ, zero, suc, ◌+◌, ◌-◌, ◌*◌, ◌/◌, ◌%◌, ◌<◌}
use mathlib.Core.Path.{◌≡◌, refl, ap₂, sym, ◌∙◌}
use native.Mathlib.Omega.{arith}
use native.Mathlib.Nat.{mod-lt}
use lib.Arith.{bin_ind}
use lib.Bits.{bit_xor, differ, xor_step, xor_shr, xor_mod, xor_zero_r}
use lib.Dec.{lit<}

-- of one digit
digit_assoc : (a b c : ℕ) → a < 2 → b < 2 → c < 2 → differ (bit_xor a b) c ≡ differ a (bit_xor b c)
digit_assoc zero zero zero h l m = refl
digit_assoc zero zero (suc zero) h l m = refl
digit_assoc zero zero (suc (suc c)) h l m = absurd (omega arith)
digit_assoc zero (suc zero) zero h l m = refl
digit_assoc zero (suc zero) (suc zero) h l m = refl
digit_assoc zero (suc zero) (suc (suc c)) h l m = absurd (omega arith)
digit_assoc zero (suc (suc b)) c h l m = absurd (omega arith)
digit_assoc (suc zero) zero zero h l m = refl
digit_assoc (suc zero) zero (suc zero) h l m = refl
digit_assoc (suc zero) zero (suc (suc c)) h l m = absurd (omega arith)
digit_assoc (suc zero) (suc zero) zero h l m = refl
digit_assoc (suc zero) (suc zero) (suc zero) h l m = refl
digit_assoc (suc zero) (suc zero) (suc (suc c)) h l m = absurd (omega arith)
digit_assoc (suc zero) (suc (suc b)) c h l m = absurd (omega arith)
digit_assoc (suc (suc a)) b c h l m = absurd (omega arith)

pub xor_assoc : (a b c : ℕ) → bit_xor (bit_xor a b) c ≡ bit_xor a (bit_xor b c)
xor_assoc =
    bin_ind (λ (n : ℕ). (b c : ℕ) → bit_xor (bit_xor n b) c ≡ bit_xor n (bit_xor b c)) (λ b c. refl)
    (λ n ih b c. xor_step (bit_xor n b) c
    ∙ ap₂ (λ (x y : ℕ). bit_xor x (c / 2) * 2 + differ y (c % 2)) (xor_shr n b 1) (xor_mod n b 1)
    ∙ ap₂ (λ (x y : ℕ). x * 2 + y) (ih (b / 2) (c / 2)) (digit_assoc (n % 2) (b % 2) (c % 2) (mod-lt n (lit< tt)) (mod-lt b (lit< tt)) (mod-lt c (lit< tt)))
    ∙ sym (ap₂ (λ (x y : ℕ). bit_xor (n / 2) x * 2 + differ (n % 2) y) (xor_shr b c 1) (xor_mod b c 1))
    ∙ sym (xor_step n (bit_xor b c)))

-- a last digit turned
turned-digit : (n b : ℕ) → b < 2 → n * 2 + differ b 1 ≡ 2 * n + 1 - b
turned-digit n zero l = omega arith
turned-digit n (suc zero) l = omega arith
turned-digit n (suc (suc b)) l = absurd (omega arith)

pub xor_one : (n b : ℕ) → b < 2 → bit_xor (2 * n + b) 1 ≡ 2 * n + 1 - b
xor_one n b l =
    let half : (2 * n + b) / 2 ≡ n = omega arith in
    let last : (2 * n + b) % 2 ≡ b = omega arith in
    xor_step (2 * n + b) 1 ∙ ap₂ (λ (x y : ℕ). x * 2 + differ y 1) (xor_zero_r ((2 * n + b) / 2) ∙ half) last ∙ turned-digit n b l
