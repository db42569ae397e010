-- Words that have the same digits are the same, and so are tables of words that give every term the same value. Assumes nothing.
use mathlib.Core.Path.{◌≡◌, sym, ap, ap₂, ◌∙◌, subst}
use mathlib.Core.List.{List}
use Prim.Native.Nat.{ℕ, zero, suc, ◌+◌, ◌*◌, ◌/◌, ◌%◌, ◌^◌, ◌<◌, suc-le-suc}
use native.Mathlib.Omega.{arith}
use native.Mathlib.Numerals.{one-add, add-one}
use native.Mathlib.Nat.{div-add-mod', div-one, zero-lt-suc}
use lib.ListN.{get_or, length}
use lib.Seq.{ext_get_or}
use lib.Arith.{lt-one}
use lib.Pow.{shr-shr, shr_lt}
use Rattle.words.specs.Words.{bit_of, bit_at}

-- digit j of a half is digit j + 1
pub half_bit : (w j : ℕ) → bit_of (w / 2) j ≡ bit_of w (suc j)
unfolding bit_of
half_bit w j = ap (λ (x : ℕ). x % 2) (shr-shr w 1 j ∙ ap (λ (x : ℕ). w / 2 ^ x) (one-add j))

pub low_bit : (w : ℕ) → bit_of w 0 ≡ w % 2
unfolding bit_of
low_bit w = ap (λ (x : ℕ). x % 2) (div-one w)

pub bits_ext : (d v w : ℕ) → v < 2 ^ d → w < 2 ^ d → ((j : ℕ) → j < d → bit_of v j ≡ bit_of w j) → v ≡ w
bits_ext zero v w h l e = lt-one h ∙ sym (lt-one l)
bits_ext (suc d) v w h l e =
    sym (div-add-mod' v 2)
    ∙ ap₂ (λ (x y : ℕ). x * 2 + y)
    (bits_ext d (v / 2) (w / 2) (half v h) (half w l) (λ j p. half_bit v j ∙ e (suc j) (suc-le-suc p) ∙ sym (half_bit w j)))
    (sym (low_bit v) ∙ e 0 (zero-lt-suc d) ∙ low_bit w)
    ∙ div-add-mod' w 2
  where
    half : (x : ℕ) → x < 2 ^ suc d → x / 2 < 2 ^ d
    half x p = shr_lt d 1 (subst (λ (k : ℕ). x < 2 ^ k) (sym (add-one d)) p)

-- term 32 k + j is digit j of word k
pub bit_at_lem : (ws : List ℕ) (k j : ℕ) → j < 32 → bit_at ws (32 * k + j) ≡ bit_of (get_or ws k 0) j
unfolding bit_at
bit_at_lem ws k j h = ap₂ (λ (x y : ℕ). bit_of (get_or ws x 0) y) {x = (32 * k + j) / 32} {y = k} {u = (32 * k + j) % 32} {v = j} (omega arith) (omega arith)

pub words_ext : (us ws : List ℕ) → length us ≡ length ws → ((k : ℕ) → get_or us k 0 < 2 ^ 32) → ((k : ℕ) → get_or ws k 0 < 2 ^ 32)
    → ((t : ℕ) → bit_at us t ≡ bit_at ws t) → us ≡ ws
words_ext us ws e h l same =
    ext_get_or 0 us ws e (λ k p. bits_ext 32 _ _ (h k) (l k) (λ j q. sym (bit_at_lem us k j q) ∙ same (32 * k + j) ∙ bit_at_lem ws k j q))
