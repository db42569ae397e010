-- A pass that does not look at what stood writes a list over the table; a table cleared. Assumes nothing.
use mathlib.Core.Path.{◌≡◌, refl, ap, ◌∙◌, sym}
use mathlib.Core.List.{List}
use Prim.Native.Nat.{ℕ, zero, suc, ◌+◌, ◌-◌, ◌≤◌, ◌<◌, min}
use native.Mathlib.Omega.{arith}
use lib.ListN.{length, get_or, take, drop, length-set, length-replicate, get_or-replicate, take-append-drop, get_or-append}
use lib.Seq.{ext_get_or, set_out, get_or-take, length-take-le}
use Rattle.written.specs.Lists.{list_of, zeros}
use Rattle.written.specs.Tables.{over}
use Rattle.laws.proofs.Basics.{by-lt}
use Rattle.laws.proofs.Lists.{list_from-length, get_or-list_of, list_of-is, over-length}
use Rattle.laws.proofs.Padding.{over-past}
use Rattle.machine.specs.Passes.{up_to, rewritten, set_below, zeroed}
use Rattle.machine.proofs.Rewritten.{length-rewritten, rewritten-at, rewritten-past}

-- each entry below n becomes what its number says
pub rewritten-over : (f : ℕ → ℕ) (n : ℕ) (xs : List ℕ) → n ≤ length xs → rewritten (λ k p. f k) n xs ≡ over (list_of n f) xs
rewritten-over f n xs h =
    let e = list_from-length 0 n f in
    let a = length-rewritten (λ k p. f k) n xs in
    ext_get_or 0 (rewritten (λ k p. f k) n xs) (over (list_of n f) xs) (omega (arith, over-length (list_of n f) xs (omega arith)))
    (λ k l.
    by-lt k n
    (λ m.
    rewritten-at (λ k p. f k) n xs k m h ∙ sym (get_or-list_of n k f 0 m) ∙ sym (get_or-append (list_of n f) (drop (length (list_of n f)) xs) 0 k (omega arith)))
    (λ m. rewritten-past (λ k p. f k) n xs k m ∙ sym (over-past (list_of n f) xs k (omega arith))))

pub zeroed-over : (n : ℕ) (xs : List ℕ) → n ≤ length xs → zeroed n xs ≡ over (zeros n) xs
unfolding set_below rewritten
zeroed-over n xs h =
    rewritten-over (λ k. 0) n xs h
    ∙ ap (λ (t : List ℕ). over t xs) (list_of-is n (λ k. 0) (zeros n) 0 (length-replicate n 0) (λ k l. sym (get_or-replicate n k 0 0 l)))

-- a table that was 0 in its first n entries, once these are cleared again
pub zeroed-back : (n : ℕ) (xs ys : List ℕ) → n ≤ length xs → n ≤ length ys → ((k : ℕ) → k < n → get_or ys k 0 ≡ 0) → drop n xs ≡ drop n ys → zeroed n xs ≡ ys
zeroed-back n xs ys hx hy z e =
    let a = length-replicate {A = ℕ} n 0 in
    let b = length-take-le n ys hy in
    let t : zeros n ≡ take n ys = ext_get_or 0 (zeros n) (take n ys) (omega arith)
    (λ k l. let m : k < n = omega arith in get_or-replicate n k 0 0 m ∙ sym (get_or-take n ys k 0 m ∙ z k m)) in
    zeroed-over n xs hx ∙ (rw (a, t, e) (take-append-drop n ys))

-- a table of anything whose front is put to z
module _ {A : Type 0} (z : A) where
  pub length-below : (n : ℕ) (xs : List A) → length (set_below z n xs) ≡ length xs
  unfolding set_below up_to
  length-below zero xs = refl
  length-below (suc n) xs = length-set (set_below z n xs) n z ∙ length-below n xs

  -- nothing is put past the end
  below-past : (n : ℕ) (xs : List A) (k : ℕ) → length xs + k ≡ n → set_below z n xs ≡ set_below z (length xs) xs
  unfolding set_below up_to
  below-past n xs zero e = ap (λ (m : ℕ). set_below z m xs) (let q : n ≡ length xs = omega arith in q)
  below-past zero xs (suc k) e = absurd (omega arith)
  below-past (suc n) xs (suc k) e = set_out (set_below z n xs) n z (omega (arith, length-below n xs)) ∙ below-past n xs k (omega arith)

  pub below-least : (n : ℕ) (xs : List A) → set_below z (min n (length xs)) xs ≡ set_below z n xs
  below-least n xs =
      by-lt n (length xs) (λ l. ap (λ (m : ℕ). set_below z m xs) (let q : min n (length xs) ≡ n = omega arith in q))
      (λ l. ap (λ (m : ℕ). set_below z m xs) (let q : min n (length xs) ≡ length xs = omega arith in q)
      ∙ sym (below-past n xs (n - length xs) (let q : length xs + (n - length xs) ≡ n = omega arith in q)))
