-- Tables into which a list is written, as the list grows at its end. Assumes nothing.
use Prim.Native.Nat.{ℕ, zero, suc, ◌+◌, ◌≤◌, ◌<◌}
use mathlib.Core.Path.{◌≡◌, refl, ap, sym, ◌∙◌}
use mathlib.Core.Bool.{cond}
use mathlib.Core.List.{List, [], ◌∷◌, ◌++◌, flatten, append_assoc, append-nil}
use native.Mathlib.Nat.{add-zero}
use native.Mathlib.Numerals.{add-one}
use native.Mathlib.Omega.{arith}
use borrow.Author.Tests.{lt-ltb}
use lib.ListN.{length, get_or, take, drop, set, length-append, length-drop}
use lib.Seq.{drop-cons, append_snoc, set-append_seam, take-set-le, drop-set-lt}
use lib.Dec.{ltb}
use Rattle.written.specs.Lists.{total}
use Rattle.written.specs.Tables.{starts_from, over}
use Rattle.reading_literal.specs.Line.{line_in}
use Rattle.reading_literal.specs.Taking.{put_if}
use Rattle.reading_literal.proofs.Stamps.{line-more}

-- ---- one more entry

-- put past those that are written
pub set-over : (xs old : List ℕ) (x : ℕ) → length xs < length (over xs old) → set (over xs old) (length xs) x ≡ over (xs ++ x ∷ []) old
set-over xs old x h =
    let room : length xs < length old = omega (arith, length-append xs (drop (length xs) old), length-drop (length xs) old) in
    ap (λ (r : List ℕ). set (xs ++ r) (length xs) x) (drop-cons old (length xs) 0 room)
    ∙ set-append_seam xs (get_or old (length xs) 0) (drop (suc (length xs)) old) x
    ∙ sym (append_snoc xs x (drop (suc (length xs)) old))
    ∙ ap (λ (k : ℕ). (xs ++ x ∷ []) ++ drop k old) (sym (length-append xs (x ∷ []) ∙ add-one (length xs)))

-- the starts of one part more
pub starts_snoc : (a : ℕ) (ps : List (List ℕ)) (p : List ℕ) (n : ℕ) → a + total length (ps ++ p ∷ []) ≡ n → starts_from a (ps ++ p ∷ []) ≡ starts_from a ps ++ n ∷ []
unfolding starts_from
starts_snoc a [] p n e = ap (λ (k : ℕ). a ∷ k ∷ []) (let f : a + length p ≡ n = omega arith in f)
starts_snoc a (q ∷ ps) p n e = ap (λ (r : List ℕ). a ∷ r) (starts_snoc (a + length q) ps p n (omega arith))

pub flatten_snoc : (ps : List (List ℕ)) (p : List ℕ) → flatten (ps ++ p ∷ []) ≡ flatten ps ++ p
unfolding flatten
flatten_snoc [] p = append-nil p
flatten_snoc (q ∷ ps) p = ap (λ (r : List ℕ). q ++ r) (flatten_snoc ps p) ∙ sym (append_assoc q (flatten ps) p)

-- ---- one more entry, or none

-- a list with an entry at its end, where there is one
abbrev pub more_if : ℕ → List ℕ → ℕ → List ℕ
more_if k xs x = cond (ltb 0 k) (xs ++ x ∷ []) xs

pub more-length : (k : ℕ) (xs : List ℕ) (x : ℕ) → k ≤ 1 → length (more_if k xs x) ≡ length xs + k
more-length zero xs x h = sym (add-zero (length xs))
more-length (suc zero) xs x h = length-append xs (x ∷ [])
more-length (suc (suc k)) xs x h = absurd (omega arith)

pub put-over : (k : ℕ) (xs old : List ℕ) (x : ℕ) → length xs + k ≤ length (over xs old) → put_if k (over xs old) (length xs) x ≡ over (more_if k xs x) old
put-over zero xs old x h = refl
put-over (suc k) xs old x h = rw (lt-ltb 0 (suc k) (omega arith)) (set-over xs old x (omega arith))

-- what stands before it and what stands past it stay
pub put-take : (k n : ℕ) (xs : List ℕ) (i x : ℕ) → n ≤ i → take n (put_if k xs i x) ≡ take n xs
put-take zero n xs i x h = refl
put-take (suc k) n xs i x h = rw (lt-ltb 0 (suc k) (omega arith)) (take-set-le n xs i x h)

pub put-drop : (k n : ℕ) (xs : List ℕ) (i x : ℕ) → i + k ≤ n → drop n (put_if k xs i x) ≡ drop n xs
put-drop zero n xs i x h = refl
put-drop (suc k) n xs i x h = rw (lt-ltb 0 (suc k) (omega arith)) (drop-set-lt n xs i x (omega arith))

-- an open line to which it is put
pub put-line : (k : ℕ) (ls : List ℕ) (from held x : ℕ) → k ≤ 1 → from ≤ held → held + k ≤ length ls
    → line_in (put_if k ls held x) from (held + k) ≡ more_if k (line_in ls from held) x
put-line zero ls from held x one o h = ap (λ (n : ℕ). line_in ls from n) (add-zero held)
put-line (suc zero) ls from held x one o h = line-more ls from held x o (omega arith)
put-line (suc (suc k)) ls from held x one o h = absurd (omega arith)
