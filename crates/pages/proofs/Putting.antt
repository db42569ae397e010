-- Bytes put into a page: nothing, one list after another, one byte; the buffer keeps its length. Assumes nothing.
use Prim.Native.Nat.{ℕ, ◌+◌}
use mathlib.Core.Path.{◌≡◌, refl, ap, ap₂, sym, ◌∙◌}
use mathlib.Core.List.{List, [], ◌∷◌, ◌++◌, append_assoc, append-nil}
use native.Mathlib.Numerals.{add-one}
use native.Mathlib.Omega.{arith}
use lib.ListN.{length, take, drop, set, length-append, length-drop, take-append-drop}
use lib.Seq.{length-take-le, append_snoc, set_split, take_at, drop-append-add, drop-drop}
use Rattle.pages.specs.Pages.{Page, page, put, CanPut}

-- two pages with the same place and the same bytes
same-page : {m n : ℕ} {xs ys : List ℕ} → m ≡ n → xs ≡ ys → page m xs ≡ page n ys
same-page e f = ap₂ {C = Page} (λ m xs. page m xs) e f

pub put-none : (p : Page) → put [] p ≡ p
unfolding put
put-none p =
    let zero : p.at + 0 ≡ p.at = omega arith in
    same-page zero (rw (zero, append-nil) (take-append-drop p.at p.buffer))

pub put_byte : (x at : ℕ) (b : List ℕ) → CanPut (x ∷ []) (page at b) → page (at + 1) (set b at x) ≡ put (x ∷ []) (page at b)
unfolding put
put_byte x at b h =
    same-page refl (set_split b at x (omega (arith, h.room)) ∙ sym (append_snoc (take at b) x _)
    ∙ ap (λ (k : ℕ). (take at b ++ x ∷ []) ++ drop k b) (sym (add-one at)))

module _ (xs : List ℕ) (p : Page) (h : CanPut xs p) where
  -- where what is put ends
  seam : length (take p.at p.buffer ++ xs) ≡ p.at + length xs
  seam = omega (arith, h.room, length-append (take p.at p.buffer) xs, length-take-le p.at p.buffer (omega (arith, h.room)))

  pub put-length : length (put xs p).buffer ≡ length p.buffer
  unfolding put
  put-length =
      let rest : List ℕ = drop (p.at + length xs) p.buffer in
      omega (arith, h.room, seam, length-append (take p.at p.buffer ++ xs) rest, length-drop (p.at + length xs) p.buffer)

-- ---- two lists, one after the other

module _ (xs ys : List ℕ) (p : Page) (h : CanPut (xs ++ ys) p) where
  pub fits-first : CanPut xs p
  fits-first = record { room = omega (arith, h.room, length-append xs ys) }

  pub fits_next : CanPut ys (put xs p)
  unfolding put
  fits_next = record { room = omega (arith, h.room, length-append xs ys, put-length xs p fits-first) }

  pub put_both : put (xs ++ ys) p ≡ put ys (put xs p)
  unfolding put
  put_both =
      let front : List ℕ = take p.at p.buffer in
      let back : List ℕ = drop (p.at + length xs) p.buffer in
      let end : p.at + length (xs ++ ys) ≡ p.at + length xs + length ys = omega (arith, length-append xs ys) in
      let ends = seam xs p fits-first in
      let past : drop (p.at + length xs + length ys) (front ++ xs ++ back) ≡ drop (p.at + length xs + length ys) p.buffer =
      ap (λ (k : ℕ). drop (k + length ys) (front ++ xs ++ back)) (sym ends)
      ∙ drop-append-add (front ++ xs) back (length ys) ∙ drop-drop (length ys) (p.at + length xs) p.buffer in
      same-page end (ap₂ {C = List ℕ} (λ k l. l ++ drop k p.buffer) end (sym (append_assoc front xs ys))
      ∙ sym (ap₂ {C = List ℕ} (λ l r. l ++ ys ++ r) (take_at (front ++ xs) back (p.at + length xs) ends) past))
