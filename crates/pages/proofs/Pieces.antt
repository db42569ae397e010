-- Pieces put into a page one after another: what is left to put gives what the whole gives. Assumes nothing.
use Prim.Native.Nat.{ℕ, ◌+◌, ◌<◌}
use mathlib.Core.Path.{◌≡◌, refl, sym, ◌∙◌}
use mathlib.Core.List.{List, [], ◌∷◌, ◌++◌, flatten, foldl, append_assoc, append-nil}
use native.Mathlib.Numerals.{add-one}
use lib.ListN.{length, get_or, drop}
use lib.Seq.{drop-cons}
use Rattle.pages.specs.Pages.{Page, page, put, CanPut}
use Rattle.pages.proofs.Putting.{put-none, fits-first, fits_next, put_both}

-- the pieces are left to put into the page q, and it is then the page that is asked for
pub record Left (pieces : List (List ℕ)) (asked q : Page) : Type 0 where
  pub fits : CanPut (flatten pieces) q
  pub rest : put (flatten pieces) q ≡ asked

-- at first, all of them
joined : (xs : List ℕ) (more : List (List ℕ)) → foldl ◌++◌ xs more ≡ xs ++ flatten more
unfolding flatten
joined xs [] = sym (append-nil xs)
joined xs (ys ∷ more) = joined (xs ++ ys) more ∙ append_assoc xs ys (flatten more)

pub begun : (xs : List ℕ) (more : List (List ℕ)) (p : Page) → CanPut (foldl ◌++◌ xs more) p → Left (xs ∷ more) (put (foldl ◌++◌ xs more) p) p
unfolding flatten
begun xs more p h = record { fits = rw (sym (joined xs more)) h; rest = rw (joined xs more) }

-- into the same page, as another value tells it
pub handed : {pieces : List (List ℕ)} {asked p q : Page} → q ≡ p → Left pieces asked p → Left pieces asked q
handed e l = rw e l

-- the first of them fits, and once it is put the others are left
module _ {xs : List ℕ} {more : List (List ℕ)} {asked q : Page} (l : Left (xs ∷ more) asked q) where
  pub first_fits : CanPut xs q
  unfolding flatten
  first_fits = fits-first xs (flatten more) q l.fits

  pub onward : {r : Page} → r ≡ put xs q → Left more asked r
  unfolding flatten
  onward e = record { fits = rw e (fits_next xs (flatten more) q l.fits); rest = rw e (sym (put_both xs (flatten more) q l.fits) ∙ l.rest) }

-- the same bytes in other pieces
pub regroup : (new : List (List ℕ)) {pieces : List (List ℕ)} {asked q : Page} → flatten pieces ≡ flatten new → Left pieces asked q → Left new asked q
regroup new e l = record { fits = rw e at l.fits; rest = rw e at l.rest }

pub split : (xs ys : List ℕ) {zs : List ℕ} {more : List (List ℕ)} {asked q : Page} → zs ≡ xs ++ ys → Left (zs ∷ more) asked q → Left (xs ∷ ys ∷ more) asked q
unfolding flatten
split xs ys {more = more} e l = regroup (xs ∷ ys ∷ more) (rw e (append_assoc xs ys (flatten more))) l

-- nothing is left, or a piece without bytes
pub ended : {asked q : Page} → Left [] asked q → q ≡ asked
unfolding flatten
ended {q = q} l = sym (put-none q) ∙ l.rest

pub over : {xs : List ℕ} {asked q : Page} → xs ≡ [] → Left (xs ∷ []) asked q → q ≡ asked
over {q = q} e l = let m = rw e at l in ended (onward m (sym (put-none q)))

-- a piece byte by byte
pub next-byte : (bytes : List ℕ) (i : ℕ) → i < length bytes → drop i bytes ≡ (get_or bytes i 0 ∷ []) ++ drop (i + 1) bytes
next-byte bytes i h = rw (add-one, drop-cons bytes i 0) refl

-- what a page leaves in its buffer, and how many bytes it put
pub closed : {m n : ℕ} {xs ys : List ℕ} {asked : Page} → n ≡ m → ys ≡ xs → page m xs ≡ asked → page n ys ≡ asked
closed e f g = rw (e, f) g
