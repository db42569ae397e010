-- The competition's lines, as the pieces that are put. Assumes nothing.
use Prim.Native.Nat.{ℕ, ◌-◌}
use mathlib.Core.Path.{◌≡◌, refl, ap, sym}
use mathlib.Core.List.{List, [], ◌∷◌, ◌++◌, flatten}
use native.Mathlib.Omega.{arith}
use lib.ListN.{length}
use borrow.Author.Tests.{eq-eqb, ne_eqb}
use Rattle.words.specs.Words.{bit_at}
use Rattle.scan.specs.Text.{bytes}
use Rattle.written.specs.declared.Tour.{Tour}
use Rattle.written.specs.Lists.{list_of}
use Rattle.written.specs.Printed.{decimal, line}
use Rattle.written.specs.Competition.{signed_number, value_line, lines_for, value_lines, tour_told, satisfiable, unknown, competed_not}
use Rattle.laws.proofs.Lists.{list_from-length}
use Rattle.pages.specs.Pages.{Page, put, CanPut}
use Rattle.pages.proofs.Putting.{put-none}
use Rattle.pages.proofs.Pieces.{Left, begun, onward}
use Rattle.running_values.specs.Valuing.{values_in, line_in, found_values, up_lines}
use Rattle.running_values.proofs.Valued.{lines_from}

-- a number at 0, and any other
pub signed_no : (v k : ℕ) → v ≡ 0 → signed_number v k ≡ (45 ∷ []) ++ decimal k
unfolding signed_number
signed_no v k e = rw (eq-eqb v 0 e)

pub signed_yes : (v k : ℕ) → (v ≡ 0 → ⊥) → signed_number v k ≡ decimal k
unfolding signed_number
signed_yes v k n = rw (ne_eqb v 0 n)

-- a piece without bytes is put
pub none_left : {xs : List ℕ} {more : List (List ℕ)} {asked q : Page} → xs ≡ [] → Left (xs ∷ more) asked q → Left more asked q
none_left {q = q} e l = let m = rw e at l in onward m (sym (put-none q))

-- what is left, asked for alone
pub from-here : {pieces : List (List ℕ)} {asked q : Page} → Left pieces asked q → Left pieces (put (flatten pieces) q) q
from-here l = record { fits = l.fits; rest = refl }

module _ (p : Page) where
  pub line-left : (from to : ℕ) (words : List ℕ) → CanPut (line_in from to words) p
      → Left ((118 ∷ []) ∷ values_in from to words ∷ (10 ∷ []) ∷ []) (put (line_in from to words) p) p
  unfolding line_in
  line-left from to words h = begun (118 ∷ []) (values_in from to words ∷ (10 ∷ []) ∷ []) p h

  pub lines_left : (n : ℕ) (words : List ℕ) → CanPut (value_lines (list_of n (bit_at words))) p
      → Left (lines_from n words 0 ∷ bytes "v 0\n" ∷ []) (put (value_lines (list_of n (bit_at words))) p) p
  unfolding value_lines
  lines_left n words h =
      let size : lines_for (length (list_of n (bit_at words))) ≡ lines_for n - 0 = omega (arith, ap lines_for (list_from-length 0 n (bit_at words))) in
      rw (sym size) (begun (flatten (list_of (lines_for (length (list_of n (bit_at words)))) (value_line (list_of n (bit_at words))))) (bytes "v 0\n" ∷ []) p h)

  pub found_left : (e : Tour) (words : List ℕ) → CanPut (found_values e words) p
      → Left ((tour_told e.walks e.flips ++ satisfiable) ∷ value_lines (list_of e.counts.terms (bit_at words)) ∷ []) (put (found_values e words) p) p
  unfolding found_values
  found_left e words = begun (tour_told e.walks e.flips ++ satisfiable) (value_lines (list_of e.counts.terms (bit_at words)) ∷ []) p

  pub gave_up-left : (e : Tour) → CanPut (up_lines e) p → Left ((tour_told e.walks e.flips ++ unknown) ∷ []) (put (up_lines e) p) p
  unfolding up_lines
  gave_up-left e = begun (tour_told e.walks e.flips ++ unknown) [] p

  pub refusal-left : (reason at n : ℕ) → n ≡ reason → CanPut (competed_not reason at) p
      → Left (line "c result=" (bytes "refused") ∷ line "c reason=" (decimal n) ∷ line "c line=" (decimal at) ∷ unknown ∷ []) (put (competed_not reason at) p) p
  unfolding competed_not
  refusal-left reason at n q h =
      rw q (begun (line "c result=" (bytes "refused")) (line "c reason=" (decimal reason) ∷ line "c line=" (decimal at) ∷ unknown ∷ []) p h)
