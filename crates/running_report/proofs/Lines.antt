-- The lines of a refusal and of a walk, as the pieces that are put. Assumes nothing.
use Prim.Native.Nat.{ℕ}
use mathlib.Core.Path.{◌≡◌}
use mathlib.Core.List.{List, [], ◌∷◌, ◌++◌, flatten, append_assoc}
use Rattle.words.specs.Words.{trues}
use Rattle.scan.specs.Text.{bytes}
use Rattle.written.specs.declared.Tour.{Tour}
use Rattle.written.specs.Limits.{Limits}
use Rattle.written.specs.Printed.{decimal, line, refused_by}
use Rattle.pages.specs.Pages.{Page, put, CanPut}
use Rattle.running_report.specs.Reporting.{answer_in, tour_lines, found_lines, gave_up_lines}
use Rattle.pages.proofs.Pieces.{Left, begun, regroup}

module _ (p : Page) where
  pub refusal-left : (reason at n : ℕ) → n ≡ reason → CanPut (refused_by reason at) p
      → Left (line "result=" (bytes "refused") ∷ line "reason=" (decimal n) ∷ line "line=" (decimal at) ∷ []) (put (refused_by reason at) p) p
  unfolding refused_by
  refusal-left reason at n q h =
      rw q (begun (line "result=" (bytes "refused")) (line "reason=" (decimal reason) ∷ line "line=" (decimal at) ∷ []) p h)

  pub gave_up-left : (e : Tour) → CanPut (gave_up_lines e) p
      → Left (tour_lines (line "result=" (bytes "gaveup")) e ∷ line "chosen=" (bytes "0") ∷ line "answer=" (bytes "~?") ∷ []) (put (gave_up_lines e) p) p
  unfolding gave_up_lines
  gave_up-left e = begun (tour_lines (line "result=" (bytes "gaveup")) e) (line "chosen=" (bytes "0") ∷ line "answer=" (bytes "~?") ∷ []) p

  -- the last line in three pieces
  last-three : (xs ys key value end : List ℕ) → CanPut (xs ++ ys ++ (key ++ value ++ end)) p
      → Left (xs ∷ ys ∷ key ∷ value ∷ end ∷ []) (put (xs ++ ys ++ (key ++ value ++ end)) p) p
  unfolding flatten
  last-three xs ys key value end h = regroup (xs ∷ ys ∷ key ∷ value ∷ end ∷ []) (simp append_assoc) (begun xs (ys ∷ (key ++ value ++ end) ∷ []) p h)

  pub found_left : (lim : Limits) (e : Tour) (names words : List ℕ) (n : ℕ) → n ≡ trues words lim.terms → CanPut (found_lines lim e names words) p
      → Left (tour_lines (line "result=" (bytes "found")) e ∷ line "chosen=" (decimal n) ∷ bytes "answer=" ∷ answer_in e.counts.terms names words ∷ (10 ∷ []) ∷ [])
      (put (found_lines lim e names words) p) p
  unfolding found_lines
  found_left lim e names words n q h =
      rw q (last-three (tour_lines (line "result=" (bytes "found")) e) (line "chosen=" (decimal (trues words lim.terms))) (bytes "answer=")
      (answer_in e.counts.terms names words) (10 ∷ []) h)
