-- One of tables that are cleared: what stands in it, what is written over it, and that it is cleared again. Assumes nothing.
use mathlib.Core.Path.{◌≡◌, ap, sym, ◌∙◌}
use mathlib.Core.Bool.{true}
use mathlib.Core.List.{List}
use Prim.Native.Nat.{ℕ, ◌≤◌, ◌<◌}
use native.Mathlib.Omega.{arith}
use lib.ListN.{length, get_or, drop, length-drop, length-replicate, get_or-replicate, get_or-append}
use Rattle.written.specs.Lists.{zeros, padded}
use Rattle.written.specs.Limits.{Limits}
use Rattle.written.specs.Tables.{Tables, full_sizes, are_full, over, cleared}
use Rattle.laws.proofs.Basics.{by-lt}
use Rattle.laws.proofs.Lists.{padded-length}
use Rattle.laws.proofs.Padding.{over_zero, over-past, over_zeros, same-later}
use Rattle.laws.proofs.Each.{Table, at}
use Rattle.laws.proofs.Holding.{full_at, cleared_at}
use Rattle.machine.specs.Passes.{zeroed}
use Rattle.machine.proofs.Cleared.{zeroed-back}

-- one of tables that are cleared
module _ (lim : Limits) (t : Tables) (bare : cleared lim t ≡ t) (k : Table) where
  abbrev n : ℕ
  n = at k (full_sizes lim)

  pub bare-at : at k t ≡ over (zeros n) (at k t)
  bare-at = ap (at k) (sym bare) ∙ cleared_at lim t k

  pub bare-over : (xs : List ℕ) → length xs ≤ n → over xs (at k t) ≡ over (padded n xs) (at k t)
  bare-over xs h = ap (over xs) bare-at ∙ over_zeros n xs (at k t) h

  pub bare-zero : (j : ℕ) → j < n → get_or (at k t) j 0 ≡ 0
  bare-zero j l =
      let many = length-replicate {A = ℕ} n 0 in
      ap (λ (xs : List ℕ). get_or xs j 0) bare-at ∙ get_or-append (zeros n) (drop (length (zeros n)) (at k t)) 0 j (omega arith) ∙ get_or-replicate n j 0 0 l

  -- past a list that is filled up and written over it, nothing has changed
  pub bare-past : (xs : List ℕ) (j : ℕ) → length xs ≤ n → length xs ≤ j → get_or (over (padded n xs) (at k t)) j 0 ≡ get_or (at k t) j 0
  bare-past xs j h l =
      by-lt j n (λ m. over_zero n xs (at k t) j l m ∙ sym (bare-zero j m)) (λ m. over-past (padded n xs) (at k t) j (omega (arith, padded-length n xs h)))

  -- cleared again, it is what it was
  pub bare-back : are_full lim t ≡ true → (xs : List ℕ) → n ≤ length xs → drop n xs ≡ drop n (at k t) → zeroed n xs ≡ at k t
  bare-back full xs h e = zeroed-back n xs (at k t) h (full_at lim t k full) bare-zero e

  -- and so it is where it has been the same from an earlier place on
  pub bare-back-from : are_full lim t ≡ true → (m : ℕ) → m ≤ n → (xs : List ℕ) → m ≤ length xs → drop m xs ≡ drop m (at k t) → zeroed n xs ≡ at k t
  bare-back-from full m low xs room e =
      let longer : n ≤ length xs = omega (arith, ap length e, length-drop m xs, length-drop m (at k t), full_at lim t k full) in
      bare-back full xs longer (same-later m n xs (at k t) low e)
