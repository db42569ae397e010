-- Tables cleared: all of them, and one from a place on. Assumes nothing.
use mathlib.Core.Path.{◌≡◌, refl, ap, ap₂, sym, ◌∙◌}
use mathlib.Core.Bool.{true}
use mathlib.Core.List.{List, ◌++◌}
use Prim.Native.Nat.{ℕ, ◌+◌, ◌-◌, ◌≤◌}
use native.Mathlib.Omega.{arith}
use borrow.Rule.Slice.PartMut.{put_mid}
use lib.ListN.{length, take, drop, length-drop, length-replicate}
use lib.Seq.{take_all, length-take-le}
use Rattle.std.proofs.lemmas.Slice.{put_mid-paste}
use Rattle.written.specs.Lists.{zeros, padded}
use Rattle.written.specs.Limits.{Limits}
use Rattle.written.specs.Tables.{Tables, lent, each, full_sizes, are_full, cleared}
use Rattle.laws.proofs.Lists.{padded-length}
use Rattle.laws.proofs.Each.{at, by-each, each_at}
use Rattle.laws.proofs.Holding.{full_at, cleared_at}
use Rattle.machine.specs.Passes.{zeroed}
use Rattle.machine.proofs.Cleared.{zeroed-over}
use Rattle.reading_lines.specs.Drafting.{Desk}
use Rattle.reading_end.specs.Clearing.{blanked, desk_in, wiped, Others, others_in, wiped_others, rest_zeroed}

-- ---- all tables

-- those of a draft and the others, each cleared
pub both-wiped : (lim : Limits) (t : Tables) {w : Desk} {o : Others} → w ≡ wiped lim (desk_in t) → o ≡ wiped_others lim (others_in t)
    → lent w.names o.values w.starts w.literals o.occurrence_starts o.occurrences o.trues w.stamps o.uncovered w.slots
    ≡ blanked lim t
unfolding blanked each wiped wiped_others
both-wiped lim t e f =
    λ i. lent (e i).names (f i).values (e i).starts (e i).literals (f i).occurrence_starts (f i).occurrences (f i).trues (e i).stamps (f i).uncovered (e i).slots

pub blanked-is : (lim : Limits) (t : Tables) → are_full lim t ≡ true → blanked lim t ≡ cleared lim t
unfolding blanked
blanked-is lim t full =
    by-each _ _
    (λ k. each_at zeroed k (full_sizes lim) t ∙ zeroed-over (at k (full_sizes lim)) (at k t) (full_at lim t k full) ∙ sym (cleared_at lim t k))

-- ---- one table from a place on

module _ (n from : ℕ) (xs : List ℕ) where
  pub rest-filled : from ≤ n → n ≤ length xs → {ys : List ℕ} → ys ≡ zeros (length (take (n - from) (drop from xs))) → put_mid from (n - from) xs ys ≡ rest_zeroed n from xs
  unfolding rest_zeroed
  rest-filled o room {ys} e =
      let part = length-take-le (n - from) (drop from xs) (omega (arith, length-drop from xs)) in
      let kept = length-take-le from xs (omega arith) in
      let many = length-replicate {A = ℕ} (n - from) 0 in
      let full = padded-length n (take from xs) (omega arith) in
      let a : take (n - from) (zeros (n - from)) ≡ zeros (n - length (take from xs)) =
      take_all (n - from) (zeros (n - from)) (omega arith) ∙ ap (λ (k : ℕ). zeros (n - k)) (sym kept) in
      let b : from + (n - from) ≡ length (padded n (take from xs)) = omega arith in
      put_mid-paste from (n - from) xs ys (zeros (n - from)) (n - from) (e ∙ ap zeros part) refl (sym many)
      ∙ ap₂ {C = List ℕ} (λ zs k. (take from xs ++ zs) ++ drop k xs) a b
