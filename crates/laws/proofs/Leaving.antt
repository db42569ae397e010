-- The uncovered list as clauses leave and enter it: a sum over it. Assumes nothing.
use Prim.Native.Nat.{ℕ, suc, ◌+◌, ◌-◌, ◌≤◌, ◌<◌}
use mathlib.Core.Path.{◌≡◌, refl, ap, ◌∙◌}
use mathlib.Core.Bool.{cond}
use mathlib.Core.List.{List, [], ◌∷◌}
use native.Mathlib.Omega.{arith}
use lib.ListN.{length, get_or, set, take, length-set}
use lib.Seq.{take_all, get_or-set_same, get_or-set_other}
use lib.Dec.{eqb}
use borrow.Author.Tests.{eq-eqb}
use Rattle.written.specs.Lists.{total, place_of, times, steps}
use Rattle.written.specs.Flips.{leave, enter}
use Rattle.laws.proofs.Basics.{by-eq, one_if_lem}
use Rattle.laws.proofs.Sums.{total_append, total-next, total-set}
use Rattle.laws.proofs.Membership.{place_of-lt, place_of-get_or}
use Rattle.laws.proofs.Times.{times-has}

-- a sum over all but the last entry
total-front : (h : ℕ → ℕ) (xs : List ℕ) (n : ℕ) → length xs ≡ suc n → total h (take n xs) + h (get_or xs n 0) ≡ total h xs
total-front h xs n e = omega (arith, total-next h xs n 0 (omega arith), ap (total h) (take_all (suc n) xs (omega arith)))

-- a sum after an entry has left, and after one has entered
pub total-leave : (h : ℕ → ℕ) (d : ℕ) (us : List ℕ) → 0 < times d us → total h (leave d us) + h d ≡ total h us
unfolding leave
total-leave h d us k =
    let p = place_of d us in
    let n = length us - 1 in
    let x = get_or us n 0 in
    let l = place_of-lt d us (times-has d us k) in
    let put = total-set h us p x 0 l in
    let cut = total-front h (set us p x) n (length-set us p x ∙ omega arith) in
    let a : h (get_or us p 0) ≡ h d = ap h (place_of-get_or d us 0 (times-has d us k)) in
    let b : h (get_or (set us p x) n 0) ≡ h x = ap h (last us p n l) in
    omega arith
  where
    last : (us : List ℕ) (p n : ℕ) → p < length us → get_or (set us p (get_or us n 0)) n 0 ≡ get_or us n 0
    last us p n l =
        by-eq n p (λ e. rw e (get_or-set_same us p (get_or us p 0) 0 l)) (λ e. get_or-set_other us p n (get_or us n 0) 0 e)

pub total-enter : (h : ℕ → ℕ) (d : ℕ) (us : List ℕ) → total h (enter d us) ≡ total h us + h d
unfolding enter
total-enter h d us = let e = total_append h us (d ∷ []) in omega arith

-- the same when a whole list leaves, each entry of which stands, or enters
pub total_leaving : (h : ℕ → ℕ) (ds us : List ℕ) → ((c : ℕ) → times c ds ≤ times c us) → total h (steps leave ds us) + total h ds ≡ total h us
total_leaving h [] us k = omega arith
total_leaving h (d ∷ ds) us k =
    let a = k d in
    let b = one_if_lem (eqb d d) (eq-eqb d d refl) in
    let stands : 0 < times d us = omega arith in
    let e = total-leave h d us stands in
    let i = total_leaving h ds (leave d us) (λ c. let f = total-leave (λ y. cond (eqb c y) 1 0) d us stands in let g = k c in omega arith) in
    omega arith

pub total_entering : (h : ℕ → ℕ) (ds us : List ℕ) → total h (steps enter ds us) ≡ total h us + total h ds
total_entering h [] us = omega arith
total_entering h (d ∷ ds) us = let e = total-enter h d us in let i = total_entering h ds (enter d us) in omega arith
