-- The answer's tokens read back: each term once, by its true literal, so that a clause that has a true literal has one of the answer's.
-- Assumes nothing.
use Prim.Native.Nat.{ℕ, zero, suc, ◌+◌, ◌*◌, ◌<◌}
use mathlib.Core.Path.{◌≡◌, refl, ap, ap₂, sym, ◌∙◌}
use mathlib.Core.Bool.{true}
use mathlib.Core.List.{List, [], ◌∷◌, ◌++◌, map}
use native.Mathlib.Omega.{arith}
use lib.ListN.{length, get_or}
use lib.Dec.{eqb}
use borrow.Author.Tests.{eq-eqb, ne_eqb, eqb-true}
use Rattle.scan.specs.declared.Token.TheVariants.{Line}
use Rattle.written.specs.Lists.{total, list_from, list_of, has, place_of, times, differ}
use Rattle.written.specs.Clauses.{literal_of, term_of, value_of}
use Rattle.written.specs.Flips.{true_literal}
use Rattle.laws.specs.Valid.{Bits}
use Rattle.laws.specs.RunCalls.{literals, names_in, read_back}
use Rattle.laws.proofs.Basics.{by-eq, one_if_lem, none_if}
use Rattle.laws.proofs.Lists.{list_from-length, get_or-list_of}
use Rattle.laws.proofs.All.{all-list_from, all-has}
use Rattle.laws.proofs.Sums.{total-by}
use Rattle.laws.proofs.Membership.{has_get_d}
use Rattle.laws.proofs.Times.{differ-times, place_of-once}
use Rattle.laws.proofs.Turning.{bit_at_lem}
use Rattle.laws.proofs.Literals.{term-of-literal, true-is, true-before}

-- ---- from tokens to literals

-- the names that are told
pub told_names : (n : ℕ) (xs vs : List ℕ) → length vs ≡ length xs → names_in (literals n xs vs ++ Line n ∷ []) ≡ xs
told_names n [] vs l = refl
told_names n (x ∷ xs) [] l = absurd (omega arith)
told_names n (x ∷ xs) (v ∷ vs) l = ap {B = List ℕ} (λ r. x ∷ r) (told_names n xs vs (omega arith))

-- the literals, each by the place of its name
back_from : (n : ℕ) (names : List ℕ) (f : ℕ → ℕ) (i : ℕ) (xs vs : List ℕ) → length vs ≡ length xs
    → ((j : ℕ) → j < length xs → literal_of (place_of (get_or xs j 0) names) (eqb (get_or vs j 0) 0) ≡ f (i + j))
    → read_back names (literals n xs vs ++ Line n ∷ []) ≡ list_from i (length xs) f
back_from n names f i [] vs l h = refl
back_from n names f i (x ∷ xs) [] l h = absurd (omega arith)
back_from n names f i (x ∷ xs) (v ∷ vs) l h =
    let here : i + 0 ≡ i = omega arith in
    ap₂ {C = List ℕ} (λ a r. a ∷ r) (h 0 (omega arith) ∙ ap f here)
    (back_from n names f (suc i) xs vs (omega arith) (λ j k. let next : i + suc j ≡ suc i + j = omega arith in h (suc j) (omega arith) ∙ ap f next))

-- where no two names are the same, these are the true ones
pub told_back : (n : ℕ) (xs vs : List ℕ) → differ xs ≡ true → length vs ≡ length xs
    → read_back xs (literals n xs vs ++ Line n ∷ []) ≡ list_of (length xs) (true_literal vs)
unfolding true_literal
told_back n xs vs d l =
    back_from n xs (true_literal vs) 0 xs vs l
    (λ j k.
    let once = differ-times (get_or xs j 0) xs d ∙ one_if_lem _ (has_get_d xs j 0 k) in
    let same : 0 + j ≡ j = omega arith in
    rw same (ap (λ (p : ℕ). literal_of p (eqb (get_or vs j 0) 0)) (place_of-once xs j k once)))

-- ---- the true literals of n terms

-- each term once
pub true-terms : (vs : List ℕ) (i n : ℕ) → map term_of (list_from i n (true_literal vs)) ≡ list_from i n (λ k. k)
unfolding true_literal
true-terms vs i zero = refl
true-terms vs i (suc n) = ap₂ {C = List ℕ} (λ a r. a ∷ r) (term-of-literal i _) (true-terms vs (suc i) n)

module _ (vs : List ℕ) (bits : Bits vs) (n : ℕ) where
  pub true-hold : (l : ℕ) → has l (list_of n (true_literal vs)) ≡ true → value_of vs l ≡ 1
  true-hold l h =
      eqb-true (value_of vs l) 1
      (all-has (λ k. eqb (value_of vs k) 1) (list_of n (true_literal vs)) l h
      (all-list_from (λ k. eqb (value_of vs k) 1) 0 n (true_literal vs) (λ k. eq-eqb _ 1 (true-before vs k (bit_at_lem vs k bits)))))

  -- and no other is true
  pub hold-true : (l : ℕ) → l < 2 * n → value_of vs l ≡ 1 → has l (list_of n (true_literal vs)) ≡ true
  unfolding value_of term_of
  hold-true l b h =
      let known : term_of l < n = omega arith in
      let is : true_literal vs (term_of l) ≡ l = omega (arith, true-is vs (term_of l) (bit_at_lem vs (term_of l) bits), bit_at_lem vs (term_of l) bits, h) in
      rw (get_or-list_of n (term_of l) (true_literal vs) 0 known, is) at (has_get_d (list_of n (true_literal vs)) (term_of l) 0 (omega (arith, list_from-length 0 n (true_literal vs))))

-- ---- the values of 1, summed and counted

pub ones-count : (vs : List ℕ) → Bits vs → total (λ v. v) vs ≡ times 1 vs
ones-count vs bits =
    total-by (λ v. v) (λ v. _) vs 0
    (λ k l.
    by-eq 1 (get_or vs k 0) (λ e. sym e ∙ sym (one_if_lem _ (eq-eqb 1 (get_or vs k 0) e)))
    (λ e. let zero : get_or vs k 0 ≡ 0 = omega (arith, bit_at_lem vs k bits, e) in zero ∙ sym (none_if _ (ne_eqb 1 (get_or vs k 0) e))))
