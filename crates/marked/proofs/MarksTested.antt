-- The marks as the code tests them: one term, each term in turn, and all with the ten tables. Assumes nothing.
use Prim.Native.Nat.{ℕ, ◌+◌, ◌-◌, ◌≤◌, ◌<◌, zero-le}
use mathlib.Core.Path.{◌≡◌, refl, sym, ap, ◌∙◌}
use mathlib.Core.Bool.{Bool, true, false, not, ◌&&◌}
use mathlib.Core.List.{List}
use native.Mathlib.Omega.{arith}
use lib.ListN.{length, get_or, take, drop}
use lib.Dec.{eqb, leb}
use borrow.Author.Tests.{le-leb, lt-leb, eq-eqb, ne_eqb}
use Rattle.words.specs.Words.{bit_at}
use Rattle.written.specs.declared.Counts.{Counts}
use Rattle.written.specs.Lists.{all, list_of, below}
use Rattle.written.specs.Limits.{Limits}
use Rattle.written.specs.Tables.{Tables, are_full}
use Rattle.written.specs.Agreement.{state_in, counts_fit, agree}
use Rattle.written.specs.Marks.{held_at, marks_full, full_marked, marks_hold, marks_rest, agree_marked}
use Rattle.laws.proofs.Basics.{both_first, both-second}
use Rattle.laws.proofs.Lists.{list_from-length, get_or-list_of}
use Rattle.laws.proofs.Tests.{tested-more, tested-all, test_fails, all_same, said_no, said-yes}
use Rattle.machine.specs.Judging.{rest_right}
use Rattle.machine.proofs.File.{counts-fit}
use Rattle.machine.proofs.Rest.{rest-is}
use Rattle.marked.specs.Tests.{as_marked}

-- ---- one term

-- a free one
pub free-goes : (m v : ℕ) → m ≡ 0 → true ≡ as_marked m v
unfolding as_marked held_at
free-goes m v e = rw (e, eq-eqb v v refl) refl

-- a mark that is none
pub large_fails : (m v : ℕ) → 2 < m → false ≡ as_marked m v
unfolding as_marked
large_fails m v l = rw (lt-leb m 2 l) refl

-- one pinned at 0, where b is the value that was read
pub pinned-at-0 : (m v b : ℕ) → m ≤ 2 → m ≡ 1 → b ≡ v → eqb b 0 ≡ as_marked m v
unfolding as_marked held_at
pinned-at-0 m v b l e same = rw (same, e) refl

-- one pinned at 1
pub pinned-at_1 : (m v b : ℕ) → (m ≡ 0 → ⊥) → m ≤ 2 → (m ≡ 1 → ⊥) → b ≡ v → eqb b 1 ≡ as_marked m v
unfolding as_marked held_at
pinned-at_1 m v b z l o same = rw (same, le-leb m 2 l, ne_eqb m 0 z, ne_eqb m 1 o) refl

-- ---- each term in turn

module _ (ws ms : List ℕ) (n : ℕ) where
  abbrev at_term : ℕ → Bool
  at_term t = as_marked (get_or ms t 0) (bit_at ws t)

  -- of n terms the first t are as marked
  pub record Passed (t : ℕ) : Type 0 where
    pub within : t ≤ n
    pub passed : all at_term (below t) ≡ true

  by-terms : marks_hold ms (list_of n (bit_at ws)) ≡ all at_term (below n)
  unfolding marks_hold as_marked
  by-terms =
      let vs : List ℕ = list_of n (bit_at ws) in
      ap (λ (k : ℕ). all (λ t. as_marked (get_or ms t 0) (get_or vs t 0)) (below k)) (list_from-length 0 n (bit_at ws))
      ∙ all_same (λ t. as_marked (get_or ms t 0) (get_or vs t 0)) at_term n (λ t l. ap (as_marked (get_or ms t 0)) (get_or-list_of n t (bit_at ws) 0 l))

  pub none_passed : Passed 0
  none_passed = record { within = zero-le; passed = refl }

  -- where r was said of the next
  pub one-passed : (t : ℕ) {r : Bool} → Passed t → t < n → r ≡ as_marked (get_or ms t 0) (bit_at ws t) → not r ≡ false → Passed (t + 1)
  one-passed t p l e h = record { within = omega arith; passed = tested-more at_term t p.passed (said-yes h e) }

  pub one_differs : (t : ℕ) {r : Bool} → t < n → r ≡ as_marked (get_or ms t 0) (bit_at ws t) → not r ≡ true → false ≡ marks_hold ms (list_of n (bit_at ws))
  one_differs t l e h = test_fails at_term n t l (said_no h e) ∙ sym by-terms

  pub all-passed : (t : ℕ) → Passed t → n ≤ t → true ≡ marks_hold ms (list_of n (bit_at ws))
  all-passed t p l = tested-all at_term n t p.passed p.within l ∙ sym by-terms

-- ---- the rest, lent as a part

pub marks-rest-is : (lim : Limits) (n : Counts) (ms : List ℕ) {r : Bool} → r ≡ all (λ m. eqb m 0) (take (lim.terms - n.terms) (drop n.terms ms))
    → r ≡ marks_rest lim n ms
unfolding marks_rest rest_right
marks-rest-is lim n ms e = rest-is n.terms lim.terms ms e

-- ---- with the ten tables, of which r was said

-- within the limit
pub few-terms : (lim : Limits) (n : Counts) (t : Tables) {r : Bool} → r ≡ (are_full lim t && agree lim n t) → r ≡ true → n.terms ≤ lim.terms
unfolding agree
few-terms lim n t said h = (counts-fit lim n (both_first (counts_fit lim n) _ (both-second (are_full lim t) (agree lim n t) (sym said ∙ h)))).terms

module _ (lim : Limits) (n : Counts) (t : Tables) (ms : List ℕ) where
  -- marks that are too few
  pub short-marks : length ms < lim.terms → false ≡ (full_marked lim t ms && agree_marked lim n t ms)
  unfolding full_marked marks_full
  short-marks l = short (are_full lim t) (agree_marked lim n t ms) (lt-leb lim.terms (length ms) l)
    where
      short : (a b : Bool) → leb lim.terms (length ms) ≡ false → false ≡ (a && leb lim.terms (length ms) && b)
      short true b e = rw e refl
      short false b e = refl

  module _ {r : Bool} (said : r ≡ (are_full lim t && agree lim n t)) where
    -- what the marks then say
    pub marks_decide : r ≡ true → lim.terms ≤ length ms → {b : Bool} → b ≡ (marks_hold ms (state_in n t).values && marks_rest lim n ms)
        → b ≡ (full_marked lim t ms && agree_marked lim n t ms)
    unfolding full_marked marks_full agree_marked
    marks_decide h many e =
        let ok = sym said ∙ h in
        rw (both_first (are_full lim t) (agree lim n t) ok, both-second (are_full lim t) (agree lim n t) ok, le-leb lim.terms (length ms) many) e

    pub tables_decide : r ≡ false → lim.terms ≤ length ms → false ≡ (full_marked lim t ms && agree_marked lim n t ms)
    unfolding full_marked marks_full agree_marked
    tables_decide h many = rw (le-leb lim.terms (length ms) many) (not-both (are_full lim t) (agree lim n t) _ _ (sym said ∙ h))
      where
        not-both : (a b x y : Bool) → (a && b) ≡ false → false ≡ (a && true && (b && x && y))
        not-both true b x y e = rw e refl
        not-both false b x y e = refl
