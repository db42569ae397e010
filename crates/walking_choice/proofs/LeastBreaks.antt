-- Literals looked at one after another, from top down: the least, how many are at it, and the first of them; and that some are at it. Assumes nothing.
use Prim.Native.Nat.{ℕ, ◌+◌, ◌/◌, ◌≤◌, ◌<◌, min}
use mathlib.Core.Path.{◌≡◌, refl, sym, ap, subst, ◌∙◌}
use mathlib.Core.Bool.{Bool, cond}
use mathlib.Core.List.{List, [], ◌∷◌, ◌++◌, append-nil, map}
use native.Mathlib.Nat.{add-zero}
use native.Mathlib.Numerals.{add-one}
use native.Mathlib.Omega.{arith}
use lib.ListN.{length, get_or, take, length-append, get_or-append}
use lib.Seq.{take-suc, take_all, length-take-le}
use lib.Dec.{eqb, leb}
use borrow.Author.Tests.{eqb-true, eq-eqb, ne_eqb, lt-ltb, le-ltb, le-leb, lt-leb}
use Rattle.written.specs.Lists.{those, least_of}
use Rattle.laws.proofs.Basics.{by_cases, by-eq, by-lt}
use Rattle.laws.proofs.Lists.{map_append, those-short}
use Rattle.laws.proofs.Picks.{least-some}
use Rattle.walking_choice.specs.Choosing.{one_if, least_by, ties_by, Lowest, lowest, lowest_in, besides, HaveEntries}
use Rattle.walking_choice.proofs.Among.{those_snoc}

-- each literal's term has an entry
pub has-entry : (xs ls : List ℕ) (i : ℕ) → HaveEntries xs ls → i < length ls → get_or ls i 0 / 2 < length xs
has-entry xs ls i b l = b.terms i l

-- no more are at the least than there are
pub number-few : (top : ℕ) (h : ℕ → ℕ) (ls : List ℕ) {s : Lowest} → s ≡ lowest_in top h ls → s.number ≤ length ls
unfolding lowest_in ties_by
number-few top h ls e = rw e (those-short (λ l. eqb (h l) (least_of top (map h ls))) ls)

-- ---- the least from top down

least_snoc : (m : ℕ) (xs : List ℕ) (x : ℕ) → least_of m (xs ++ x ∷ []) ≡ min (least_of m xs) x
least_snoc m [] x = refl
least_snoc m (y ∷ xs) x = least_snoc (min m y) xs x

least-min : (m n : ℕ) (xs : List ℕ) → least_of (min m n) xs ≡ min m (least_of n xs)
least-min m n [] = refl
least-min m n (x ∷ xs) = let e : min (min m n) x ≡ min m (min n x) = omega arith in rw e (least-min m (min n x) xs)

least-low : (m : ℕ) (xs : List ℕ) → least_of m xs ≤ m
least-low m [] = omega arith
least-low m (x ∷ xs) = let h = least-low (min m x) xs in omega arith

-- none are below it
none_under : (h : ℕ → ℕ) (m b : ℕ) (ls : List ℕ) → b < least_of m (map h ls) → ties_by h b ls ≡ []
unfolding ties_by
none_under h m b [] q = refl
none_under h m b (l ∷ ls) q =
    let low = least-low (min m (h l)) (map h ls) in
    rw (ne_eqb (h l) b (λ e. omega arith)) (none_under h (min m (h l)) b ls q)

module _ (top : ℕ) (h : ℕ → ℕ) where
  abbrev low_of : List ℕ → ℕ
  low_of ls = least_of top (map h ls)

  low_snoc : (ls : List ℕ) (x : ℕ) → low_of (ls ++ x ∷ []) ≡ min (low_of ls) (h x)
  low_snoc ls x = ap (least_of top) (map_append h ls (x ∷ [])) ∙ least_snoc top (map h ls) (h x)

  -- where it is below top, some are at it
  some-tied : (ls : List ℕ) → low_of ls < top → 0 < length (ties_by h (low_of ls) ls)
  unfolding ties_by
  some-tied [] q = absurd (omega arith)
  some-tied (l ∷ ls) q =
      let e : low_of (l ∷ ls) ≡ least_of (h l) (map h ls) = omega (arith, least-min top (h l) (map h ls)) in
      subst (λ (b : ℕ). 0 < length (ties_by h b (l ∷ ls))) (sym e) (least-some h l ls)

  -- so where all are below top and none is at it, there are none
  pub none-tied : (ls : List ℕ) → ((i : ℕ) → i < length ls → h (get_or ls i 0) < top) → length (ties_by h (low_of ls) ls) ≡ 0 → length ls ≡ 0
  none-tied [] small e = refl
  none-tied (l ∷ ls) small e =
      let low = least-low (min top (h l)) (map h ls) in
      absurd (omega (arith, some-tied (l ∷ ls) (omega (arith, low, small 0 (omega arith))), e))

  -- where some are at it, it is the least of them
  pub least-tied : (ls : List ℕ) → 0 < length (ties_by h (low_of ls) ls) → low_of ls ≡ least_by h ls
  unfolding least_by
  least-tied [] q = absurd (unfold ties_by in omega arith)
  least-tied (l ∷ ls) q =
      let low = low_of (l ∷ ls) in
      let twice : min (h l) (h l) ≡ h l = omega arith in
      by-lt low (least_of (h l) (map h ls))
      (λ r. let none = none_under h (h l) low (l ∷ ls) (rw (twice, least_of) r) in absurd (omega (arith, rw none at q)))
      (λ r. omega (arith, least-min top (h l) (map h ls)))

  -- ---- one literal more

  module _ (ls : List ℕ) (x : ℕ) where
    abbrev low : ℕ
    low = low_of ls

    abbrev ties : List ℕ
    ties = ties_by h low ls

    -- it is below the others: it is the only one at the least
    lower : h x < low → lowest_in top h (ls ++ x ∷ []) ≡ besides (lowest_in top h ls) x (h x)
    unfolding lowest_in besides ties_by
    lower q =
        let e : min low (h x) ≡ h x = omega arith in
        rw (low_snoc ls x, e, those_snoc (λ l. eqb (h l) (h x)) ls x, none_under h top (h x) ls q, eq-eqb (h x) (h x) refl, lt-ltb (h x) low q)

    -- or not: the least stays, and it is one more if it is at it
    others : h x < top → low ≤ h x → lowest_in top h (ls ++ x ∷ []) ≡ besides (lowest_in top h ls) x (h x)
    unfolding lowest_in besides ties_by one_if
    others s q =
        let e : min low (h x) ≡ low = omega arith in
        rw (low_snoc ls x, e, those_snoc (λ l. eqb (h l) low) ls x, le-ltb (h x) low q)
        (by_cases (eqb (h x) low)
        (λ r. let at = eqb-true (h x) low r in
        rw (r, length-append ties (x ∷ []), get_or-append ties (x ∷ []) 0 0 (some-tied ls (omega arith))))
        (λ r. rw (r, append-nil ties, add-zero (length ties))))

    pub one-beside : h x < top → lowest_in top h (ls ++ x ∷ []) ≡ besides (lowest_in top h ls) x (h x)
    one-beside s = by-lt (h x) low lower (others s)

-- one that is not below the least is at it if it is not above
le-least : (b m : ℕ) → m ≤ b → leb b m ≡ eqb b m
le-least b m q = by-eq b m (λ e. rw (eq-eqb b m e, le-leb b m (omega arith))) (λ n. rw (ne_eqb b m n, lt-leb b m (omega arith)))

-- by the test that is made
pub beside-lower : (m k f l b : ℕ) → b < m → lowest b 1 l ≡ besides (lowest m k f) l b
unfolding besides
beside-lower m k f l b q = rw (lt-ltb b m q)

pub beside-other : (m k f l b n : ℕ) → m ≤ b → n ≡ one_if (leb b m) → lowest m (k + n) f ≡ besides (lowest m k f) l b
unfolding besides
beside-other m k f l b n q e = rw (le-ltb b m q, e, le-least b m q)

-- ---- one after another, those that pass a test

module _ (top : ℕ) (h : ℕ → ℕ) (p : ℕ → Bool) (ls : List ℕ) where
  -- s is what the first i literals give
  pub record Looking (s : Lowest) (i : ℕ) : Type 0 where
    pub upto : i ≤ length ls
    pub front : s ≡ lowest_in top h (those p (take i ls))

  pub look-begun : Looking (lowest top 0 0) 0
  unfolding lowest_in ties_by
  look-begun = record { upto = omega arith; front = refl }

  -- there is room to count one more
  pub look-few : (s : Lowest) (i : ℕ) → Looking s i → s.number ≤ length ls
  look-few s i k =
      omega (arith, number-few top h (those p (take i ls)) k.front, those-short p (take i ls), length-take-le i ls k.upto, k.upto)

  pub look-more : (s r : Lowest) (i : ℕ) → Looking s i → i < length ls → h (get_or ls i 0) < top
      → r ≡ cond (p (get_or ls i 0)) (besides s (get_or ls i 0) (h (get_or ls i 0))) s → Looking r (i + 1)
  look-more s r i k l small f =
      let x = get_or ls i 0 in
      let before = those p (take i ls) in
      record {
        upto = omega arith;
        front =
            f ∙ rw (k.front, add-one i, take-suc ls i 0 l, those_snoc p (take i ls) x)
            (by_cases (p x) (λ q. rw q (sym (one-beside top h before x small))) (λ q. rw (q, append-nil before)));
      }

  pub look-done : (s : Lowest) (i : ℕ) → Looking s i → length ls ≤ i → s ≡ lowest_in top h (those p ls)
  look-done s i k l = k.front ∙ ap (λ (xs : List ℕ). lowest_in top h (those p xs)) (take_all i ls l)
