-- The entries of a list that pass a test, one after another: how many they are, and the way to the one at a place among them. Assumes nothing.
use Prim.Native.Nat.{ℕ, zero, suc, ◌+◌, ◌-◌, ◌≤◌, ◌<◌}
use mathlib.Core.Path.{◌≡◌, refl, ap, subst, ◌∙◌}
use mathlib.Core.Bool.{Bool, true, cond, ◌&&◌}
use mathlib.Core.List.{List, [], ◌∷◌, ◌++◌}
use native.Mathlib.Numerals.{add-one}
use native.Mathlib.Omega.{arith}
use mir.Val.{bool_byte}
use lib.ListN.{length, get_or, take, drop, length-append, length-drop}
use lib.Seq.{take-suc, take_all, length-take-le, drop-cons}
use Rattle.written.specs.Lists.{those}
use Rattle.laws.proofs.Basics.{by_cases, one-most}
use Rattle.laws.proofs.Lists.{those-short}
use Rattle.walking_choice.specs.Choosing.{one_if}

-- those that pass with one entry more
pub those_snoc : (p : ℕ → Bool) (ls : List ℕ) (x : ℕ) → those p (ls ++ x ∷ []) ≡ those p ls ++ cond (p x) (x ∷ []) []
those_snoc p [] x = refl
those_snoc p (l ∷ ls) x = by_cases (p l) (λ q. rw (q, those_snoc p ls x)) (λ q. rw (q, those_snoc p ls x))

-- two tests one after the other are both at once
pub those-both : (p q : ℕ → Bool) (ls : List ℕ) → those q (those p ls) ≡ those (λ l. p l && q l) ls
those-both p q [] = refl
those-both p q (l ∷ ls) = by_cases (p l) (λ e. rw (e, those-both p q ls)) (λ e. rw (e, those-both p q ls))

-- a test counted as 1 or 0
pub byte-one : (b : Bool) {n : ℕ} → n ≡ bool_byte b → n ≡ one_if b
unfolding one_if
byte-one b e = rw e (by_cases b (λ q. rw q) (λ q. rw q))

pub one-few : (b : Bool) {n : ℕ} → n ≡ one_if b → n ≤ 1
unfolding one_if
one-few b e = rw e (one-most b)

-- ---- how many

module _ (p : ℕ → Bool) (ls : List ℕ) where
  -- n of the first i pass
  pub record Counting (n i : ℕ) : Type 0 where
    pub upto : i ≤ length ls
    pub number : n ≡ length (those p (take i ls))

  pub count-begun : Counting 0 0
  count-begun = record { upto = omega arith; number = refl }

  -- there is room to count one more
  pub count-few : (n i : ℕ) → Counting n i → n ≤ length ls
  count-few n i c = omega (arith, c.number, those-short p (take i ls), length-take-le i ls c.upto, c.upto)

  pub count-more : (n i k : ℕ) {b : Bool} → Counting n i → i < length ls → b ≡ p (get_or ls i 0) → k ≡ one_if b → Counting (n + k) (i + 1)
  unfolding one_if
  count-more n i k c l t e =
      let x = get_or ls i 0 in
      record {
        upto = omega arith;
        number =
            rw (add-one i, take-suc ls i 0 l, those_snoc p (take i ls) x, length-append (those p (take i ls)) (cond (p x) (x ∷ []) []), c.number, e, t)
            (by_cases (p x) (λ q. rw q) (λ q. rw q));
      }

  pub count-done : (n i : ℕ) → Counting n i → length ls ≤ i → n ≡ length (those p ls)
  count-done n i c l = c.number ∙ ap (λ (xs : List ℕ). length (those p xs)) (take_all i ls l)

-- ---- the one at place j

module _ (p : ℕ → Bool) (ls : List ℕ) (j : ℕ) where
  -- the entry before place i, then those that pass from there on
  abbrev ahead : ℕ → List ℕ
  ahead i = get_or ls (i - 1) 0 ∷ those p (drop i ls)

  -- i entries were passed by, and `left` of those that pass are to come yet: the last of them is the one
  pub record GoingTo (left i : ℕ) : Type 0 where
    pub some : 0 < left + i
    pub upto : i ≤ length ls
    pub enough : left ≤ length (those p (drop i ls))
    pub rest : get_or (ahead i) left 0 ≡ get_or (those p ls) j 0

  pub go-few : j < length (those p ls) → j < length ls
  go-few l = omega (arith, those-short p ls)

  pub go-begun : j < length (those p ls) → GoingTo (j + 1) 0
  go-begun l = record { some = omega arith; upto = omega arith; enough = omega arith; rest = rw (add-one j) }

  -- where some are to come, there are entries
  pub go-stands : (left i : ℕ) → GoingTo left i → 0 < left → i < length ls
  go-stands left i g l = omega (arith, g.enough, those-short p (drop i ls), length-drop i ls)

  -- an entry is passed by, and is one of them if it passes
  passed : (k i : ℕ) → GoingTo (suc k) i → GoingTo (suc k - one_if (p (get_or ls i 0))) (i + 1)
  unfolding one_if
  passed k i g =
      let stands = go-stands (suc k) i g (omega arith) in
      let enough = rw (drop-cons ls i 0 stands) at g.enough in
      let rest = rw (drop-cons ls i 0 stands) at g.rest in
      by_cases (p (get_or ls i 0))
      (λ q. let one : suc k - 1 ≡ k = omega arith in
      let back : i ≡ suc i - 1 = omega arith in
      let here = subst (λ (n : ℕ). get_or (get_or ls n 0 ∷ those p (drop (suc i) ls)) k 0 ≡ get_or (those p ls) j 0) back (rw q at rest) in
      rw (q, one, add-one i) (record { some = omega arith; upto = omega arith; enough = omega (arith, rw q at enough); rest = here }))
      (λ q. let none : suc k - 0 ≡ suc k = omega arith in
      rw (q, none, add-one i) (record { some = omega arith; upto = omega arith; enough = rw q at enough; rest = rw q at rest }))

  pub go-more : (left i n : ℕ) {b : Bool} → GoingTo left i → 0 < left → b ≡ p (get_or ls i 0) → n ≡ one_if b → GoingTo (left - n) (i + 1)
  go-more zero i n g l t e = absurd (omega arith)
  go-more (suc k) i n g l t e = rw (e, t) (passed k i g)

  -- there is one more to come, so the entries do not end before it
  pub go-on : (left i : ℕ) → GoingTo left i → 0 < left → length ls ≤ i → ⊥
  go-on left i g l e = omega (arith, go-stands left i g l)

  pub go-done : (left i : ℕ) → GoingTo left i → left ≤ 0 → get_or ls (i - 1) 0 ≡ get_or (those p ls) j 0
  go-done left i g l = let e : left ≡ 0 = omega arith in rw e at g.rest

  -- the entry at which none is to come any more
  pub go-last : (left i n : ℕ) {b : Bool} → GoingTo left i → 0 < left → b ≡ p (get_or ls i 0) → n ≡ one_if b → left - n ≡ 0 → get_or ls i 0 ≡ get_or (those p ls) j 0
  go-last left i n g l t e z =
      let back : i + 1 - 1 ≡ i = omega arith in
      subst (λ (k : ℕ). get_or ls k 0 ≡ get_or (those p ls) j 0) back (go-done (left - n) (i + 1) (go-more left i n g l t e) (omega arith))

-- where those that pass are all, each passes
pub plain-free : (p : ℕ → Bool) (ls : List ℕ) (i : ℕ) → those p ls ≡ ls → i < length ls → p (get_or ls i 0) ≡ true
plain-free p [] i e l = absurd (omega arith)
plain-free p (x ∷ ls) zero e l = by_cases (p x) (λ q. q) (λ q. absurd (omega (arith, those-short p ls, ap length (rw q at e))))
plain-free p (x ∷ ls) (suc i) e l =
    by_cases (p x) (λ q. let f = rw q at e in plain-free p ls i (cc) (omega arith)) (λ q. absurd (omega (arith, those-short p ls, ap length (rw q at e))))
