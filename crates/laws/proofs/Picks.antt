-- What is picked stands in the list that it is picked from: an entry by a choice, the literals at the least, the literal of a clause. Assumes nothing.
use Prim.Native.Nat.{ℕ, ◌<◌, min}
use mathlib.Core.Path.{◌≡◌, refl, sym}
use mathlib.Core.Bool.{Bool, true, false}
use mathlib.Core.List.{List, [], ◌∷◌, map}
use native.Mathlib.Omega.{arith}
use lib.ListN.{length}
use lib.Dec.{eqb, ltb}
use borrow.Author.Tests.{ltb-true, eq-eqb, eqb-false}
use Rattle.draw.specs.declared.Drawn.{Drawn}
use Rattle.written.specs.declared.Order.{Order}
use Rattle.written.specs.Lists.{all, those, has, times, least_of}
use Rattle.written.specs.Clauses.{State}
use Rattle.written.specs.Drawing.{Pick, choice, heads, chosen_from}
use Rattle.written.specs.Walk.{break_of, least_break, at_least, one_of, after_heads, literal_in}
use Rattle.laws.proofs.Basics.{by_cases, by_test}
use Rattle.laws.proofs.All.{all-has}
use Rattle.laws.proofs.Membership.{has_get_d}
use Rattle.laws.proofs.Modes.{choice-below}
use Rattle.laws.proofs.Times.{has-times, times-has, times-those}

-- ---- a choice

pub chosen-has : (o : Order) (xs : List ℕ) (y : ℕ) → 0 < length xs → has (chosen_from o xs y).picked xs ≡ true
unfolding chosen_from
chosen-has o xs y h = has_get_d xs (choice o (length xs) y).number 0 (choice-below o (length xs) y h)

pub one_has : (o : Order) (xs : List ℕ) (y : ℕ) → 0 < length xs → has (one_of o xs y).picked xs ≡ true
unfolding one_of
one_has o [] y h = absurd (omega arith)
one_has o (l ∷ []) y h = rw (eq-eqb l l refl)
one_has o (l ∷ k ∷ ls) y h = chosen-has o (l ∷ k ∷ ls) y h

-- ---- the literals at the least

-- what is among those that pass a test stands in the list
pub those-has : (p : ℕ → Bool) (c : ℕ) (ls : List ℕ) → has c (those p ls) ≡ true → has c ls ≡ true
those-has p c ls h =
    let e = times-those p c ls in
    let t = has-times c (those p ls) h in
    by_cases (p c) (λ q. let f : times c (those p ls) ≡ times c ls = rw q at e in times-has c ls (omega arith))
    (λ q. let f : times c (those p ls) ≡ 0 = rw q at e in absurd (omega arith))

-- and passes it
pub those-pass : (p : ℕ → Bool) (c : ℕ) (ls : List ℕ) → has c (those p ls) ≡ true → p c ≡ true
those-pass p c ls h =
    let e = times-those p c ls in
    let t = has-times c (those p ls) h in
    by_cases (p c) (λ q. q) (λ q. let f : times c (those p ls) ≡ 0 = rw q at e in absurd (omega arith))

-- some pass a test if the first does, or else some of the rest
some-those : (p : ℕ → Bool) (l : ℕ) (ls : List ℕ) → (p l ≡ false → 0 < length (those p ls)) → 0 < length (those p (l ∷ ls))
some-those p l ls h = by_cases (p l) (λ q. rw q (omega arith)) (λ q. rw q (h q))

-- the least is m, or some are at it
at-least : (h : ℕ → ℕ) (m : ℕ) (ls : List ℕ) → (least_of m (map h ls) ≡ m → ⊥) → 0 < length (those (λ k. eqb (h k) (least_of m (map h ls))) ls)
at-least h m [] n = absurd (n refl)
at-least h m (l ∷ ls) n = some-those _ l ls (λ q. let e = eqb-false (h l) _ q in at-least h (min m (h l)) ls (λ r. omega arith))

-- where there are any, some are at the least
pub least-some : (h : ℕ → ℕ) (l : ℕ) (ls : List ℕ) → 0 < length (those (λ k. eqb (h k) (least_of (h l) (map h ls))) (l ∷ ls))
least-some h l ls = some-those _ l ls (λ q. at-least h (h l) ls (λ r. eqb-false (h l) _ q (sym r)))

pub ties-some : (s : State) (ls : List ℕ) → 0 < length ls → 0 < length (at_least s (least_break s ls) ls)
unfolding at_least least_break
ties-some s [] h = absurd (omega arith)
ties-some s (l ∷ ls) h = least-some (break_of s) l ls

-- ---- the literal of a clause

pub literal-has : (o : Order) (s : State) (ls : List ℕ) (y : ℕ) → 0 < length ls → has (literal_in o s ls y).picked ls ≡ true
unfolding literal_in after_heads at_least
literal-has o s ls y h =
    by_test In (ltb 0 (least_break s ls))
    (λ _. by_test In (eqb d.number 1) (λ _. chosen-has o ls d.next.state h) (λ _. tied d.next.state))
    (λ _. tied y)
  where
    In : Pick → Type 0
    In p = has p.picked ls ≡ true

    d : Drawn
    d = heads o y

    ties : List ℕ
    ties = at_least s (least_break s ls) ls

    tied : (z : ℕ) → In (one_of o ties z)
    tied z = those-has _ (one_of o ties z).picked ls (one_has o ties z (ties-some s ls h))

-- ---- the literals of a clause

pub has-below : (n c : ℕ) (xs : List ℕ) → has c xs ≡ true → all (λ l. ltb l n) xs ≡ true → c < n
has-below n c xs h a = ltb-true c n (all-has (λ l. ltb l n) xs c h a)
