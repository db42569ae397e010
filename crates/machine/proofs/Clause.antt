-- The true literals of a clause, counted, and their terms, xored: as one literal becomes true, and where none or one is. Assumes nothing.
use mathlib.Core.Path.{◌≡◌, refl, ap, ◌∙◌, sym}
use mathlib.Core.Bool.{true, false, false≢true}
use mathlib.Core.List.{List, [], ◌∷◌, map}
use Prim.Native.Nat.{ℕ, suc, ◌*◌, ◌≤◌, ◌<◌}
use native.Mathlib.Omega.{arith}
use lib.ListN.{length, get_or}
use lib.Dec.{eqb, ltb}
use lib.Bits.{bit_xor, xor_comm, xor_zero_r}
use borrow.Author.Tests.{eqb-false, eq-eqb, ne_eqb, ltb-true}
use Rattle.words.proofs.Laws.{xor_twice}
use Rattle.written.specs.Lists.{total, all, has, differ}
use Rattle.written.specs.Clauses.{term_of}
use Rattle.laws.proofs.Basics.{by-eq, both_first, both-second, neither-first, neither-second}
use Rattle.laws.proofs.Membership.{differ-first, differ-rest, differ-apart}
use Rattle.laws.proofs.Literals.{total-changed}
use Rattle.machine.specs.Literals.{term_if, xor_true}
use Rattle.machine.proofs.Xor.{xor_assoc}

-- two readings of the literals that agree place by place
pub xor_by : (a b : ℕ → ℕ) (ls : List ℕ) → ((k : ℕ) → k < length ls → a (get_or ls k 0) ≡ b (get_or ls k 0)) → xor_true a ls ≡ xor_true b ls
unfolding xor_true term_if
xor_by a b [] h = refl
xor_by a b (l ∷ ls) h = rw (h 0 (omega arith), xor_by a b ls (λ k l. h (suc k) (omega arith)))

-- ---- a literal that becomes true

-- a and b are the literals' values: they differ at term v alone, of which literal x is 0 by a and 1 by b
pub record Turn (a b : ℕ → ℕ) (x v : ℕ) : Type 0 where
  pub off : (m : ℕ) → (term_of m ≡ v → ⊥) → b m ≡ a m
  pub before : a x ≡ 0
  pub after : b x ≡ 1
  pub term : term_of x ≡ v

module _ {a b : ℕ → ℕ} {x v : ℕ} (tn : Turn a b x v) where
  -- a clause without the term keeps its xor
  pub same_xor : (ls : List ℕ) → has v (map term_of ls) ≡ false → xor_true b ls ≡ xor_true a ls
  unfolding xor_true term_if
  same_xor [] h = refl
  same_xor (l ∷ ls) h =
      let n = eqb-false v (term_of l) (neither-first (eqb v (term_of l)) (has v (map term_of ls)) h) in
      rw (tn.off l (λ q. n (sym q)), same_xor ls (neither-second (eqb v (term_of l)) (has v (map term_of ls)) h))

  -- one in which x stands has one true literal more
  pub more : (ls : List ℕ) → differ (map term_of ls) ≡ true → has x ls ≡ true → total b ls ≡ suc (total a ls)
  more ls d h = omega (arith, total-changed a b v tn.off x ls tn.term d h, tn.before, tn.after)

  -- and the term is xored in
  pub more_xor : (ls : List ℕ) → differ (map term_of ls) ≡ true → has x ls ≡ true → xor_true b ls ≡ bit_xor (xor_true a ls) v
  unfolding xor_true term_if
  more_xor [] d h = absurd (false≢true h)
  more_xor (l ∷ ls) d h =
      by-eq x l
      (λ e.
      let q : term_of l ≡ v = ap term_of (sym e) ∙ tn.term in
      let rest = same_xor ls (rw (← q) (differ-first (term_of l) (map term_of ls) d)) in
      rw (← e, tn.after, tn.before, tn.term, rest) (xor_comm v (xor_true a ls)))
      (λ e.
      let r : has x ls ≡ true = rw (ne_eqb x l e) at h in
      let same = tn.off l (λ q. differ-apart term_of l ls x d r (tn.term ∙ sym q)) in
      rw (same, more_xor ls (differ-rest (term_of l) (map term_of ls) d) r) (sym (xor_assoc (term_if a l) (xor_true a ls) v)))

  -- which the same takes out again
  pub less_xor : (ls : List ℕ) → differ (map term_of ls) ≡ true → has x ls ≡ true → bit_xor (xor_true b ls) v ≡ xor_true a ls
  less_xor ls d h = rw (more_xor ls d h) (xor_twice (xor_true a ls) v)

-- ---- no true literal, and one

pub xor_none : (a : ℕ → ℕ) (ls : List ℕ) → total a ls ≡ 0 → xor_true a ls ≡ 0
unfolding xor_true term_if
xor_none a [] z = refl
xor_none a (l ∷ ls) z = let n : a l ≡ 1 → ⊥ = λ q. omega arith in rw (ne_eqb (a l) 1 n) (xor_none a ls (omega arith))

module _ (a : ℕ → ℕ) (le : (l : ℕ) → a l ≤ 1) (l : ℕ) (ls : List ℕ) (one : total a (l ∷ ls) ≡ 1) where
  pub one-here : a l ≡ 1 → xor_true a (l ∷ ls) ≡ term_of l
  unfolding xor_true term_if
  one-here e = rw (eq-eqb (a l) 1 e, xor_none a ls (omega arith)) (xor_zero_r (term_of l))

  pub one-past : (a l ≡ 1 → ⊥) → xor_true a (l ∷ ls) ≡ xor_true a ls
  unfolding xor_true term_if
  one-past e = rw (ne_eqb (a l) 1 e)

  pub one-rest : (a l ≡ 1 → ⊥) → total a ls ≡ 1
  one-rest e = omega (arith, le l)

-- the term of the only true literal is one of the terms
pub one-low : (a : ℕ → ℕ) (le : (l : ℕ) → a l ≤ 1) (T : ℕ) (ls : List ℕ) → all (λ l. ltb l (2 * T)) ls ≡ true → total a ls ≡ 1 → xor_true a ls < T
unfolding term_of
one-low a le T [] h one = absurd (omega arith)
one-low a le T (l ∷ ls) h one =
    let low = ltb-true l (2 * T) (both_first (ltb l (2 * T)) (all (λ k. ltb k (2 * T)) ls) h) in
    by-eq (a l) 1
    (λ e. rw (one-here a le l ls one e) (omega arith))
    (λ e. rw (one-past a le l ls one e) (one-low a le T ls (both-second (ltb l (2 * T)) (all (λ k. ltb k (2 * T)) ls) h) (one-rest a le l ls one e)))
