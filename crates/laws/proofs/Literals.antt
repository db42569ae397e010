-- Terms and their literals, and what a turned term does to these and to the clauses in which they stand. Assumes nothing.
use Prim.Native.Nat.{ℕ, ◌+◌, ◌-◌, ◌*◌, ◌%◌, ◌≤◌, ◌<◌}
use mathlib.Core.Path.{◌≡◌, refl, ap, sym, ◌∙◌}
use mathlib.Core.Bool.{Bool, true, false, not, false≢true}
use mathlib.Core.List.{List, [], ◌∷◌, map}
use native.Mathlib.Omega.{arith}
use lib.ListN.{length, get_or}
use lib.Dec.{eqb}
use borrow.Author.Tests.{eqb-true, eqb-false, ne_eqb, eq-eqb}
use Rattle.written.specs.Lists.{total, has, place_of, differ}
use Rattle.written.specs.Clauses.{literal_of, term_of, value_of, true_count, is_uncovered}
use Rattle.written.specs.Flips.{turned, false_literal, true_literal}
use Rattle.laws.proofs.Basics.{by_cases, by-eq, neither-first, neither-second}
use Rattle.laws.proofs.Sums.{total-has}
use Rattle.laws.proofs.Membership.{differ-first, differ-rest, place_of-lt, place_of-get_or, differ-apart}
use Rattle.laws.proofs.Turning.{turned_same, turned-other}

-- ---- terms and their literals

pub term-of-literal : (k : ℕ) (b : Bool) → term_of (literal_of k b) ≡ k
unfolding term_of literal_of
term-of-literal k true = omega arith
term-of-literal k false = omega arith

pub literal-below : (k n : ℕ) (b : Bool) → k < n → literal_of k b < 2 * n
unfolding literal_of
literal-below k n true h = omega arith
literal-below k n false h = omega arith

-- a literal that is neither of a term's two is not the term's
pub other-term : (k x : ℕ) (b : Bool) → (literal_of k b ≡ x → ⊥) → (literal_of k (not b) ≡ x → ⊥) → k ≡ term_of x → ⊥
unfolding term_of literal_of
other-term k x true n m e = omega arith
other-term k x false n m e = omega arith

pub value-le : (vs : List ℕ) (l : ℕ) → value_of vs l ≤ 1
unfolding value_of
value-le vs l = omega arith

-- a line that has neither of a term's two literals has not the term
pub new_term : (k : ℕ) (b : Bool) (ls : List ℕ) → has (literal_of k b) ls ≡ false → has (literal_of k (not b)) ls ≡ false → has k (map term_of ls) ≡ false
new_term k b [] h g = refl
new_term k b (l ∷ ls) h g =
    let one = literal_of k b in
    let two = literal_of k (not b) in
    let not-one = eqb-false one l (neither-first (eqb one l) (has one ls) h) in
    let not-two = eqb-false two l (neither-first (eqb two l) (has two ls) g) in
    let rest = new_term k b ls (neither-second (eqb one l) (has one ls) h) (neither-second (eqb two l) (has two ls) g) in
    rw (ne_eqb k (term_of l) (other-term k l b not-one not-two), rest)

-- ---- the two literals of a term, by its value

-- the literal of term t that is false, and the one that is true
pub false-is : (vs : List ℕ) (t : ℕ) → get_or vs t 0 < 2 → false_literal vs t ≡ 2 * t + get_or vs t 0
unfolding false_literal literal_of
false-is vs t b =
    by_cases (eqb (get_or vs t 0) 1)
    (λ e. let q = eqb-true (get_or vs t 0) 1 e in rw e omega arith)
    (λ e. let q = eqb-false (get_or vs t 0) 1 e in rw e omega arith)

pub true-is : (vs : List ℕ) (t : ℕ) → get_or vs t 0 < 2 → true_literal vs t ≡ 2 * t + (1 - get_or vs t 0)
unfolding true_literal literal_of
true-is vs t b =
    by_cases (eqb (get_or vs t 0) 0)
    (λ e. let q = eqb-true (get_or vs t 0) 0 e in rw e omega arith)
    (λ e. let q = eqb-false (get_or vs t 0) 0 e in rw e omega arith)

-- a literal of another term keeps its value as t turns
pub value-other : (vs : List ℕ) (t l : ℕ) → (term_of l ≡ t → ⊥) → value_of (turned t vs) l ≡ value_of vs l
unfolding value_of
value-other vs t l h = ap (λ (v : ℕ). (v + l % 2) % 2) (turned-other t (term_of l) vs h)

-- the term of each of the two
pub false-term : (vs : List ℕ) (t : ℕ) → get_or vs t 0 < 2 → term_of (false_literal vs t) ≡ t
unfolding term_of
false-term vs t b = let e = false-is vs t b in omega arith

pub true-term : (vs : List ℕ) (t : ℕ) → get_or vs t 0 < 2 → term_of (true_literal vs t) ≡ t
unfolding term_of
true-term vs t b = let e = true-is vs t b in omega arith

pub false_below : (vs : List ℕ) (t n : ℕ) → t < n → false_literal vs t < 2 * n
unfolding false_literal
false_below vs t n h = literal-below t n _ h

pub true_below : (vs : List ℕ) (t n : ℕ) → t < n → true_literal vs t < 2 * n
unfolding true_literal
true_below vs t n h = literal-below t n _ h

-- a literal of t, by the value of t
value-at : (vs : List ℕ) (t l : ℕ) → term_of l ≡ t → value_of vs l ≡ (get_or vs t 0 + l % 2) % 2
unfolding value_of
value-at vs t l e = ap (λ (k : ℕ). (get_or vs k 0 + l % 2) % 2) e

-- and as t turns
value-turned : (vs : List ℕ) (t l : ℕ) → get_or vs t 0 < 2 → t < length vs → term_of l ≡ t → value_of (turned t vs) l ≡ 1 - value_of vs l
value-turned vs t l b h e =
    let v = value-at vs t l e in
    let w = value-at (turned t vs) t l e in
    let s = turned_same t vs h in
    omega arith

-- the true literal is true and the false one false, and the other way round as t turns
module _ (vs : List ℕ) (t : ℕ) (b : get_or vs t 0 < 2) where
  pub true-before : value_of vs (true_literal vs t) ≡ 1
  true-before = let e = true-is vs t b in let v = value-at vs t (true_literal vs t) (true-term vs t b) in omega arith

  pub false-before : value_of vs (false_literal vs t) ≡ 0
  false-before = let e = false-is vs t b in let v = value-at vs t (false_literal vs t) (false-term vs t b) in omega arith

  pub true-after : t < length vs → value_of (turned t vs) (true_literal vs t) ≡ 0
  true-after l = value-turned vs t (true_literal vs t) b l (true-term vs t b) ∙ ap (λ (k : ℕ). 1 - k) true-before

  pub false-after : t < length vs → value_of (turned t vs) (false_literal vs t) ≡ 1
  false-after l = value-turned vs t (false_literal vs t) b l (false-term vs t b) ∙ ap (λ (k : ℕ). 1 - k) false-before

-- ---- clauses

-- a clause in which a true literal stands is covered
has-total : (h : ℕ → ℕ) (l : ℕ) (ls : List ℕ) → has l ls ≡ true → h l ≤ total h ls
has-total h l ls e = rw (place_of-get_or l ls 0 e) at (total-has h ls (place_of l ls) 0 (place_of-lt l ls e))

pub covered-by : (vs : List ℕ) (l : ℕ) (ls : List ℕ) → value_of vs l ≡ 1 → has l ls ≡ true → is_uncovered vs ls ≡ false
unfolding is_uncovered true_count
covered-by vs l ls v e = ne_eqb (total (value_of vs) ls) 0 (λ q. let k = has-total (value_of vs) l ls e in omega arith)

-- and one that has true literals has one
pub some-true : (vs ls : List ℕ) → 0 < true_count vs ls → (l : ℕ) × (has l ls ≡ true) × (value_of vs l ≡ 1)
unfolding true_count
some-true vs [] h = absurd (omega arith)
some-true vs (l ∷ ls) h =
    by-eq (value_of vs l) 1 (λ e. (l, rw (eq-eqb l l refl), e))
    (λ n.
    let r = some-true vs ls (omega (arith, value-le vs l)) in
    (r.0, by_cases (eqb r.0 l) (λ q. rw q) (λ q. rw q r.1), r.2))

-- a clause in which neither literal of t stands is without t
pub without : (vs : List ℕ) (t : ℕ) (ls : List ℕ) → get_or vs t 0 < 2 → has (false_literal vs t) ls ≡ false → has (true_literal vs t) ls ≡ false
    → has t (map term_of ls) ≡ false
unfolding false_literal true_literal
without vs t ls b f g =
    by_cases (eqb (get_or vs t 0) 1)
    (λ e. new_term t true ls (rw e at f) (rw (ne_eqb (get_or vs t 0) 0 (λ q. let r = eqb-true (get_or vs t 0) 1 e in omega arith)) at g))
    (λ e. new_term t false ls (rw e at f) (rw (eq-eqb (get_or vs t 0) 0 (let r = eqb-false (get_or vs t 0) 1 e in omega arith)) at g))

-- literals valued in two ways, b and a, that differ at those of t alone
module _ (a b : ℕ → ℕ) (t : ℕ) (off : (l : ℕ) → (term_of l ≡ t → ⊥) → b l ≡ a l) where
  -- a clause without t has as many true ones
  pub total_kept : (ls : List ℕ) → has t (map term_of ls) ≡ false → total b ls ≡ total a ls
  total_kept [] h = refl
  total_kept (l ∷ ls) h =
      let n = eqb-false t (term_of l) (neither-first (eqb t (term_of l)) (has t (map term_of ls)) h) in
      omega (arith, off l (λ q. n (sym q)), total_kept ls (neither-second (eqb t (term_of l)) (has t (map term_of ls)) h))

  -- and one with a literal m of t changes as that one does
  pub total-changed : (m : ℕ) (ls : List ℕ) → term_of m ≡ t → differ (map term_of ls) ≡ true → has m ls ≡ true → total b ls + a m ≡ total a ls + b m
  total-changed m [] e d h = absurd (false≢true h)
  total-changed m (l ∷ ls) e d h =
      by_cases (eqb m l)
      (λ q.
      let k = eqb-true m l q in
      omega (arith, ap a k, ap b k, total_kept ls (rw (sym e ∙ ap term_of k) (differ-first (term_of l) (map term_of ls) d))))
      (λ q.
      let k = rw q at h in
      omega (
        arith,
        off l (λ r. differ-apart term_of l ls m d k (e ∙ sym r)),
        total-changed m ls e (differ-rest (term_of l) (map term_of ls) d) k,
      ))

-- so it stays uncovered, or covered, as t turns
pub uncovered-kept : (vs : List ℕ) (t : ℕ) (ls : List ℕ) → get_or vs t 0 < 2 → has (false_literal vs t) ls ≡ false → has (true_literal vs t) ls ≡ false
    → is_uncovered (turned t vs) ls ≡ is_uncovered vs ls
unfolding is_uncovered true_count
uncovered-kept vs t ls b f g =
    ap (λ (n : ℕ). eqb n 0) (total_kept (value_of vs) (value_of (turned t vs)) t (value-other vs t) ls (without vs t ls b f g))
