-- What marks give and keep: values held, the literals of free terms, marks that go with values, and tables with marks that are full and agree. Assumes nothing.
use Prim.Native.Nat.{ℕ, ◌-◌, ◌*◌, ◌≤◌, ◌<◌}
use mathlib.Core.Path.{◌≡◌, refl, sym, ap, ◌∙◌}
use mathlib.Core.Bool.{true, false, ◌&&◌}
use mathlib.Core.List.{List, [], ◌∷◌}
use native.Mathlib.Omega.{arith}
use lib.ListN.{length, get_or, take, drop, length-replicate, get_or-replicate}
use lib.Seq.{get_or-take}
use lib.Dec.{eqb, leb, ltb}
use borrow.Author.Tests.{eq-eqb, eqb-true, lt-ltb, ltb-true, le-leb, leb-true}
use Rattle.written.specs.declared.Counts.{Counts}
use Rattle.written.specs.Lists.{all, zeros}
use Rattle.written.specs.Limits.{Limits}
use Rattle.written.specs.Clauses.{State, term_of}
use Rattle.written.specs.Flips.{turned, flip, flipped}
use Rattle.written.specs.Tables.{Tables, are_full, counts_of}
use Rattle.written.specs.Agreement.{state_in, agree}
use Rattle.written.specs.Marks.{is_free, free_in, held_at, held, marks_full, full_marked, unmarked, marks_hold, marks_rest, agree_marked}
use Rattle.laws.specs.Valid.{Bits}
use Rattle.laws.specs.Calls.{Marked}
use Rattle.laws.proofs.Basics.{by_cases, by-eq, by_test, both, both_first, both-second}
use Rattle.laws.proofs.Lists.{list_from-length, get_or-list_of, list_of-is, over-length}
use Rattle.laws.proofs.All.{all-below, below_all, all-by, all-zeros}
use Rattle.laws.proofs.Padding.{over-take, over-drop, over_by, drop-zeros}
use Rattle.laws.proofs.Turning.{bit_at_lem, turned-length, turned-other}

-- ---- a term that is free

pub free-mark : (ms : List ℕ) (t : ℕ) → is_free ms t ≡ true → get_or ms t 0 ≡ 0
unfolding is_free
free-mark ms t h = eqb-true (get_or ms t 0) 0 h

pub mark-free : (ms : List ℕ) (t : ℕ) → get_or ms t 0 ≡ 0 → is_free ms t ≡ true
unfolding is_free
mark-free ms t h = eq-eqb (get_or ms t 0) 0 h

-- without marks every term is
pub all-free : (ls : List ℕ) → free_in [] ls ≡ ls
unfolding free_in is_free
all-free [] = refl
all-free (l ∷ ls) = ap (λ (ks : List ℕ). l ∷ ks) (all-free ls)

-- ---- the values that a start gives

pub held-length : (ms vs : List ℕ) → length (held ms vs) ≡ length vs
unfolding held
held-length ms vs = list_from-length 0 (length vs) _

pub held_get : (ms vs : List ℕ) (t : ℕ) → t < length vs → get_or (held ms vs) t 0 ≡ held_at (get_or ms t 0) (get_or vs t 0)
unfolding held
held_get ms vs t l = get_or-list_of (length vs) t (λ k. held_at (get_or ms k 0) (get_or vs k 0)) 0 l

-- a mark gives 0 or 1, and the bit that was drawn is one
held_bit : (m v : ℕ) → v < 2 → held_at m v < 2
unfolding held_at
held_bit m v l = by_test (λ x. x < 2) (eqb m 0) (λ _. l) (λ _. by_test (λ x. x < 2) (eqb m 1) (λ _. omega arith) (λ _. omega arith))

pub held-bits : (ms vs : List ℕ) → Bits vs → Bits (held ms vs)
held-bits ms vs b =
    all-by (λ v. ltb v 2) (held ms vs) 0
    (λ t l. let known = held-length ms vs in
    rw (held_get ms vs t (omega arith)) (lt-ltb _ 2 (held_bit (get_or ms t 0) (get_or vs t 0) (bit_at_lem vs t b))))

-- held once, held twice
held-again : (m v : ℕ) → held_at m v ≡ held_at m (held_at m v)
unfolding held_at
held-again m v = by_cases (eqb m 0) (λ q. rw q refl) (λ q. rw q refl)

-- a free term keeps its value
held-free : (m v : ℕ) → m ≡ 0 → v ≡ held_at m v
unfolding held_at
held-free m v e = rw (eq-eqb m 0 e) refl

-- ---- marks that go with values, term by term

pub record HoldsAt (ms vs : List ℕ) (t : ℕ) : Type 0 where
  pub small : get_or ms t 0 ≤ 2
  pub value : get_or vs t 0 ≡ held_at (get_or ms t 0) (get_or vs t 0)

pub holds_at : (ms vs : List ℕ) → marks_hold ms vs ≡ true → (t : ℕ) → t < length vs → HoldsAt ms vs t
unfolding marks_hold
holds_at ms vs h t l =
    let one = all-below (λ k. leb (get_or ms k 0) 2 && eqb (get_or vs k 0) (held_at (get_or ms k 0) (get_or vs k 0))) (length vs) t l h in
    record {
      small = leb-true (get_or ms t 0) 2 (both_first (leb (get_or ms t 0) 2) _ one);
      value = eqb-true (get_or vs t 0) _ (both-second (leb (get_or ms t 0) 2) _ one);
    }

pub at-holds : (ms vs : List ℕ) → ((t : ℕ) → t < length vs → HoldsAt ms vs t) → marks_hold ms vs ≡ true
unfolding marks_hold
at-holds ms vs h =
    below_all (λ k. leb (get_or ms k 0) 2 && eqb (get_or vs k 0) (held_at (get_or ms k 0) (get_or vs k 0))) (length vs)
    (λ t l. both (leb (get_or ms t 0) 2) _ (le-leb (get_or ms t 0) 2 (h t l).small) (eq-eqb (get_or vs t 0) _ (h t l).value))

-- what a start gives
pub held-holds : (ms vs : List ℕ) → ((t : ℕ) → t < length vs → get_or ms t 0 ≤ 2) → marks_hold ms (held ms vs) ≡ true
held-holds ms vs small =
    at-holds ms (held ms vs)
    (λ t l. let known : t < length vs = omega (arith, held-length ms vs) in
    record { small = small t known; value = rw (held_get ms vs t known) (held-again (get_or ms t 0) (get_or vs t 0)) })

-- a free term may turn
pub turn_holds : (ms vs : List ℕ) (k : ℕ) → is_free ms k ≡ true → marks_hold ms vs ≡ true → marks_hold ms (turned k vs) ≡ true
turn_holds ms vs k free h =
    at-holds ms (turned k vs)
    (λ t l. let was = holds_at ms vs h t (omega (arith, turned-length k vs)) in
    by-eq t k (λ e. let none : get_or ms t 0 ≡ 0 = rw e (free-mark ms k free) in record { small = was.small; value = held-free (get_or ms t 0) _ none })
    (λ d. record { small = was.small; value = rw (turned-other k t vs d) was.value }))

pub flips-hold : (ms ts : List ℕ) (s : State) → all (is_free ms) ts ≡ true → marks_hold ms s.values ≡ true → marks_hold ms (flipped ts s).values ≡ true
unfolding flipped flip
flips-hold ms [] s free h = h
flips-hold ms (t ∷ ts) s free h =
    flips-hold ms ts (flip t s) (both-second (is_free ms t) (all (is_free ms) ts) free)
    (turn_holds ms s.values t (both_first (is_free ms t) (all (is_free ms) ts) free) h)

-- where no term of the values is marked
pub free-holds : (ms vs : List ℕ) → ((t : ℕ) → t < length vs → get_or ms t 0 ≡ 0) → marks_hold ms vs ≡ true
free-holds ms vs none = at-holds ms vs (λ t l. record { small = omega (arith, none t l); value = held-free (get_or ms t 0) _ (none t l) })

-- ---- two lists of marks that say the same of n terms

module _ (ms ns : List ℕ) (n : ℕ) (same : (t : ℕ) → t < n → get_or ms t 0 ≡ get_or ns t 0) where
  pub held_by : (vs : List ℕ) → length vs ≤ n → held ms vs ≡ held ns vs
  unfolding held
  held_by vs few =
      list_of-is (length vs) (λ t. held_at (get_or ms t 0) (get_or vs t 0)) (held ns vs) 0 (held-length ns vs)
      (λ t l. rw (held_get ns vs t l) (ap (λ m. held_at m (get_or vs t 0)) (same t (omega arith))))

  free_as : (t : ℕ) → t < n → is_free ms t ≡ is_free ns t
  unfolding is_free
  free_as t l = ap (λ m. eqb m 0) (same t l)

  pub free-by : (ls : List ℕ) → all (λ l. ltb l (2 * n)) ls ≡ true → free_in ms ls ≡ free_in ns ls
  unfolding free_in term_of
  free-by [] h = refl
  free-by (l ∷ ls) h =
      let known = ltb-true l (2 * n) (both_first (ltb l (2 * n)) (all (λ k. ltb k (2 * n)) ls) h) in
      let rest = free-by ls (both-second (ltb l (2 * n)) (all (λ k. ltb k (2 * n)) ls) h) in
      rw (free_as (term_of l) (omega arith), rest) refl

  pub holds_by : (vs : List ℕ) → length vs ≤ n → marks_hold ms vs ≡ true → marks_hold ns vs ≡ true
  holds_by vs few h =
      at-holds ns vs
      (λ t l. let was = holds_at ms vs h t l in
      let e = same t (omega arith) in
      record { small = omega (arith, was.small); value = was.value ∙ ap (λ m. held_at m (get_or vs t 0)) e })

-- ---- marks cleared

module _ (lim : Limits) (ms : List ℕ) where
  pub unmarked-take : take lim.terms (unmarked lim ms) ≡ zeros lim.terms
  unfolding unmarked
  unmarked-take = over-take (zeros lim.terms) ms lim.terms (length-replicate lim.terms 0)

  pub unmarked-drop : drop lim.terms (unmarked lim ms) ≡ drop lim.terms ms
  unfolding unmarked
  unmarked-drop = over-drop (zeros lim.terms) ms lim.terms (length-replicate lim.terms 0)

  pub unmarked-full : marks_full lim ms ≡ true → marks_full lim (unmarked lim ms) ≡ true
  unfolding marks_full unmarked
  unmarked-full h =
      let many = leb-true lim.terms (length ms) h in
      let none : length (zeros lim.terms) ≡ lim.terms = length-replicate lim.terms 0 in
      le-leb lim.terms _ (omega (arith, over-length (zeros lim.terms) ms (omega arith)))

  pub unmarked-rest : (n : Counts) → marks_rest lim n (unmarked lim ms) ≡ true
  unfolding marks_rest
  unmarked-rest n = rw (unmarked-take, drop-zeros n.terms lim.terms) (all-zeros (λ m. eqb m 0) refl (lim.terms - n.terms))

  pub unmarked_get : (t : ℕ) → t < lim.terms → get_or (unmarked lim ms) t 0 ≡ 0
  unmarked_get t l = sym (get_or-take lim.terms (unmarked lim ms) t 0 l) ∙ ap (λ (xs : List ℕ). get_or xs t 0) unmarked-take ∙ get_or-replicate lim.terms t 0 0 l

  pub unmarked-by : (ns : List ℕ) → drop lim.terms ms ≡ drop lim.terms ns → unmarked lim ms ≡ unmarked lim ns
  unfolding unmarked
  unmarked-by ns same = over_by (zeros lim.terms) ms ns lim.terms (length-replicate lim.terms 0) same

  pub unmarked-marked : (s : State) → length s.values ≤ lim.terms → marks_full lim ms ≡ true → Marked lim s (unmarked lim ms)
  unmarked-marked s few full =
      record {
        full = unmarked-full full;
        hold = free-holds (unmarked lim ms) s.values (λ t l. unmarked_get t (omega arith));
        rest = unmarked-rest (counts_of s);
      }

-- the rest goes by the number of terms
pub rest-by : (lim : Limits) (n m : Counts) (ms : List ℕ) → n.terms ≡ m.terms → marks_rest lim n ms ≡ true → marks_rest lim m ms ≡ true
unfolding marks_rest
rest-by lim n m ms e h = ap (λ k. all (λ x. eqb x 0) (drop k (take lim.terms ms))) (sym e) ∙ h

-- ---- tables and marks together

module _ (lim : Limits) (t : Tables) (ms : List ℕ) where
  pub full-tables : full_marked lim t ms ≡ true → are_full lim t ≡ true
  unfolding full_marked
  full-tables h = both_first (are_full lim t) (marks_full lim ms) h

  pub full-marks : full_marked lim t ms ≡ true → marks_full lim ms ≡ true
  unfolding full_marked
  full-marks h = both-second (are_full lim t) (marks_full lim ms) h

  pub full-both : are_full lim t ≡ true → marks_full lim ms ≡ true → full_marked lim t ms ≡ true
  unfolding full_marked
  full-both a b = both (are_full lim t) (marks_full lim ms) a b

  module _ (n : Counts) where
    pub agree-tables : agree_marked lim n t ms ≡ true → agree lim n t ≡ true
    unfolding agree_marked
    agree-tables h = both_first (agree lim n t) (marks_hold ms (state_in n t).values) (both_first _ (marks_rest lim n ms) h)

    pub agree-hold : agree_marked lim n t ms ≡ true → marks_hold ms (state_in n t).values ≡ true
    unfolding agree_marked
    agree-hold h = both-second (agree lim n t) (marks_hold ms (state_in n t).values) (both_first _ (marks_rest lim n ms) h)

    pub agree-rest : agree_marked lim n t ms ≡ true → marks_rest lim n ms ≡ true
    unfolding agree_marked
    agree-rest h = both-second (agree lim n t && marks_hold ms (state_in n t).values) (marks_rest lim n ms) h

    pub agree-all : agree lim n t ≡ true → marks_hold ms (state_in n t).values ≡ true → marks_rest lim n ms ≡ true → agree_marked lim n t ms ≡ true
    unfolding agree_marked
    agree-all a b c = both (agree lim n t && marks_hold ms (state_in n t).values) (marks_rest lim n ms) (both (agree lim n t) _ a b) c

    pub tables-disagree : agree lim n t ≡ false → agree_marked lim n t ms ≡ false
    unfolding agree_marked
    tables-disagree h = rw h refl
