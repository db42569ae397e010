-- The words of a start: terms held one after another have the values that a start gives. Assumes nothing.
use mathlib.Core.Path.{◌≡◌, refl, ap, sym, ◌∙◌}
use mathlib.Core.Bool.{false, cond}
use mathlib.Core.List.{List}
use Prim.Native.Nat.{ℕ, zero, suc, ◌+◌, ◌-◌, ◌≤◌, ◌<◌}
use native.Mathlib.Numerals.{add-one}
use native.Mathlib.Omega.{arith}
use lib.ListN.{length, get_or}
use lib.Seq.{ext_get_or}
use lib.Dec.{eqb}
use borrow.Author.Tests.{eqb-true, eqb-false}
use Rattle.words.specs.Words.{bit_at, hold_at}
use Rattle.written.specs.Lists.{padded}
use Rattle.written.specs.Flips.{turned}
use Rattle.written.specs.Tables.{words_of, over}
use Rattle.written.specs.Marks.{held_at, held}
use Rattle.laws.specs.Valid.{Bits}
use Rattle.laws.proofs.Basics.{by_cases, by-eq}
use Rattle.laws.proofs.Turning.{bit_at_lem, turned-length, turned-bits, turned_same, turned-other}
use Rattle.laws.proofs.Values.{turn-over}
use Rattle.laws.proofs.Marks.{held-length, held_get}
use Rattle.machine.proofs.Begins.{over-begins, words-hold}
use Rattle.walking_steps.specs.Stepping.{held_in}

-- ---- of values

-- the values with that of the term t held
abbrev hold_one : ℕ → ℕ → List ℕ → List ℕ
hold_one t m vs = cond (eqb m 0) vs (cond (eqb (get_or vs t 0) (cond (eqb m 1) 0 1)) vs (turned t vs))

-- and those of the first k terms
abbrev holds_to : List ℕ → ℕ → List ℕ → List ℕ
holds_to ms zero vs = vs
holds_to ms (suc k) vs = hold_one k (get_or ms k 0) (holds_to ms k vs)

-- what holds of the values as they are and turned
by-hold : (P : List ℕ → Type 0) (t m : ℕ) (vs : List ℕ) → P vs → P (turned t vs) → P (hold_one t m vs)
by-hold P t m vs same other =
    by_cases (eqb m 0) (λ q. rw q same) (λ q. rw q (by_cases (eqb (get_or vs t 0) (cond (eqb m 1) 0 1)) (λ r. rw r same) (λ r. rw r other)))

one-length : (t m : ℕ) (vs : List ℕ) → length (hold_one t m vs) ≡ length vs
one-length t m vs = by-hold (λ us. length us ≡ length vs) t m vs refl (turned-length t vs)

one-bits : (t m : ℕ) (vs : List ℕ) → Bits vs → Bits (hold_one t m vs)
one-bits t m vs b = by-hold Bits t m vs b (turned-bits t vs b)

one-other : (t m : ℕ) (vs : List ℕ) (k : ℕ) → (k ≡ t → ⊥) → get_or (hold_one t m vs) k 0 ≡ get_or vs k 0
one-other t m vs k d = by-hold (λ us. get_or us k 0 ≡ get_or vs k 0) t m vs refl (turned-other t k vs d)

one_same : (t m : ℕ) (vs : List ℕ) → Bits vs → t < length vs → get_or (hold_one t m vs) t 0 ≡ held_at m (get_or vs t 0)
unfolding held_at
one_same t m vs b l =
    by_cases (eqb m 0) (λ q. rw q refl)
    (λ q. rw q
    (by_cases (eqb (get_or vs t 0) (cond (eqb m 1) 0 1)) (λ r. rw r (eqb-true _ _ r))
    (λ r. rw r (turned_same t vs l ∙ other r))))
  where
    other : eqb (get_or vs t 0) (cond (eqb m 1) 0 1) ≡ false → 1 - get_or vs t 0 ≡ cond (eqb m 1) 0 1
    other r =
        let d = eqb-false (get_or vs t 0) _ r in
        let small = bit_at_lem vs t b in
        by_cases (eqb m 1) (λ e. let n : get_or vs t 0 ≡ 0 → ⊥ = rw e at d in rw e (omega arith)) (λ e. let n : get_or vs t 0 ≡ 1 → ⊥ = rw e at d in rw e (omega arith))

to-length : (ms : List ℕ) (k : ℕ) (vs : List ℕ) → length (holds_to ms k vs) ≡ length vs
to-length ms zero vs = refl
to-length ms (suc k) vs = one-length k (get_or ms k 0) (holds_to ms k vs) ∙ to-length ms k vs

to_bits : (ms : List ℕ) (k : ℕ) (vs : List ℕ) → Bits vs → Bits (holds_to ms k vs)
to_bits ms zero vs b = b
to_bits ms (suc k) vs b = one-bits k (get_or ms k 0) (holds_to ms k vs) (to_bits ms k vs b)

-- a term from k on is as it was
to-rest : (ms : List ℕ) (k : ℕ) (vs : List ℕ) (t : ℕ) → k ≤ t → get_or (holds_to ms k vs) t 0 ≡ get_or vs t 0
to-rest ms zero vs t l = refl
to-rest ms (suc k) vs t l = one-other k (get_or ms k 0) (holds_to ms k vs) t (λ e. omega arith) ∙ to-rest ms k vs t (omega arith)

to_held : (ms : List ℕ) (k : ℕ) (vs : List ℕ) (t : ℕ) → Bits vs → t < k → t < length vs → get_or (holds_to ms k vs) t 0 ≡ held_at (get_or ms t 0) (get_or vs t 0)
to_held ms zero vs t b l s = absurd (omega arith)
to_held ms (suc k) vs t b l s =
    by-eq t k
    (λ e. rw e
    (one_same k (get_or ms k 0) (holds_to ms k vs) (to_bits ms k vs b) (omega (arith, e, to-length ms k vs)) ∙ ap (held_at (get_or ms k 0)) (to-rest ms k vs k (omega arith))))
    (λ d. one-other k (get_or ms k 0) (holds_to ms k vs) t d ∙ to_held ms k vs t b (omega arith) s)

-- all of them
pub all_held : (ms vs : List ℕ) → Bits vs → holds_to ms (length vs) vs ≡ held ms vs
all_held ms vs b =
    ext_get_or 0 (holds_to ms (length vs) vs) (held ms vs) (to-length ms (length vs) vs ∙ sym (held-length ms vs))
    (λ t l. let s : t < length vs = omega (arith, to-length ms (length vs) vs) in to_held ms (length vs) vs t b s s ∙ sym (held_get ms vs t s))

-- ---- of words

-- words that begin with values
module _ (n : ℕ) (old : List ℕ) where
  abbrev laid : List ℕ → List ℕ
  laid vs = over (padded n (words_of vs)) old

  hold-over : (vs : List ℕ) (t m : ℕ) → Bits vs → t < length vs → hold_at (laid vs) t m ≡ laid (hold_one t m vs)
  unfolding hold_at
  hold-over vs t m b l =
      let bit : bit_at (laid vs) t ≡ get_or vs t 0 = (words-hold vs b (over-begins n (words_of vs) old)).values t l in
      by_cases (eqb m 0) (λ q. rw q refl)
      (λ q. rw (q, bit) (by_cases (eqb (get_or vs t 0) (cond (eqb m 1) 0 1)) (λ r. rw r refl) (λ r. rw r (turn-over n vs old t b l))))

  holds-over : (ms vs : List ℕ) (k : ℕ) → Bits vs → k ≤ length vs → held_in ms k (laid vs) ≡ laid (holds_to ms k vs)
  unfolding held_in
  holds-over ms vs zero b l = refl
  holds-over ms vs (suc k) b l =
      ap (λ (ws : List ℕ). hold_at ws k (get_or ms k 0)) (holds-over ms vs k b (omega arith))
      ∙ hold-over (holds_to ms k vs) k (get_or ms k 0) (to_bits ms k vs b) (omega (arith, to-length ms k vs))

  pub held-over : (ms vs : List ℕ) → Bits vs → held_in ms (length vs) (laid vs) ≡ laid (held ms vs)
  held-over ms vs b = holds-over ms vs (length vs) b (omega arith) ∙ ap laid (all_held ms vs b)

-- ---- one after another

module _ (ms : List ℕ) (n : ℕ) (ws : List ℕ) where
  -- the first t of n terms are held
  pub record Holding (t : ℕ) (now : List ℕ) : Type 0 where
    pub upto : t ≤ n
    pub done : now ≡ held_in ms t ws
    pub as_many : length now ≡ length ws

  pub hold-begun : Holding 0 ws
  unfolding held_in
  hold-begun = record { upto = omega arith; done = refl; as_many = refl }

  pub hold-more : (t : ℕ) (now next : List ℕ) → Holding t now → t < n → next ≡ hold_at now t (get_or ms t 0) → length next ≡ length now → Holding (t + 1) next
  unfolding held_in
  hold-more t now next h l e s =
      rw (add-one t) (record { upto = omega arith; done = e ∙ ap (λ (us : List ℕ). hold_at us t (get_or ms t 0)) h.done; as_many = s ∙ h.as_many })

  pub hold-done : (t : ℕ) (now : List ℕ) → Holding t now → n ≤ t → now ≡ held_in ms n ws
  hold-done t now h l = let e : t ≡ n = omega (arith, h.upto, l) in h.done ∙ ap (λ (k : ℕ). held_in ms k ws) e
