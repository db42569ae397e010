-- The values after turns: a term has turned exactly if it was named an odd number of times. Assumes nothing.
use Prim.Native.Nat.{ℕ, zero, suc, ◌+◌, ◌-◌, ◌%◌, ◌<◌}
use mathlib.Core.Path.{◌≡◌, refl, ◌∙◌}
use mathlib.Core.List.{List, [], ◌∷◌}
use native.Mathlib.Omega.{arith}
use lib.ListN.{length, get_or, length-set}
use lib.Seq.{get_or-set_same, get_or-set_other}
use lib.Dec.{eqb, ltb}
use borrow.Author.Tests.{ltb-true, lt-ltb, eqb-true, eqb-false}
use Rattle.written.specs.Lists.{all, times, steps}
use Rattle.written.specs.Flips.{turned}
use Rattle.laws.specs.Valid.{Bits}
use Rattle.laws.proofs.Basics.{by_cases, both_first, both-second, one_if_lem, none_if}
use Rattle.laws.proofs.All.{all_set}

-- every value of a list of bits is 0 or 1
pub bit_at_lem : (vs : List ℕ) (t : ℕ) → Bits vs → get_or vs t 0 < 2
bit_at_lem [] t h = omega arith
bit_at_lem (v ∷ vs) zero h = ltb-true v 2 (both_first (ltb v 2) (all (λ x. ltb x 2) vs) h)
bit_at_lem (v ∷ vs) (suc t) h = bit_at_lem vs t (both-second (ltb v 2) (all (λ x. ltb x 2) vs) h)

-- ---- one turn

pub turned-length : (t : ℕ) (vs : List ℕ) → length (turned t vs) ≡ length vs
unfolding turned
turned-length t vs = length-set vs t (1 - get_or vs t 0)

pub turned-bits : (t : ℕ) (vs : List ℕ) → Bits vs → Bits (turned t vs)
unfolding turned
turned-bits t vs h = all_set (λ v. ltb v 2) vs t (1 - get_or vs t 0) h (lt-ltb (1 - get_or vs t 0) 2 (omega arith))

-- the term's value turns, every other stays
pub turned_same : (t : ℕ) (vs : List ℕ) → t < length vs → get_or (turned t vs) t 0 ≡ 1 - get_or vs t 0
unfolding turned
turned_same t vs h = get_or-set_same vs t (1 - get_or vs t 0) 0 h

pub turned-other : (t k : ℕ) (vs : List ℕ) → (k ≡ t → ⊥) → get_or (turned t vs) k 0 ≡ get_or vs k 0
unfolding turned
turned-other t k vs h = get_or-set_other vs t k (1 - get_or vs t 0) 0 h

-- ---- many turns

pub turns-length : (ts vs : List ℕ) → length (steps turned ts vs) ≡ length vs
turns-length [] vs = refl
turns-length (t ∷ ts) vs = turns-length ts (turned t vs) ∙ turned-length t vs

-- a value after turns counts how often its term was named
pub turns-count : (ts vs : List ℕ) (t : ℕ) → get_or vs t 0 < 2 → t < length vs → get_or (steps turned ts vs) t 0 ≡ (get_or vs t 0 + times t ts) % 2
turns-count [] vs t b l = omega arith
turns-count (u ∷ us) vs t b l =
    by_cases (eqb t u)
    (λ e.
    let q = eqb-true t u e in
    let n = one_if_lem (eqb t u) e in
    let w : get_or (turned u vs) t 0 ≡ 1 - get_or vs t 0 = rw (← q) (turned_same t vs l) in
    let i = turns-count us (turned u vs) t (omega arith) (rw (turned-length u vs) l) in
    omega arith)
    (λ e.
    let n = none_if (eqb t u) e in
    let w = turned-other u t vs (eqb-false t u e) in
    let i = turns-count us (turned u vs) t (omega arith) (rw (turned-length u vs) l) in
    omega arith)
