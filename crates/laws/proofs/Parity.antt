-- The values after a flip list, by how often it names each term. Assumes nothing.
use Prim.Native.Nat.{ℕ, ◌+◌, ◌-◌, ◌%◌, ◌<◌}
use mathlib.Core.Path.{◌≡◌, refl, ap, sym, ◌∙◌}
use mathlib.Core.Bool.{cond}
use mathlib.Core.List.{List, [], ◌∷◌, ◌++◌}
use native.Mathlib.Omega.{arith}
use lib.ListN.{length, get_or}
use lib.Seq.{ext_get_or}
use lib.Dec.{eqb}
use Rattle.written.specs.Lists.{times, steps}
use Rattle.written.specs.Clauses.{State}
use Rattle.written.specs.Flips.{turned, flip, flipped}
use Rattle.laws.specs.Valid.{Bits}
use Rattle.laws.proofs.Sums.{total_append}
use Rattle.laws.proofs.Turning.{bit_at_lem, turns-length, turns-count}
use Rattle.laws.proofs.Flips.{flips-joined}

-- a flip list turns the values one after another
pub flipped-values : (ts : List ℕ) (s : State) → (flipped ts s).values ≡ steps turned ts s.values
unfolding flipped flip
flipped-values [] s = refl
flipped-values (t ∷ ts) s = flipped-values ts (flip t s)

pub flipped-length : (ts : List ℕ) (s : State) → length (flipped ts s).values ≡ length s.values
flipped-length ts s = ap length (flipped-values ts s) ∙ turns-length ts s.values

module _ (s : State) (bits : Bits s.values) where
  -- each value counts how often its term was named
  pub flipped-value : (ts : List ℕ) (t : ℕ) → t < length s.values → get_or (flipped ts s).values t 0 ≡ (get_or s.values t 0 + times t ts) % 2
  flipped-value ts t l = rw (flipped-values ts s) (turns-count ts s.values t (bit_at_lem s.values t bits) l)

  -- named an odd number of times, a term has turned; named an even number of times, it has not
  pub odd-turned : (ts : List ℕ) (t : ℕ) → t < length s.values → times t ts % 2 ≡ 1 → get_or (flipped ts s).values t 0 ≡ 1 - get_or s.values t 0
  odd-turned ts t l h = let e = flipped-value ts t l in let b = bit_at_lem s.values t bits in omega arith

  pub even-kept : (ts : List ℕ) (t : ℕ) → t < length s.values → times t ts % 2 ≡ 0 → get_or (flipped ts s).values t 0 ≡ get_or s.values t 0
  even-kept ts t l h = let e = flipped-value ts t l in let b = bit_at_lem s.values t bits in omega arith

  -- two lists that name each term equally often, up to a multiple of 2, leave the same values
  pub same_parity : (ts us : List ℕ) → ((t : ℕ) → t < length s.values → times t ts % 2 ≡ times t us % 2) → (flipped ts s).values ≡ (flipped us s).values
  same_parity ts us h =
      let n = flipped-length ts s in
      let m = flipped-length us s in
      ext_get_or 0 (flipped ts s).values (flipped us s).values (n ∙ sym m)
      (λ t l.
      let k : t < length s.values = omega arith in
      let a = flipped-value ts t k in
      let b = flipped-value us t k in
      let c = h t k in
      omega arith)

  -- a list given twice brings the values back
  pub twice-back : (ts : List ℕ) → (flipped ts (flipped ts s)).values ≡ s.values
  unfolding flipped
  twice-back ts =
      ap (λ (e : State). e.values) (sym (flips-joined ts ts s))
      ∙ same_parity (ts ++ ts) [] (λ t l. let e = total_append (λ u. cond (eqb t u) 1 0) ts ts in omega arith)
