-- Gaps and comment lines passed one after another. Assumes nothing.
use Prim.Native.Nat.{ℕ, zero, suc, ◌+◌, ◌-◌, ◌≤◌, ◌<◌}
use mathlib.Core.Path.{◌≡◌, refl, ap, sym, ◌∙◌}
use mathlib.Core.Bool.{Bool, true, false, cond}
use mathlib.Core.List.{List, ◌∷◌}
use native.Mathlib.Omega.{arith}
use native.Mathlib.Numerals.{add-one}
use borrow.Author.Tests.{eq-eqb, ne_eqb}
use lib.ListN.{length, get_or, take, drop, get_or-eq_default}
use lib.Seq.{drop-cons}
use lib.Dec.{eqb}
use Rattle.scan.specs.Scan.{past, rest_at, start, is_of, cursor_at}
use Rattle.scan.specs.declared.Kind.TheVariants.{Rest}
use Rattle.scan.proofs.Laws.{past_more, past_stop, past_end, past_ge, past-le}
use Rattle.written.specs.Lists.{times}
use Rattle.written.specs.Numerals.{is_gap, past_comments, past_gaps}

-- ---- a gap, byte by byte

one_at_most : (b : Bool) → cond b 1 0 ≤ 1
one_at_most true = omega arith
one_at_most false = omega arith

module _ (t : List ℕ) (at line : ℕ) where
  gap_more : at < length t → is_gap (get_or t at 0) ≡ true
      → past_gaps t (cursor_at (at + 1) (line + cond (eqb 10 (get_or t at 0)) 1 0)) ≡ past_gaps t (cursor_at at line)
  unfolding past_gaps
  gap_more h e =
      let b = get_or t at 0 in
      let p = past_more is_gap t at h e in
      let n : past is_gap t at - at ≡ suc (past is_gap t at - suc at) = omega (arith, p, past_ge is_gap t (at + 1)) in
      let cut : take (past is_gap t at - at) (drop at t) ≡ (b ∷ take (past is_gap t at - suc at) (drop (suc at) t)) =
      ap (λ (xs : List ℕ). take (past is_gap t at - at) xs) (drop-cons t at 0 h) ∙ ap (λ (k : ℕ). take k (b ∷ drop (suc at) t)) n in
      let more : take (past is_gap t (at + 1) - (at + 1)) (drop (at + 1) t) ≡ take (past is_gap t at - suc at) (drop (suc at) t) =
      rw (p, add-one at) refl in
      let lines : (line + cond (eqb 10 b) 1 0) + times 10 (take (past is_gap t (at + 1) - (at + 1)) (drop (at + 1) t)) ≡ line + times 10 (take (past is_gap t at - at) (drop at t)) =
      omega (arith, ap (times 10) cut, ap (times 10) more) in
      (λ i. cursor_at (p i) (lines i))

  -- the line after it, which is the next at most
  pub gap-on : at < length t → is_gap (get_or t at 0) ≡ true → {next : ℕ} → next ≡ line + cond (eqb 10 (get_or t at 0)) 1 0
      → (past_gaps t (cursor_at (at + 1) next) ≡ past_gaps t (cursor_at at line)) × (next + (length t - (at + 1)) ≤ line + (length t - at))
  gap-on h e q = (
    ap (λ (n : ℕ). past_gaps t (cursor_at (at + 1) n)) q ∙ gap_more h e,
    omega (arith, q, one_at_most (eqb 10 (get_or t at 0))),
  )

  -- it ends
  at-end : past is_gap t at ≡ at → cursor_at at line ≡ past_gaps t (cursor_at at line)
  unfolding past_gaps
  at-end e =
      let none : past is_gap t at - at ≡ 0 = omega (arith, e) in
      let lines : line ≡ line + times 10 (take (past is_gap t at - at) (drop at t)) = rw none (omega arith) in
      (λ i. cursor_at (sym e i) (lines i))

  pub gap-stop : at < length t → is_gap (get_or t at 0) ≡ false → cursor_at at line ≡ past_gaps t (cursor_at at line)
  gap-stop h e = at-end (past_stop is_gap t at h e)

  pub gap-end : length t ≤ at → cursor_at at line ≡ past_gaps t (cursor_at at line)
  gap-end h = at-end (past_end is_gap t at h)

-- ---- comment lines, one after another

-- where the lines passed so far lead is where all lead; the line is counted by the bytes passed
pub record Passing (t : List ℕ) (at line : ℕ) : Type 0 where
  pub turns : ℕ
  pub enough : length t ≤ at + turns
  pub rest : past_comments turns t (cursor_at at line) ≡ past_comments (length t) t start
  pub low : line ≤ at + 1
  pub near : at ≤ length t + 1

module _ (t : List ℕ) where
  pub none_passed : Passing t 0 1
  none_passed = record { turns = length t; enough = omega arith; rest = refl; low = omega arith; near = omega arith }

  turn-over : (k at line : ℕ) → eqb (get_or t at 0) 99 ≡ true
      → past_comments (suc k) t (cursor_at at line) ≡ past_comments k t (cursor_at (rest_at t at + 1) (line + 1))
  unfolding past_comments
  turn-over k at line e = rw (e, add-one (rest_at t at), add-one line) refl

  turn-stays : (k at line : ℕ) → eqb (get_or t at 0) 99 ≡ false → past_comments k t (cursor_at at line) ≡ cursor_at at line
  unfolding past_comments
  turn-stays zero at line e = refl
  turn-stays (suc k) at line e = rw e refl

  module _ (at line : ℕ) (p : Passing t at line) where
    -- a comment line more
    pub one_more : at < length t → get_or t at 0 ≡ 99 → {e : ℕ} → e ≡ rest_at t at → Passing t (e + 1) (line + 1)
    one_more h c {e} q =
        let far : at ≤ rest_at t at = past_ge (is_of Rest) t at in
        let few : rest_at t at ≤ length t = past-le (is_of Rest) t at (omega arith) in
        by-turns p.turns p.rest p.enough
      where
        by-turns : (k : ℕ) → past_comments k t (cursor_at at line) ≡ past_comments (length t) t start → length t ≤ at + k → Passing t (e + 1) (line + 1)
        by-turns zero r enough = absurd (omega arith)
        by-turns (suc k) r enough =
            record {
              turns = k;
              enough = omega (arith, q, past_ge (is_of Rest) t at);
              rest = ap (λ (j : ℕ). past_comments k t (cursor_at (j + 1) (line + 1))) q ∙ sym (turn-over k at line (eq-eqb _ 99 c)) ∙ r;
              low = omega (arith, q, p.low, past_ge (is_of Rest) t at);
              near = omega (arith, q, past-le (is_of Rest) t at (omega arith));
            }

    -- none
    pub no_more : (get_or t at 0 ≡ 99 → ⊥) → cursor_at at line ≡ past_comments (length t) t start
    no_more c = sym (turn-stays p.turns at line (ne_eqb _ 99 c)) ∙ p.rest

    pub at-text-end : length t ≤ at → cursor_at at line ≡ past_comments (length t) t start
    at-text-end h = no_more (λ e. omega (arith, get_or-eq_default t 0 {n = at} h))
