-- How each clause stands, by its count of true literals and the xor of their terms, and the break counts that this gives. Assumes nothing.
use mathlib.Core.Path.{◌≡◌, ◌∙◌, sym}
use mathlib.Core.Bool.{cond}
use mathlib.Core.List.{List}
use Prim.Native.Nat.{ℕ, ◌+◌, ◌-◌, ◌≤◌, ◌<◌}
use native.Mathlib.Omega.{arith}
use lib.ListN.{length, get_or, set, length-set}
use lib.Seq.{get_or-set_same, get_or-set_other}
use lib.Dec.{eqb}
use borrow.Author.Tests.{eq-eqb, ne_eqb}
use Rattle.written.specs.Lists.{total}
use Rattle.laws.proofs.Basics.{by_cases, by-eq, by_test, one-most}
use Rattle.laws.proofs.Sums.{total-has, total-set}
use Rattle.machine.specs.Literals.{xor_true}
use Rattle.machine.specs.Tallies.{raised, lowered}

-- a clause's count of true literals, and the xor of their terms
pub record Standing : Type 0 where
  pub count : ℕ
  pub xored : ℕ

abbrev pub fresh : Standing
fresh = record { count = 0; xored = 0 }

unfoldable pub status : (ℕ → ℕ) → List ℕ → Standing
status val ls = record { count = total val ls; xored = xor_true val ls }

-- 1 if term w's literal is the only true one, else 0
unfoldable pub critical : ℕ → Standing → ℕ
critical w s = cond (eqb s.count 1) (cond (eqb s.xored w) 1 0) 0

-- 1 if no literal is true, else 0
unfoldable pub bare : Standing → ℕ
bare s = cond (eqb s.count 0) 1 0

module _ (w : ℕ) (s : Standing) where
  pub critical-on : s.count ≡ 1 → s.xored ≡ w → critical w s ≡ 1
  unfolding critical
  critical-on e h = rw (eq-eqb _ _ e, eq-eqb _ _ h)

  pub critical-off : (s.count ≡ 1 → ⊥) → critical w s ≡ 0
  unfolding critical
  critical-off e = rw (ne_eqb _ _ e)

  pub critical-other : (s.xored ≡ w → ⊥) → critical w s ≡ 0
  unfolding critical
  critical-other h = by_cases (eqb s.count 1) (λ e. rw (e, ne_eqb _ _ h)) (λ e. rw e)

  pub critical-le : critical w s ≤ 1
  unfolding critical
  critical-le = by_test (λ (n : ℕ). n ≤ 1) (eqb s.count 1) (λ e. one-most (eqb s.xored w)) (λ e. omega arith)

module _ (s : Standing) where
  pub bare-on : s.count ≡ 0 → bare s ≡ 1
  unfolding bare
  bare-on e = rw (eq-eqb _ _ e)

  pub bare-off : (s.count ≡ 0 → ⊥) → bare s ≡ 0
  unfolding bare
  bare-off e = rw (ne_eqb _ _ e)

  pub bare-le : bare s ≤ 1
  unfolding bare
  bare-le = one-most (eqb s.count 0)

-- bs holds, for each term below T, the number of clauses that it alone makes true
pub record Breaks (T : ℕ) (sts : List Standing) (bs : List ℕ) : Type 0 where
  pub room : T ≤ length bs
  pub all : (w : ℕ) → w < T → get_or bs w 0 ≡ total (critical w) sts

module _ (T : ℕ) (sts : List Standing) (bs : List ℕ) (h : Breaks T sts bs) (c : ℕ) (l : c < length sts) (s : Standing) where
  abbrev old : Standing
  old = get_or sts c fresh

  step : (w : ℕ) → total (critical w) (set sts c s) + critical w old ≡ total (critical w) sts + critical w s
  step w = total-set (critical w) sts c s fresh l

  pub breaks-keep : (old.count ≡ 1 → ⊥) → (s.count ≡ 1 → ⊥) → Breaks T (set sts c s) bs
  breaks-keep o n =
      record {
        room = h.room;
        all = λ w lw. let e₁ = step w in let e₂ = critical-off w old o in let e₃ = critical-off w s n in let e₄ = h.all w lw in omega arith;
      }

  -- one entry changes as its term's part in the clause does
  breaks-set : (v y : ℕ) → v < T → y + critical v old ≡ get_or bs v 0 + critical v s → ((w : ℕ) → (w ≡ v → ⊥) → critical w old ≡ critical w s)
      → Breaks T (set sts c s) (set bs v y)
  breaks-set v y lv here other =
      record {
        room = simp length-set h.room;
        all = λ w lw.
            by-eq w v
            (λ e. rw (e, get_or-set_same bs v y 0 (omega (arith, h.room))) (omega (arith, step v, h.all v lv)))
            (λ e. rw (get_or-set_other bs v w y 0 e) (omega (arith, step w, h.all w lw, other w e)));
      }

  pub breaks-raise : (v : ℕ) → v < T → (old.count ≡ 1 → ⊥) → s.count ≡ 1 → s.xored ≡ v → Breaks T (set sts c s) (raised bs v)
  unfolding raised
  breaks-raise v lv o n b =
      breaks-set v (get_or bs v 0 + 1) lv (omega (arith, critical-off v old o, critical-on v s n b))
      (λ w e. critical-off w old o ∙ sym (critical-other w s (λ q. e (sym q ∙ b))))

  pub breaks-lower : (v : ℕ) → v < T → old.count ≡ 1 → old.xored ≡ v → (s.count ≡ 1 → ⊥) → Breaks T (set sts c s) (lowered bs v)
  unfolding lowered
  breaks-lower v lv o b n =
      let some = total-has (critical v) sts c fresh l in
      breaks-set v (get_or bs v 0 - 1) lv (omega (arith, critical-on v old o b, critical-off v s n, h.all v lv))
      (λ w e. critical-other w old (λ q. e (sym q ∙ b)) ∙ sym (critical-off w s n))
