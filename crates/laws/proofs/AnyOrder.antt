-- Demand 3: what a flip list leaves depends only on how often it names each term, but for the order of the uncovered list. Assumes nothing.
use Prim.Native.Nat.{ℕ, ◌%◌}
use mathlib.Core.Path.{◌≡◌, refl, ap, ap₂, sym, ◌∙◌}
use mathlib.Core.Bool.{true}
use mathlib.Core.List.{List}
use lib.ListN.{length}
use lib.Dec.{ltb}
use Rattle.written.specs.Lists.{all, times}
use Rattle.written.specs.Limits.{Limits}
use Rattle.written.specs.Clauses.{File, State, uncovered_in, afresh}
use Rattle.written.specs.Flips.{flipped}
use Rattle.laws.specs.Valid.{Valid, Listed}
use Rattle.laws.specs.Demands.{SameButOrder, AfterFlips}
use Rattle.laws.proofs.Times.{reordered-length, reordered-all}
use Rattle.laws.proofs.Flips.{flipped-file}
use Rattle.laws.proofs.Parity.{odd-turned, even-kept, same_parity, twice-back}
use Rattle.laws.proofs.Kept.{flipped-valid}

-- two states on one file at the same values, where both list the uncovered, are the same but for the order
pub same_but_order : (a b : State) → a.file ≡ b.file → a.values ≡ b.values → Listed a → Listed b → SameButOrder a b
same_but_order a b f v la lb =
    record {
      file = f;
      values = v;
      uncovered = same;
      uncovered-count = reordered-length a.uncovered b.uncovered same;
    }
  where
    same : (c : ℕ) → times c a.uncovered ≡ times c b.uncovered
    same c = la.same-times c ∙ ap₂ (λ (vs : List ℕ) (g : File). times c (uncovered_in vs g.clauses)) v f ∙ sym (lb.same-times c)

-- the uncovered worked out afresh are listed
pub afresh-listed : (f : File) (vs : List ℕ) → Listed (afresh f vs)
unfolding afresh
afresh-listed f vs = record { same-times = λ c. refl }

pub demand_three : (lim : Limits) (ts : List ℕ) (s : State) → Valid lim s → all (λ t. ltb t (length s.file.names)) ts ≡ true → AfterFlips ts s
unfolding afresh
demand_three lim ts s v h =
    record {
      odd = λ t l. odd-turned s v.bits ts t (rw v.one_each l);
      even = λ t l. even-kept s v.bits ts t (rw v.one_each l);
      worked_out = same_but_order (flipped ts s) (afresh s.file (flipped ts s).values) (flipped-file ts s) refl
          (flipped-valid lim ts s v h).listed
          (afresh-listed s.file (flipped ts s).values);
      any_order = λ us k.
          same_but_order (flipped ts s) (flipped us s) (flipped-file ts s ∙ sym (flipped-file us s))
          (same_parity s v.bits ts us (λ t l. ap (λ (n : ℕ). n % 2) (k t)))
          (flipped-valid lim ts s v h).listed
          (flipped-valid lim us s v (reordered-all ts us k (λ t. ltb t (length s.file.names)) h)).listed;
    }

-- a list given twice leaves what stood, but for the order
pub twice_same : (lim : Limits) (ts : List ℕ) (s : State) → Valid lim s → all (λ t. ltb t (length s.file.names)) ts ≡ true
    → SameButOrder (flipped ts (flipped ts s)) s
twice_same lim ts s v h =
    same_but_order (flipped ts (flipped ts s)) s (flipped-file ts (flipped ts s) ∙ flipped-file ts s) (twice-back s v.bits ts)
    (flipped-valid lim ts (flipped ts s) (flipped-valid lim ts s v h) (rw (flipped-file ts s) h)).listed
    v.listed
