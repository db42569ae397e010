-- Counts summed: the starts of runs as long as the counts say. Assumes nothing.
use mathlib.Core.Path.{◌≡◌, refl, ap, ◌∙◌, sym}
use mathlib.Core.List.{List, []}
use Prim.Native.Nat.{ℕ, zero, suc, ◌+◌, ◌<◌, ◌≤◌}
use native.Mathlib.Numerals.{add-one}
use native.Mathlib.Omega.{arith}
use lib.ListN.{length, get_or, set, take}
use Rattle.written.specs.Lists.{total}
use Rattle.written.specs.Tables.{starts_from, over}
use Rattle.laws.proofs.Lists.{list_of-is}
use Rattle.laws.proofs.Sums.{total-next, total-take}
use Rattle.laws.proofs.Parts.{starts-length, starts-at, starts_first, starts-step, starts-last}
use Rattle.machine.specs.Lent.{Begins}
use Rattle.machine.specs.Cuts.{Cuts}
use Rattle.machine.specs.Passes.{rewritten}
use Rattle.machine.specs.Filling.{summed, CanSum}
use Rattle.machine.proofs.Rewritten.{rewritten-more}
use Rattle.machine.proofs.Cleared.{rewritten-over}
use Rattle.machine.proofs.Begins.{begins-length, begins-at}

-- ---- the loop: l counts are summed

module _ (ns : List ℕ) (l : ℕ) {at : ℕ} (e : at ≡ total (λ x. x) (take l ns)) where
  pub sum_more : l < length ns → at + get_or ns l 0 ≡ total (λ x. x) (take (l + 1) ns)
  sum_more h = rw (e, add-one) (sym (total-next (λ x. x) ns l 0 h))

  pub sum_fits : (top n : ℕ) (os : List ℕ) → CanSum top n ns os → l < n → at + get_or ns l 0 < top
  sum_fits top n os c h = omega (arith, sum_more (omega (arith, c.counts)), total-take (λ x. x) ns (l + 1) n (omega arith), c.fits)

  module _ (os₀ os : List ℕ) (f : os ≡ rewritten (λ k p. total (λ x. x) (take k ns)) l os₀) where
    pub start-more : set os l at ≡ rewritten (λ k p. total (λ x. x) (take k ns)) (l + 1) os₀
    start-more = rewritten-more _ l os₀ os (set os l at) f (ap (set os l) e)

    pub start-last : (n : ℕ) → l ≤ n → n ≤ l → set os n at ≡ summed n ns os₀
    unfolding summed
    start-last n a b = let q : n ≡ l = omega arith in rw q start-more

-- ---- counts that say how long parts are

module _ (ps : List (List ℕ)) (n : ℕ) (size : length ps ≡ n) where
  module _ (ns : List ℕ) (h : n ≤ length ns) (e : (k : ℕ) → k < n → get_or ns k 0 ≡ length (get_or ps k [])) where
    pub sums_same : (k : ℕ) → k ≤ n → total (λ x. x) (take k ns) ≡ total length (take k ps)
    sums_same zero l = refl
    sums_same (suc k) l =
        omega (arith, sums_same k (omega arith), total-next (λ x. x) ns k 0 (omega arith), total-next length ps k [] (omega arith), e k (omega arith))

    pub summed-starts : (os : List ℕ) → n < length os → summed n ns os ≡ over (starts_from 0 ps) os
    unfolding summed
    summed-starts os r =
        rewritten-over (λ k. total (λ x. x) (take k ns)) (n + 1) os (omega arith)
        ∙ ap (λ (t : List ℕ). over t os)
        (list_of-is (n + 1) (λ k. total (λ x. x) (take k ns)) (starts_from 0 ps) 0 (omega (arith, starts-length 0 ps))
        (λ k l. let a = sums_same k (omega arith) in let b = starts-at 0 ps k (omega arith) in omega arith))

  -- the starts of parts cut them, each as long as it is
  module _ {ss : List ℕ} (b : Begins (starts_from 0 ps) ss) where
    pub start-step : (k : ℕ) → k < n → get_or ss (k + 1) 0 ≡ get_or ss k 0 + length (get_or ps k [])
    start-step k l =
        let m = starts-length 0 ps in
        omega (arith, begins-at b k (omega arith), begins-at b (k + 1) (omega arith), starts-step 0 ps k (omega arith))

    pub starts-cut : Cuts n (total length ps) ss
    starts-cut =
        let m = starts-length 0 ps in
        let z = starts-last 0 ps in
        record {
          first = begins-at b 0 (omega arith) ∙ starts_first 0 ps;
          rise = λ k l. omega (arith, start-step k l);
          last = rw (← size) (omega (arith, begins-at b (length ps) (omega arith)));
          size = omega (arith, begins-length b);
        }
