-- `numerals::sizes_at` meets its contract: each way out by the tests that lead there. Assumes nothing.
-- the second number begins within the text, and so it ends
use Prim.Native.Nat.{ℕ, ◌≤◌}
use mathlib.Core.Path.{◌≡◌}
use mathlib.Core.List.{List}
use native.Mathlib.Omega.{arith}
use lib.ListN.{length}
use Rattle.scan.specs.Scan.{past}
use Rattle.written.specs.Numerals.{is_blank, word_end}
use Rattle.numerals.proofs.Headers.{word-from, word-within, blank-within, sizes-none, first-none, no_blank, second_none, text-ends, more-after, says_both}
use mathlib.Core.Path.{refl, sym, ◌∙◌}
use Rattle.numerals.proofs.sizes_at.Goals as goal

second-within : (t : List ℕ) (v : ℕ) {e c d : ℕ} → e ≡ word_end t v → c ≡ past is_blank t e → d ≡ word_end t c → v ≤ length t → d ≤ length t
second-within t v {e} {c} q p o h = word-within t c o (blank-within t e p (word-within t v q h))

pub returns-then-text-v : goal.returns-then-text-v
returns-then-text-v c = sizes-none _ _ c.if-text-v.true

pub slice_bounds-is_number-count : goal.slice_bounds-is_number-count
slice_bounds-is_number-count c = word-from _ _ c.skip-variables_end.ensures

pub slice_bounds-is_number-start : goal.slice_bounds-is_number-start
slice_bounds-is_number-start c = word-from _ _ c.skip-variables_end.ensures

pub slice_bounds-is_number-end : goal.slice_bounds-is_number-end
slice_bounds-is_number-end c = word-within _ _ c.skip-variables_end.ensures (omega (arith, c.if-text-v.false))

pub returns-then-not-is_number : goal.returns-then-not-is_number
returns-then-not-is_number c = first-none _ _ c.skip-variables_end.ensures (sym c.is_number.ensures ∙ c.if-not-is_number.true)

pub returns-in_err-c : goal.returns-in_err-c
returns-in_err-c c =
    rw c.from_residual.ensures
    (no_blank _ _ c.skip-variables_end.ensures (sym c.is_number.ensures ∙ c.if-not-is_number.false) refl c.in_err-c.ensures)

pub slice_bounds-is_number-count-2 : goal.slice_bounds-is_number-count-2
slice_bounds-is_number-count-2 c = word-from _ _ c.skip-end.ensures

pub slice_bounds-is_number-start-2 : goal.slice_bounds-is_number-start-2
slice_bounds-is_number-start-2 c = word-from _ _ c.skip-end.ensures

pub slice_bounds-is_number-end-2 : goal.slice_bounds-is_number-end-2
slice_bounds-is_number-end-2 c = second-within _ _ c.skip-variables_end.ensures c.in_ok-c.ensures.0 c.skip-end.ensures (omega (arith, c.if-text-v.false))

pub returns-then-not-is_number-2 : goal.returns-then-not-is_number-2
returns-then-not-is_number-2 c =
    second_none _ _ c.skip-variables_end.ensures (sym c.is_number.ensures ∙ c.if-not-is_number.false) c.in_ok-c.ensures.0 c.in_ok-c.ensures.1
    c.skip-end.ensures (sym c.is_number-2.ensures ∙ c.if-not-is_number-2.true)

pub returns-then-text-end : goal.returns-then-text-end
returns-then-text-end c =
    text-ends _ _ c.skip-variables_end.ensures (sym c.is_number.ensures ∙ c.if-not-is_number.false) c.in_ok-c.ensures.0 c.in_ok-c.ensures.1
    c.skip-end.ensures (sym c.is_number-2.ensures ∙ c.if-not-is_number-2.false) c.if-text-end.true

pub returns-then-text-end-ne10 : goal.returns-then-text-end-ne10
returns-then-text-end-ne10 c =
    more-after _ _ c.skip-variables_end.ensures (sym c.is_number.ensures ∙ c.if-not-is_number.false) c.in_ok-c.ensures.0 c.in_ok-c.ensures.1
    c.skip-end.ensures (sym c.is_number-2.ensures ∙ c.if-not-is_number-2.false) c.if-text-end-ne10.true

pub slice_bounds-value-count : goal.slice_bounds-value-count
slice_bounds-value-count c = word-from _ _ c.skip-variables_end.ensures

pub slice_bounds-value-start : goal.slice_bounds-value-start
slice_bounds-value-start c = word-from _ _ c.skip-variables_end.ensures

pub slice_bounds-value-count-2 : goal.slice_bounds-value-count-2
slice_bounds-value-count-2 c = word-from _ _ c.skip-end.ensures

pub slice_bounds-value-start-2 : goal.slice_bounds-value-start-2
slice_bounds-value-start-2 c = word-from _ _ c.skip-end.ensures

pub returns : goal.returns
returns c =
    says_both _ _ c.skip-variables_end.ensures (sym c.is_number.ensures ∙ c.if-not-is_number.false) c.in_ok-c.ensures.0 c.in_ok-c.ensures.1
    c.skip-end.ensures (sym c.is_number-2.ensures ∙ c.if-not-is_number-2.false) c.if-text-end-ne10.false c.value.ensures c.value-2.ensures
