-- `numerals::header_at` meets its contract: each way out by the tests that lead there. Assumes nothing.
-- cnf begins within the text
use Prim.Native.Nat.{ℕ, ◌+◌, ◌≤◌, ◌<◌}
use mathlib.Core.Path.{◌≡◌}
use mathlib.Core.List.{List}
use native.Mathlib.Omega.{arith}
use lib.ListN.{length}
use Rattle.scan.specs.Scan.{past}
use Rattle.written.specs.Numerals.{is_blank}
use Rattle.numerals.proofs.Headers.{blank-within, no_line, no_p, no_blank-after-p, no_cnf, no_blank-after-cnf, keys_stand}
use mathlib.Core.Path.{refl, sym, ◌∙◌}
use Rattle.numerals.proofs.header_at.Goals as goal

within : (t : List ℕ) (at : ℕ) {k : ℕ} → k ≡ past is_blank t (at + 1) → at < length t → k ≤ length t
within t at q h = blank-within t (at + 1) q (omega arith)

pub returns-then-text-at : goal.returns-then-text-at
returns-then-text-at c = no_line _ _ c.if-text-at.true

pub returns-then-not-begins : goal.returns-then-not-begins
returns-then-not-begins c = no_p _ _ (sym c.begins.ensures ∙ c.if-not-begins.true)

pub returns-in_err-k : goal.returns-in_err-k
returns-in_err-k c = rw c.from_residual.ensures (no_blank-after-p _ _ (sym c.begins.ensures ∙ c.if-not-begins.false) refl c.in_err-k.ensures)

pub slice_bounds-begins-count-2 : goal.slice_bounds-begins-count-2
slice_bounds-begins-count-2 c = within _ _ c.in_ok-k.ensures.0 c.if-text-at.false

pub slice_bounds-begins-start-2 : goal.slice_bounds-begins-start-2
slice_bounds-begins-start-2 c = within _ _ c.in_ok-k.ensures.0 c.if-text-at.false

pub returns-then-not-begins-2 : goal.returns-then-not-begins-2
returns-then-not-begins-2 c =
    no_cnf _ _ (sym c.begins.ensures ∙ c.if-not-begins.false) c.in_ok-k.ensures.0 c.in_ok-k.ensures.1 (sym c.begins-2.ensures ∙ c.if-not-begins-2.true)

pub returns-in_err-v : goal.returns-in_err-v
returns-in_err-v c =
    rw c.from_residual-in_err-v.ensures (no_blank-after-cnf _ _ (sym c.begins.ensures ∙ c.if-not-begins.false) c.in_ok-k.ensures.0 c.in_ok-k.ensures.1
    (sym c.begins-2.ensures ∙ c.if-not-begins-2.false) refl c.in_err-v.ensures)

pub returns : goal.returns
returns c =
    keys_stand _ _ (sym c.begins.ensures ∙ c.if-not-begins.false) c.in_ok-k.ensures.0 c.in_ok-k.ensures.1
    (sym c.begins-2.ensures ∙ c.if-not-begins-2.false) c.in_ok-v.ensures.0 c.in_ok-v.ensures.1 c.sizes_at.ensures
