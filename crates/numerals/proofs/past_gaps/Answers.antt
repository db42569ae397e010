-- `numerals::past_gaps` meets its contract: what is left of the gaps leads where all do. Assumes nothing.
-- a line is counted for each byte at most
use mathlib.Core.Path.{◌≡◌, ap, ◌∙◌}
use native.Mathlib.Omega.{arith}
use lib.ListN.{length}
use Rattle.scan.specs.Scan.{cursor_at}
use Rattle.numerals.proofs.Gaps.{gap-on, gap-stop, gap-end}
use mathlib.Core.Path.{sym}
use Rattle.numerals.proofs.past_gaps.Goals as goal

pub returns-then-not-is_gap : goal.returns-then-not-is_gap
returns-then-not-is_gap c =
    let pre = c.requires in
    gap-stop _ _ _ c.loop-at-test.true (sym c.is_gap.ensures ∙ c.if-not-is_gap.true) ∙ c.loop-at.invariant.0
    ∙ (gap-on _ _ _ pre.place.inside pre.gap c.line_past-line.ensures).0

pub loop-at-preserved : goal.loop-at-preserved
loop-at-preserved c =
    let inv = c.loop-at.invariant in
    let on =
    gap-on c.args.text.now c.loop-at.at c.loop-at.line c.loop-at-test.true (sym c.is_gap.ensures ∙ c.if-not-is_gap.false) c.line_past-line-in-loop-at.ensures in
    (on.0 ∙ inv.0, omega (arith, on.1, inv.1))

pub returns : goal.returns
returns c =
    let pre = c.requires in
    let end : length c.args.text.now ≡ c.loop-at.at = omega (arith, pre.place.inside) in
    ap (λ k. cursor_at k c.loop-at.line) end ∙ gap-end _ _ _ c.loop-at-test.false ∙ c.loop-at.invariant.0
    ∙ (gap-on _ _ _ pre.place.inside pre.gap c.line_past-line.ensures).0
