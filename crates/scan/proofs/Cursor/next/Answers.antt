-- `scan::Cursor::next` meets its contract: each way out has the tests that lead there. Assumes nothing.
use borrow.Author.Tests.{le-leb, lt-leb, eq-eqb, ne_eqb}
use mathlib.Core.Path.{sym, ◌∙◌}
use Rattle.scan.specs.Scan.{scan, scan_from}
use Rattle.scan.proofs.Cursor.next.Goals as goal

pub returns-then-cut_off : goal.returns-then-cut_off
unfolding scan scan_from
returns-then-cut_off c =
    simp (sym c.skip-a.ensures, le-leb _ _ c.if-text-a.true, sym c.cut_off.ensures ∙ c.if-cut_off.true)

pub returns-else-cut_off : goal.returns-else-cut_off
unfolding scan scan_from
returns-else-cut_off c =
    simp (sym c.skip-a.ensures, le-leb _ _ c.if-text-a.true, sym c.cut_off.ensures ∙ c.if-cut_off.false)

pub returns-then-b-eq10 : goal.returns-then-b-eq10
unfolding scan scan_from
returns-then-b-eq10 c =
    simp (sym c.skip-a.ensures, lt-leb _ _ c.if-text-a.false, eq-eqb _ _ c.if-b-eq10.true, c.following-below.ensures)

pub returns-then-b-eq126 : goal.returns-then-b-eq126
unfolding scan scan_from
returns-then-b-eq126 c =
    simp (sym c.skip-a.ensures, lt-leb _ _ c.if-text-a.false, ne_eqb _ _ c.if-b-eq10.false, eq-eqb _ _ c.if-b-eq126.true, c.after_tilde.ensures)

pub returns : goal.returns
unfolding scan scan_from
returns c =
    simp (sym c.skip-a.ensures, lt-leb _ _ c.if-text-a.false, ne_eqb _ _ c.if-b-eq10.false, ne_eqb _ _ c.if-b-eq126.false, c.name_at.ensures)
