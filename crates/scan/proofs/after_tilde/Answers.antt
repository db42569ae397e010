-- `scan::after_tilde` meets its contract: each way out has the tests that lead there. Assumes nothing.
use borrow.Author.Tests.{le-leb, lt-leb}
use mathlib.Core.Path.{sym, ◌∙◌}
use Rattle.scan.specs.Scan.{tilde}
use Rattle.scan.proofs.after_tilde.Goals as goal

pub returns-then-text-s : goal.returns-then-text-s
unfolding tilde
returns-then-text-s c = simp (le-leb _ _ c.if-text-s.true)

pub returns-then-closes : goal.returns-then-closes
unfolding tilde
returns-then-closes c =
    simp (lt-leb _ _ c.if-text-s.false, sym c.closes.ensures ∙ c.if-closes.true, c.skip-e.ensures)

pub returns : goal.returns
unfolding tilde
returns c =
    simp (lt-leb _ _ c.if-text-s.false, sym c.closes.ensures ∙ c.if-closes.false, c.name_at.ensures)
