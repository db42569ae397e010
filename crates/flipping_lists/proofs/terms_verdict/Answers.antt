-- `flipping_lists::terms_verdict` meets its contract: each way out has the tests that lead there. Assumes nothing.
use mathlib.Core.Path.{ap}
use mathlib.Core.Bool.{not}
use Rattle.flipping_lists.proofs.Laws.{terms-unknown, terms-pinned, terms-free}
use Rattle.flipping_lists.proofs.terms_verdict.Goals as goal

pub returns-then-not-known : goal.returns-then-not-known
returns-then-not-known c = terms-unknown _ _ _ c.known.ensures (ap not c.if-not-known.true)

pub returns-then-not-free : goal.returns-then-not-free
returns-then-not-free c = terms-pinned _ _ _ c.known.ensures (ap not c.if-not-known.false) c.free.ensures (ap not c.if-not-free.true)

pub returns : goal.returns
returns c = terms-free _ _ _ c.known.ensures (ap not c.if-not-known.false) c.free.ensures (ap not c.if-not-free.false)
