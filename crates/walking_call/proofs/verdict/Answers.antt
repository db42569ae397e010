-- `walking_call::verdict` meets its contract: each way out has the tests that lead there. Assumes nothing.
use mathlib.Core.Path.{refl}
use Rattle.laws.proofs.Tests.{second_no, second-yes}
use Rattle.walking_call.specs.Tests.{tests_of}
use mathlib.Core.Path.{sym, ◌∙◌}
use Rattle.walking_call.proofs.verdict.Goals as goal

pub returns-then-not-all_full : goal.returns-then-not-all_full
unfolding tests_of
returns-then-not-all_full c = rw (sym c.all_full.ensures ∙ c.if-not-all_full.true) refl

pub returns-then-not-in_range : goal.returns-then-not-in_range
unfolding tests_of
returns-then-not-in_range c = rw (sym c.all_full.ensures ∙ c.if-not-all_full.false, sym c.in_range.ensures ∙ c.if-not-in_range.true) refl

pub returns-then-not-agrees : goal.returns-then-not-agrees
unfolding tests_of
returns-then-not-agrees c =
    let full = sym c.all_full.ensures ∙ c.if-not-all_full.false in
    rw (full, sym c.in_range.ensures ∙ c.if-not-in_range.false, second_no _ _ full (sym c.agrees.ensures ∙ c.if-not-agrees.true)) refl

pub returns : goal.returns
unfolding tests_of
returns c =
    let full = sym c.all_full.ensures ∙ c.if-not-all_full.false in
    rw (full, sym c.in_range.ensures ∙ c.if-not-in_range.false, second-yes _ _ full (sym c.agrees.ensures ∙ c.if-not-agrees.false)) refl
