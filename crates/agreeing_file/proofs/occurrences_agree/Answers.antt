use mathlib.Core.Path.{refl, sym, ◌∙◌}
use native.Mathlib.Omega.{arith}
use Rattle.agreeing_file.proofs.Matched.{no_cuts, match_run, match_all, no_match, match_ends}
use Rattle.agreeing_file.proofs.occurrences_agree.Goals as goal

pub clauses_next-requires : goal.clauses_next-requires
clauses_next-requires c = match_all c.requires (sym c.if-not-starts_cut.false ∙ c.starts_cut.ensures) _ refl

pub runs_passed-requires : goal.runs_passed-requires
runs_passed-requires c =
    let can = c.requires in (
      match_run can (sym c.if-not-starts_cut.false ∙ c.starts_cut.ensures),
      omega (arith, can.few-terms, c.clauses_next.auto.passed),
    )

pub returns-then-clauses_next : goal.returns-then-clauses_next
returns-then-clauses_next c =
    let call = c.clauses_next.ensures in
    let next = c.if-clauses_next.true in
    c.runs_passed.ensures
    ∙ match_ends c.requires (sym c.if-not-starts_cut.false ∙ c.starts_cut.ensures) _ refl _ (sym next ∙ call.0) (call.1 next)

pub returns-else-clauses_next : goal.returns-else-clauses_next
returns-else-clauses_next c =
    c.if-clauses_next.false
    ∙ no_match c.requires (sym c.if-not-starts_cut.false ∙ c.starts_cut.ensures) _ refl (sym c.if-clauses_next.false ∙ c.clauses_next.ensures.0)

pub returns-then-not-starts_cut : goal.returns-then-not-starts_cut
returns-then-not-starts_cut c = no_cuts c.requires (sym c.if-not-starts_cut.true ∙ c.starts_cut.ensures)
