-- `agreeing_rest::rests_agree` meets its contract: each way out has the tests that lead there. Assumes nothing.
use mathlib.Core.Path.{refl, sym}
use native.Mathlib.Omega.{arith}
use lib.Seq.{length-take-le}
use Rattle.words.specs.Words.{word_count}
use Rattle.written.specs.Limits.{narrow}
use Rattle.written.specs.Tables.{sizes, full_sizes}
use Rattle.laws.proofs.Each.{Names, Values, Starts, Literals, OccurrenceStarts, Occurrences, Trues, Breaks, Uncovered, Places}
use Rattle.machine.proofs.File.{rooms, counts-fit}
use Rattle.agreeing_rest.proofs.rests_agree.Goals as goal
use Rattle.agreeing_rest.proofs.rests_agree.Goals.{then-clause_rests, else-clause_rests}

pub clause_rests-requires : goal.clause_rests-requires
unfolding full_sizes sizes word_count
clause_rests-requires c =
    let p = c.requires in
    let f = counts-fit narrow _ p.1 in
    let r = rooms narrow _ p.0 in
    (f.terms, f.clauses, f.literals, r Names, r Values, r Starts, r Literals, r OccurrenceStarts, r Occurrences)

pub count_rests-requires : goal.count_rests-requires
unfolding full_sizes sizes word_count
count_rests-requires c =
    let p = c.requires in
    let f = counts-fit narrow _ p.1 in
    let r = rooms narrow _ p.0 in
    (f.terms, f.clauses, f.uncovered, r Trues, r Breaks, r Uncovered, r Places)

pub slice_bounds-spare_zero-end : goal.slice_bounds-spare_zero-end
unfolding full_sizes sizes word_count
slice_bounds-spare_zero-end c =
    let p = c.requires in
    sym (length-take-le _ _ (omega (arith, (counts-fit narrow _ p.1).terms, rooms narrow _ p.0 Values)))

pub returns-then-count_rests : goal.returns-then-count_rests
unfolding word_count
returns-then-count_rests c =
    elim c.if-clause_rests.branch [
      | then-clause_rests w ↦ rw (← c.clause_rests.ensures, w.if-clause_rests.true, ← w.count_rests.ensures, ← w.value-is, c.if-count_rests.true) c.spare_zero.ensures
      | else-clause_rests w ↦ cc
    ]

pub returns-else-count_rests : goal.returns-else-count_rests
returns-else-count_rests c =
    elim c.if-clause_rests.branch [
      | then-clause_rests w ↦ rw (← c.clause_rests.ensures, w.if-clause_rests.true, ← w.count_rests.ensures, ← w.value-is, c.if-count_rests.false) refl
      | else-clause_rests w ↦ rw (← c.clause_rests.ensures, w.if-clause_rests.false) (c.if-count_rests.false)
    ]
