use mathlib.Core.Path.{◌≡◌, refl}
use mathlib.Core.Bool.{◌&&◌}
use Prim.Native.Nat.{◌+◌}
use lib.ListN.{get_or}
use lib.Dec.{eqb, ltb}
use borrow.Author.Rules.{rules}
use borrow.Author.Tests.{tests}
use Rattle.std.proofs.lemmas.List.Sorted.{answers_always}
use Rattle.written.specs.Lists.{all, below}
use Rattle.machine.specs.Judging.{starts_right}
use Rattle.agreeing_file.proofs.Rising.{one-asked, two-asked}
use Rattle.agreeing_file.proofs.starts_agree.Goals as goal
use Rattle.agreeing_file.proofs.starts_agree.Goals.{then-starts-eq0, else-starts-eq0}

pub returns-then-is_sorted_by : goal.returns-then-is_sorted_by
unfolding starts_right
returns-then-is_sorted_by c =
    let ss = c.args.starts.now in
    let two : c.if-starts-eq0.value ≡ (eqb (get_or ss 0 0) 0 && all (λ k. ltb (get_or ss k 0) (get_or ss (k + 1) 0)) (below c.args.n.clauses)) =
    elim c.if-starts-eq0.branch [
      | then-starts-eq0 w ↦ two-asked ltb _ ss c.requires w.if-starts-eq0.true (w.is_sorted_by.ensures.cases ltb (answers_always _ _ _ (λ f a r q k. search (rules, tests)))) w.value-is
      | else-starts-eq0 w ↦ one-asked ltb _ ss c.requires w.if-starts-eq0.false w.value-is
    ] in
    rw (← two, c.if-is_sorted_by.true, c.from.ensures) refl

pub returns-else-is_sorted_by : goal.returns-else-is_sorted_by
unfolding starts_right
returns-else-is_sorted_by c =
    let ss = c.args.starts.now in
    let two : c.if-starts-eq0.value ≡ (eqb (get_or ss 0 0) 0 && all (λ k. ltb (get_or ss k 0) (get_or ss (k + 1) 0)) (below c.args.n.clauses)) =
    elim c.if-starts-eq0.branch [
      | then-starts-eq0 w ↦ two-asked ltb _ ss c.requires w.if-starts-eq0.true (w.is_sorted_by.ensures.cases ltb (answers_always _ _ _ (λ f a r q k. search (rules, tests)))) w.value-is
      | else-starts-eq0 w ↦ one-asked ltb _ ss c.requires w.if-starts-eq0.false w.value-is
    ] in
    rw (← two, c.if-is_sorted_by.false) refl
