use mathlib.Core.Path.{◌≡◌, refl}
use mathlib.Core.Bool.{◌&&◌}
use lib.ListN.{get_or}
use lib.Dec.{eqb, leb}
use Rattle.agreeing_file.specs.Matching.{cuts_right, never_fall}
use Rattle.agreeing_file.proofs.Rising.{one-asked, two-asked, not-falling}
use Rattle.agreeing_file.proofs.starts_cut.Goals as goal
use Rattle.agreeing_file.proofs.starts_cut.Goals.{then-starts-eq0, else-starts-eq0}

pub returns-then-is_sorted : goal.returns-then-is_sorted
unfolding cuts_right never_fall
returns-then-is_sorted c =
    let ss = c.args.starts.now in
    let two : c.if-starts-eq0.value ≡ (eqb (get_or ss 0 0) 0 && never_fall c.args.parts ss) =
    elim c.if-starts-eq0.branch [
      | then-starts-eq0 w ↦ two-asked leb _ ss c.requires w.if-starts-eq0.true (not-falling _ _ w.is_sorted.ensures.cases) w.value-is
      | else-starts-eq0 w ↦ one-asked leb _ ss c.requires w.if-starts-eq0.false w.value-is
    ] in
    rw (← two, c.if-is_sorted.true, c.from.ensures) refl

pub returns-else-is_sorted : goal.returns-else-is_sorted
unfolding cuts_right never_fall
returns-else-is_sorted c =
    let ss = c.args.starts.now in
    let two : c.if-starts-eq0.value ≡ (eqb (get_or ss 0 0) 0 && never_fall c.args.parts ss) =
    elim c.if-starts-eq0.branch [
      | then-starts-eq0 w ↦ two-asked leb _ ss c.requires w.if-starts-eq0.true (not-falling _ _ w.is_sorted.ensures.cases) w.value-is
      | else-starts-eq0 w ↦ one-asked leb _ ss c.requires w.if-starts-eq0.false w.value-is
    ] in
    rw (← two, c.if-is_sorted.false) refl
