-- `running_sheet::sheet` meets its contract: the four lines, then the fifth as it stands in what follows them. Assumes nothing.
use mathlib.Core.Path.{◌≡◌, ap, sym, ◌∙◌}
use native.Mathlib.Omega.{arith}
use Rattle.std.specs.Prelude.{Ok, Err}
use Rattle.running_sheet.proofs.Fifth.{stays-refused, known, no_fifth, other-fifth, even-fifth}
use Rattle.running_sheet.proofs.sheet.Goals as goal

pub returns-in_err-s : goal.returns-in_err-s
returns-in_err-s c =
    let told : c.from_residual.result ≡ Err c.in_err-s.field-0.0 = grind arith in
    told ∙ stays-refused _ c.numbers.ensures _ c.in_err-s.was

pub slice_bounds-rest-count : goal.slice_bounds-rest-count
slice_bounds-rest-count c = (known _ c.numbers.ensures _ c.in_ok-s.was).1

pub slice_bounds-rest-start : goal.slice_bounds-rest-start
slice_bounds-rest-start c = (known _ c.numbers.ensures _ c.in_ok-s.was).1

pub returns-then-not-begins : goal.returns-then-not-begins
returns-then-not-begins c = no_fifth _ c.numbers.ensures _ c.in_ok-s.was (sym c.begins.ensures ∙ c.if-not-begins.true)

pub returns-then-not-begins-2 : goal.returns-then-not-begins-2
returns-then-not-begins-2 c =
    rw c.fault.ensures (other-fifth _ c.numbers.ensures _ c.in_ok-s.was
    (sym c.begins.ensures ∙ c.if-not-begins.false) (sym c.begins-2.ensures ∙ c.if-not-begins-2.true))

pub even_from-requires : goal.even_from-requires
even_from-requires c = omega (arith, (known _ c.numbers.ensures _ c.in_ok-s.was).2)

pub returns : goal.returns
returns c =
    ap Ok c.even_from.ensures
    ∙ even-fifth _ c.numbers.ensures _ c.in_ok-s.was
    (sym c.begins.ensures ∙ c.if-not-begins.false) (sym c.begins-2.ensures ∙ c.if-not-begins-2.false)
