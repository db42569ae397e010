-- `scan::name_run` meets its contract: the run from i ends where the run from s does, and what lies between is packed. Assumes nothing.
use Prim.Native.Nat.{ℕ, ◌-◌, ◌<◌}
use native.Mathlib.Omega.{arith}
use mathlib.Core.Path.{◌≡◌, sym, ◌∙◌}
use lib.ListN.{drop}
use mathlib.Core.Bool.{Bool, true}
use Rattle.scan.specs.declared.Kind.TheVariants.{Name}
use Rattle.scan.specs.Scan.{is_of}
use Rattle.scan.proofs.Laws.{past_more, past_stop, past_end}
use Rattle.scan.proofs.Names.{byte_high}
use Rattle.scan.proofs.Packing.{packing_room, packing_on}
use Rattle.scan.proofs.name_run.Goals as goal

-- a byte of a name is below 256
byte : (b w : ℕ) (r : Bool) → r ≡ is_of Name b → r ≡ true → w ≡ b → w < 256
byte b w r is holds e = omega (arith, e, byte_high b (sym is ∙ holds))

pub returns-then-not-is : goal.returns-then-not-is
returns-then-not-is c =
    let inv = c.loop-i.invariant in
    (sym (past_stop (is_of Name) _ _ c.loop-i-test.true (sym c.is.ensures ∙ c.if-not-is.true)) ∙ inv.1, inv.2.whole)

pub overflow_mul-name : goal.overflow_mul-name
overflow_mul-name c =
    let small = byte _ _ _ c.is.ensures c.if-not-is.false c.from.ensures in
    let room = packing_room 8 (drop c.args.s c.args.text.now) (c.loop-i.i - c.args.s) c.loop-i.name c.loop-i.weight c.from.result c.loop-i.invariant.2 small in
    omega arith

pub overflow_add-name : goal.overflow_add-name
overflow_add-name c =
    let small = byte _ _ _ c.is.ensures c.if-not-is.false c.from.ensures in
    let room = packing_room 8 (drop c.args.s c.args.text.now) (c.loop-i.i - c.args.s) c.loop-i.name c.loop-i.weight c.from.result c.loop-i.invariant.2 small in
    omega arith

pub loop-i-preserved : goal.loop-i-preserved
loop-i-preserved c =
    let a = c.args in
    let l = c.loop-i in (
      omega arith,
      past_more (is_of Name) _ _ c.loop-i-test.true (sym c.is.ensures ∙ c.if-not-is.false) ∙ l.invariant.1,
      packing_on 8 a.text.now a.s l.i l.name l.weight c.from.result l.auto.i l.invariant.2 c.from.ensures (byte _ _ _ c.is.ensures c.if-not-is.false c.from.ensures),
    )

pub returns : goal.returns
returns c =
    let inv = c.loop-i.invariant in
    let end : c.max.result ≡ c.loop-i.i = omega arith in
    (omega (arith, past_end (is_of Name) c.args.text.now c.loop-i.i c.loop-i-test.false, inv.1), rw end inv.2.whole)
