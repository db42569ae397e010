-- `words::chosen` meets its contract. The invariant: n is the number of true terms of the words passed. Assumes nothing.
use mathlib.Core.Path.{◌≡◌, refl, ap, ◌∙◌}
use Prim.Native.Nat.{ℕ, ◌*◌, ◌<◌, min}
use native.Mathlib.Omega.{arith}
use lib.ListN.{length}
use Rattle.std.proofs.Common.{get_or-take, length-take}
use lib.Count.{ones-le}
use Rattle.words.specs.Words.{trues}
use Rattle.words.proofs.Laws.{trues-least}
use Rattle.words.proofs.Counts.{trues-word}
use Rattle.words.proofs.chosen.Goals as goal

pub loop-word-init : goal.loop-word-init
unfolding trues
loop-word-init c = (omega arith, refl)

pub loop-word-preserved : goal.loop-word-preserved
loop-word-preserved c =
    let k = c.loop-word.word-index in
    let fits = (c.type_inv.words k).fits in
    let within : k < c.least-last.result = omega (arith, length-take {A = ℕ}) in
    rw get_or-take (omega (arith, ones-le 32 _ fits), omega (arith, trues-word c.args.words.now k fits))

pub returns : goal.returns
returns c =
    let a = c.args in
    let all : c.loop-word.word-index ≡ min a.count (length a.words.now) = omega (arith, length-take {A = ℕ}) in
    c.loop-word.invariant.1 ∙ ap (λ k. trues a.words.now (32 * k)) all ∙ trues-least a.words.now a.count
