-- `words::fill` meets its contract. The invariant: k words are drawn, and the generator has drawn k times. Assumes nothing.
use mathlib.Core.Path.{◌≡◌, refl, sym, ap, ap₂, ◌∙◌}
use native.Mathlib.Omega.{arith}
use Rattle.draw.specs.Xorshift.{next_of}
use Rattle.draw.proofs.Laws.{draw-number, draw-next}
use Rattle.words.specs.Words.{state_after, filled, put_at, word_count}
use Rattle.words.proofs.Laws.{state-more, filled_more}
use Rattle.words.proofs.fill.Goals as goal

pub loop-k-init : goal.loop-k-init
unfolding state_after filled
loop-k-init c = (refl, refl)

pub loop-k-preserved : goal.loop-k-preserved
loop-k-preserved c =
    let d = c.drawn-drawn in
    let a = c.args in
    let number : d.result.number ≡ next_of (state_after a.g.state c.loop-k.k) =
    ap (λ d. d.number) d.ensures ∙ draw-number _ ∙ ap next_of c.loop-k.invariant.0 in
    let state : d.result.next.state ≡ next_of (state_after a.g.state c.loop-k.k) =
    ap (λ d. d.next.state) d.ensures ∙ draw-next _ ∙ ap next_of c.loop-k.invariant.0 in (
      state ∙ sym (state-more _ _),
      c.put.ensures ∙ ap₂ (λ ws w. put_at ws a.n c.loop-k.k w) c.loop-k.invariant.1 number ∙ sym (filled_more _ _ _ _),
    )

pub returns : goal.returns
unfolding word_count
returns c =
    let all : c.loop-k.k ≡ word_count c.args.n = omega (arith, c.div_ceil-k-end.ensures) in
    rw (← all) c.loop-k.invariant
