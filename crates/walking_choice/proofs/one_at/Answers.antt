-- `walking_choice::one_at` meets its contract: one literal at the least is taken, of several the one at the place that is drawn. Assumes nothing.
use native.Mathlib.Omega.{arith}
use Rattle.walking_choice.proofs.LeastBreaks.{number-few}
use Rattle.walking_choice.proofs.Ties.{free-short, one-taken, drawn-stands, one-drawn}
use Rattle.walking_choice.proofs.one_at.Goals as goal

pub returns-then-least-eq1 : goal.returns-then-least-eq1
returns-then-least-eq1 c = search one-taken

pub overflow_cast-least : goal.overflow_cast-least
overflow_cast-least c = omega (arith, number-few _ _ _ c.requires.1, free-short c.args.marks.now c.args.clause.now, c.requires.0.short)

pub nth_at-requires : goal.nth_at-requires
nth_at-requires c = search drawn-stands

pub returns : goal.returns
returns c = search one-drawn
