-- `running_sheet::numbers` meets its contract: each line is judged after those that were taken before it. Assumes nothing.
use Prim.Native.Nat.{ℕ, ◌+◌, ◌-◌}
use mathlib.Core.Path.{◌≡◌, refl, ◌∙◌}
use mathlib.Core.List.{List}
use native.Mathlib.Omega.{arith}
use lib.ListN.{length, take, drop}
use Rattle.std.specs.Prelude.{Result, Ok, Err}
use Rattle.scan.specs.Text.{bytes}
use Rattle.written.specs.Orders.{seeds, flips_each, walks_all, biases}
use Rattle.digits.proofs.Keys.{from_place}
use Rattle.running_sheet.specs.declared.Entry.{Entry}
use Rattle.running_sheet.specs.Lines.{line_of}
use Rattle.running_sheet.proofs.Reached.{Reached, none-taken, one-refused, one-taken, all-taken, second, third, fourth, accepted}
use Rattle.running_sheet.proofs.numbers.Goals as goal
use Rattle.written.specs.declared.Fault.{Fault}

-- ---- the lines that are taken

module _ (input : List ℕ) where
  -- what stands from a place, as it is lent
  abbrev rest_from : ℕ → List ℕ
  rest_from at = take (length input - at) (drop at input)

  seed-taken : {v : Result Entry Fault} → v ≡ line_of 1 (bytes "seed=") seeds input → {s : Entry} → v ≡ Ok s → Reached input 1 s.size (second input s.number)
  seed-taken {v} e {s} q = one-taken input 0 0 1 _ seeds _ (none-taken input) _ refl v e s s.size q (omega arith) (omega arith)

  flips-taken : {at : ℕ} (seed : ℕ) → Reached input 1 at (second input seed)
      → {v : Result Entry Fault} → v ≡ line_of 2 (bytes "flips=") flips_each (rest_from at) → {f : Entry} → v ≡ Ok f
      → Reached input 2 (at + f.size) (third input seed f.number)
  flips-taken {at} seed m {v} e {f} q = one-taken input 1 at 2 _ flips_each _ m _ (from_place at input) v e f (at + f.size) q refl (omega arith)

  walks-taken : {at : ℕ} (seed flips : ℕ) → Reached input 2 at (third input seed flips)
      → {v : Result Entry Fault} → v ≡ line_of 3 (bytes "walks=") walks_all (rest_from at) → {w : Entry} → v ≡ Ok w
      → Reached input 3 (at + w.size) (fourth input seed flips w.number)
  walks-taken {at} seed flips m {v} e {w} q = one-taken input 2 at 3 _ walks_all _ m _ (from_place at input) v e w (at + w.size) q refl (omega arith)

  bias-taken : {at : ℕ} (seed flips walks : ℕ) → Reached input 3 at (fourth input seed flips walks)
      → {v : Result Entry Fault} → v ≡ line_of 4 (bytes "bias=") biases (rest_from at) → {b : Entry} → v ≡ Ok b
      → Reached input 4 (at + b.size) (accepted input seed flips walks b.number)
  bias-taken {at} seed flips walks m {v} e {b} q = one-taken input 3 at 4 _ biases _ m _ (from_place at input) v e b (at + b.size) q refl (omega arith)

-- ---- what is needed

pub returns-in_err-s : goal.returns-in_err-s
returns-in_err-s c =
    let told : c.from_residual.result ≡ Err c.in_err-s.field-0.0 = grind arith in
    told ∙ one-refused _ 0 0 1 _ seeds _ (none-taken _) _ refl _ c.line.ensures _ c.in_err-s.was

pub slice_bounds-line-count : goal.slice_bounds-line-count
slice_bounds-line-count c = (seed-taken c.args.input.now c.line.ensures c.in_ok-s.was).here

pub slice_bounds-line-start : goal.slice_bounds-line-start
slice_bounds-line-start c = (seed-taken c.args.input.now c.line.ensures c.in_ok-s.was).here

pub returns-in_err-f : goal.returns-in_err-f
returns-in_err-f c =
    let input : List ℕ = c.args.input.now in
    let m = seed-taken input c.line.ensures c.in_ok-s.was in
    let told : c.from_residual-in_err-f.result ≡ Err c.in_err-f.field-0.0 = grind arith in
    told
    ∙ one-refused input 1 _ 2 _ flips_each _ m _ (from_place c.in_ok-s.s.size input) _ c.line-2.ensures _ c.in_err-f.was

pub overflow_add-to_walks : goal.overflow_add-to_walks
overflow_add-to_walks c =
    let input : List ℕ = c.args.input.now in
    let m = seed-taken input c.line.ensures c.in_ok-s.was in
    omega (arith, (flips-taken input _ m c.line-2.ensures c.in_ok-f.was).near)

pub slice_bounds-line-count-2 : goal.slice_bounds-line-count-2
slice_bounds-line-count-2 c =
    let input : List ℕ = c.args.input.now in
    let m = seed-taken input c.line.ensures c.in_ok-s.was in
    (flips-taken input _ m c.line-2.ensures c.in_ok-f.was).here

pub slice_bounds-line-start-2 : goal.slice_bounds-line-start-2
slice_bounds-line-start-2 c =
    let input : List ℕ = c.args.input.now in
    let m = seed-taken input c.line.ensures c.in_ok-s.was in
    (flips-taken input _ m c.line-2.ensures c.in_ok-f.was).here

pub returns-in_err-w : goal.returns-in_err-w
returns-in_err-w c =
    let input : List ℕ = c.args.input.now in
    let m = flips-taken input _ (seed-taken input c.line.ensures c.in_ok-s.was) c.line-2.ensures c.in_ok-f.was in
    let told : c.from_residual-in_err-w.result ≡ Err c.in_err-w.field-0.0 = grind arith in
    told
    ∙ one-refused input 2 _ 3 _ walks_all _ m _ (from_place (c.in_ok-s.s.size + c.in_ok-f.f.size) input) _ c.line-3.ensures _ c.in_err-w.was

pub overflow_add-to_bias : goal.overflow_add-to_bias
overflow_add-to_bias c =
    let input : List ℕ = c.args.input.now in
    let m = flips-taken input _ (seed-taken input c.line.ensures c.in_ok-s.was) c.line-2.ensures c.in_ok-f.was in
    omega (arith, (walks-taken input _ _ m c.line-3.ensures c.in_ok-w.was).near)

pub slice_bounds-line-count-3 : goal.slice_bounds-line-count-3
slice_bounds-line-count-3 c =
    let input : List ℕ = c.args.input.now in
    let m = flips-taken input _ (seed-taken input c.line.ensures c.in_ok-s.was) c.line-2.ensures c.in_ok-f.was in
    (walks-taken input _ _ m c.line-3.ensures c.in_ok-w.was).here

pub slice_bounds-line-start-3 : goal.slice_bounds-line-start-3
slice_bounds-line-start-3 c =
    let input : List ℕ = c.args.input.now in
    let m = flips-taken input _ (seed-taken input c.line.ensures c.in_ok-s.was) c.line-2.ensures c.in_ok-f.was in
    (walks-taken input _ _ m c.line-3.ensures c.in_ok-w.was).here

pub returns-in_err-b : goal.returns-in_err-b
returns-in_err-b c =
    let input : List ℕ = c.args.input.now in
    let k = flips-taken input _ (seed-taken input c.line.ensures c.in_ok-s.was) c.line-2.ensures c.in_ok-f.was in
    let m = walks-taken input _ _ k c.line-3.ensures c.in_ok-w.was in
    let told : c.from_residual-in_err-b.result ≡ Err c.in_err-b.field-0.0 = grind arith in
    told
    ∙ one-refused input 3 _ 4 _ biases _ m _ (from_place (c.in_ok-s.s.size + c.in_ok-f.f.size + c.in_ok-w.w.size) input) _
    c.line-4.ensures _ c.in_err-b.was

pub overflow_add-result : goal.overflow_add-result
overflow_add-result c =
    let input : List ℕ = c.args.input.now in
    let k = flips-taken input _ (seed-taken input c.line.ensures c.in_ok-s.was) c.line-2.ensures c.in_ok-f.was in
    let m = walks-taken input _ _ k c.line-3.ensures c.in_ok-w.was in
    omega (arith, (bias-taken input _ _ _ m c.line-4.ensures c.in_ok-b.was).near)

pub overflow_cast-result : goal.overflow_cast-result
overflow_cast-result c =
    let input : List ℕ = c.args.input.now in
    let k = flips-taken input _ (seed-taken input c.line.ensures c.in_ok-s.was) c.line-2.ensures c.in_ok-f.was in
    let m = walks-taken input _ _ k c.line-3.ensures c.in_ok-w.was in
    omega (arith, (bias-taken input _ _ _ m c.line-4.ensures c.in_ok-b.was).near)

pub returns : goal.returns
returns c =
    let input : List ℕ = c.args.input.now in
    let k = flips-taken input _ (seed-taken input c.line.ensures c.in_ok-s.was) c.line-2.ensures c.in_ok-f.was in
    let m = walks-taken input _ _ k c.line-3.ensures c.in_ok-w.was in
    all-taken input _ _ _ _ _ (bias-taken input _ _ _ m c.line-4.ensures c.in_ok-b.was)
