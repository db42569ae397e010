-- The lines of a sheet taken one after another: what is left to judge makes the whole. Assumes nothing.
use Prim.Native.Nat.{ℕ, ◌+◌, ◌-◌, ◌*◌, ◌≤◌}
use mathlib.Core.Path.{◌≡◌, refl, ap, sym, subst, ◌∙◌}
use mathlib.Core.List.{List}
use native.Mathlib.Omega.{arith}
use lib.ListN.{length, drop, length-drop}
use lib.Seq.{drop-drop}
use Rattle.std.specs.Prelude.{Result, Ok, Err}
use Rattle.scan.specs.Text.{bytes}
use Rattle.written.specs.declared.Sheet.{Sheet}
use Rattle.written.specs.declared.Fault.{Fault}
use Rattle.written.specs.Orders.{Range, seeds, flips_each, walks_all, biases, within}
use Rattle.written.specs.Sheet.{has_form, number_after, judged}
use Rattle.laws.specs.Sheets.{four_lines}
use Rattle.laws.proofs.Basics.{by_cases}
use Rattle.running_sheet.specs.declared.Entry.{Entry}
use Rattle.running_sheet.specs.Lines.{line_of}
use Rattle.running_sheet.proofs.Lines.{formed, line-short}

-- ---- a line judged, by what it comes to

-- a faulty line is refused, after one that is taken the rest is judged
abbrev onward : (ℕ → List ℕ → Result Sheet Fault) → List ℕ → Result Entry Fault → Result Sheet Fault
onward on rest (Err e) = Err e
onward on rest (Ok e) = on e.number (drop e.size rest)

judged-by : (i : ℕ) (key : List ℕ) (r : Range) (rest : List ℕ) (on : ℕ → List ℕ → Result Sheet Fault) → judged i key r rest on ≡ onward on rest (line_of i key r rest)
unfolding judged line_of
judged-by i key r rest on =
    by_cases (has_form key rest) (λ f. by_cases (within r (number_after key rest)) (λ w. rw (f, w)) (λ w. rw (f, w))) (λ f. rw f)

-- a line that is taken stands in the rest and is the key, at most ten digits and byte 10
abbrev Sized : List ℕ → List ℕ → Result Entry Fault → Type 0
Sized key rest (Err e) = Unit {0}
Sized key rest (Ok e) = (e.size ≤ length rest) × (e.size ≤ length key + 11)

sized : (i : ℕ) (key : List ℕ) (r : Range) (rest : List ℕ) → Sized key rest (line_of i key r rest)
unfolding line_of
sized i key r rest =
    by_cases (has_form key rest)
    (λ f. by_cases (within r (number_after key rest))
    (λ w. rw (f, w) (let m = formed key rest f in (m.inside, omega (arith, line-short key rest m)))) (λ w. rw (f, w) tt))
    (λ f. rw f tt)

-- ---- the lines from the top

module _ (input : List ℕ) where
  -- k lines are taken, up to a place, and what goes on from there makes the sheet
  pub record Reached (k at : ℕ) (on : List ℕ → Result Sheet Fault) : Type 0 where
    pub here : at ≤ length input
    pub near : at ≤ 17 * k
    pub left : on (drop at input) ≡ four_lines input

  abbrev pub accepted : ℕ → ℕ → ℕ → ℕ → List ℕ → Result Sheet Fault
  accepted s f w b text = Ok (record { order = record { seed = s; flips = f; walks = w; bias = b; even = 0 }; at = length input - length text })

  abbrev pub fourth : ℕ → ℕ → ℕ → List ℕ → Result Sheet Fault
  fourth s f w rest = judged 4 (bytes "bias=") biases rest (accepted s f w)

  abbrev pub third : ℕ → ℕ → List ℕ → Result Sheet Fault
  third s f rest = judged 3 (bytes "walks=") walks_all rest (fourth s f)

  abbrev pub second : ℕ → List ℕ → Result Sheet Fault
  second s rest = judged 2 (bytes "flips=") flips_each rest (third s)

  pub none-taken : Reached 0 0 (λ rest. judged 1 (bytes "seed=") seeds rest second)
  unfolding four_lines
  none-taken = record { here = omega arith; near = omega arith; left = refl }

  -- the next line: refused, or taken
  module _ (k at i : ℕ) (key : List ℕ) (r : Range) (on : ℕ → List ℕ → Result Sheet Fault) (m : Reached k at (λ rest. judged i key r rest on)) (rest : List ℕ)
      (p : rest ≡ drop at input) (v : Result Entry Fault) (e : v ≡ line_of i key r rest) where
    goes : onward on (drop at input) v ≡ four_lines input
    goes = rw (e, p) (sym (judged-by i key r (drop at input) on) ∙ m.left)

    pub one-refused : (a : Fault) → v ≡ Err a → Err a ≡ four_lines input
    one-refused a q = rw q at goes

    pub one-taken : (a : Entry) (next : ℕ) → v ≡ Ok a → next ≡ at + a.size → length key ≤ 6 → Reached (k + 1) next (on a.number)
    one-taken a next q n short =
        let size : Sized key (drop at input) (Ok a) = rw (sym (ap (line_of i key r) p) ∙ sym e ∙ q) at (sized i key r (drop at input)) in
        record {
          here = omega (arith, size.0, length-drop at input, m.here);
          near = omega (arith, size.1, m.near);
          left = rw n (ap (on a.number) (sym (drop-drop a.size at input)) ∙ (rw q at goes));
        }

  pub all-taken : (s f w b at : ℕ) → Reached 4 at (accepted s f w b) → Ok (record { order = record { seed = s; flips = f; walks = w; bias = b; even = 0 }; at = at }) ≡ four_lines input
  all-taken s f w b at m =
      let place : length input - length (drop at input) ≡ at = omega (arith, length-drop at input, m.here) in
      rw place at m.left

  -- ---- what they come to

  -- the mode is 0, and what follows them begins within the input and early
  abbrev pub Known : Result Sheet Fault → Type 0
  Known (Err e) = Unit {0}
  Known (Ok s) = (s.order.even ≡ 0) × (s.at ≤ length input) × (s.at ≤ 68)

  by-line : (k at i : ℕ) (key : List ℕ) (r : Range) (on : ℕ → List ℕ → Result Sheet Fault) → Reached k at (λ rest. judged i key r rest on) → length key ≤ 6
      → ((a : Entry) → Reached (k + 1) (at + a.size) (on a.number) → Known (four_lines input)) → Known (four_lines input)
  by-line k at i key r on m short next = by-verdict (line_of i key r (drop at input)) refl
    where
      by-verdict : (v : Result Entry Fault) → v ≡ line_of i key r (drop at input) → Known (four_lines input)
      by-verdict (Err e) q = subst Known (one-refused k at i key r on m (drop at input) refl (Err e) q e refl) tt
      by-verdict (Ok a) q = next a (one-taken k at i key r on m (drop at input) refl (Ok a) q a (at + a.size) refl refl short)

  pub four_known : Known (four_lines input)
  four_known =
      by-line 0 _ 1 _ seeds _ none-taken (omega arith) λ s m₁.
      by-line 1 _ 2 _ flips_each _ m₁ (omega arith) λ f m₂.
      by-line 2 _ 3 _ walks_all _ m₂ (omega arith) λ w m₃.
      by-line 3 _ 4 _ biases _ m₃ (omega arith) λ b m₄.
      subst Known (all-taken s.number f.number w.number b.number _ m₄) (refl, m₄.here, omega (arith, m₄.near))
