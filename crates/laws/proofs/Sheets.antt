-- What an order sheet comes to: accepted, its numbers are those of its lines and in their ranges; refused, the first faulty line is named by its own fault.
-- Assumes nothing.
use Prim.Native.Nat.{ℕ, zero, suc, ◌+◌, ◌-◌, ◌≤◌, ◌<◌}
use mathlib.Core.Path.{◌≡◌, refl, sym, ap, ◌∙◌}
use mathlib.Core.Bool.{Bool, true, false, ◌&&◌}
use mathlib.Core.List.{List, ◌++◌}
use native.Mathlib.Omega.{arith}
use lib.ListN.{length, take, drop, take-append-drop}
use lib.Seq.{drop-drop}
use lib.Dec.{leb}
use borrow.Author.Tests.{leb-true}
use Rattle.std.specs.Prelude.{Result, Ok, Err}
use Rattle.scan.specs.Text.{bytes}
use Rattle.written.specs.declared.Sheet.{Sheet}
use Rattle.written.specs.declared.Order.{Order}
use Rattle.written.specs.declared.Reason.{Reason}
use Rattle.written.specs.declared.Fault.{Fault}
use Rattle.written.specs.Orders.{Range, seeds, flips_each, walks_all, biases, modes, within, in_range}
use Rattle.written.specs.Sheet.{begins, has_form, number_after, line_length, judged, optional, four_then, sheet_of}
use Rattle.laws.specs.Sheets.{last_line, after_lines, key_of, range_of, number_in, GoodTo, Faulty, Fifth, Says, four_lines, after_four}
use Rattle.laws.specs.Sheets.Faulty.{wrong_form, out_of_range, not_the_choice}
use Rattle.laws.specs.Sheets.Fifth.{no_choice, even-choice}
use Rattle.laws.proofs.Basics.{by_cases, both_first, both-second, same-eq}
use Rattle.laws.proofs.Lists.{drop-back}

-- an order's numbers in their ranges
pub record Ranged (o : Order) : Type 0 where
  pub seed-pos : seeds.least ≤ o.seed
  pub seed-fits : o.seed ≤ seeds.most
  pub flips-most : o.flips ≤ flips_each.most
  pub walks-pos : walks_all.least ≤ o.walks
  pub walks-most : o.walks ≤ walks_all.most
  pub bias-most : o.bias ≤ biases.most
  pub even-most : o.even ≤ modes.most

within-least : (r : Range) (n : ℕ) → within r n ≡ true → r.least ≤ n
within-least r n h = leb-true r.least n (both_first (leb r.least n) (leb n r.most) h)

within-most : (r : Range) (n : ℕ) → within r n ≡ true → n ≤ r.most
within-most r n h = leb-true n r.most (both-second (leb r.least n) (leb n r.most) h)

pub ranged : (o : Order) → in_range o ≡ true → Ranged o
unfolding in_range
ranged o h =
    let s : Bool = within seeds o.seed in
    let f : Bool = within flips_each o.flips in
    let w : Bool = within walks_all o.walks in
    let b : Bool = within biases o.bias in
    let e : Bool = within modes o.even in
    let sfwb : (s && f && w && b) ≡ true = both_first (s && f && w && b) e h in
    let sfw : (s && f && w) ≡ true = both_first (s && f && w) b sfwb in
    let sf : (s && f) ≡ true = both_first (s && f) w sfw in
    record {
      seed-pos = within-least seeds o.seed (both_first s f sf);
      seed-fits = within-most seeds o.seed (both_first s f sf);
      flips-most = within-most flips_each o.flips (both-second s f sf);
      walks-pos = within-least walks_all o.walks (both-second (s && f) w sfw);
      walks-most = within-most walks_all o.walks (both-second (s && f) w sfw);
      bias-most = within-most biases o.bias (both-second (s && f && w) b sfwb);
      even-most = within-most modes o.even (both-second (s && f && w && b) e h);
    }

-- ---- the first faulty line is named

-- the line k judged, where those before it are good
line-says : (k : ℕ) (input : List ℕ) (on : ℕ → List ℕ → Result Sheet Fault) → k < 4 → GoodTo k input
    → (GoodTo (suc k) input → Says input (on (number_in k input) (drop (suc (line_length (after_lines k input))) (after_lines k input))))
    → Says input (judged (suc k) (key_of k) (range_of k) (after_lines k input) on)
unfolding judged
line-says k input on few before next =
    by_cases (has_form (key_of k) (after_lines k input))
    (λ e. rw e (by_cases (within (range_of k) (number_in k input)) (λ q. rw q (next (before, record { form = e; range = q })))
    (λ q. rw q (record { line = k; good-before = before; faulty = out_of_range k few e q; named = refl; values = refl }))))
    (λ e. rw e (record { line = k; good-before = before; faulty = wrong_form k few e; named = refl; values = refl }))

-- bytes that begin with others are those and what follows them
pub begins_then : (key rest : List ℕ) → begins key rest ≡ true → rest ≡ key ++ drop (length key) rest
begins_then key rest h = sym (take-append-drop (length key) rest) ∙ ap (λ (xs : List ℕ). xs ++ drop (length key) rest) (same-eq (take (length key) rest) key h)

-- the fifth, where the four are good
fifth-says : (input : List ℕ) (on : ℕ → List ℕ → Result Sheet Fault) → GoodTo 4 input
    → ((mode : ℕ) (text : List ℕ) → Fifth (after_lines 4 input) mode text → within modes mode ≡ true → Says input (on mode text))
    → Says input (optional 5 (bytes "choice=") (bytes "choice=even\n") (after_lines 4 input) on)
unfolding optional
fifth-says input on before next =
    let rest : List ℕ = after_lines 4 input in
    by_cases (begins (bytes "choice=") rest)
    (λ e. rw e (by_cases (begins (bytes "choice=even\n") rest) (λ q. rw q (next 1 _ (even-choice _ (begins_then (bytes "choice=even\n") rest q)) refl))
    (λ q. rw q (record { line = 4; good-before = before; faulty = not_the_choice e q; named = refl; values = refl }))))
    (λ e. rw e (next 0 rest (no_choice e) refl))

all-five : (a b c d e : Bool) → a ≡ true → b ≡ true → c ≡ true → d ≡ true → e ≡ true → (a && b && c && d && e) ≡ true
all-five a b c d e h k l m n = rw (h, k, l, m) n

pub sheet-says : (input : List ℕ) → Says input (sheet_of input)
unfolding sheet_of in_range
sheet-says input =
    line-says 0 input _ (omega arith) tt λ b₁.
    line-says 1 input _ (omega arith) b₁ λ b₂.
    line-says 2 input _ (omega arith) b₂ λ b₃.
    line-says 3 input _ (omega arith) b₃ λ b₄.
    fifth-says input _ b₄ λ mode text fifth known.
    record {
      good = b₄;
      mode = mode;
      text = text;
      fifth = fifth;
      numbers = refl;
      in_range_lem = all-five _ _ _ _ _ b₁.1.range b₂.1.range b₃.1.range b₄.1.range known;
      text-begins = refl;
    }

-- what is known of a sheet at the top of an input of n bytes
abbrev pub Judged : ℕ → Result Sheet Fault → Type 0
Judged n (Ok s) = (in_range s.order ≡ true) × (s.at ≤ n)
Judged n (Err e) = (1 ≤ e.line) × (e.line ≤ last_line)

faulty-few : (input : List ℕ) (k : ℕ) (r : Reason) → Faulty input k r → k < last_line
faulty-few input _ _ (wrong_form k few h) = omega arith
faulty-few input _ _ (out_of_range k few h l) = omega arith
faulty-few input _ _ (not_the_choice h l) = omega arith

says-judged : (input : List ℕ) (a : Result Sheet Fault) → Says input a → Judged (length input) a
says-judged input (Ok s) h = (h.in_range_lem, omega (arith, h.text-begins))
says-judged input (Err e) h = (omega (arith, h.named), omega (arith, h.named, faulty-few input h.line e.reason h.faulty))

pub sheet-judged : (input : List ℕ) → Judged (length input) (sheet_of input)
sheet-judged input = says-judged input (sheet_of input) (sheet-says input)

-- ---- the fifth line apart: "Without the line all stays"

-- what is left after some lines is the input from a place on
after-place : (k : ℕ) (input : List ℕ) → (j : ℕ) × (after_lines k input ≡ drop j input)
after-place zero input = (0, refl)
after-place (suc k) input =
    let n = suc (line_length input) in
    let p = after-place k (drop n input) in (n + p.0, p.1 ∙ drop-drop p.0 n input)

after-back : (k : ℕ) (input : List ℕ) → drop (length input - length (after_lines k input)) input ≡ after_lines k input
after-back k input = let p = after-place k input in rw p.1 (drop-back p.0 input)

-- what is done to a sheet, and to no refusal, can be done where its lines are judged
module _ (F : Result Sheet Fault → Result Sheet Fault) (keeps : (e : Fault) → F (Err e) ≡ Err e) where
  line_then : (i : ℕ) (key : List ℕ) (r : Range) (rest : List ℕ) (on on' : ℕ → List ℕ → Result Sheet Fault)
      → F (on (number_after key rest) (drop (suc (line_length rest)) rest)) ≡ on' (number_after key rest) (drop (suc (line_length rest)) rest)
      → F (judged i key r rest on) ≡ judged i key r rest on'
  unfolding judged
  line_then i key r rest on on' e =
      by_cases (has_form key rest) (λ f. by_cases (within r (number_after key rest)) (λ w. rw (f, w) e) (λ w. rw (f, w) (keeps _))) (λ f. rw f (keeps _))

  four_then_lem : (input : List ℕ) (on on' : ℕ → ℕ → ℕ → ℕ → List ℕ → Result Sheet Fault)
      → F (on (number_in 0 input) (number_in 1 input) (number_in 2 input) (number_in 3 input) (after_lines 4 input))
      ≡ on' (number_in 0 input) (number_in 1 input) (number_in 2 input) (number_in 3 input) (after_lines 4 input)
      → F (four_then input on) ≡ four_then input on'
  four_then_lem input on on' e =
      line_then 1 _ seeds input _ _
      (line_then 2 _ flips_each (after_lines 1 input) _ _
      (line_then 3 _ walks_all (after_lines 2 input) _ _
      (line_then 4 _ biases (after_lines 3 input) _ _ e)))

pub four_first : (input : List ℕ) → after_four input (four_lines input) ≡ sheet_of input
unfolding four_lines sheet_of
four_first input = four_then_lem (after_four input) (λ e. refl) input _ _ (rw (after-back 4 input) refl)

-- a sheet of which no fifth line begins so is what document 01 alone says it is
pub without-line : (input : List ℕ) → begins (bytes "choice=") (after_lines 4 input) ≡ false → sheet_of input ≡ four_lines input
unfolding four_lines sheet_of optional
without-line input h = four_then_lem (λ a. a) (λ e. refl) input _ _ (rw h refl)

-- and what is refused by its four lines is refused so whatever the fifth is
pub four_refused : (input : List ℕ) (e : Fault) → four_lines input ≡ Err e → sheet_of input ≡ Err e
four_refused input e q = sym (four_first input) ∙ ap (after_four input) q
