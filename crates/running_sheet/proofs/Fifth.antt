-- The fifth line after the four: none, another than it must be, or the one that it may be. Assumes nothing.
use Prim.Native.Nat.{ℕ, ◌+◌, ◌-◌}
use mathlib.Core.Path.{◌≡◌, sym, ap, ap₂, subst, ◌∙◌}
use mathlib.Core.Bool.{true, false}
use mathlib.Core.List.{List}
use native.Mathlib.Omega.{arith}
use lib.ListN.{length, take, drop, length-drop, length-append}
use Rattle.std.specs.Prelude.{Result, Ok, Err}
use Rattle.scan.specs.Text.{bytes}
use Rattle.written.specs.declared.Fault.{Fault}
use Rattle.written.specs.declared.Sheet.{Sheet}
use Rattle.written.specs.declared.Reason.TheVariants.{SheetForm}
use Rattle.written.specs.Reasons.{fault_at}
use Rattle.written.specs.Sheet.{begins, optional, sheet_of}
use Rattle.laws.specs.Sheets.{four_lines, in_mode, after_four}
use Rattle.laws.proofs.Sheets.{begins_then, four_first}
use Rattle.digits.proofs.Keys.{from_place}
use Rattle.running_sheet.proofs.Reached.{Known, four_known}

module _ (input : List ℕ) {a : Result Sheet Fault} (four : a ≡ four_lines input) where
  whole : after_four input a ≡ sheet_of input
  whole = ap (after_four input) four ∙ four_first input

  pub stays-refused : (e : Fault) → a ≡ Err e → Err e ≡ sheet_of input
  stays-refused e q = ap (after_four input) (sym q) ∙ whole

  module _ (s : Sheet) (q : a ≡ Ok s) where
    pub known : Known input (Ok s)
    known = subst (Known input) (sym four ∙ q) (four_known input)

    goes : after_four input (Ok s) ≡ sheet_of input
    goes = ap (after_four input) (sym q) ∙ whole

    -- what follows, as it is lent
    abbrev rest : List ℕ
    rest = take (length input - s.at) (drop s.at input)

    rest-is : rest ≡ drop s.at input
    rest-is = from_place s.at input

    size : length rest ≡ length input - s.at
    size = ap length rest-is ∙ length-drop s.at input

    pub no_fifth : begins (bytes "choice=") rest ≡ false → Ok s ≡ sheet_of input
    unfolding optional
    no_fifth h =
        let at : s.at ≡ length input - length rest = omega (arith, size, known.1) in
        ap₂ {C = (Result Sheet Fault)} (λ e k. Ok (in_mode s e k)) known.0 at ∙ (rw (← rest-is, h) at goes)

    pub other-fifth : begins (bytes "choice=") rest ≡ true → begins (bytes "choice=even\n") rest ≡ false → Err (fault_at 5 SheetForm) ≡ sheet_of input
    unfolding optional
    other-fifth h w = rw (← rest-is, h, w) at goes

    pub even-fifth : begins (bytes "choice=") rest ≡ true → begins (bytes "choice=even\n") rest ≡ true → Ok (in_mode s 1 (s.at + 12)) ≡ sheet_of input
    unfolding optional
    even-fifth h w =
        let all = ap length (begins_then (bytes "choice=even\n") rest w) ∙ length-append (bytes "choice=even\n") (drop 12 rest) in
        let at : length input - length (drop 12 rest) ≡ s.at + 12 = omega (arith, size, all, known.1) in
        rw (← rest-is, h, w, at) at goes
