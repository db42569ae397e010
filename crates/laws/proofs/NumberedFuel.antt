-- A numbered reading's fuel is no part of its meaning: a turn for each byte left and one more are enough, and any more give the same. Assumes nothing.
use Prim.Native.Nat.{ℕ, zero, suc, ◌≤◌, ◌<◌}
use mathlib.Core.Path.{◌≡◌, refl, sym, ◌∙◌}
use mathlib.Core.Bool.{Bool, true, false, false≢true}
use mathlib.Core.List.{List}
use native.Mathlib.Omega.{arith}
use lib.ListN.{length}
use Rattle.scan.specs.declared.Cursor.{Cursor}
use Rattle.written.specs.declared.Header.{Header}
use Rattle.written.specs.declared.Numeral.{Numeral}
use Rattle.written.specs.declared.Numeral.TheVariants.{Number, Bad, End}
use Rattle.written.specs.Limits.{Limits}
use Rattle.written.specs.Reading.{Reading}
use Rattle.written.specs.Numerals.{number_at}
use Rattle.written.specs.Numbered.{Sum, Pass, on, to, at_numeral, passed, numbers_from, begun}
use Rattle.laws.specs.NumberedCalls.{numbers_at}
use Rattle.laws.proofs.Basics.{by_cases}
use Rattle.laws.proofs.Fuel.{left}
use Rattle.laws.proofs.NumeralSteps.{is_end, number-falls}

abbrev pub is_on : Pass → Bool
is_on (on s) = true
is_on (to r) = false

-- the text's end ends the reading
end_stays : (lim : Limits) (h : Header) (s : Sum) (k : Numeral) → is_end k ≡ true → is_on (at_numeral lim h s k) ≡ false
unfolding at_numeral
end_stays lim h s (Number x) e = absurd (false≢true e)
end_stays lim h s (Bad n) e = absurd (false≢true e)
end_stays lim h s End e = refl

-- a turn that goes on takes a byte
pub goes-falls : (lim : Limits) (t : List ℕ) (h : Header) (c : Cursor) (s : Sum) → is_on (at_numeral lim h s (number_at t c).numeral) ≡ true → left t (number_at t c).next < left t c
goes-falls lim t h c s goes =
    by_cases (is_end (number_at t c).numeral) (λ e. absurd (false≢true (sym (end_stays lim h s (number_at t c).numeral e) ∙ goes))) (λ e. number-falls t c e)

-- what is done after a turn matters only where it goes on
passed-same : (p : Pass) (f g : Sum → Reading) → ((s : Sum) → is_on p ≡ true → f s ≡ g s) → passed p f ≡ passed p g
passed-same (on s) f g same = same s refl
passed-same (to r) f g same = refl

-- any two fuels above the bytes left give the same reading
pub numbers-same : (lim : Limits) (t : List ℕ) (h : Header) (j k : ℕ) (c : Cursor) (s : Sum) → left t c < j → left t c < k → numbers_from j lim t h c s ≡ numbers_from k lim t h c s
unfolding numbers_from
numbers-same lim t h zero k c s a b = absurd (omega arith)
numbers-same lim t h (suc j) zero c s a b = absurd (omega arith)
numbers-same lim t h (suc j) (suc k) c s a b =
    passed-same (at_numeral lim h s (number_at t c).numeral) (λ s'. numbers_from j lim t h (number_at t c).next s') (λ s'. numbers_from k lim t h (number_at t c).next s')
    (λ s' goes.
    let fewer = goes-falls lim t h c s goes in
    numbers-same lim t h j k (number_at t c).next s' (omega arith) (omega arith))

-- more fuel than a reading of the text has gives the same
pub numbers-enough : (lim : Limits) (t : List ℕ) (h : Header) (k : ℕ) → suc (length t) ≤ k
    → numbers_from k lim t h (numbers_at t h) (begun h) ≡ numbers_from (suc (length t)) lim t h (numbers_at t h) (begun h)
numbers-enough lim t h k l = numbers-same lim t h k (suc (length t)) (numbers_at t h) (begun h) (omega arith) (omega arith)
