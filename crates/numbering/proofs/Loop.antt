-- The loop over the numbers of a text: what is left of them makes the whole reading. Assumes nothing.
use Prim.Native.Nat.{ℕ, zero, suc, ◌+◌, ◌^◌, ◌≤◌, ◌<◌}
use mathlib.Core.Path.{◌≡◌, refl, ap, sym, subst, ◌∙◌}
use mathlib.Core.Bool.{Bool, true, false, false≢true}
use mathlib.Core.List.{List}
use native.Mathlib.Omega.{arith}
use lib.ListN.{length, get_or, take}
use lib.Seq.{length-take-le}
use Rattle.std.proofs.Common.{Result, Ok, Err}
use Rattle.scan.specs.declared.Cursor.{Cursor}
use Rattle.scan.specs.Scan.{cursor_at}
use Rattle.written.specs.declared.Fault.{Fault}
use Rattle.written.specs.declared.Header.{Header}
use Rattle.written.specs.declared.Numeral.{Numeral}
use Rattle.written.specs.declared.Numeral.TheVariants.{Number, Bad, End}
use Rattle.written.specs.declared.Met.{Met}
use Rattle.written.specs.Limits.{Limits}
use Rattle.written.specs.Reading.{Reading}
use Rattle.written.specs.Numerals.{is_gap, number_at}
use Rattle.numerals.specs.Numbers.{AtGap}
use Rattle.written.specs.Numbered.{Sum, Pass, on, to, begun, passed, at_numeral, numbers_from}
use Rattle.laws.proofs.Times.{times-le}
use Rattle.laws.proofs.Faults.{Stands}
use Rattle.laws.proofs.Fuel.{left}
use Rattle.laws.proofs.NumeralSteps.{is_end, line_in, number-stands, number-falls, number-line, number-gap}
use Rattle.reading_lines.specs.Drafting.{Desk}
use Rattle.numbering.specs.declared.Going.{Going}
use Rattle.numbering.specs.declared.Pass as D
use Rattle.numbering.specs.declared.Pass.TheVariants as P
use Rattle.numbering.specs.Passes.{outset}
use Rattle.numbering.specs.Counting.{Count, desk_with, Summed, CanCount, CountsBy, CanBegin, read_numbers, Counted}

-- tables as long as those that were lent
pub record Long (k₀ k : Count) : Type 0 where
  pub starts-long : length k.starts ≡ length k₀.starts
  pub literals-long : length k.literals ≡ length k₀.literals
  pub stamps-long : length k.stamps ≡ length k₀.stamps

long-on : (k₀ k k' : Count) → Long k₀ k → Long k k' → Long k₀ k'
long-on k₀ k k' a b =
    record {
      starts-long = b.starts-long ∙ a.starts-long;
      literals-long = b.literals-long ∙ a.literals-long;
      stamps-long = b.stamps-long ∙ a.stamps-long;
    }

-- what leads on is not the text's end
abbrev is_on : Pass → Bool
is_on (on s) = true
is_on (to r) = false

no_end : (lim : Limits) (h : Header) (s s' : Sum) (k : Numeral) → at_numeral lim h s k ≡ on s' → is_end k ≡ false
unfolding at_numeral
no_end lim h s s' (Number x) e = refl
no_end lim h s s' (Bad n) e = refl
no_end lim h s s' End e = absurd (false≢true (ap is_on e))

-- the tables hold a reading on its way, which from here on, with turns enough, comes to what the whole does
pub record Coming (lim : Limits) (t : List ℕ) (h : Header) (line : ℕ) (w₀ w : Desk) (c : Cursor) (g : Going) : Type 0 where
  pub sum : Sum
  pub summed : Summed lim h w₀ w g sum
  pub turns : ℕ
  pub enough : left t c < turns
  pub rest : numbers_from turns lim t h c sum ≡ read_numbers lim t h line

-- so it is of whatever names and slots stood beside the tables, and of whatever they were at first
pub record Underway (lim : Limits) (t : List ℕ) (h : Header) (line : ℕ) (k₀ k : Count) (c : Cursor) (g : Going) : Type 0 where
  pub told : (w₀ : Desk) (ns os : List ℕ) → Summed lim h w₀ (desk_with ns os k₀) (outset h) (begun h) → Coming lim t h line w₀ (desk_with ns os k) c g
  pub stands : Stands t c
  pub inside : c.at < length t
  pub gap : is_gap (get_or t c.at 0) ≡ true
  pub long : Long k₀ k

module _ (lim : Limits) (t : List ℕ) (h : Header) (line : ℕ) (k₀ : Count) (can : CanBegin lim t h line k₀) where
  pub begun-way : Underway lim t h line k₀ k₀ (cursor_at h.end line) (outset h)
  begun-way =
      record {
        told = λ w₀ ns os k. record { sum = begun h; summed = k; turns = suc (length t); enough = omega arith; rest = refl };
        stands = can.stands;
        inside = can.inside;
        gap = can.gap;
        long = record { starts-long = refl; literals-long = refl; stamps-long = refl };
      }

  module _ (k : Count) (c : Cursor) (g : Going) (u : Underway lim t h line k₀ k c g) where
    first-summed : Summed lim h can.can.first (desk_with can.can.names can.can.slots k₀) (outset h) (begun h)
    first-summed =
        subst (Summed lim h can.can.first (desk_with can.can.names can.can.slots k₀) (outset h)) can.begun-is can.can.summed

    -- what the next number asks
    pub count-can : CanCount lim h k g
    count-can =
        let way = u.told can.can.first can.can.names can.can.slots first-summed in
        record { first = can.can.first; names = can.can.names; slots = can.can.slots; sum = way.sum; summed = way.summed; small = can.can.small }

    -- lines have numbers up to one more than the text has bytes
    pub cursor-low : c.line ≤ suc (length t)
    cursor-low = omega (arith, u.stands.most, times-le 10 (take c.at t), length-take-le c.at t u.stands.within, u.stands.within)

    -- where the next number is looked for
    pub at_gap : lim.text + 1 < 2 ^ 32 → AtGap t c
    at_gap few =
        record {
          place = record { closed = can.closed; short = omega (arith, can.short); inside = u.inside };
          low = omega (arith, cursor-low, can.short);
          gap = u.gap;
        }

    line_low : line_in (number_at t c).numeral ≤ suc (length t)
    line_low = by-numeral (number_at t c).numeral refl
      where
        by-numeral : (k : Numeral) → (number_at t c).numeral ≡ k → line_in k ≤ suc (length t)
        by-numeral (Number x) e = rw e at (number-line t c u.stands (ap is_end e)).most
        by-numeral (Bad n) e = rw e at (number-line t c u.stands (ap is_end e)).most
        by-numeral End e = omega arith

    pub met-low : {m : Met} → m ≡ number_at t c → line_in m.numeral ≤ suc (length t)
    met-low e = rw e line_low

    module _ (k' : Count) where
      -- one turn of the fuel
      one-turn : (s : Sum) (r : Reading) (n : ℕ) → left t c < n → numbers_from n lim t h c s ≡ r
          → (j : ℕ) × (left t c ≤ j) × (passed (at_numeral lim h s (number_at t c).numeral) (λ s'. numbers_from j lim t h (number_at t c).next s') ≡ r)
      unfolding numbers_from
      one-turn s r zero l e = absurd (omega arith)
      one-turn s r (suc n) l e = (n, omega arith, e)

      abbrev pub Follows : Cursor → D.Pass → Type 0
      Follows c' (P.On q) = (Long k k' → Underway lim t h line k₀ k' c' q) × (left t c' < left t c)
      Follows c' (P.Whole p) = Counted lim t h line k₀ k' (Ok p)
      Follows c' (P.Refused f) = Counted lim t h line k₀ k' (Err f)

      -- where it goes on it is nearer to the text's end
      goes_near : (s s' : Sum) → at_numeral lim h s (number_at t c).numeral ≡ on s' → left t (number_at t c).next < left t c
      goes_near s s' e = number-falls t c (no_end lim h s s' (number_at t c).numeral e)

      -- the whole reading, by what was met
      module _ (w₀ : Desk) (ns os : List ℕ) (b : Summed lim h w₀ (desk_with ns os k₀) (outset h) (begun h)) where
        abbrev way : Coming lim t h line w₀ (desk_with ns os k) c g
        way = u.told w₀ ns os b

        abbrev turn : (j : ℕ) × (left t c ≤ j) × (passed (at_numeral lim h way.sum (number_at t c).numeral) (λ s'. numbers_from j lim t h (number_at t c).next s') ≡ read_numbers lim t h line)
        turn = one-turn way.sum (read_numbers lim t h line) way.turns way.enough way.rest

        read-on : {v : Pass} → at_numeral lim h way.sum (number_at t c).numeral ≡ v
            → read_numbers lim t h line ≡ passed v (λ s'. numbers_from turn.0 lim t h (number_at t c).next s')
        read-on e = sym turn.2 ∙ ap (λ (v : Pass). passed v (λ s'. numbers_from turn.0 lim t h (number_at t c).next s')) e

        coming-on : (q : Going) → CountsBy lim h (number_at t c).numeral k g k' (P.On q) → Coming lim t h line w₀ (desk_with ns os k') (number_at t c).next q
        coming-on q by =
            let led = by.told w₀ ns os way.sum way.summed in
            record {
              sum = led.sum;
              summed = led.summed;
              turns = turn.0;
              enough = omega (arith, goes_near way.sum led.sum led.is, turn.1);
              rest = sym (read-on led.is);
            }

      follows : (r : D.Pass) → CountsBy lim h (number_at t c).numeral k g k' r → Follows (number_at t c).next r
      follows (P.On q) by =
          let first = by.told can.can.first can.can.names can.can.slots _ (way can.can.first can.can.names can.can.slots first-summed).summed in
          let place = number-gap t c can.closed (no_end lim h _ first.sum (number_at t c).numeral first.is) in (
            λ longer. record {
              told = λ w₀ ns os b. coming-on w₀ ns os b q by;
              stands = number-stands t c u.stands;
              inside = place.0;
              gap = place.1;
              long = long-on k₀ k k' u.long longer;
            },
            goes_near _ first.sum first.is,
          )
      follows (P.Whole p) by =
          record {
            told = λ w₀ ns os b.
                let l = by.told w₀ ns os (way w₀ ns os b).sum (way w₀ ns os b).summed in
                record { draft = l.draft; is = read-on w₀ ns os b l.is; drafted = l.drafted };
          }
      follows (P.Refused f) by =
          record {
            told = λ w₀ ns os b.
                let l = by.told w₀ ns os (way w₀ ns os b).sum (way w₀ ns os b).summed in
                (read-on w₀ ns os b l.0, l.1);
          }

      pub counted-on : {m : Met} (r : D.Pass) → m ≡ number_at t c → CountsBy lim h m.numeral k g k' r → Follows m.next r
      counted-on r e by = rw e (follows r (rw e at by))
