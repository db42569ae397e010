-- Where a cursor may stand, and what is read of a word by one pass over its digits. Assumes nothing.
use Rattle.std.specs.Prelude.{ℕ, suc, ◌-◌, ◌^◌, ◌≤◌, ◌<◌, ◌≡◌, Bool, true, false, not, cond, ◌&&◌, List, length, get_or, eqb, leb}
use Rattle.scan.specs.declared.Cursor.{Cursor}
use Rattle.scan.specs.Scan.{open_end}
use Rattle.written.specs.Sheet.{is_digit}
use Rattle.written.specs.Numerals.{is_gap, word_end, word_at}
use Rattle.digits.proofs.Digits.{Counted}
use Rattle.numerals.specs.declared.Digits.{Digits}

-- a place in a text that ends with its last line, and is short enough for its places and lines to be counted
pub record Within (t : List ℕ) (at : ℕ) : Type 0 where
  pub closed : open_end t ≡ false
  pub short : length t < 2 ^ 32
  pub inside : at < length t

-- a cursor on a gap: so it stands after the header and after each number
pub record AtGap (t : List ℕ) (c : Cursor) : Type 0 where
  pub place : Within t c.at
  pub low : c.line ≤ 2 ^ 32
  pub gap : is_gap (get_or t c.at 0) ≡ true

-- the digits from a place up to i, of which n is the number, within the word that stands there
pub record Run (t : List ℕ) (from i n : ℕ) : Type 0 where
  pub begun : from ≤ i
  pub inside : i < length t
  pub run : word_end t i ≡ word_end t from
  pub counted : Counted (word_at t from) (i - from) n
  pub digits : (j : ℕ) → from ≤ j → j < i → is_digit (get_or t j 0) ≡ true
  pub lead : n ≡ 0 → from < i → get_or t from 0 ≡ 48
  pub one : i ≡ suc from → n ≡ get_or t from 0 - 48

-- all of them, up to a second place
pub record Stops (t : List ℕ) (from stop i n : ℕ) : Type 0 where
  pub run : Run t from i n
  pub most : i ≤ stop
  pub halts : i < stop → is_digit (get_or t i 0) ≡ false

-- whether the digits from a place on, with a minus before them or without, are all of a word and a number: "1 to 10 digits with no leading 0, and 0 stands
-- without a minus"; that there is a digit is seen by the number, which is 0 without one
unfoldable pub is_whole : List ℕ → ℕ → Digits → Bool → Bool
is_whole t from d negated =
    leb (d.end - from) 10 && is_gap (get_or t d.end 0)
    && cond (eqb d.number 0) (not negated && eqb (d.end - from) 1) (not (eqb (get_or t from 0) 48))
