-- The tables that numbers are put into, the reading on its way that they hold, and how the code's turns are the written ones. Assumes nothing.
use Rattle.std.specs.Prelude.{ℕ, suc, ◌≤◌, ◌<◌, ◌≡◌, true, false, List, length, get_or, Result, Ok, Err}
use Rattle.scan.specs.Scan.{open_end, cursor_at}
use Rattle.written.specs.declared.Fault.{Fault}
use Rattle.written.specs.declared.Header.{Header}
use Rattle.written.specs.declared.Numeral.{Numeral}
use Rattle.written.specs.Limits.{Limits}
use Rattle.written.specs.Lending.{Held}
use Rattle.written.specs.Reading.{Reading, refused}
use Rattle.written.specs.Numerals.{is_gap}
use Rattle.written.specs.Numbered.{Sum, Pass, on, to, begun, at_numeral, numbers_from, numbers_in}
use Rattle.laws.proofs.Faults.{Stands}
use Rattle.laws.proofs.NumberedReadings.{Sums}
use Rattle.reading_literal.specs.Taking.{by_number}
use Rattle.reading_lines.specs.declared.Place.{Place}
use Rattle.reading_lines.specs.Drafting.{Desk, desk, BeyondWith, DraftedWith, LeadsWith, whole}
use Rattle.numbering.specs.declared.Going.{Going}
use Rattle.numbering.specs.declared.Pass as D
use Rattle.numbering.specs.declared.Pass.TheVariants as P
use Rattle.numbering.specs.Passes.{outset}

pub record Count : Type 0 where
  pub starts : List ℕ
  pub literals : List ℕ
  pub stamps : List ℕ

abbrev pub count : List ℕ → List ℕ → List ℕ → Count
count s l m = record { starts = s; literals = l; stamps = m }

abbrev pub count_at : Held → Held → Held → Count
count_at s l m = count s l m

-- these among the tables of a draft, beside the names and the slots
abbrev pub desk_with : List ℕ → List ℕ → Count → Desk
desk_with ns os k = desk ns k.starts k.literals k.stamps os

-- the tables w hold the reading s on its way, and g says how far it has come; they were w₀ at first
pub record Summed (lim : Limits) (h : Header) (w₀ w : Desk) (g : Going) (s : Sum) : Type 0 where
  pub drafted : DraftedWith by_number lim w₀ w g.place s.draft
  pub dropped-is : g.dropped ≡ s.is_dropped
  pub ended_is : g.ended ≡ s.ended
  pub sums : Sums lim h s

-- the tables hold some reading on its way
pub record CanCount (lim : Limits) (h : Header) (k : Count) (g : Going) : Type 0 where
  pub first : Desk
  pub names : List ℕ
  pub slots : List ℕ
  pub sum : Sum
  pub summed : Summed lim h first (desk_with names slots k) g sum
  pub small : h.variables ≤ lim.terms

-- the written pass u goes on with what the tables hold
pub record Onward (u : Pass) (lim : Limits) (h : Header) (w₀ w : Desk) (g : Going) : Type 0 where
  pub sum : Sum
  pub is : u ≡ on sum
  pub summed : Summed lim h w₀ w g sum

-- where the code goes is the written pass u
abbrev pub Passed : Limits → Header → Desk → Desk → Pass → D.Pass → Type 0
Passed lim h w₀ w u (P.On g) = Onward u lim h w₀ w g
Passed lim h w₀ w u (P.Whole p) = LeadsWith u (λ d. to (whole d)) by_number lim w₀ w p
Passed lim h w₀ w u (P.Refused f) = (u ≡ to (refused f)) × BeyondWith by_number lim w₀ w

-- whatever the tables held, what was met has done to it what is written
pub record CountsBy (lim : Limits) (h : Header) (k : Numeral) (t : Count) (g : Going) (t' : Count) (r : D.Pass) : Type 0 where
  pub told : (w₀ : Desk) (ns os : List ℕ) (s : Sum) → Summed lim h w₀ (desk_with ns os t) g s → Passed lim h w₀ (desk_with ns os t') (at_numeral lim h s k) r

-- the code ends with the reading u
abbrev pub EndsBy : Limits → Reading → Desk → Desk → Result Place Fault → Type 0
EndsBy lim u w₀ w (Ok p) = LeadsWith u whole by_number lim w₀ w p
EndsBy lim u w₀ w (Err f) = (u ≡ refused f) × BeyondWith by_number lim w₀ w

-- what the numbers of a text ask, after the header on a line: tables that hold the names of its variables
pub record CanBegin (lim : Limits) (t : List ℕ) (h : Header) (line : ℕ) (k : Count) : Type 0 where
  pub can : CanCount lim h k (outset h)
  pub begun-is : can.sum ≡ begun h
  pub short : length t ≤ lim.text
  pub closed : open_end t ≡ false
  pub stands : Stands t (cursor_at h.end line)
  pub inside : h.end < length t
  pub gap : is_gap (get_or t h.end 0) ≡ true

-- the reading of the numbers
abbrev pub read_numbers : Limits → List ℕ → Header → ℕ → Reading
read_numbers lim t h line = numbers_from (suc (length t)) lim t h (cursor_at h.end line) (begun h)

pub record Counted (lim : Limits) (t : List ℕ) (h : Header) (line : ℕ) (k k' : Count) (r : Result Place Fault) : Type 0 where
  pub told : (w₀ : Desk) (ns os : List ℕ) → Summed lim h w₀ (desk_with ns os k) (outset h) (begun h)
      → EndsBy lim (read_numbers lim t h line) w₀ (desk_with ns os k') r

-- what a draft of the text asks of its tables at first
pub record CanDraw (lim : Limits) (t names : List ℕ) (k : Count) : Type 0 where
  pub short : length t ≤ lim.text
  pub closed : open_end t ≡ false
  pub names-room : lim.terms ≤ length names
  pub starts-room : lim.clauses < length k.starts
  pub literals_room : lim.literals ≤ length k.literals
  pub stamps-room : lim.terms ≤ length k.stamps
  pub first : get_or k.starts 0 0 ≡ 0

-- what the code ends with is the written reading of the text, whatever stands in the slots
pub record Drawn (lim : Limits) (t names : List ℕ) (k : Count) (names' : List ℕ) (k' : Count) (r : Result Place Fault) : Type 0 where
  pub told : (os : List ℕ) → EndsBy lim (numbers_in lim t) (desk_with names os k) (desk_with names' os k') r
