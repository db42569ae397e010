-- The lines of an answer, by the names and the value words that stand in the tables. Assumes nothing.
use Rattle.std.specs.Prelude.{ℕ, ◌≤◌, List, ◌++◌, length, take, Result, Ok, Err}
use Rattle.words.specs.Words.{bit_at, trues}
use Rattle.scan.specs.Text.{bytes}
use Rattle.written.specs.declared.Refusal.{Refusal}
use Rattle.written.specs.declared.Tour.{Tour}
use Rattle.written.specs.declared.Walked.{Walked}
use Rattle.written.specs.declared.Walked.TheVariants.{Found, GaveUp}
use Rattle.written.specs.Lists.{list_of}
use Rattle.written.specs.Limits.{Limits}
use Rattle.written.specs.Reasons.{fault}
use Rattle.written.specs.Printed.{decimal, line, answer, refusal}
use Rattle.pages.specs.Pages.{Page, CanPut}

-- the answer of the first n terms
unfoldable pub answer_in : ℕ → List ℕ → List ℕ → List ℕ
answer_in n names words = answer (take n names) (list_of n (bit_at words))

-- it fits, and the terms have names
pub record CanName (n : ℕ) (names words : List ℕ) (p : Page) : Type 0 where
  pub named : n ≤ length names
  pub fits : CanPut (answer_in n names words) p

-- how a walk ended, its walks and its flips
abbrev pub tour_lines : List ℕ → Tour → List ℕ
tour_lines result e = result ++ line "walks=" (decimal e.walks) ++ line "flips=" (decimal e.flips)

-- "chosen is the count of ones in the stored words"
unfoldable pub found_lines : Limits → Tour → List ℕ → List ℕ → List ℕ
found_lines lim e names words =
    tour_lines (line "result=" (bytes "found")) e
    ++ line "chosen=" (decimal (trues words lim.terms))
    ++ line "answer=" (answer_in e.counts.terms names words)

pub record CanFind (lim : Limits) (e : Tour) (names words : List ℕ) (p : Page) : Type 0 where
  pub named : e.counts.terms ≤ length names
  pub fits : CanPut (found_lines lim e names words) p

unfoldable pub gave_up_lines : Tour → List ℕ
gave_up_lines e = tour_lines (line "result=" (bytes "gaveup")) e ++ line "chosen=" (bytes "0") ++ line "answer=" (bytes "~?")

-- what an answer prints; the line of a refused walk is 0
unfoldable pub report_in : Limits → Result Walked Refusal → List ℕ → List ℕ → List ℕ
report_in lim (Ok (Found e)) names words = found_lines lim e names words
report_in lim (Ok (GaveUp e)) names words = gave_up_lines e
report_in lim (Err e) names words = refusal (fault e.reason)

-- how many names a report asks for
abbrev pub names_in : Result Walked Refusal → ℕ
names_in (Ok (Found e)) = e.counts.terms
names_in (Ok (GaveUp e)) = 0
names_in (Err e) = 0

pub record CanReport (lim : Limits) (a : Result Walked Refusal) (names words : List ℕ) (p : Page) : Type 0 where
  pub named : names_in a ≤ length names
  pub fits : CanPut (report_in lim a names words) p
