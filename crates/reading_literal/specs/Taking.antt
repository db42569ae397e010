-- What a literal comes to, in the order of document 01; and what the tables hold between two literals. Assumes nothing.
use Rattle.std.specs.Prelude.{ℕ, ◌+◌, ◌≤◌, ◌<◌, ◌≡◌, Bool, not, cond, ◌&&◌, List, length, take, drop, set, leb, ltb, Result, Ok, Err}
use Rattle.written.specs.declared.Reason.{Reason}
use Rattle.written.specs.declared.Reason.TheVariants.{TooManyTerms, TooManyLiterals}
use Rattle.written.specs.Lists.{has, place_of}
use Rattle.written.specs.Limits.{Limits}
use Rattle.written.specs.Clauses.{literal_of}
use Rattle.machine.specs.Slots.{Indexed}
use Rattle.reading_literal.specs.Line.{line_in, Stamped}
use Rattle.reading_literal.specs.declared.Taken.{Taken}
use Rattle.reading_literal.specs.declared.Taken.TheVariants.{Held, Grown, Skipped, Dropped}

-- a literal of a name, where `known` are the names, `line` the literals of the line and `held` the number of all literals held:
-- "then dropping or skipping, then a new term's room (reason 6), then room for the literal (7)"
unfoldable pub fate : Limits → List ℕ → List ℕ → ℕ → ℕ → Bool → Result Taken Reason
fate lim known line held name negated =
    cond (has (literal_of (place_of name known) negated) line) (Ok Skipped)
    (cond (has (literal_of (place_of name known) (not negated)) line) (Ok Dropped)
    (cond (not (has name known) && leb lim.terms (length known)) (Err TooManyTerms)
    (cond (leb lim.literals held) (Err TooManyLiterals)
    (cond (has name known) (Ok Held) (Ok Grown)))))

-- how many terms and literals it adds
abbrev pub new_terms : Result Taken Reason → ℕ
new_terms (Ok Held) = 0
new_terms (Ok Grown) = 1
new_terms (Ok Skipped) = 0
new_terms (Ok Dropped) = 0
new_terms (Err e) = 0

abbrev pub new_literals : Result Taken Reason → ℕ
new_literals (Ok Held) = 1
new_literals (Ok Grown) = 1
new_literals (Ok Skipped) = 0
new_literals (Ok Dropped) = 0
new_literals (Err e) = 0

-- a table with an entry put at a place, where there is one to put
abbrev pub put_if : ℕ → List ℕ → ℕ → ℕ → List ℕ
put_if k xs i x = cond (ltb 0 k) (set xs i x) xs

-- what a known term's literal answers, and leaves in the literals and the stamps
pub record Placed : Type 0 where
  pub answer : Result Taken Reason
  pub literals : List ℕ
  pub stamps : List ℕ

abbrev pub placing : Result Taken Reason → List ℕ → List ℕ → Placed
placing r ls ms = record { answer = r; literals = ls; stamps = ms }

-- a known term's literal, by the line and the number of all literals held: "dropping or skipping, then .. room for the literal (7)"
unfoldable pub fate_of : Limits → List ℕ → ℕ → ℕ → Bool → Result Taken Reason
fate_of lim line held term negated =
    cond (has (literal_of term negated) line) (Ok Skipped)
    (cond (has (literal_of term (not negated)) line) (Ok Dropped)
    (cond (leb lim.literals held) (Err TooManyLiterals) (Ok Held)))

-- the tables by what becomes of it: held, it is the line's last, and its place is its term's stamp
abbrev pub placed_by : List ℕ → List ℕ → ℕ → ℕ → Bool → Result Taken Reason → Placed
placed_by literals stamps held term negated r =
    placing r (put_if (new_literals r) literals held (literal_of term negated)) (put_if (new_literals r) stamps term held)

unfoldable pub placed : Limits → List ℕ → List ℕ → ℕ → ℕ → ℕ → Bool → Placed
placed lim literals stamps from held term negated =
    placed_by literals stamps held term negated (fate_of lim (line_in literals from held) held term negated)

-- what that asks
pub record CanPlace (lim : Limits) (literals stamps : List ℕ) (from held term : ℕ) : Type 0 where
  pub stamped : Stamped literals from held stamps (length stamps)
  pub in_stamps : term < length stamps
  pub fits : term < 32768
  pub room : lim.literals ≤ length literals

-- how names are looked up: how many slots that takes, and what the slots hold of the names known
pub record Index : Type 1 where
  pub slots : ℕ
  pub holds : List ℕ → List ℕ → Type 0

-- by their homes, of which there are H
abbrev pub by_slots : ℕ → Limits → Index
by_slots H lim = record { slots = H + lim.terms + 1; holds = Indexed H lim.terms }

-- by their numbers: no slot is used
abbrev pub by_number : Index
by_number = record { slots = 0; holds = λ known slots. Unit {0} }

-- between two literals: the first `terms` names known, the literals below `held` held and those from `from` on the open line's
pub record OpenWith (X : Index) (lim : Limits) (names : List ℕ) (terms : ℕ) (literals : List ℕ) (from held : ℕ) (stamps slots : List ℕ) : Type 0 where
  pub names-room : lim.terms ≤ length names
  pub few-terms : terms ≤ lim.terms
  pub indexed : X.holds (take terms names) slots
  pub literals_room : lim.literals ≤ length literals
  pub few-literals : held ≤ lim.literals
  pub stamps-room : lim.terms ≤ length stamps
  pub stamped : Stamped literals from held stamps terms

-- after a literal: what it came to, the names and the literals by plain lists, and that the tables serve again
pub record TookWith (X : Index) (lim : Limits) (names : List ℕ) (terms : ℕ) (literals : List ℕ) (from held : ℕ) (stamps slots : List ℕ) (name : ℕ) (negated : Bool)
    (names' literals' stamps' slots' : List ℕ) (r : Result Taken Reason) : Type 0 where
  pub told : r ≡ fate lim (take terms names) (line_in literals from held) held name negated
  pub names-left : names' ≡ put_if (new_terms r) names terms name
  pub literals-left : literals' ≡ put_if (new_literals r) literals held (literal_of (place_of name (take terms names)) negated)
  pub again : OpenWith X lim names' (terms + new_terms r) literals' from (held + new_literals r) stamps' slots'
  pub stamps-beyond : drop lim.terms stamps' ≡ drop lim.terms stamps
  pub slots-beyond : drop X.slots slots' ≡ drop X.slots slots

-- with names looked up by their homes, of which there are H
abbrev pub Open : ℕ → Limits → List ℕ → ℕ → List ℕ → ℕ → ℕ → List ℕ → List ℕ → Type 0
Open H lim names terms literals from held stamps slots = OpenWith (by_slots H lim) lim names terms literals from held stamps slots

abbrev pub Took : ℕ → Limits → List ℕ → ℕ → List ℕ → ℕ → ℕ → List ℕ → List ℕ → ℕ → Bool → List ℕ → List ℕ → List ℕ → List ℕ → Result Taken Reason → Type 0
Took H lim names terms literals from held stamps slots name negated names' literals' stamps' slots' r =
    TookWith (by_slots H lim) lim names terms literals from held stamps slots name negated names' literals' stamps' slots' r
