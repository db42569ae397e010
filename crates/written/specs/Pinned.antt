-- Pins, lifts, and calls where terms are marked, worked out under small limits: one table under one statement, which antt computes. Assumes nothing.
use Rattle.std.specs.Prelude.{ℕ, refl, List, [], ◌∷◌, drop}
use Rattle.scan.specs.Text.{bytes}
use Rattle.written.specs.declared.Counts.{Counts}
use Rattle.written.specs.declared.Order.{Order}
use Rattle.written.specs.Limits.{Limits}
use Rattle.written.specs.Clauses.{State}
use Rattle.written.specs.Tables.{Tables, no_counts, tables_of, cleared}
use Rattle.written.specs.Outcomes.{reading_of, walk_of, flips_of, pin_of, lift_of, read_values, walk_values, flip_values}
use Rattle.written.specs.Computing.{computing, ◌tells◌, Tells}
use Rattle.written.specs.Calls.{small, counts, sevens, given, free, holding, read, b_turned, a_turned, zero, Seen, Call, saw}

-- ---- what is asked

-- marks of the terms a and b
abbrev pub marks : ℕ → ℕ → List ℕ
marks a b = a ∷ b ∷ 0 ∷ 7 ∷ []

-- two entries fewer: one fewer than the full size
abbrev pub short : List ℕ
short = drop 2 free

abbrev pub pinning : ℕ → ℕ → Counts → Tables → List ℕ → Seen
pinning k v n t ms = saw flip_values (pin_of small k v n t ms)

abbrev pub lifting : ℕ → Counts → Tables → List ℕ → Seen
lifting k n t ms = saw flip_values (lift_of small k n t ms)

abbrev pub reading : List ℕ → Tables → List ℕ → Seen
reading x t ms = saw read_values (reading_of small x t ms)

abbrev pub walking : Order → Counts → Tables → List ℕ → Seen
walking o n t ms = saw walk_values (walk_of small o n t ms)

abbrev pub flipping : List ℕ → Counts → Tables → List ℕ → Seen
flipping ts n t ms = saw flip_values (flips_of small ts n t ms)

abbrev pub order : ℕ → ℕ → ℕ → ℕ → Order
order s f w b = record { seed = s; flips = f; walks = w; bias = b; even = 0 }

-- the tables of `a b`, `~a b`, `b`
abbrev pub three : List ℕ → List ℕ → Tables
three vs us = tables_of small s
  where
    s : State
    s = record { file = record { names = 97 ∷ 98 ∷ []; clauses = (0 ∷ 2 ∷ []) ∷ (1 ∷ 2 ∷ []) ∷ (2 ∷ []) ∷ [] }; values = vs; uncovered = us }

-- limits of fewer terms than clauses
abbrev pub few_terms : Limits
few_terms = record { text = 24; terms = 2; clauses = 3; literals = 5; list = 4 }

-- the tables of `a b` as read
abbrev pub one : Tables
one = tables_of few_terms (record { file = record { names = 97 ∷ 98 ∷ []; clauses = (0 ∷ 2 ∷ []) ∷ [] }; values = 0 ∷ 0 ∷ []; uncovered = 0 ∷ [] })

-- ---- what a call answers and leaves

abbrev pub done : Counts → Tables → List ℕ → Seen
done n t ms = record { values = record { result = 1; reason = 0; line = 0; walks = 0; flips = 0; counts = n }; tables = t; marks = ms }

abbrev pub ended : ℕ → ℕ → ℕ → Counts → Tables → List ℕ → Seen
ended r w f n t ms = record { values = record { result = r; reason = 0; line = 0; walks = w; flips = f; counts = n }; tables = t; marks = ms }

abbrev pub refused : ℕ → Counts → Tables → List ℕ → Seen
refused r n t ms = record { values = record { result = 0; reason = r; line = 0; walks = 0; flips = 0; counts = n }; tables = t; marks = ms }

-- what reading leaves of `a b`, `~a b`, and with b turned
abbrev pub as_read : Counts
as_read = counts 2 2 4 1

abbrev pub covered : Counts
covered = counts 2 2 4 0

-- marks by which the tables as read do not agree: a walk is refused by 12 and leaves all
abbrev pub walk_refused : List ℕ → Call
walk_refused ms = walking (order 1 10 1 400) as_read read ms tells refused 12 as_read read ms

-- ---- the table

abbrev pub table : List Call
table =
    -- "Pinning a term marks it and flips it if its value differs"; any number but 0 pins at 1
    (pinning 1 0 as_read read free tells done as_read read (marks 0 1))
    ∷ (pinning 1 1 as_read read free tells done covered b_turned (marks 0 2))
    ∷ (pinning 1 7 as_read read free tells done covered b_turned (marks 0 2))
    ∷ (pinning 1 7 covered b_turned free tells done covered b_turned (marks 0 2))
    -- the other way
    ∷ (pinning 1 0 covered b_turned (marks 0 2) tells done as_read read (marks 0 1))
    -- "lifting a pin clears only the mark"; a free term's too
    ∷ (lifting 1 covered b_turned (marks 0 2) tells done covered b_turned free)
    ∷ (lifting 0 covered b_turned (marks 0 2) tells done covered b_turned (marks 0 2))
    -- "test 1, 12, then 13 for an unknown term"
    ∷ (pinning 2 0 as_read read (marks 0 1) tells refused 13 as_read read (marks 0 1))
    ∷ (lifting 2 as_read read (marks 0 1) tells refused 13 as_read read (marks 0 1))
    ∷ (pinning 9 0 covered read free tells refused 12 covered read free)
    ∷ (lifting 9 covered b_turned (marks 0 3) tells refused 12 covered b_turned (marks 0 3))
    ∷ (pinning 9 0 covered read short tells refused 1 covered read short)
    ∷ (lifting 9 covered read short tells refused 1 covered read short)
    -- "20, a flip list names a pinned term, after 13, all unchanged"
    ∷ (flipping (0 ∷ []) as_read read (marks 0 1) tells done as_read a_turned (marks 0 1))
    ∷ (flipping (0 ∷ 1 ∷ []) as_read read (marks 0 1) tells refused 20 as_read read (marks 0 1))
    ∷ (flipping (1 ∷ 2 ∷ []) as_read read (marks 0 1) tells refused 13 as_read read (marks 0 1))
    ∷ (flipping (1 ∷ 9 ∷ []) covered read (marks 0 1) tells refused 12 covered read (marks 0 1))
    -- "reason 1 counts it"
    ∷ (flipping (9 ∷ []) covered read short tells refused 1 covered read short)
    ∷ (walking (order 0 10 1 400) covered read short tells refused 1 covered read short)
    ∷ (reading (bytes "a\n") given short tells refused 1 no_counts given short)
    -- "reading leaves it 0"
    ∷ (reading (bytes "a b\n~a b\n") given (sevens 4) tells done as_read read free)
    ∷ (reading (bytes "a ~a\n") given (sevens 4) tells refused 9 no_counts zero free)
    -- marks as many as the most terms are all there are, and what stands past those is not looked at
    ∷ (saw read_values (reading_of few_terms (bytes "a ~a\n") given (sevens 2)) tells refused 9 no_counts (cleared few_terms given) (0 ∷ 0 ∷ []))
    ∷ (saw flip_values (lift_of few_terms 0 (counts 2 1 2 1) one (0 ∷ 1 ∷ 7 ∷ [])) tells done (counts 2 1 2 1) one (0 ∷ 1 ∷ 7 ∷ []))
    -- "Tables agree only if marks are 0 to 2 and each pinned value is as marked", and the rest is 0
    ∷ walk_refused (marks 3 0)
    ∷ walk_refused (marks 0 2)
    ∷ walk_refused (0 ∷ 0 ∷ 1 ∷ 7 ∷ [])
    -- "A start gives a pinned term its value in place of the drawn bit"
    ∷ (walking (order 1 10 1 400) covered b_turned (marks 0 2)
    tells ended 1 1 0 covered (holding (3 ∷ 7 ∷ []) (2 ∷ 1 ∷ 0 ∷ 7 ∷ []) (0 ∷ 1 ∷ 0 ∷ 7 ∷ []) (0 ∷ 0 ∷ 0 ∷ 7 ∷ []) (0 ∷ 0 ∷ 0 ∷ 7 ∷ [])) (marks 0 2))
    -- "Step 4 of the walk looks only at literals of free terms"
    ∷ (walking (order 1 2 1 400) as_read read (marks 0 1) tells ended 2 1 2 as_read a_turned (marks 0 1))
    -- "if the chosen clause has none, the walk ends and the next begins, or after the last the run gives up": after a flip, and at once
    ∷ (walking (order 1 10 3 400) as_read read (marks 1 1) tells ended 2 3 0 as_read read (marks 1 1))
    ∷ (walking (order 2 20 2 500) (counts 2 3 5 2) (three (0 ∷ 0 ∷ []) (0 ∷ 2 ∷ [])) (0 ∷ 1 ∷ 0 ∷ [])
    tells ended 2 2 1 (counts 2 3 5 2) (three (0 ∷ 0 ∷ []) (0 ∷ 2 ∷ [])) (0 ∷ 1 ∷ 0 ∷ []))
    ∷ (walking (order 1 20 2 500) (counts 2 3 5 2) (three (0 ∷ 0 ∷ []) (0 ∷ 2 ∷ [])) (0 ∷ 1 ∷ 0 ∷ [])
    tells ended 2 2 0 (counts 2 3 5 2) (three (1 ∷ 0 ∷ []) (1 ∷ 2 ∷ [])) (0 ∷ 1 ∷ 0 ∷ []))
    ∷ []

pub shown : Tells table
unfolding computing
shown = refl
