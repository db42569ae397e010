-- A walk as a call, in the words of demands 1 and 2 and of the document: `walk_of lim o n t ms` is what the walks of the order o answer and leave,
-- with counts n, lent tables t and marks ms. Assumes nothing.
use Rattle.std.specs.Prelude.{ℕ, suc, ◌*◌, ◌≤◌, ◌<◌, ◌↔◌, ◌⊎◌, ◌≡◌, true, false, List, [], length, get_or, Ok, Err}
use Rattle.draw.specs.Xorshift.{next_of}
use Rattle.words.specs.Words.{state_after, word_count}
use Rattle.written.specs.declared.Counts.{Counts}
use Rattle.written.specs.declared.Order.{Order}
use Rattle.written.specs.declared.Reason.{Reason}
use Rattle.written.specs.declared.Reason.TheVariants.{TableTooShort, OutOfRange, TablesDisagree}
use Rattle.written.specs.declared.Refusal.{Refusal}
use Rattle.written.specs.declared.Tour.{Tour}
use Rattle.written.specs.declared.Walked.TheVariants as W
use Rattle.written.specs.Lists.{has, differ}
use Rattle.written.specs.Limits.{Limits}
use Rattle.written.specs.Reasons.{number_of}
use Rattle.written.specs.Clauses.{File, value_of, true_count, as_read}
use Rattle.written.specs.Drawing.{heads}
use Rattle.written.specs.Walk.{Moment, Outcome, start, is_found, clause_picked, step, is_stuck, stuck_at, walk_over}
use Rattle.written.specs.Orders.{seeds, in_range}
use Rattle.written.specs.Tables.{Tables}
use Rattle.written.specs.Agreement.{file_in, state_in}
use Rattle.written.specs.Marks.{is_free, full_marked, agree_marked}
use Rattle.written.specs.Outcomes.{tour, walk_leaves, walk_of, walk_values}
use Rattle.laws.specs.Valid.{Bits}
use Rattle.laws.specs.Calls.{Stands, SameFile}

-- ---- the written walk, step for step

-- where the walks of an order over a file come by, under marks: n walks are begun, and k flips are left to the last of these
pub data Comes (o : Order) (ms : List ℕ) (f : File) : ℕ → ℕ → Moment → Type 0 where
  -- "The generator's state is [..] at first the seed."
  seeded : Comes o ms f 0 0 (record { state = as_read f; generator = o.seed; flips = 0 })
  -- 1, at first and where the walk before has ended and not found: "next walk from 1"
  starts : (n : ℕ) (m : Moment) → Comes o ms f n 0 m → n < o.walks → (0 < n → is_found m.state ≡ false) → Comes o ms f (suc n) o.flips (start ms m)
  -- 3, 4 and 5: "Back to 2"
  goes_on : (n k : ℕ) (m : Moment) → Comes o ms f n (suc k) m → is_found m.state ≡ false → is_stuck o ms m ≡ false → Comes o ms f n k (step o ms m)
  -- document 02: "if the chosen clause has none, the walk ends", with the clause drawn for: no flip is left to it
  sticks : (n k : ℕ) (m : Moment) → Comes o ms f n (suc k) m → is_found m.state ≡ false → is_stuck o ms m ≡ true → Comes o ms f n 0 (stuck_at o m)

-- the states of the generator at which the walks draw, by a reading of steps 1, 3 and 4; it may name a state at which none is made, as after heads
-- where a single literal is taken
pub data DrawsAt (o : Order) (ms : List ℕ) (f : File) : ℕ → Type 0 where
  -- 1. "for every 32 terms, or the part of 32 at the end, one draw": j of these are made
  at-start : (n j : ℕ) (m : Moment) → Comes o ms f n 0 m → n < o.walks → (0 < n → is_found m.state ≡ false) → j < word_count (length f.names)
      → DrawsAt o ms f (state_after m.generator j)
  -- 3. "A choice among the uncovered list gives the clause."
  for-clause : (n k : ℕ) (m : Moment) → Comes o ms f n (suc k) m → is_found m.state ≡ false → DrawsAt o ms f m.generator
  -- 4. "draw for heads", or a choice among several at the least where this is 0
  in_clause_lem : (n k : ℕ) (m : Moment) → Comes o ms f n (suc k) m → is_found m.state ≡ false → DrawsAt o ms f (clause_picked o m).state
  -- 4. "on heads a choice among all its literals", or else among several at the least
  after-heads : (n k : ℕ) (m : Moment) → Comes o ms f n (suc k) m → is_found m.state ≡ false
      → DrawsAt o ms f (heads o (clause_picked o m).state).next.state
  -- document 02: an even choice may "draw again"
  again : (y : ℕ) → DrawsAt o ms f y → DrawsAt o ms f (next_of y)

-- how the walks end over the file that the tables hold
abbrev pub written : Order → Counts → Tables → List ℕ → Outcome
written o n t ms = walk_over o ms (file_in n t)

-- ---- the tests: "A walk tests 1, 11, 12."

-- all three are passed
pub record Allowed (lim : Limits) (o : Order) (n : Counts) (t : Tables) (ms : List ℕ) : Type 0 where
  pub full : full_marked lim t ms ≡ true
  pub range : in_range o ≡ true
  pub agrees : agree_marked lim n t ms ≡ true

-- one fails that is made: each is when those before it are passed
pub data Fails (lim : Limits) (o : Order) (n : Counts) (t : Tables) (ms : List ℕ) : Reason → Type 0 where
  -- "a lent table is shorter than its full size"
  short : full_marked lim t ms ≡ false → Fails lim o n t ms TableTooShort
  -- "a number outside its range"
  outside : full_marked lim t ms ≡ true → in_range o ≡ false → Fails lim o n t ms OutOfRange
  -- "tables do not agree"
  disagree : full_marked lim t ms ≡ true → in_range o ≡ true → agree_marked lim n t ms ≡ false → Fails lim o n t ms TablesDisagree

-- the reason's number, and 0 where there is none
abbrev pub reason_given : Limits → Order → Counts → Tables → List ℕ → ℕ
reason_given lim o n t ms = (walk_values (walk_of lim o n t ms).answer).reason

-- "given exactly when"
pub record Given (lim : Limits) (o : Order) (n : Counts) (t : Tables) (ms : List ℕ) : Type 0 where
  pub reason_1 : (reason_given lim o n t ms ≡ 1) ↔ (full_marked lim t ms ≡ false)
  pub reason_11 : (reason_given lim o n t ms ≡ 11) ↔ ((full_marked lim t ms ≡ true) × (in_range o ≡ false))
  pub reason_12 : (reason_given lim o n t ms ≡ 12) ↔ ((full_marked lim t ms ≡ true) × (in_range o ≡ true) × (agree_marked lim n t ms ≡ false))
  -- none is given where all tests are passed, and no other is given
  pub no_reason : (reason_given lim o n t ms ≡ 0) ↔ Allowed lim o n t ms
  pub no_other : ((reason_given lim o n t ms ≡ 0) ⊎ (reason_given lim o n t ms ≡ 1)) ⊎ ((reason_given lim o n t ms ≡ 11) ⊎ (reason_given lim o n t ms ≡ 12))

-- ---- what a call answers and leaves: a tour e or a refusal e, and tables u where t was lent

-- found or given up
pub record Ended (lim : Limits) (o : Order) (n : Counts) (t : Tables) (ms : List ℕ) (e : Tour) (u : Tables) : Type 0 where
  pub allowed : Allowed lim o n t ms
  -- "[..] walking give the values, counts and outcome that the written walk gives, step for step"
  pub made : e ≡ tour (written o n t ms)
  pub comes : (k : ℕ) × Comes o ms (file_in n t) e.walks k (written o n t ms).last
  pub stands : Stands lim (written o n t ms).last.state t e.counts u ms
  -- the file is the one that stood
  pub file : file_in e.counts u ≡ file_in n t
  pub counts : SameFile n e.counts
  -- "Walks are those begun; flips are summed over all of them": "Every run ends"
  pub some_walk : 0 < e.walks
  pub walks-most : e.walks ≤ o.walks
  pub flips-most : e.flips ≤ e.walks * o.flips
  -- "The generator's state is a number from 1 to 4,294,967,295": none of these is 0
  pub draws : (y : ℕ) → DrawsAt o ms (file_in n t) y → (seeds.least ≤ y) × (y ≤ seeds.most)

-- the values that stand in the tables left, and a clause that was kept
abbrev pub values_left : Tour → Tables → List ℕ
values_left e u = (state_in e.counts u).values

abbrev pub clause_kept : Counts → Tables → ℕ → List ℕ
clause_kept n t c = get_or (file_in n t).clauses c []

pub record Found (lim : Limits) (o : Order) (n : Counts) (t : Tables) (ms : List ℕ) (e : Tour) (u : Tables) : Type 0 where
  pub ended : Ended lim o n t ms e u
  pub finds : (written o n t ms).found ≡ true
  -- "If no clause is uncovered: found."
  pub none-uncovered : e.counts.uncovered ≡ 0
  -- "each clause kept has a true literal"
  pub covered : (c : ℕ) → c < n.clauses → 0 < true_count (values_left e u) (clause_kept n t c)
  pub true-literal : (c : ℕ) → c < n.clauses → (l : ℕ) × (has l (clause_kept n t c) ≡ true) × (value_of (values_left e u) l ≡ 1)
  -- "A found answer names every term once": no two terms have one name, and each has one value, 0 or 1
  pub names-differ : differ (file_in n t).names ≡ true
  pub one-name-each : length (file_in n t).names ≡ n.terms
  pub one-value-each : length (values_left e u) ≡ n.terms
  pub bits : Bits (values_left e u)

pub record GaveUp (lim : Limits) (o : Order) (n : Counts) (t : Tables) (ms : List ℕ) (e : Tour) (u : Tables) : Type 0 where
  pub ended : Ended lim o n t ms e u
  -- "Giving up is reported only when the written walk gives up."
  pub gives_up : (written o n t ms).found ≡ false
  -- every walk is begun and has "made its flips", or as many as it made until the chosen clause had no literal of a free term
  pub all-walks : e.walks ≡ o.walks
  pub few-flips : e.flips ≤ o.walks * o.flips
  -- where no term is pinned, it has made them all
  pub all-flips-free : ((k : ℕ) → k < n.terms → is_free ms k ≡ true) → e.flips ≡ o.walks * o.flips
  -- a clause is uncovered
  pub some-uncovered : 0 < e.counts.uncovered
  pub no_true-literal : (c : ℕ) × (c < n.clauses) × (true_count (values_left e u) (clause_kept n t c) ≡ 0)
  -- "After giving up, the tables hold the last walk's end": no walk is left, and no flip to the last
  pub last_end : Comes o ms (file_in n t) o.walks 0 (written o n t ms).last

pub record Refused (lim : Limits) (o : Order) (n : Counts) (t : Tables) (ms : List ℕ) (e : Refusal) (u : Tables) : Type 0 where
  pub fails : Fails lim o n t ms e.reason
  -- "all unchanged"
  pub left : u ≡ t
  -- "A refused walk [..] returns the counts it was given; a refused walk returns 0 walks and 0 flips"; its line is 0
  pub values : walk_values (Err e) ≡ record { result = 0; reason = number_of e.reason; line = 0; walks = 0; flips = 0; counts = n }

-- ---- the three outcomes: "found, gave up, or refused by a listed reason"

abbrev pub IsFound : Limits → Order → Counts → Tables → List ℕ → Type 0
IsFound lim o n t ms = (e : Tour) × ((walk_of lim o n t ms).answer ≡ Ok (W.Found e)) × Found lim o n t ms e (walk_of lim o n t ms).tables

abbrev pub IsGivenUp : Limits → Order → Counts → Tables → List ℕ → Type 0
IsGivenUp lim o n t ms = (e : Tour) × ((walk_of lim o n t ms).answer ≡ Ok (W.GaveUp e)) × GaveUp lim o n t ms e (walk_of lim o n t ms).tables

abbrev pub IsRefused : Limits → Order → Counts → Tables → List ℕ → Type 0
IsRefused lim o n t ms = (e : Refusal) × ((walk_of lim o n t ms).answer ≡ Err e) × Refused lim o n t ms e (walk_of lim o n t ms).tables

-- ---- demand 2 of tables u and marks us that a reading has filled with a file, counts n, where t was lent: no term is pinned

pub record WalksOver (lim : Limits) (f : File) (o : Order) (t : Tables) (n : Counts) (u : Tables) (us : List ℕ) : Type 0 where
  -- "[..] walking give the values, counts and outcome that the written walk gives"
  pub left : walk_of lim o n u us ≡ walk_leaves lim t us (walk_over o [] f)
  pub file : file_in n u ≡ f
  pub made : written o n u us ≡ walk_over o [] f
  -- "A found answer names every term once, and each clause kept has a true literal."
  pub finds : (walk_over o [] f).found ≡ true → ((walk_of lim o n u us).answer ≡ Ok (W.Found (tour (walk_over o [] f)))) × Found lim o n u us (tour (walk_over o [] f)) (walk_of lim o n u us).tables
  pub gives_up : (walk_over o [] f).found ≡ false → ((walk_of lim o n u us).answer ≡ Ok (W.GaveUp (tour (walk_over o [] f)))) × GaveUp lim o n u us (tour (walk_over o [] f)) (walk_of lim o n u us).tables
  -- "Giving up is reported only when the written walk gives up."
  pub found-only : (e : Tour) → (walk_of lim o n u us).answer ≡ Ok (W.Found e) → (walk_over o [] f).found ≡ true
  pub up-only : (e : Tour) → (walk_of lim o n u us).answer ≡ Ok (W.GaveUp e) → (walk_over o [] f).found ≡ false
