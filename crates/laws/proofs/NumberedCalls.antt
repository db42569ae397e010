-- Request 4: a reading of numbered text as a call, accepted or refused, over whatever stood: what holds of any reading. Assumes nothing.
use Prim.Native.Nat.{ℕ, ◌^◌, ◌<◌}
use mathlib.Core.Logic.{◌↔◌, ◌⊎◌}
use mathlib.Core.Path.{◌≡◌}
use mathlib.Core.Bool.{true, false}
use mathlib.Core.List.{List, []}
use lib.ListN.{drop}
use Rattle.std.specs.Prelude.{Result, Ok, Err}
use Rattle.written.specs.declared.Counts.{Counts}
use Rattle.written.specs.declared.Reason.TheVariants.{TableTooShort}
use Rattle.written.specs.declared.Fault.{Fault}
use Rattle.written.specs.Limits.{Limits}
use Rattle.written.specs.Reasons.{fault}
use Rattle.written.specs.Clauses.{File, as_read}
use Rattle.written.specs.Reading.{Reading, accepted, refused, read_text}
use Rattle.written.specs.Numbered.{read_numbered}
use Rattle.written.specs.Tables.{Tables, each, full_sizes, counts_of, holding}
use Rattle.written.specs.Marks.{full_marked, unmarked, agree_marked}
use Rattle.written.specs.Outcomes.{leaves, ten, ten_of, unchanged, read_leaves, read_into, reading_of, numbered_of}
use Rattle.laws.specs.ReadCalls.{Filled, LeftAlone, Zeroed}
use Rattle.laws.specs.NumberedOutcomes.{reason_numbered, counts_numbered}
use Rattle.laws.specs.Excess.{SameInFull, SameMarks, SameCall}
use Rattle.laws.proofs.Drafts.{Sound}
use Rattle.laws.proofs.Readings.{reading-sound}
use Rattle.laws.proofs.NumberedReadings.{numbered-sound}
use Rattle.laws.proofs.ReadCalls as Any
use Rattle.laws.proofs.Excess.{into_same}

-- ---- what a call answers and leaves

module _ (lim : Limits) (text : List ℕ) (t : Tables) (ms : List ℕ) where
  -- for short tables the answer is reason 1, whatever the text
  pub short-numbered : full_marked lim t ms ≡ false → numbered_of lim text t ms ≡ unchanged t ms (Err (fault TableTooShort))
  unfolding numbered_of
  short-numbered = Any.short_into lim (read_numbered lim text) t ms

  pub full-numbered : full_marked lim t ms ≡ true → numbered_of lim text t ms ≡ read_leaves lim t ms (read_numbered lim text)
  unfolding numbered_of
  full-numbered = Any.full_into lim (read_numbered lim text) t ms

  pub accepted-answer : full_marked lim t ms ≡ true → (f : File) → read_numbered lim text ≡ accepted f → (numbered_of lim text t ms).answer ≡ Ok (counts_of (as_read f))
  unfolding numbered_of
  accepted-answer = Any.file-answer lim (read_numbered lim text) t ms

  pub accepted-tables : full_marked lim t ms ≡ true → (f : File) → read_numbered lim text ≡ accepted f → (numbered_of lim text t ms).tables ≡ holding lim (as_read f) t
  unfolding numbered_of
  accepted-tables = Any.file-tables lim (read_numbered lim text) t ms

  -- the marks are cleared where the tables are full
  pub marks-left : full_marked lim t ms ≡ true → (numbered_of lim text t ms).marks ≡ unmarked lim ms
  unfolding numbered_of
  marks-left = Any.marks_into lim (read_numbered lim text) t ms

  -- so what was read into the ten tables, with the marks cleared, is what the call leaves
  pub ten-numbered : full_marked lim t ms ≡ true → {a : Result Counts Fault} {u : Tables} → ten a u ≡ ten_of (read_leaves lim t [] (read_numbered lim text))
      → leaves a u (unmarked lim ms) ≡ numbered_of lim text t ms
  unfolding numbered_of
  ten-numbered full e = Any.ten_into lim (read_numbered lim text) t ms full e

  -- every text is accepted or refused, and none is both
  pub numbered-either : ((n : Counts) × ((numbered_of lim text t ms).answer ≡ Ok n)) ⊎ ((e : Fault) × ((numbered_of lim text t ms).answer ≡ Err e))
  unfolding numbered_of
  numbered-either = Any.into_either lim (read_numbered lim text) t ms

  pub numbered-not-both : (n : Counts) (e : Fault) → (numbered_of lim text t ms).answer ≡ Ok n → (numbered_of lim text t ms).answer ≡ Err e → ⊥
  unfolding numbered_of
  numbered-not-both = Any.into_not-both lim (read_numbered lim text) t ms

  -- accepted exactly if the tables are full and the text says a file
  pub accepted-exactly : ((n : Counts) × ((numbered_of lim text t ms).answer ≡ Ok n)) ↔ ((full_marked lim t ms ≡ true) × ((f : File) × (read_numbered lim text ≡ accepted f)))
  unfolding numbered_of
  accepted-exactly = Any.into_accepted-exactly lim (read_numbered lim text) t ms

  -- refused exactly if a table is short, or the tables are full and the text is at fault
  pub refused-exactly : (e : Fault)
      → ((numbered_of lim text t ms).answer ≡ Err e)
      ↔ (((full_marked lim t ms ≡ false) × (e ≡ fault TableTooShort)) ⊎ ((full_marked lim t ms ≡ true) × (read_numbered lim text ≡ refused e)))
  unfolding numbered_of
  refused-exactly = Any.into_refused-exactly lim (read_numbered lim text) t ms

  -- refused, it leaves all unchanged, by reason 1, or tables 0
  pub numbered-refused : (e : Fault) → (numbered_of lim text t ms).answer ≡ Err e
      → LeftAlone lim t ms e (numbered_of lim text t ms).tables (numbered_of lim text t ms).marks
      ⊎ ((read_numbered lim text ≡ refused e) × Zeroed lim t ms e (numbered_of lim text t ms).tables (numbered_of lim text t ms).marks)
  unfolding numbered_of
  numbered-refused = Any.into_refused lim (read_numbered lim text) t ms

  -- no reason is given exactly where the tables are full and the text says a file
  pub no_reason : (reason_numbered lim text t ms ≡ 0) ↔ ((full_marked lim t ms ≡ true) × ((f : File) × (read_numbered lim text ≡ accepted f)))
  unfolding numbered_of
  no_reason = Any.where_none lim (read_numbered lim text) t ms

-- ---- of a text whose file is proper where it says one

module _ (lim : Limits) (text : List ℕ) (small : lim.terms < 10 ^ 8) where
  sound : Sound lim (read_numbered lim text)
  sound = numbered-sound lim text small

  module _ (t : Tables) (ms : List ℕ) where
    -- of full tables and a text that says a file
    pub numbered-filled : full_marked lim t ms ≡ true → (f : File) → read_numbered lim text ≡ accepted f
        → Filled lim f t ms (counts_numbered lim text t ms) (numbered_of lim text t ms).tables (numbered_of lim text t ms).marks
    unfolding numbered_of
    numbered-filled = Any.into_filled lim (read_numbered lim text) t ms sound

    -- accepted, it leaves the tables of the file that the text says
    pub numbered-accepted : (n : Counts) → (numbered_of lim text t ms).answer ≡ Ok n
        → (f : File) × (full_marked lim t ms ≡ true) × (read_numbered lim text ≡ accepted f) × Filled lim f t ms n (numbered_of lim text t ms).tables (numbered_of lim text t ms).marks
    unfolding numbered_of
    numbered-accepted = Any.into_accepted lim (read_numbered lim text) t ms sound

    -- the tables left agree with the counts given exactly where no reason is given
    pub numbered-agrees : (reason_numbered lim text t ms ≡ 0)
        ↔ (agree_marked lim (counts_numbered lim text t ms) (numbered_of lim text t ms).tables (numbered_of lim text t ms).marks ≡ true)
    unfolding numbered_of
    numbered-agrees = Any.into_agrees lim (read_numbered lim text) t ms sound

  -- what stood before makes no difference

  -- full tables that are the same past their full sizes are read into alike
  pub numbered-by : (t u : Tables) (ms ns : List ℕ) → full_marked lim t ms ≡ true → full_marked lim u ns ≡ true
      → each drop (full_sizes lim) t ≡ each drop (full_sizes lim) u → drop lim.terms ms ≡ drop lim.terms ns → numbered_of lim text t ms ≡ numbered_of lim text u ns
  unfolding numbered_of
  numbered-by = Any.into_by lim (read_numbered lim text) sound

  -- a reading into tables that another has left, of whatever form, is as one into the tables before it
  pub numbered-over : (first : Reading) → Sound lim first → (t : Tables) (ms : List ℕ)
      → numbered_of lim text (read_into lim first t ms).tables (read_into lim first t ms).marks ≡ numbered_of lim text t ms
  unfolding numbered_of
  numbered-over = Any.into_over lim (read_numbered lim text) sound

  -- so over what our own text has left
  pub numbered-over-own : (first : List ℕ) (t : Tables) (ms : List ℕ)
      → numbered_of lim text (reading_of lim first t ms).tables (reading_of lim first t ms).marks ≡ numbered_of lim text t ms
  unfolding reading_of
  numbered-over-own first = numbered-over (read_text lim first) (reading-sound lim first)

  -- over what another numbered text has left
  pub numbered-over-numbered : (first : List ℕ) (t : Tables) (ms : List ℕ)
      → numbered_of lim text (numbered_of lim first t ms).tables (numbered_of lim first t ms).marks ≡ numbered_of lim text t ms
  unfolding numbered_of
  numbered-over-numbered first = numbered-over (read_numbered lim first) (numbered-sound lim first small)

  -- and our own text over what a numbered one has left
  pub own-over-numbered : (second : List ℕ) (t : Tables) (ms : List ℕ)
      → reading_of lim second (numbered_of lim text t ms).tables (numbered_of lim text t ms).marks ≡ reading_of lim second t ms
  unfolding reading_of numbered_of
  own-over-numbered second = Any.into_over lim (read_text lim second) (reading-sound lim second) (read_numbered lim text) sound

  -- read again, the same
  pub numbered-twice : (t : Tables) (ms : List ℕ) → numbered_of lim text (numbered_of lim text t ms).tables (numbered_of lim text t ms).marks ≡ numbered_of lim text t ms
  numbered-twice = numbered-over-numbered text

  -- the excess is never read
  pub numbered-same : (t u : Tables) (ms ns : List ℕ) → SameInFull lim t u → SameMarks lim ms ns → SameCall lim (numbered_of lim text t ms) (numbered_of lim text u ns)
  unfolding numbered_of
  numbered-same t u ms ns same marks = into_same lim t u ms ns same marks (read_numbered lim text) sound
