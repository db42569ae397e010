-- A flip list as a call, in the document's words: `flips_of lim ts n t ms` is what the list ts answers and leaves, with counts n, lent tables t
-- and marks ms.
-- What is asked of a call, and what an accepted one leaves, stands in Demands. Assumes nothing.
use Rattle.std.specs.Prelude.{ℕ, ◌≤◌, ◌<◌, ◌↔◌, ◌⊎◌, ◌≡◌, true, false, List, length, ltb, Err}
use Rattle.written.specs.declared.Counts.{Counts}
use Rattle.written.specs.declared.Reason.{Reason}
use Rattle.written.specs.declared.Reason.TheVariants.{TableTooShort, ListTooLong, TablesDisagree, UnknownTerm, PinnedTerm}
use Rattle.written.specs.declared.Refusal.{Refusal}
use Rattle.written.specs.Lists.{all}
use Rattle.written.specs.Limits.{Limits}
use Rattle.written.specs.Reasons.{number_of}
use Rattle.written.specs.Tables.{Tables}
use Rattle.written.specs.Marks.{is_free, full_marked, agree_marked}
use Rattle.written.specs.Outcomes.{flips_of, flip_values}
use Rattle.laws.specs.Demands.{Acceptable}

-- ---- "A flip list tests 1, 14, 12, 13.", then 20

-- one fails that is made: each is when those before it are passed
pub data Fails (lim : Limits) (ts : List ℕ) (n : Counts) (t : Tables) (ms : List ℕ) : Reason → Type 0 where
  -- "a lent table is shorter than its full size"
  short : full_marked lim t ms ≡ false → Fails lim ts n t ms TableTooShort
  -- "a flip list longer than 65,536"
  long : full_marked lim t ms ≡ true → lim.list < length ts → Fails lim ts n t ms ListTooLong
  -- "tables do not agree"
  disagree : full_marked lim t ms ≡ true → length ts ≤ lim.list → agree_marked lim n t ms ≡ false → Fails lim ts n t ms TablesDisagree
  -- "a flip list names a term not below the term count"
  unknown : full_marked lim t ms ≡ true → length ts ≤ lim.list → agree_marked lim n t ms ≡ true → all (λ v. ltb v n.terms) ts ≡ false
      → Fails lim ts n t ms UnknownTerm
  -- "20, a flip list names a pinned term, after 13"
  pinned : full_marked lim t ms ≡ true → length ts ≤ lim.list → agree_marked lim n t ms ≡ true → all (λ v. ltb v n.terms) ts ≡ true
      → all (is_free ms) ts ≡ false → Fails lim ts n t ms PinnedTerm

-- the reason's number, and 0 where there is none
abbrev pub reason_given : Limits → List ℕ → Counts → Tables → List ℕ → ℕ
reason_given lim ts n t ms = (flip_values (flips_of lim ts n t ms).answer).reason

-- "given exactly when"
pub record Given (lim : Limits) (ts : List ℕ) (n : Counts) (t : Tables) (ms : List ℕ) : Type 0 where
  pub reason_1 : (reason_given lim ts n t ms ≡ 1) ↔ (full_marked lim t ms ≡ false)
  pub reason_14 : (reason_given lim ts n t ms ≡ 14) ↔ ((full_marked lim t ms ≡ true) × (lim.list < length ts))
  pub reason_12 : (reason_given lim ts n t ms ≡ 12) ↔ ((full_marked lim t ms ≡ true) × (length ts ≤ lim.list) × (agree_marked lim n t ms ≡ false))
  pub reason_13 : (reason_given lim ts n t ms ≡ 13)
      ↔ ((full_marked lim t ms ≡ true) × (length ts ≤ lim.list) × (agree_marked lim n t ms ≡ true) × (all (λ v. ltb v n.terms) ts ≡ false))
  pub reason_20 : (reason_given lim ts n t ms ≡ 20)
      ↔ ((full_marked lim t ms ≡ true) × (length ts ≤ lim.list) × (agree_marked lim n t ms ≡ true) × (all (λ v. ltb v n.terms) ts ≡ true)
      × (all (is_free ms) ts ≡ false))
  -- none is given where all tests are passed, and no other is given
  pub no_reason : (reason_given lim ts n t ms ≡ 0) ↔ Acceptable lim ts n t ms
  pub no_other : ((reason_given lim ts n t ms ≡ 0) ⊎ (reason_given lim ts n t ms ≡ 1))
      ⊎ ((reason_given lim ts n t ms ≡ 14) ⊎ ((reason_given lim ts n t ms ≡ 12) ⊎ ((reason_given lim ts n t ms ≡ 13) ⊎ (reason_given lim ts n t ms ≡ 20))))

-- a refusal e, and tables u where t was lent
pub record Refused (lim : Limits) (ts : List ℕ) (n : Counts) (t : Tables) (ms : List ℕ) (e : Refusal) (u : Tables) : Type 0 where
  pub fails : Fails lim ts n t ms e.reason
  -- "all unchanged"
  pub left : u ≡ t
  -- "A refused walk or flip list returns the counts it was given"; its line is 0
  pub counts : e.counts ≡ n
  pub values : flip_values (Err e) ≡ record { result = 0; reason = number_of e.reason; line = 0; walks = 0; flips = 0; counts = n }
