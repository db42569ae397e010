-- The tests of a walk decide what it answers and leaves. Assumes nothing.
use Prim.Native.Nat.{ℕ}
use mathlib.Core.Path.{◌≡◌, sym, subst, ◌∙◌}
use mathlib.Core.List.{List}
use Rattle.std.specs.Prelude.{Result, Ok, Err, ⊤}
use Rattle.written.specs.declared.Refusal.{Refusal}
use Rattle.written.specs.declared.Counts.{Counts}
use Rattle.written.specs.declared.Order.{Order}
use Rattle.written.specs.declared.Walked.{Walked}
use Rattle.written.specs.declared.Reason.{Reason}
use Rattle.written.specs.Limits.{Limits}
use Rattle.written.specs.Tables.{Tables}
use Rattle.written.specs.Marks.{full_marked, agree_marked}
use Rattle.written.specs.Orders.{in_range}
use Rattle.written.specs.Outcomes.{Leaves, leaves, walk_of}
use Rattle.laws.specs.WalkCalls.{Allowed, Fails}
use Rattle.laws.specs.WalkCalls.Fails.{short, outside, disagree}
use Rattle.laws.proofs.Basics.{by_cases}
use Rattle.laws.proofs.WalkCalls.{failed, passed}
use Rattle.walking.specs.Made.{walk_made}
use Rattle.walking_call.specs.Tests.{tests_of}

module _ (lim : Limits) (o : Order) (n : Counts) (t : Tables) (ms : List ℕ) where
  -- what the tests say by what they come to
  abbrev Says : Result ⊤ Reason → Type 0
  Says (Ok tt) = Allowed lim o n t ms
  Says (Err e) = Fails lim o n t ms e

  tests_say : Says (tests_of lim o n t ms)
  unfolding tests_of
  tests_say =
      by_cases (full_marked lim t ms)
      (λ a. by_cases (in_range o)
      (λ b. by_cases (agree_marked lim n t ms) (λ d. rw (a, b, d) (record { full = a; range = b; agrees = d })) (λ d. rw (a, b, d) (disagree a b d)))
      (λ b. rw (a, b) (outside a b)))
      (λ a. rw a (short a))

  -- where one fails, nothing changes
  module _ {e : Reason} (h : tests_of lim o n t ms ≡ Err e) where
    fails : Fails lim o n t ms e
    fails = subst Says h tests_say

    refused-leaves : leaves (Err (record { reason = e; counts = n })) t ms ≡ walk_of lim o n t ms
    refused-leaves = sym (failed lim o n t ms e fails)

  -- where all are passed, the walks are made
  module _ (h : tests_of lim o n t ms ≡ Ok tt) where
    passed-allowed : Allowed lim o n t ms
    passed-allowed = subst Says h tests_say

    made-leaves : {l : Leaves (Result Walked Refusal)} → l ≡ walk_made lim o n t ms → l ≡ walk_of lim o n t ms
    made-leaves q = q ∙ sym (passed lim o n t ms passed-allowed)

-- what the tests said, as a
module _ (lim : Limits) (o : Order) (n : Counts) (t : Tables) (ms : List ℕ) {a : Result ⊤ Reason} (asked : a ≡ tests_of lim o n t ms) where
  pub was-refused : {e : Reason} → a ≡ Err e → leaves (Err (record { reason = e; counts = n })) t ms ≡ walk_of lim o n t ms
  was-refused q = refused-leaves lim o n t ms (sym asked ∙ q)

  pub was-allowed : a ≡ Ok tt → Allowed lim o n t ms
  was-allowed q = passed-allowed lim o n t ms (sym asked ∙ q)

  pub was-made : a ≡ Ok tt → {l : Leaves (Result Walked Refusal)} → l ≡ walk_made lim o n t ms → l ≡ walk_of lim o n t ms
  was-made q = made-leaves lim o n t ms (sym asked ∙ q)
