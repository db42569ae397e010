-- The tests of a flip list decide what it answers and leaves, and the flips leave what is written. Assumes nothing.
use Prim.Native.Nat.{ℕ, ◌+◌, ◌*◌, ◌≤◌, ◌<◌}
use mathlib.Core.Path.{◌≡◌, refl, ap, sym, subst, ◌∙◌}
use mathlib.Core.Bool.{Bool, true, false, not, ◌&&◌}
use mathlib.Core.List.{List, []}
use lib.ListN.{length, get_or, get_or-eq_default}
use lib.Dec.{ltb}
use borrow.Author.Tests.{ltb-false, lt-ltb, le-ltb, eq-eqb}
use Rattle.std.specs.Prelude.{Result, Ok, Err, ⊤}
use Rattle.written.specs.declared.Counts.{Counts}
use Rattle.written.specs.Lists.{all}
use Rattle.written.specs.Limits.{Limits}
use Rattle.written.specs.declared.Reason.{Reason}
use Rattle.written.specs.declared.Reason.TheVariants.{TableTooShort, TablesDisagree, UnknownTerm, ListTooLong, PinnedTerm}
use Rattle.written.specs.Tables.{Tables, lent, holding}
use Rattle.written.specs.Agreement.{state_in}
use Rattle.written.specs.Marks.{is_free, full_marked, agree_marked}
use Rattle.written.specs.Flips.{flipped}
use Rattle.written.specs.Outcomes.{leaves, ten, ten_of, flips_refused, flips_leave, flips_of}
use Rattle.laws.specs.Demands.{Acceptable}
use Rattle.laws.proofs.Basics.{by_cases}
use Rattle.laws.proofs.Leaves.{both-ten, ten-marked}
use Rattle.laws.proofs.Marks.{full-tables, agree-tables}
use Rattle.laws.proofs.FlipCalls.{passed}
use Rattle.machine.specs.Moving.{Moving}
use Rattle.machine.specs.Passes.{applied, CanApply}
use Rattle.machine.specs.Lent.{fixed_in, moving_in}
use Rattle.laws.proofs.Tests.{said_no, said-yes, second_no, second-yes}
use Rattle.flipping_lists.proofs.Applied.{agree_applies, agree-outcome, agree-leaves, agree-few, agree-counted}
use Rattle.flipping_lists.specs.Tests.{tests_of, terms_tested, CanFlipList}

-- past the marks a term is free
pub free-past : (ms : List ℕ) (t : ℕ) → length ms ≤ t → true ≡ is_free ms t
unfolding is_free
free-past ms t l = sym (eq-eqb (get_or ms t 0) 0 (get_or-eq_default ms 0 {n = t} l))

-- ---- the ways out of the tests, each test as it was answered

module _ (lim : Limits) (ts : List ℕ) (n : Counts) (t : Tables) (ms : List ℕ) {a : Bool} (asked : a ≡ full_marked lim t ms) where
  pub tests-short : not a ≡ true → Err TableTooShort ≡ tests_of lim ts n t ms
  unfolding tests_of
  tests-short q = rw (said_no q asked) refl

  module _ (full : not a ≡ false) where
    pub tests-long : lim.list < length ts → Err ListTooLong ≡ tests_of lim ts n t ms
    unfolding tests_of
    tests-long long = rw (said-yes full asked, lt-ltb lim.list (length ts) long) refl

    module _ (short : length ts ≤ lim.list) {b : Bool} (agrees : b ≡ (full_marked lim t ms && agree_marked lim n t ms)) where
      pub tests-disagree : not b ≡ true → Err TablesDisagree ≡ tests_of lim ts n t ms
      unfolding tests_of
      tests-disagree q =
          let e = said-yes full asked in
          rw (e, le-ltb lim.list (length ts) short, second_no (full_marked lim t ms) (agree_marked lim n t ms) e (said_no q agrees)) refl

      -- r was said of the list's terms
      pub tests-last : not b ≡ false → {r : Result ⊤ Reason} → r ≡ terms_tested n.terms ms ts → r ≡ tests_of lim ts n t ms
      unfolding tests_of terms_tested
      tests-last agreed said =
          let e = said-yes full asked in
          rw (e, le-ltb lim.list (length ts) short, second-yes (full_marked lim t ms) (agree_marked lim n t ms) e (said-yes agreed agrees)) said

module _ (known : ℕ) (ts ms : List ℕ) {k : Bool} (asked : k ≡ all (λ v. ltb v known) ts) where
  pub terms-unknown : not k ≡ true → Err UnknownTerm ≡ terms_tested known ms ts
  unfolding terms_tested
  terms-unknown q = rw (said_no q asked) refl

  module _ (all_Known : not k ≡ false) {f : Bool} (free : f ≡ all (is_free ms) ts) where
    pub terms-pinned : not f ≡ true → Err PinnedTerm ≡ terms_tested known ms ts
    unfolding terms_tested
    terms-pinned q = rw (said-yes all_Known asked, said_no q free) refl

    pub terms-free : not f ≡ false → Ok tt ≡ terms_tested known ms ts
    unfolding terms_tested
    terms-free q = rw (said-yes all_Known asked, said-yes q free) refl

-- ---- the flips of a list on tables that agree

module _ (lim : Limits) (ts : List ℕ) (n : Counts) (t : Tables) (h : CanFlipList lim ts n t)
    (top : ℕ) (fc : lim.clauses + 1 < top) (ft : 2 * lim.terms < top) (fl : lim.literals < top) where
  pub may_apply : CanApply top n.clauses (fixed_in t) ts (moving_in n.uncovered t)
  may_apply = agree_applies lim top fc ft fl n t h.full h.agrees ts h.known

  -- what the flips then leave
  module _ {w : Moving} (e : w ≡ applied n.clauses (fixed_in t) ts (moving_in n.uncovered t)) where
    outcome : w ≡ moving_in (length (flipped ts (state_in n t)).uncovered) (holding lim (flipped ts (state_in n t)) t)
    outcome = e ∙ agree-outcome lim top fc ft fl n t h.full h.agrees ts h.known

    number_is : w.tallies.uncovered.number ≡ length (flipped ts (state_in n t)).uncovered
    number_is = ap (λ (m : Moving). m.tallies.uncovered.number) outcome

    pub left-low : w.tallies.uncovered.number ≤ lim.clauses
    left-low = rw number_is (agree-few lim top fc ft fl n t h.full h.agrees ts h.known)

    pub was-flipped : {k : Counts} → k ≡ record { terms = n.terms; clauses = n.clauses; literals = n.literals; uncovered = w.tallies.uncovered.number }
        → ten (Ok k) (lent t.names w.words t.starts t.literals t.occurrence_starts t.occurrences w.tallies.trues
        w.tallies.breaks w.tallies.uncovered.list w.tallies.uncovered.places) ≡ ten_of (flips_leave lim t [] (flipped ts (state_in n t)))
    unfolding flips_leave
    was-flipped c =
        both-ten (ap Ok (c ∙ agree-counted lim top fc ft fl n t h.full h.agrees ts h.known number_is))
        (agree-leaves lim top fc ft fl n t h.full h.agrees ts h.known outcome)

-- ---- with the tests

module _ (lim : Limits) (ts : List ℕ) (n : Counts) (t : Tables) (ms : List ℕ) where
  -- what the tests say by what they come to
  abbrev Says : Result ⊤ Reason → Type 0
  Says (Ok tt) = Acceptable lim ts n t ms
  Says (Err e) = flips_of lim ts n t ms ≡ flips_refused n t ms e

  tests_say : Says (tests_of lim ts n t ms)
  unfolding flips_of tests_of
  tests_say =
      by_cases (full_marked lim t ms)
      (λ a. by_cases (ltb lim.list (length ts)) (λ b. let q : Says (Err ListTooLong) = rw (a, b) refl in rw (a, b) q)
      (λ b. by_cases (agree_marked lim n t ms)
      (λ d. by_cases (all (λ v. ltb v n.terms) ts)
      (λ e. by_cases (all (is_free ms) ts)
      (λ g. rw (a, b, d, e, g) (record { full = a; short = ltb-false lim.list (length ts) b; agrees = d; known = e; free = g }))
      (λ g. let q : Says (Err PinnedTerm) = rw (a, b, d, e, g) refl in rw (a, b, d, e, g) q))
      (λ e. let q : Says (Err UnknownTerm) = rw (a, b, d, e) refl in rw (a, b, d, e) q))
      (λ d. let q : Says (Err TablesDisagree) = rw (a, b, d) refl in rw (a, b, d) q)))
      (λ a. let q : Says (Err TableTooShort) = rw a refl in rw a q)

  -- what they said, as a
  module _ {a : Result ⊤ Reason} (asked : a ≡ tests_of lim ts n t ms) where
    -- where one fails, nothing changes
    pub was-refused : {e : Reason} → a ≡ Err e → leaves (Err (record { reason = e; counts = n })) t ms ≡ flips_of lim ts n t ms
    was-refused q = sym (subst Says (sym asked ∙ q) tests_say)

    -- where all are passed
    module _ (q : a ≡ Ok tt) where
      acceptable : Acceptable lim ts n t ms
      acceptable = subst Says (sym asked ∙ q) tests_say

      pub may_flip : CanFlipList lim ts n t
      may_flip =
          record {
            full = full-tables lim t ms acceptable.full;
            agrees = agree-tables lim t ms n acceptable.agrees;
            known = acceptable.known;
          }

      pub was-applied : {k : Counts} {u : Tables} → ten (Ok k) u ≡ ten_of (flips_leave lim t [] (flipped ts (state_in n t)))
          → leaves (Ok k) u ms ≡ flips_of lim ts n t ms
      unfolding flips_leave
      was-applied e = ten-marked e refl ∙ sym (passed lim ts n t ms acceptable)
