-- The tests of a pin and of a lift decide what these answer and leave, and a term that has its value is not flipped. Assumes nothing.
use Prim.Native.Nat.{ℕ, ◌+◌, ◌≤◌, ◌<◌}
use mathlib.Core.Path.{◌≡◌, refl, ap, sym, subst, ◌∙◌}
use mathlib.Core.Bool.{Bool, true, false, not, ◌&&◌}
use mathlib.Core.List.{List, [], ◌∷◌}
use native.Mathlib.Omega.{arith}
use lib.ListN.{length, get_or, set}
use lib.Dec.{eqb, ltb}
use borrow.Author.Tests.{ltb-true, lt-ltb, le-ltb, leb-true, eq-eqb, ne_eqb}
use mir.Val.{bool_byte}
use Rattle.std.specs.Prelude.{Result, Ok, Err, ⊤}
use Rattle.words.specs.Words.{bit_at}
use Rattle.written.specs.declared.Refusal.{Refusal}
use Rattle.written.specs.declared.Counts.{Counts}
use Rattle.written.specs.declared.Reason.{Reason}
use Rattle.written.specs.declared.Reason.TheVariants.{TableTooShort, TablesDisagree, UnknownTerm}
use Rattle.written.specs.Limits.{Limits}
use Rattle.written.specs.Clauses.{State}
use Rattle.written.specs.Tables.{Tables}
use Rattle.written.specs.Agreement.{state_in, counts_fit, agree}
use Rattle.written.specs.Marks.{marks_full, full_marked, agree_marked}
use Rattle.written.specs.Flips.{flipped}
use Rattle.written.specs.Outcomes.{Leaves, leaves, ten, ten_of, flips_refused, flips_leave, term_tested, value_asked, flips_for, pin_of, lift_of}
use Rattle.laws.proofs.Basics.{by_cases, both, both_first}
use Rattle.laws.proofs.Lists.{get_or-list_of}
use Rattle.laws.proofs.Leaves.{both-ten, ten-marked}
use Rattle.laws.proofs.Marks.{full-tables, full-marks, agree-tables}
use Rattle.laws.proofs.Agreeing.{agree-counts, agree-holding}
use Rattle.laws.proofs.Tests.{said_no, said-yes, second_no, second-yes}
use Rattle.machine.proofs.File.{counts-fit}
use Rattle.flipping_lists.specs.Tests.{CanFlipList}
use Rattle.pins.specs.Tests.{tests_of}

-- ---- the ways out of the tests, each test as it was answered

module _ (lim : Limits) (k : ℕ) (n : Counts) (t : Tables) (ms : List ℕ) {a : Bool} (asked : a ≡ full_marked lim t ms) where
  pub tests-short : not a ≡ true → Err TableTooShort ≡ tests_of lim k n t ms
  unfolding tests_of
  tests-short q = rw (said_no q asked) refl

  module _ (full : not a ≡ false) {b : Bool} (agrees : b ≡ (full_marked lim t ms && agree_marked lim n t ms)) where
    full_is : full_marked lim t ms ≡ true
    full_is = said-yes full asked

    pub tests-disagree : not b ≡ true → Err TablesDisagree ≡ tests_of lim k n t ms
    unfolding tests_of
    tests-disagree q = rw (full_is, second_no (full_marked lim t ms) (agree_marked lim n t ms) full_is (said_no q agrees)) refl

    module _ (agreed : not b ≡ false) where
      agree-is : agree_marked lim n t ms ≡ true
      agree-is = second-yes (full_marked lim t ms) (agree_marked lim n t ms) full_is (said-yes agreed agrees)

      pub tests-unknown : n.terms ≤ k → Err UnknownTerm ≡ tests_of lim k n t ms
      unfolding tests_of
      tests-unknown l = rw (full_is, agree-is, le-ltb k n.terms l) refl

      pub tests-passed : k < n.terms → Ok tt ≡ tests_of lim k n t ms
      unfolding tests_of
      tests-passed l = rw (full_is, agree-is, lt-ltb k n.terms l) refl

-- ---- the value asked for

pub as-asked : (v : ℕ) → bool_byte (not (eqb v 0)) ≡ value_asked v
unfolding value_asked
as-asked v = by_cases (eqb v 0) (λ h. rw h refl) (λ h. rw h refl)

pub asked-low : (v : ℕ) → value_asked v < 2
unfolding value_asked
asked-low v = by_cases (eqb v 0) (λ h. rw h (omega arith)) (λ h. rw h (omega arith))

-- ---- the flip of one term

-- one known term as a list
pub one_known : (k m : ℕ) → k < m → (ltb k m && true) ≡ true
one_known k m l = both (ltb k m) true (lt-ltb k m l) refl

module _ (lim : Limits) (k : ℕ) (n : Counts) (t : Tables) (h : CanFlipList lim (k ∷ []) n t) where
  abbrev s : State
  s = state_in n t

  term-known : k < n.terms
  term-known = ltb-true k n.terms (both_first (ltb k n.terms) true h.known)

  -- it fits where the limit does
  pub term-low : k < lim.terms
  unfolding agree
  term-low = omega (arith, term-known, (counts-fit lim n (both_first (counts_fit lim n) _ h.agrees)).terms)

  value-is : get_or s.values k 0 ≡ bit_at t.values k
  unfolding state_in
  value-is = get_or-list_of n.terms k (bit_at t.values) 0 term-known

  -- b was read for its value, and v is asked for as a
  module _ (v : ℕ) {a b : ℕ} (read : b ≡ bit_at t.values k) (asked : a ≡ value_asked v) where
    -- nothing is done where it stands
    pub stays : b ≡ a → ten (Ok n) t ≡ ten_of (flips_leave lim t [] (flipped (flips_for k (value_asked v) s) s))
    unfolding flips_leave flips_for flipped
    stays same =
        rw (eq-eqb (get_or s.values k 0) (value_asked v) (value-is ∙ sym read ∙ same ∙ asked))
        (both-ten (ap Ok (sym (agree-counts lim n t h.agrees h.full))) (sym (agree-holding lim n t h.agrees h.full)))

    -- else the term is flipped
    pub turns : (b ≡ a → ⊥) → {r : Counts} {u : Tables} → ten (Ok r) u ≡ ten_of (flips_leave lim t [] (flipped (k ∷ []) s))
        → ten (Ok r) u ≡ ten_of (flips_leave lim t [] (flipped (flips_for k (value_asked v) s) s))
    unfolding flips_for
    turns differ e = rw (ne_eqb (get_or s.values k 0) (value_asked v) (λ q. differ (read ∙ sym value-is ∙ q ∙ sym asked))) e

-- ---- with the tests

module _ (lim : Limits) (k : ℕ) (n : Counts) (t : Tables) (ms : List ℕ) where
  -- what is known where all are passed
  record CanMark : Type 0 where
    full : full_marked lim t ms ≡ true
    agrees : agree_marked lim n t ms ≡ true
    known : k < n.terms

  -- what the tests say by what they come to
  abbrev Says : Result ⊤ Reason → Type 0
  Says (Ok tt) = CanMark
  Says (Err e) = (p : Leaves (Result Counts Refusal)) → term_tested lim k n t ms p ≡ flips_refused n t ms e

  tests_say : Says (tests_of lim k n t ms)
  unfolding term_tested tests_of
  tests_say =
      by_cases (full_marked lim t ms)
      (λ a. by_cases (agree_marked lim n t ms)
      (λ b. by_cases (ltb k n.terms) (λ d. rw (a, b, d) (record { full = a; agrees = b; known = ltb-true k n.terms d }))
      (λ d. let q : Says (Err UnknownTerm) = λ p. rw (a, b, d) refl in rw (a, b, d) q))
      (λ b. let q : Says (Err TablesDisagree) = λ p. rw (a, b) refl in rw (a, b) q))
      (λ a. let q : Says (Err TableTooShort) = λ p. rw a refl in rw a q)

  -- what they said, as a
  module _ {a : Result ⊤ Reason} (asked : a ≡ tests_of lim k n t ms) where
    -- where one fails, nothing changes
    module _ {e : Reason} (q : a ≡ Err e) where
      refused : (p : Leaves (Result Counts Refusal)) → leaves (Err (record { reason = e; counts = n })) t ms ≡ term_tested lim k n t ms p
      refused p = sym (subst Says (sym asked ∙ q) tests_say p)

      pub pin-refused : (v : ℕ) → leaves (Err (record { reason = e; counts = n })) t ms ≡ pin_of lim k v n t ms
      unfolding pin_of
      pin-refused v = refused _

      pub lift-refused : leaves (Err (record { reason = e; counts = n })) t ms ≡ lift_of lim k n t ms
      unfolding lift_of
      lift-refused = refused _

    -- where all are passed
    module _ (q : a ≡ Ok tt) where
      can : CanMark
      can = subst Says (sym asked ∙ q) tests_say

      tables_agree : agree lim n t ≡ true
      tables_agree = agree-tables lim t ms n can.agrees

      passed : (p : Leaves (Result Counts Refusal)) → term_tested lim k n t ms p ≡ p
      unfolding term_tested
      passed p = rw (can.full, can.agrees, lt-ltb k n.terms can.known) refl

      pub may_flip : CanFlipList lim (k ∷ []) n t
      may_flip = record { full = full-tables lim t ms can.full; agrees = tables_agree; known = one_known k n.terms can.known }

      -- the term has a mark
      pub mark-there : k < length ms
      unfolding marks_full agree
      mark-there =
          let many = leb-true lim.terms (length ms) (full-marks lim t ms can.full) in
          omega (arith, can.known, many, (counts-fit lim n (both_first (counts_fit lim n) _ tables_agree)).terms)

      pub was-pinned : (v : ℕ) {r : Counts} {u : Tables} {m : List ℕ} → m ≡ set ms k (1 + value_asked v)
          → ten (Ok r) u ≡ ten_of (flips_leave lim t [] (flipped (flips_for k (value_asked v) (state_in n t)) (state_in n t)))
          → leaves (Ok r) u m ≡ pin_of lim k v n t ms
      unfolding pin_of flips_leave
      was-pinned v marked e = ten-marked e marked ∙ sym (passed _)

      pub was-lifted : leaves (Ok n) t (set ms k 0) ≡ lift_of lim k n t ms
      unfolding lift_of
      was-lifted = sym (passed _)
