-- What holds of a numbered reading if every number keeps it, and each case of a number as an equation. Assumes nothing.
use Prim.Native.Nat.{ℕ, zero, suc, ◌-◌, ◌≤◌, ◌<◌}
use mathlib.Core.Path.{◌≡◌, refl, ap, ◌∙◌}
use mathlib.Core.Bool.{Bool, true, false, not}
use mathlib.Core.List.{List, [], ◌∷◌, ◌++◌}
use native.Mathlib.Omega.{arith}
use borrow.Author.Tests.{leb-false, ltb-false, eqb-false, lt-ltb, le-ltb, le-leb, lt-leb, ne_eqb, eq-eqb}
use lib.ListN.{length}
use lib.Dec.{eqb, ltb, leb}
use Rattle.scan.specs.declared.Cursor.{Cursor}
use Rattle.scan.specs.declared.Lit.{Lit}
use Rattle.written.specs.declared.Reason.{Reason}
use Rattle.written.specs.declared.Reason.TheVariants.{ByteNotAllowed, TooManyTerms, TooManyLiterals, TooManyClauses, BlankLine, ClauseCount, PastHeader}
use Rattle.written.specs.declared.Header.{Header}
use Rattle.written.specs.declared.Signed.{Signed}
use Rattle.written.specs.declared.Numeral.{Numeral}
use Rattle.written.specs.declared.Numeral.TheVariants.{Number, Bad, End}
use Rattle.written.specs.Lists.{has}
use Rattle.written.specs.Limits.{Limits}
use Rattle.written.specs.Clauses.{literal_of}
use Rattle.written.specs.Reasons.{fault_at}
use Rattle.written.specs.Reading.{Reading, Draft, refused, numbered, held, taken, kept, dropped, at_literal, at_line_end}
use Rattle.written.specs.Numerals.{number_at}
use Rattle.written.specs.Numbered.{name_for, names_to, Sum, sum, Pass, on, to, turned, at_zero, at_number, at_numbers_end, at_numeral, passed, numbers_from}
use Rattle.laws.proofs.Basics.{by_test}
use Rattle.laws.proofs.Turns.{Room, literal-by, line-by}
use Rattle.laws.proofs.Refusals.{line-none, line-full, line-room}
use Rattle.laws.proofs.NumberedNames.{names-has, names-place}

-- after a number: P of what goes on, Q of what it ends with
abbrev pub Then : (Sum → Type 0) → (Reading → Type 0) → Pass → Type 0
Then P Q (on s) = P s
Then P Q (to r) = Q r

-- a number as a literal, by its name
abbrev pub lit_of : Signed → Lit
lit_of x = record { negated = x.negated; name = name_for x.number; line = x.line }

-- ---- a number's cases

-- what is to be shown of the number x
pub record Carries (P : Sum → Type 0) (Q : Reading → Type 0) (lim : Limits) (h : Header) (s : Sum) (x : Signed) : Type 0 where
  -- in a dropped clause, and at its end
  pub pass : s.is_dropped ≡ true → P s
  pub over : s.is_dropped ≡ true → s.ended < h.clauses → P (sum s.draft false (suc s.ended))
  -- a repeat, an opposite, and any other
  pub skip : s.is_dropped ≡ false → P (sum s.draft false s.ended)
  pub leave : s.is_dropped ≡ false → P (sum (dropped s.draft) true s.ended)
  pub take : s.is_dropped ≡ false → 0 < x.number → x.number ≤ h.variables → Room lim s.draft (lit_of x) → P (sum (taken s.draft (lit_of x)) false s.ended)
  -- a clause's end
  pub keep : s.is_dropped ≡ false → s.ended < h.clauses → 0 < length s.draft.line → length s.draft.clauses < lim.clauses → P (sum (kept s.draft) false (suc s.ended))
  pub refuse : (r : Reason) → Q (refused (fault_at x.line r))

module _ (P : Sum → Type 0) (Q : Reading → Type 0) (lim : Limits) (h : Header) (s : Sum) (x : Signed) (k : Carries P Q lim h s x) where
  zero-by : Then P Q (at_zero lim h s x.line)
  unfolding at_zero
  zero-by =
      by_test (Then P Q) (leb h.clauses s.ended) (λ _. k.refuse ClauseCount) (λ few.
      let room = leb-false h.clauses s.ended few in
      by_test (Then P Q) s.is_dropped (λ e. k.over e room) (λ e.
      line-by (λ u. Then P Q (turned (suc s.ended) u)) lim s.draft x.line s.draft.line refl (λ _. k.refuse BlankLine) (λ _ _. k.refuse TooManyClauses) (k.keep e room)))

  pub number_by : Then P Q (at_number lim h s x)
  unfolding at_number
  number_by =
      by_test (Then P Q) (ltb h.variables x.number) (λ _. k.refuse PastHeader) (λ low.
      by_test (Then P Q) (eqb x.number 0) (λ _. zero-by) (λ some.
      by_test (Then P Q) s.is_dropped (λ e. k.pass e) (λ e.
      literal-by (λ u. Then P Q (turned s.ended u)) lim s.draft (lit_of x) (k.skip e) (k.leave e) (λ _ _ _. k.refuse TooManyTerms) (λ _ _ _. k.refuse TooManyLiterals)
      (k.take e (omega (arith, eqb-false x.number 0 some)) (ltb-false h.variables x.number low)))))

-- ---- the numbers

module _ (P : Cursor → Sum → Type 0) (Q : Reading → Type 0) (lim : Limits) (t : List ℕ) (h : Header) where
  passed-by : (c : Cursor) (p : Pass) (next : Sum → Reading) → Then (P c) Q p → ((s : Sum) → P c s → Q (next s)) → Q (passed p next)
  passed-by c (on s) next k go = go s k
  passed-by c (to r) next k go = k

  -- what is met, case by case
  pub record Meets (c : Cursor) (s : Sum) (k : Numeral) : Type 0 where
    pub number : (x : Signed) → k ≡ Number x → Carries (P c) Q lim h s x
    pub bad : (n : ℕ) → k ≡ Bad n → Q (refused (fault_at n ByteNotAllowed))
    pub finish : Q (at_numbers_end h s)

  pub numeral-by : (c : Cursor) (s : Sum) (k : Numeral) → Meets c s k → Then (P c) Q (at_numeral lim h s k)
  unfolding at_numeral
  numeral-by c s (Number x) m = number_by (P c) Q lim h s x (m.number x refl)
  numeral-by c s (Bad n) m = m.bad n refl
  numeral-by c s End m = m.finish

  -- what every number keeps holds at the end, whatever the fuel
  pub numbers-by : ((c : Cursor) (s : Sum) → P c s → Q (at_numbers_end h s)) → ((c : Cursor) (s : Sum) → P c s → Meets (number_at t c).next s (number_at t c).numeral)
      → (k : ℕ) (c : Cursor) (s : Sum) → P c s → Q (numbers_from k lim t h c s)
  unfolding numbers_from
  numbers-by ended turn zero c s p = ended c s p
  numbers-by ended turn (suc k) c s p =
      passed-by (number_at t c).next (at_numeral lim h s (number_at t c).numeral) (λ s'. numbers_from k lim t h (number_at t c).next s')
      (numeral-by (number_at t c).next s (number_at t c).numeral (turn c s p))
      (λ s'. numbers-by ended turn k (number_at t c).next s')

-- ---- a number's literal

-- variable v's literal is of term v less 1
module _ (d : Draft) (n k : ℕ) (l : Lit) (names : d.names ≡ names_to n) (low : k < n) (is : l.name ≡ name_for (suc k)) where
  pub literal-known : has l.name d.names ≡ true
  literal-known = rw (is, names) (names-has n k low)

  pub literal-number : (b : Bool) → numbered d l b ≡ literal_of k b
  literal-number b = rw (is, names, names-place n k low) refl

  -- the draft with it
  pub literal-taken : taken d l ≡ record { names = d.names; clauses = d.clauses; line = d.line ++ literal_of k l.negated ∷ [] }
  literal-taken = rw (literal-known, literal-number l.negated) refl

-- a number leaves the names of all variables as they are
pub taken-names : (d : Draft) (n : ℕ) (x : Signed) → d.names ≡ names_to n → 0 < x.number → x.number ≤ n → (taken d (lit_of x)).names ≡ names_to n
taken-names d n x names some low =
    let is : x.number ≡ suc (x.number - 1) = omega arith in
    rw (literal-known d n (x.number - 1) (lit_of x) names (omega arith) (ap name_for is)) names

-- ---- each case as an equation

module _ (lim : Limits) (h : Header) (s : Sum) where
  -- a clause's end
  module _ (n : ℕ) where
    pub zero-past : h.clauses ≤ s.ended → at_zero lim h s n ≡ to (refused (fault_at n ClauseCount))
    unfolding at_zero
    zero-past full = rw (le-leb h.clauses s.ended full) refl

    module _ (few : s.ended < h.clauses) where
      pub zero-dropped : s.is_dropped ≡ true → at_zero lim h s n ≡ on (sum s.draft false (suc s.ended))
      unfolding at_zero
      zero-dropped e = rw (lt-leb h.clauses s.ended few, e) refl

      pub zero-line : s.is_dropped ≡ false → at_zero lim h s n ≡ turned (suc s.ended) (at_line_end lim s.draft n s.draft.line)
      unfolding at_zero
      zero-line e = rw (lt-leb h.clauses s.ended few, e) refl

      pub zero-bare : s.is_dropped ≡ false → length s.draft.line ≡ 0 → at_zero lim h s n ≡ to (refused (fault_at n BlankLine))
      zero-bare e none = zero-line e ∙ ap (turned (suc s.ended)) (line-none lim s.draft n s.draft.line none)

      pub zero-full : s.is_dropped ≡ false → 0 < length s.draft.line → lim.clauses ≤ length s.draft.clauses → at_zero lim h s n ≡ to (refused (fault_at n TooManyClauses))
      zero-full e some full = zero-line e ∙ ap (turned (suc s.ended)) (line-full lim s.draft n s.draft.line some full)

      pub zero-kept : s.is_dropped ≡ false → 0 < length s.draft.line → length s.draft.clauses < lim.clauses → at_zero lim h s n ≡ on (sum (kept s.draft) false (suc s.ended))
      zero-kept e some room = zero-line e ∙ ap (turned (suc s.ended)) (line-room lim s.draft n s.draft.line some room)

  module _ (x : Signed) where
    pub number_above : h.variables < x.number → at_number lim h s x ≡ to (refused (fault_at x.line PastHeader))
    unfolding at_number
    number_above high = rw (lt-ltb h.variables x.number high) refl

    pub number-zero : x.number ≡ 0 → at_number lim h s x ≡ at_zero lim h s x.line
    unfolding at_number
    number-zero e = rw (le-ltb h.variables x.number (omega arith), eq-eqb x.number 0 e) refl

    -- a variable's number, 1 more than its term's
    module _ (k : ℕ) (is : x.number ≡ suc k) (low : k < h.variables) where
      pub number_passed : s.is_dropped ≡ true → at_number lim h s x ≡ on s
      unfolding at_number
      number_passed e = rw (le-ltb h.variables x.number (omega arith), ne_eqb x.number 0 (λ z. omega arith), e) refl

      module _ (open-one : s.is_dropped ≡ false) (names : s.draft.names ≡ names_to h.variables) where
        pub number-turn : at_number lim h s x ≡ turned s.ended (at_literal lim s.draft (lit_of x))
        unfolding at_number
        number-turn = rw (le-ltb h.variables x.number (omega arith), ne_eqb x.number 0 (λ z. omega arith), open-one) refl

        term : (b : Bool) → numbered s.draft (lit_of x) b ≡ literal_of k b
        term = literal-number s.draft h.variables k (lit_of x) names low (ap name_for is)

        pub number-again : has (literal_of k x.negated) s.draft.line ≡ true → at_number lim h s x ≡ on (sum s.draft false s.ended)
        unfolding at_literal
        number-again there = number-turn ∙ rw (term x.negated, there) refl

        module _ (once : has (literal_of k x.negated) s.draft.line ≡ false) where
          pub number-drops : has (literal_of k (not x.negated)) s.draft.line ≡ true → at_number lim h s x ≡ on (sum (dropped s.draft) true s.ended)
          unfolding at_literal
          number-drops there = number-turn ∙ rw (term x.negated, once, term (not x.negated), there) refl

          module _ (one_way : has (literal_of k (not x.negated)) s.draft.line ≡ false) where
            pub number-full : lim.literals ≤ held s.draft → at_number lim h s x ≡ to (refused (fault_at x.line TooManyLiterals))
            unfolding at_literal
            number-full full =
                number-turn ∙ rw (term x.negated, once, term (not x.negated), one_way, literal-known s.draft h.variables k (lit_of x) names low (ap name_for is), le-leb lim.literals (held s.draft) full) refl

            pub number-taken : held s.draft < lim.literals
                → at_number lim h s x
                ≡ on (sum (record { names = s.draft.names; clauses = s.draft.clauses; line = s.draft.line ++ literal_of k x.negated ∷ [] }) false s.ended)
            unfolding at_literal
            number-taken room =
                number-turn ∙ rw (term x.negated, once, term (not x.negated), one_way, literal-known s.draft h.variables k (lit_of x) names low (ap name_for is), lt-leb lim.literals (held s.draft) room) refl
