-- Why a numbered text is refused, once it is neither too long nor ends inside a line, by which reason, and with which line. Assumes nothing.
use Prim.Native.Nat.{ℕ, zero, suc, ◌-◌, ◌≤◌, ◌<◌}
use mathlib.Core.Logic.{◌↔◌, ◌⊎◌, inl, inr}
use mathlib.Core.Path.{◌≡◌, refl, ap, sym, subst, ◌∙◌}
use mathlib.Core.Bool.{Bool, true, false, not, ◌||◌, false≢true, or-true}
use mathlib.Core.List.{List, [], ◌∷◌}
use native.Mathlib.Omega.{arith}
use lib.ListN.{length}
use lib.Dec.{ltb, leb, eqb}
use borrow.Author.Tests.{leb-true, leb-false, ltb-true, ltb-false, le-leb, lt-leb, lt-ltb, le-ltb, eqb-true, eqb-false}
use Rattle.std.proofs.Common.{Some}
use Rattle.scan.specs.declared.Cursor.{Cursor}
use Rattle.scan.specs.Scan.{open_end}
use Rattle.written.specs.declared.Reason.TheVariants.{ByteNotAllowed, TooManyLiterals, TooManyClauses, NoClause, BlankLine, ClauseCount, PastHeader}
use Rattle.written.specs.declared.Fault.{Fault}
use Rattle.written.specs.declared.Header.{Header}
use Rattle.written.specs.declared.Signed.{Signed}
use Rattle.written.specs.declared.Numeral.{Numeral}
use Rattle.written.specs.declared.Numeral.TheVariants.{Number, Bad, End}
use Rattle.written.specs.Lists.{has}
use Rattle.written.specs.Limits.{Limits}
use Rattle.written.specs.Reasons.{fault, fault_at}
use Rattle.written.specs.Reading.{Reading, accepted, refused, at_text_end}
use Rattle.written.specs.Numerals.{header_at, number_at}
use Rattle.written.specs.Numbered.{name_for, names_to, Sum, Pass, on, to, turned, is_open, at_zero, at_number, at_numbers_end, at_numeral, passed, numbers_from, begun, after_header, from_header, read_numbered}
use Rattle.laws.specs.NumberedCalls.{head_at, Heading, Heads, numbers_at, Comes, Fails, Stopped}
use Rattle.laws.specs.NumberedCalls.Heads.{missing, malformed, term-room}
use Rattle.laws.specs.NumberedCalls.Comes.{begins, goes_on}
use Rattle.laws.specs.NumberedCalls.Fails.{bad-word, past-header, past-count, zero-alone, literal-room, clause-room, count-end, no_clause}
use Rattle.laws.proofs.Basics.{by_cases, by_test, neither-first, neither-second}
use Rattle.laws.proofs.Faults.{Stands}
use Rattle.laws.proofs.Turns.{literal-by, line-by}
use Rattle.laws.proofs.Fuel.{left}
use Rattle.laws.proofs.NumeralSteps.{number-stands, header-stands, head-stands}
use Rattle.laws.proofs.NumberedTurns.{Then, Meets, numeral-by, taken-names, lit_of, literal-known, literal-number, zero-past, zero-bare, zero-full, number_above, number-zero, number-full}
use Rattle.laws.proofs.NumberedReadings.{text-by}
use Rattle.laws.proofs.NumberedFuel.{is_on, goes-falls, numbers-same}

-- ---- what a reading cannot pass

abbrev is_refused : Pass → Bool
is_refused (on s) = false
is_refused (to (accepted f)) = false
is_refused (to (refused e)) = true

abbrev fault_of : Pass → Fault
fault_of (on s) = fault NoClause
fault_of (to (accepted f)) = fault NoClause
fault_of (to (refused e)) = e

-- a turn that stops is by that fault
abbrev Stopping : Limits → Header → Sum → Numeral → Fault → Pass → Type 0
Stopping lim h s k e p = p ≡ to (refused e) → Fails lim h s k e

module _ (lim : Limits) (h : Header) (s : Sum) (e : Fault) (names : s.draft.names ≡ names_to h.variables) where
  onward : {k : Numeral} {p : Pass} → is_refused p ≡ false → Stopping lim h s k e p
  onward q r = absurd (false≢true (sym q ∙ ap is_refused r))

  by-fault : {k : Numeral} (f : Fault) → Fails lim h s k f → Stopping lim h s k e (to (refused f))
  by-fault {k} f q r = subst (Fails lim h s k) (ap fault_of r) q

  zero-stops : (x : Signed) → x.number ≡ 0 → Stopping lim h s (Number x) e (at_zero lim h s x.line)
  unfolding at_zero
  zero-stops x nil =
      let stopping : Pass → Type 0 = Stopping lim h s (Number x) e in
      by_test stopping (leb h.clauses s.ended) (λ full. by-fault (fault_at x.line ClauseCount) (past-count x nil (leb-true h.clauses s.ended full))) (λ q.
      let few = leb-false h.clauses s.ended q in
      by_test stopping s.is_dropped (λ _. onward refl) (λ whole.
      line-by (λ u. stopping (turned (suc s.ended) u)) lim s.draft x.line s.draft.line refl
      (λ none. by-fault (fault_at x.line BlankLine) (zero-alone x nil few whole none))
      (λ some full. by-fault (fault_at x.line TooManyClauses) (clause-room x nil few whole some full))
      (λ _ _. onward refl)))

  number-stops : (x : Signed) → Stopping lim h s (Number x) e (at_number lim h s x)
  unfolding at_number
  number-stops x =
      let stopping : Pass → Type 0 = Stopping lim h s (Number x) e in
      by_test stopping (ltb h.variables x.number) (λ high. by-fault (fault_at x.line PastHeader) (past-header x (ltb-true h.variables x.number high))) (λ q.
      let low = ltb-false h.variables x.number q in
      by_test stopping (eqb x.number 0) (λ nil. zero-stops x (eqb-true x.number 0 nil)) (λ z.
      let some : 0 < x.number = omega (arith, eqb-false x.number 0 z) in
      let is : x.number ≡ suc (x.number - 1) = omega arith in
      let term = literal-number s.draft h.variables (x.number - 1) (lit_of x) names (omega arith) (ap name_for is) in
      let known = literal-known s.draft h.variables (x.number - 1) (lit_of x) names (omega arith) (ap name_for is) in
      by_test stopping s.is_dropped (λ _. onward refl) (λ whole.
      literal-by (λ u. stopping (turned s.ended u)) lim s.draft (lit_of x) (onward refl) (onward refl)
      (λ fresh new full. absurd (false≢true (sym new ∙ known)))
      (λ fresh room full. by-fault (fault_at x.line TooManyLiterals) (literal-room x some low whole (record { once = ap (λ (l : ℕ). has l s.draft.line) (sym (term x.negated)) ∙ fresh.once; one_way = ap (λ (l : ℕ). has l s.draft.line) (sym (term (not x.negated))) ∙ fresh.one_way }) full))
      (λ _. onward refl))))

  text-stops : is_open s ≡ false → h.clauses ≤ s.ended → (cs : List (List ℕ)) → s.draft.clauses ≡ cs → Stopping lim h s End e (to (at_text_end s.draft.names cs))
  unfolding at_text_end
  text-stops whole all [] same = by-fault (fault NoClause) (no_clause whole all same)
  text-stops whole all (c ∷ cs) same = onward refl

  either : is_open s || ltb s.ended h.clauses ≡ true → (is_open s ≡ true) ⊎ (s.ended < h.clauses)
  either q = by_cases (is_open s) (λ o. inl o) (λ o. inr (ltb-true s.ended h.clauses (ap (λ (b : Bool). b || ltb s.ended h.clauses) (sym o) ∙ q)))

  end-stops : Stopping lim h s End e (to (at_numbers_end h s))
  unfolding at_numbers_end
  end-stops =
      let few = ltb s.ended h.clauses in
      by_test (λ r. Stopping lim h s End e (to r)) (is_open s || few) (λ q. by-fault (fault ClauseCount) (count-end (either q)))
      (λ q. text-stops (neither-first (is_open s) few q) (ltb-false s.ended h.clauses (neither-second (is_open s) few q)) s.draft.clauses refl)

  -- what stops a reading cannot be passed
  numeral-stops : (k : Numeral) → Stopping lim h s k e (at_numeral lim h s k)
  unfolding at_numeral
  numeral-stops (Number x) = number-stops x
  numeral-stops (Bad n) = by-fault (fault_at n ByteNotAllowed) (bad-word n)
  numeral-stops End = end-stops

-- and what cannot be passed stops it
numeral-fails : (lim : Limits) (h : Header) (s : Sum) → s.draft.names ≡ names_to h.variables → (k : Numeral) (e : Fault) → Fails lim h s k e → at_numeral lim h s k ≡ to (refused e)
unfolding at_numeral at_numbers_end at_text_end
numeral-fails lim h s names k e (bad-word n) = refl
numeral-fails lim h s names k e (past-header x high) = number_above lim h s x high
numeral-fails lim h s names k e (past-count x nil full) = number-zero lim h s x nil ∙ zero-past lim h s x.line full
numeral-fails lim h s names k e (zero-alone x nil few whole none) = number-zero lim h s x nil ∙ zero-bare lim h s x.line few whole (ap length none)
numeral-fails lim h s names k e (clause-room x nil few whole some full) = number-zero lim h s x nil ∙ zero-full lim h s x.line few whole some full
numeral-fails lim h s names k e (literal-room x some low whole fresh full) =
    number-full lim h s x (x.number - 1) (omega arith) (omega arith) whole names fresh.once fresh.one_way full
numeral-fails lim h s names k e (count-end (inl o)) = rw o refl
numeral-fails lim h s names k e (count-end (inr few)) = rw (lt-ltb s.ended h.clauses few, or-true (is_open s)) refl
numeral-fails lim h s names k e (no_clause whole full none) = rw (whole, le-ltb s.ended h.clauses full, none) refl

-- ---- where a reading comes by

module _ (lim : Limits) (t : List ℕ) (h : Header) where
  -- what every number keeps holds wherever it comes by
  pub comes-by : (P : Cursor → Sum → Type 0) → P (numbers_at t h) (begun h)
      → ((c : Cursor) (s : Sum) → P c s → Meets P (λ r. Unit {0}) lim t h (number_at t c).next s (number_at t c).numeral)
      → (c : Cursor) (s : Sum) → Comes lim t h c s → P c s
  comes-by P first step c s begins = first
  comes-by P first step _ _ (goes_on c s a k q) =
      subst (Then (P (number_at t c).next) (λ r. Unit {0})) q
      (numeral-by P (λ r. Unit {0}) lim t h (number_at t c).next s (number_at t c).numeral (step c s (comes-by P first step c s k)))

  -- so the names are those of all variables
  pub comes-names : (c : Cursor) (s : Sum) → Comes lim t h c s → s.draft.names ≡ names_to h.variables
  comes-names =
      comes-by (λ c s. s.draft.names ≡ names_to h.variables) refl
      (λ c s k. record {
        number = λ x _. record {
          pass = λ _. k;
          over = λ _ _. k;
          skip = λ _. k;
          leave = λ _. k;
          take = λ _ some low _. taken-names s.draft h.variables x k some low;
          keep = λ _ _ _ _. k;
          refuse = λ r. tt;
        };
        bad = λ n _. tt;
        finish = tt;
      })

  -- the cursor is in the text
  pub comes-stand : open_end t ≡ false → header_at t (head_at t).at ≡ Some h → (c : Cursor) (s : Sum) → Comes lim t h c s → Stands t c
  comes-stand closed says c s begins = header-stands t (head_at t) h says (head-stands t closed)
  comes-stand closed says _ _ (goes_on c s a k q) = number-stands t c (comes-stand closed says c s k)

  -- the reading comes to what ends it with r
  abbrev pub Ending : Reading → Type 0
  Ending r = (c : Cursor) × (s : Sum) × Comes lim t h c s × (at_numeral lim h s (number_at t c).numeral ≡ to r)

  pass-ends : (p : Pass) (c : Cursor) (s : Sum) (next : Sum → Reading) → Comes lim t h c s → at_numeral lim h s (number_at t c).numeral ≡ p
      → ((a : Sum) → left t (number_at t c).next < left t c → Comes lim t h (number_at t c).next a → Ending (next a)) → Ending (passed p next)
  pass-ends (on a) c s next k q go = go a (goes-falls lim t h c s (ap is_on q)) (goes_on c s a k q)
  pass-ends (to r) c s next k q go = (c, s, k, q)

  from-ends : (k : ℕ) (c : Cursor) (s : Sum) → left t c < k → Comes lim t h c s → Ending (numbers_from k lim t h c s)
  unfolding numbers_from
  from-ends zero c s few g = absurd (omega arith)
  from-ends (suc k) c s few g =
      pass-ends (at_numeral lim h s (number_at t c).numeral) c s (λ a. numbers_from k lim t h (number_at t c).next a) g refl
      (λ a fewer more. from-ends k (number_at t c).next a (omega arith) more)

  -- a turn, by the reading from there on
  by_turn : (p : Pass) (c : Cursor) (s : Sum) → at_numeral lim h s (number_at t c).numeral ≡ p
      → numbers_from (suc (left t c)) lim t h c s ≡ passed p (λ a. numbers_from (left t c) lim t h (number_at t c).next a)
  unfolding numbers_from
  by_turn p c s q = ap (λ (r : Pass). passed r (λ a. numbers_from (left t c) lim t h (number_at t c).next a)) q

  -- the numbers after the header
  abbrev pub whole : Reading
  whole = numbers_from (suc (length t)) lim t h (numbers_at t h) (begun h)

  -- from wherever it comes by, the reading comes to the same
  comes-same : (c : Cursor) (s : Sum) → Comes lim t h c s → numbers_from (suc (left t c)) lim t h c s ≡ whole
  comes-same c s begins = numbers-same lim t h (suc (left t (numbers_at t h))) (suc (length t)) (numbers_at t h) (begun h) (omega arith) (omega arith)
  comes-same _ _ (goes_on c s a k q) =
      let b = (number_at t c).next in
      let fewer = goes-falls lim t h c s (ap is_on q) in
      numbers-same lim t h (suc (left t b)) (left t c) b a (omega arith) (omega arith) ∙ sym (by_turn (on a) c s q) ∙ comes-same c s k

  -- it ends
  pub numbers-end : Ending whole
  numbers-end = from-ends (suc (length t)) (numbers_at t h) (begun h) (omega arith) begins

  ending_whole : (r : Reading) → Ending r → whole ≡ r
  ending_whole r (c, s, k, q) = sym (comes-same c s k) ∙ by_turn (to r) c s q

  -- what stops it cannot be passed
  pub ending_fails : Heading lim t h → (e : Fault) → Ending (refused e) → Stopped lim t e
  ending_fails heading e (c, s, k, q) =
      record { header = h; heading = heading; cursor = c; read = s; comes = k; fails = numeral-stops lim h s e (comes-names c s k) (number_at t c).numeral q }

-- ---- why a text is refused

abbrev fault_in : Reading → Fault
fault_in (accepted f) = fault NoClause
fault_in (refused e) = e

module _ (lim : Limits) (t : List ℕ) (short : length t ≤ lim.text) (closed : open_end t ≡ false) where
  from-header : read_numbered lim t ≡ from_header lim t (head_at t)
  unfolding read_numbered
  from-header = rw (le-ltb lim.text (length t) short, closed) refl

  from-numbers : (h : Header) → Heading lim t h → read_numbered lim t ≡ whole lim t h
  unfolding from_header after_header
  from-numbers h k = from-header ∙ rw (lt-leb (length t) (head_at t).at k.there, k.says, le-ltb lim.terms h.variables k.few) refl

  from_heads : (e : Fault) → Heads lim t e → read_numbered lim t ≡ refused e
  unfolding from_header after_header
  from_heads e (missing none) = from-header ∙ rw (le-leb (length t) (head_at t).at none) refl
  from_heads e (malformed there form) = from-header ∙ rw (lt-leb (length t) (head_at t).at there, form) refl
  from_heads e (term-room h there says high) = from-header ∙ rw (lt-leb (length t) (head_at t).at there, says, lt-ltb lim.terms h.variables high) refl

  -- what a text with a header says is what the number says that ends its reading
  pub numbers-exactly : (h : Header) → Heading lim t h → (r : Reading) → (read_numbered lim t ≡ r) ↔ Ending lim t h r
  numbers-exactly h k r = (λ e. subst (Ending lim t h) (sym (from-numbers h k) ∙ e) (numbers-end lim t h), λ g. from-numbers h k ∙ ending_whole lim t h r g)

  -- it is refused exactly if its header is, or its reading comes to what cannot be passed
  pub numbered-exactly : (e : Fault) → (read_numbered lim t ≡ refused e) ↔ (Heads lim t e ⊎ Stopped lim t e)
  numbered-exactly e = (λ q. why e q, back)
    where
      why : (e : Fault) → read_numbered lim t ≡ refused e → Heads lim t e ⊎ Stopped lim t e
      why =
          text-by (λ r. (e : Fault) → r ≡ refused e → Heads lim t e ⊎ Stopped lim t e) lim t (λ long. absurd (omega (arith, short))) (λ cut. absurd (false≢true (sym closed ∙ cut)))
          (λ _ f heads e q. inl (subst (Heads lim t) (ap fault_in q) heads))
          (λ _ h heading e q. inr (ending_fails lim t h heading e (subst (Ending lim t h) q (numbers-end lim t h))))

      back : Heads lim t e ⊎ Stopped lim t e → read_numbered lim t ≡ refused e
      back (inl heads) = from_heads e heads
      back (inr k) =
          let names = comes-names lim t k.header k.cursor k.read k.comes in
          (numbers-exactly k.header k.heading (refused e)).1
          (k.cursor, k.read, k.comes, numeral-fails lim k.header k.read names (number_at t k.cursor).numeral e k.fails)
