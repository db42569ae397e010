-- Which reason a reading of numbered text gives, exactly when. Assumes nothing.
use Prim.Native.Nat.{ℕ, ◌≤◌, ◌<◌}
use mathlib.Core.Logic.{◌↔◌, ◌⊎◌, inl, inr}
use mathlib.Core.Path.{◌≡◌, refl, ap, sym, subst}
use mathlib.Core.Bool.{true, false}
use mathlib.Core.List.{List}
use native.Mathlib.Omega.{arith}
use borrow.Author.Tests.{lt-ltb, le-ltb}
use lib.ListN.{length}
use Rattle.scan.specs.Scan.{open_end}
use Rattle.written.specs.declared.Fault.{Fault}
use Rattle.written.specs.declared.Header.{Header}
use Rattle.written.specs.declared.Numeral.{Numeral}
use Rattle.written.specs.Limits.{Limits}
use Rattle.written.specs.Reasons.{number_of}
use Rattle.written.specs.Reading.{Reading, accepted, refused}
use Rattle.written.specs.Numbered.{Sum, read_numbered}
use Rattle.written.specs.Tables.{Tables}
use Rattle.written.specs.Marks.{full_marked}
use Rattle.written.specs.Outcomes.{numbered_of}
use Rattle.laws.specs.Reasons.{past_tests}
use Rattle.laws.specs.NumberedCalls.{Heads, Fails, Stopped}
use Rattle.laws.specs.NumberedCalls.Heads.{missing, malformed, term-room}
use Rattle.laws.specs.NumberedCalls.Fails.{bad-word, past-header, past-count, zero-alone, literal-room, clause-room, count-end, no_clause}
use Rattle.laws.specs.NumberedOutcomes.{Given}
use Rattle.laws.proofs.Basics.{by_cases, by-lt}
use Rattle.laws.proofs.Reasons.{past_late}
use Rattle.laws.proofs.ReadCalls.{reason_in, by-reading, full-fault, short-fault, fault-answer, where_full, where_short}
use Rattle.laws.proofs.NumberedFaults.{numbered-reason}
use Rattle.laws.proofs.NumberedRefusals.{numbered-exactly}
use Rattle.laws.proofs.NumberedCalls.{no_reason}

-- ---- what a text cannot pass is past its tests as a whole

fails-past : (lim : Limits) (h : Header) (s : Sum) (k : Numeral) (e : Fault) → Fails lim h s k e → past_tests e.reason ≡ true
fails-past lim h s k e (bad-word n) = refl
fails-past lim h s k e (past-header x high) = refl
fails-past lim h s k e (past-count x zero full) = refl
fails-past lim h s k e (zero-alone x zero room kept bare) = refl
fails-past lim h s k e (literal-room x some low kept fresh full) = refl
fails-past lim h s k e (clause-room x zero room kept some full) = refl
fails-past lim h s k e (count-end less) = refl
fails-past lim h s k e (no_clause closed all none) = refl

stops-past : (lim : Limits) (t : List ℕ) (e : Fault) → Heads lim t e ⊎ Stopped lim t e → past_tests e.reason ≡ true
stops-past lim t e (inl (missing none)) = refl
stops-past lim t e (inl (malformed there bad)) = refl
stops-past lim t e (inl (term-room h there says many)) = refl
stops-past lim t e (inr s) = fails-past lim s.header s.read _ e s.fails

-- ---- the text

module _ (lim : Limits) (text : List ℕ) where
  abbrev number : ℕ
  number = reason_in (read_numbered lim text)

  is-long : lim.text < length text → number ≡ 2
  unfolding read_numbered
  is-long l = rw (lt-ltb lim.text (length text) l) refl

  is_open_lem : length text ≤ lim.text → open_end text ≡ true → number ≡ 3
  unfolding read_numbered
  is_open_lem s o = rw (le-ltb lim.text (length text) s, o) refl

  -- accepted, or past the tests
  abbrev Late : Reading → Type 0
  Late (accepted f) = Unit {0}
  Late (refused e) = past_tests e.reason ≡ true

  is_late : length text ≤ lim.text → open_end text ≡ false → Late (read_numbered lim text)
  is_late s c =
      by-reading (read_numbered lim text) (λ f e. subst Late (sym e) tt)
      (λ e r. subst Late (sym r) (stops-past lim text e ((numbered-exactly lim text s c e).0 r)))

  late_number : (r : Reading) → Late r → (reason_in r ≡ 0) ⊎ (4 ≤ reason_in r)
  late_number (accepted f) h = inl refl
  late_number (refused e) h = inr (past_late e.reason h)

  by_tests : {A : Type 0} → (number ≡ 2 → lim.text < length text → A) → (number ≡ 3 → length text ≤ lim.text → open_end text ≡ true → A)
      → ((number ≡ 0) ⊎ (4 ≤ number) → A) → A
  by_tests long cut late =
      by-lt lim.text (length text) (λ l. long (is-long l) l)
      (λ s. by_cases (open_end text) (λ o. cut (is_open_lem s o) s o) (λ c. late (late_number (read_numbered lim text) (is_late s c))))

  not_late : {A : Type 0} → 0 < number → number ≤ 3 → (number ≡ 0) ⊎ (4 ≤ number) → A
  not_late some few (inl e) = absurd (omega arith)
  not_late some few (inr h) = absurd (omega arith)

  text_1 : number ≡ 1 → ⊥
  text_1 q = by_tests (λ n _. omega arith) (λ n _ _. omega arith) (not_late (omega arith) (omega arith))

  text-2 : (number ≡ 2) ↔ (lim.text < length text)
  text-2 = (λ q. by_tests (λ _ l. l) (λ n _ _. absurd (omega arith)) (not_late (omega arith) (omega arith)), is-long)

  text_3 : (number ≡ 3) ↔ ((length text ≤ lim.text) × (open_end text ≡ true))
  text_3 = (λ q. by_tests (λ n _. absurd (omega arith)) (λ _ s o. (s, o)) (not_late (omega arith) (omega arith)), λ h. is_open_lem h.0 h.1)

-- ---- the call

module _ (lim : Limits) (text : List ℕ) (t : Tables) (ms : List ℕ) where
  abbrev r : Reading
  r = read_numbered lim text

  pub numbered-given : Given lim text t ms
  unfolding numbered_of
  numbered-given =
      record {
        reason_1 = where_short lim r t ms (text_1 lim text);
        reason-2 = where_full lim r t ms 2 (λ e. omega arith) (text-2 lim text);
        reason_3 = where_full lim r t ms 3 (λ e. omega arith) (text_3 lim text);
        in_order = λ e past. (
          λ q. by_cases (full_marked lim t ms)
              (λ full.
              let is = full-fault lim r t ms full e q in
              let far = past_late e.reason past in
              let n : reason_in r ≡ number_of e.reason = ap reason_in is in
              by-lt lim.text (length text) (λ l. absurd (omega (arith, is-long lim text l)))
              (λ s. by_cases (open_end text) (λ o. absurd (omega (arith, is_open_lem lim text s o))) (λ c. (full, s, c, (numbered-exactly lim text s c e).0 is))))
              (λ short. absurd (omega (arith, past_late e.reason past, ap (λ (x : Fault). number_of x.reason) (short-fault lim r t ms short e q)))),
          λ h. fault-answer lim r t ms h.0 e ((numbered-exactly lim text h.1 h.2 e).1 h.3),
        );
        no_other = λ e q. by_cases (full_marked lim t ms) (λ full. inr (numbered-reason lim text e (full-fault lim r t ms full e q)))
            (λ short. inl (ap (λ (x : Fault). x.reason) (short-fault lim r t ms short e q)));
        no_reason = no_reason lim text t ms;
      }
