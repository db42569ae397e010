-- A refused numbered reading's line, one of the text's where the reason names one, and its reason, one of numbered text's. Assumes nothing.
use Prim.Native.Nat.{ℕ, ◌≤◌}
use mathlib.Core.Logic.{◌⊎◌, inl, inr}
use mathlib.Core.Path.{◌≡◌, refl, ap₂, sym, subst, ◌∙◌}
use mathlib.Core.Bool.{Bool, true, false, ◌||◌, false≢true}
use mathlib.Core.List.{List}
use native.Mathlib.Omega.{arith}
use lib.ListN.{length}
use Rattle.scan.specs.Scan.{open_end}
use Rattle.written.specs.declared.Reason.{Reason}
use Rattle.written.specs.declared.Reason.TheVariants.{TextTooLong, TextCut, ByteNotAllowed, TooManyTerms, TooManyLiterals, TooManyClauses, NoClause, BlankLine, HeaderForm, ClauseCount, PastHeader}
use Rattle.written.specs.declared.Fault.{Fault}
use Rattle.written.specs.declared.Header.{Header}
use Rattle.written.specs.declared.Signed.{Signed}
use Rattle.written.specs.declared.Numeral.{Numeral}
use Rattle.written.specs.declared.Numeral.TheVariants.{Number, Bad}
use Rattle.written.specs.Limits.{Limits}
use Rattle.written.specs.Reasons.{fault, fault_at}
use Rattle.written.specs.Reading.{Reading, accepted, refused}
use Rattle.written.specs.Numerals.{number_at}
use Rattle.written.specs.Numbered.{Sum, read_numbered}
use Rattle.laws.specs.Reasons.{of_numbered, names_numbered, may_name}
use Rattle.laws.specs.NumberedCalls.{head_at, Heading, Heads, Fails, Stopped, NumberedPlaced}
use Rattle.laws.specs.NumberedCalls.Heads.{missing, malformed, term-room}
use Rattle.laws.specs.NumberedCalls.Fails.{bad-word, past-header, past-count, zero-alone, literal-room, clause-room, count-end, no_clause}
use Rattle.laws.proofs.Times.{times-le}
use Rattle.laws.proofs.NumeralSteps.{LineOf, stands-line, signed-line, bad-line, head-stands}
use Rattle.laws.proofs.NumberedReadings.{text-by}
use Rattle.laws.proofs.NumberedRefusals.{comes-stand, Ending, whole, numbers-end, ending_fails}

-- what is known of a refused reading's fault
pub record Told (t : List ℕ) (e : Fault) : Type 0 where
  pub placed : NumberedPlaced t e
  pub which : (e.reason ≡ TextTooLong) ⊎ (of_numbered e.reason ≡ true)

no_line : (t : List ℕ) (r : Reason) → names_numbered r ≡ false → (r ≡ TextTooLong) ⊎ (of_numbered r ≡ true) → Told t (fault r)
no_line t r e which = record { placed = record { most = omega arith; some = λ p. absurd (false≢true (sym e ∙ p)); none = λ _ _. refl }; which = which }

module _ (t : List ℕ) (closed : open_end t ≡ false) where
  a-line : (n : ℕ) (r : Reason) → (names_numbered r || may_name r) ≡ true → of_numbered r ≡ true → LineOf t n → Told t (fault_at n r)
  a-line n r e which l =
      record {
        placed = record { most = l.closed closed; some = λ _. l.some; none = λ p q. absurd (false≢true (sym (ap₂ (λ (a b : Bool). a || b) p q) ∙ e)) };
        which = inr which;
      }

  -- one that cannot be passed
  fails-told : (lim : Limits) (h : Header) (s : Sum) (k : Numeral) (e : Fault) → Fails lim h s k e → ((x : Signed) → k ≡ Number x → LineOf t x.line) → ((n : ℕ) → k ≡ Bad n → LineOf t n) → Told t e
  fails-told lim h s k e (bad-word n) line bad = a-line n ByteNotAllowed refl refl (bad n refl)
  fails-told lim h s k e (past-header x high) line bad = a-line x.line PastHeader refl refl (line x refl)
  fails-told lim h s k e (past-count x nil full) line bad = a-line x.line ClauseCount refl refl (line x refl)
  fails-told lim h s k e (zero-alone x nil few open-one none) line bad = a-line x.line BlankLine refl refl (line x refl)
  fails-told lim h s k e (literal-room x some low open-one fresh full) line bad = a-line x.line TooManyLiterals refl refl (line x refl)
  fails-told lim h s k e (clause-room x nil few open-one some full) line bad = a-line x.line TooManyClauses refl refl (line x refl)
  fails-told lim h s k e (count-end which) line bad = no_line t ClauseCount refl (inr refl)
  fails-told lim h s k e (no_clause whole full none) line bad = no_line t NoClause refl (inr refl)

  stopped-told : (lim : Limits) (e : Fault) → Stopped lim t e → Told t e
  stopped-told lim e k =
      let stands = comes-stand lim t k.header closed k.heading.says k.cursor k.read k.comes in
      fails-told lim k.header k.read (number_at t k.cursor).numeral e k.fails (λ x is. signed-line t k.cursor x is stands) (λ n is. bad-line t k.cursor n is stands)

  -- a header
  heads-told : (lim : Limits) (e : Fault) → Heads lim t e → Told t e
  heads-told lim e (missing none) = no_line t HeaderForm refl (inr refl)
  heads-told lim e (malformed there form) = a-line (head_at t).line HeaderForm refl refl (stands-line t (head_at t) (head-stands t closed) there)
  heads-told lim e (term-room h there says high) = a-line (head_at t).line TooManyTerms refl refl (stands-line t (head_at t) (head-stands t closed) there)

abbrev ToldOf : List ℕ → Reading → Type 0
ToldOf t (accepted f) = Unit {0}
ToldOf t (refused e) = Told t e

module _ (lim : Limits) (t : List ℕ) where
  ending_told : open_end t ≡ false → (h : Header) → Heading lim t h → (r : Reading) → Ending lim t h r → ToldOf t r
  ending_told closed h heading (accepted f) k = tt
  ending_told closed h heading (refused e) k = stopped-told t closed lim e (ending_fails lim t h heading e k)

  text-told : ToldOf t (read_numbered lim t)
  text-told =
      text-by (ToldOf t) lim t (λ _. no_line t TextTooLong refl (inl refl)) (λ _. no_line t TextCut refl (inr refl)) (λ closed. heads-told t closed lim)
      (λ closed h heading. ending_told closed h heading (whole lim t h) (numbers-end lim t h))

  module _ (e : Fault) (refusal : read_numbered lim t ≡ refused e) where
    told : Told t e
    told = subst (ToldOf t) refusal text-told

    -- a refused reading names one of the text's lines where its reason does, and else 0
    pub numbered-line : NumberedPlaced t e
    numbered-line = told.placed

    -- which is at most the number of bytes
    pub numbered-line-bound : e.line ≤ length t
    numbered-line-bound = omega (arith, numbered-line.most, times-le 10 t)

    -- its reason is 2, or one of numbered text's own
    pub numbered-reason : (e.reason ≡ TextTooLong) ⊎ (of_numbered e.reason ≡ true)
    numbered-reason = told.which
