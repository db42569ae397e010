-- What holds of a reading if every turn keeps it: each token's cases, and the induction over the turns. Assumes nothing.
use Prim.Native.Nat.{ℕ, zero, suc, ◌≤◌, ◌<◌}
use mathlib.Core.Path.{◌≡◌, refl, ap, sym, ◌∙◌}
use mathlib.Core.Bool.{Bool, true, false, not, ◌&&◌, ◌||◌}
use mathlib.Core.List.{List, [], ◌∷◌}
use native.Mathlib.Omega.{arith}
use borrow.Author.Tests.{leb-true, leb-false, not-true}
use lib.ListN.{length}
use lib.Dec.{ltb, leb}
use Rattle.scan.specs.declared.Cursor.{Cursor}
use Rattle.scan.specs.declared.Lit.{Lit}
use Rattle.scan.specs.declared.Token.{Token}
use Rattle.scan.specs.declared.Token.TheVariants.{Literal, True, Line, End, Cut, Bad, Long}
use Rattle.scan.specs.Scan.{scan, takes, reason_of, line_of}
use Rattle.written.specs.declared.Reason.{Reason}
use Rattle.written.specs.declared.Reason.TheVariants.{TextCut, ByteNotAllowed, NinthByte, TooManyTerms, TooManyLiterals, TooManyClauses, BlankLine}
use Rattle.written.specs.Lists.{has}
use Rattle.written.specs.Limits.{Limits}
use Rattle.written.specs.Reasons.{fault, fault_at}
use Rattle.written.specs.Reading.{Reading, Draft, Turn, refused, goes, drops, ends, stops, numbered, held, taken, kept, dropped, at_literal, at_line_end, at_text_end, at_token, next_line, led, read_from}
use Rattle.laws.specs.Reasons.{names_line}
use Rattle.laws.specs.ReadCalls.{Fresh}
use Rattle.laws.proofs.Basics.{by_test, both_first, both-second}

-- after a turn: P of where reading goes on, Q of what it ends with
abbrev pub After : (Cursor → Draft → Type 0) → (Reading → Type 0) → List ℕ → Cursor → Turn → Type 0
After P Q t c (goes d) = P c d
After P Q t c (drops d) = P (next_line t c) d
After P Q t c (ends r) = Q r

-- whether a token tells of a place in the text: it takes bytes, or is reason 4 or 5
abbrev pub in_text : Token → Bool
in_text k = takes k || ltb 3 (reason_of k)

-- a literal that is neither skipped nor refused, and drops no line
pub record Room (lim : Limits) (d : Draft) (l : Lit) : Type 0 where
  pub once : has (numbered d l l.negated) d.line ≡ false
  pub one_way : has (numbered d l (not l.negated)) d.line ≡ false
  pub term-room : (not (has l.name d.names) && leb lim.terms (length d.names)) ≡ false
  pub literal-room : held d < lim.literals

-- ---- a literal's turn and a line end's, case by case, each with what led there

module _ (P : Turn → Type 0) (lim : Limits) (d : Draft) where
  pub literal-by : (l : Lit) → P (goes d) → P (drops (dropped d))
      → (Fresh d l → has l.name d.names ≡ false → lim.terms ≤ length d.names → P (stops (fault_at l.line TooManyTerms)))
      → (Fresh d l → (has l.name d.names ≡ false → length d.names < lim.terms) → lim.literals ≤ held d → P (stops (fault_at l.line TooManyLiterals)))
      → (Room lim d l → P (goes (taken d l))) → P (at_literal lim d l)
  unfolding at_literal
  literal-by l skip leave no_term no-literal take =
      by_test P (has (numbered d l l.negated) d.line) (λ _. skip) (λ once.
      by_test P (has (numbered d l (not l.negated)) d.line) (λ _. leave) (λ one_way.
      let fresh : Fresh d l = record { once = once; one_way = one_way } in
      by_test P (not (has l.name d.names) && leb lim.terms (length d.names))
      (λ full. no_term fresh (not-true _ (both_first _ _ full)) (leb-true lim.terms (length d.names) (both-second (not (has l.name d.names)) _ full)))
      (λ term-room.
      by_test P (leb lim.literals (held d)) (λ full. no-literal fresh (new-room term-room) (leb-true lim.literals (held d) full)) (λ room.
      take (record { once = once; one_way = one_way; term-room = term-room; literal-room = leb-false lim.literals (held d) room })))))
    where
      new-room : (not (has l.name d.names) && leb lim.terms (length d.names)) ≡ false → has l.name d.names ≡ false → length d.names < lim.terms
      new-room room new = leb-false lim.terms (length d.names) (ap (λ (b : Bool). not b && leb lim.terms (length d.names)) (sym new) ∙ room)

  pub line-by : (n : ℕ) (ls : List ℕ) → d.line ≡ ls → (d.line ≡ [] → P (stops (fault_at n BlankLine)))
      → (0 < length d.line → lim.clauses ≤ length d.clauses → P (stops (fault_at n TooManyClauses)))
      → (0 < length d.line → length d.clauses < lim.clauses → P (goes (kept d))) → P (at_line_end lim d n ls)
  unfolding at_line_end
  line-by n [] e blank full keep = blank e
  line-by n (l ∷ ls) e blank full keep =
      let some : 0 < length d.line = omega (arith, ap length e) in
      by_test P (leb lim.clauses (length d.clauses)) (λ q. full some (leb-true lim.clauses (length d.clauses) q)) (λ q.
      keep some (leb-false lim.clauses (length d.clauses) q))

-- ---- a token's turn

-- what is to be shown of the token k, which left the cursor at c
pub record Keeps (P : Cursor → Draft → Type 0) (Q : Reading → Type 0) (lim : Limits) (t : List ℕ) (c : Cursor) (d : Draft) (k : Token) : Type 0 where
  pub skip : takes k ≡ true → P c d
  pub leave : takes k ≡ true → P (next_line t c) (dropped d)
  pub take : takes k ≡ true → (l : Lit) → k ≡ Literal l → Room lim d l → P c (taken d l)
  pub keep : takes k ≡ true → 0 < length d.line → length d.clauses < lim.clauses → P c (kept d)
  pub refuse : in_text k ≡ true → (r : Reason) → names_line r ≡ true → Q (refused (fault_at (line_of k) r))
  pub cut : Q (refused (fault TextCut))
  pub finish : Q (at_text_end d.names d.clauses)

pub token-by : (P : Cursor → Draft → Type 0) (Q : Reading → Type 0) (lim : Limits) (t : List ℕ) (c : Cursor) (d : Draft) (k : Token) → Keeps P Q lim t c d k
    → After P Q t c (at_token lim d k)
unfolding at_token
token-by P Q lim t c d (Literal l) h =
    literal-by (After P Q t c) lim d l (h.skip refl) (h.leave refl) (λ _ _ _. h.refuse refl TooManyTerms refl) (λ _ _ _. h.refuse refl TooManyLiterals refl) (h.take refl l refl)
token-by P Q lim t c d (True n) h = h.leave refl
token-by P Q lim t c d (Line n) h =
    line-by (After P Q t c) lim d n d.line refl (λ _. h.refuse refl BlankLine refl) (λ _ _. h.refuse refl TooManyClauses refl) (h.keep refl)
token-by P Q lim t c d (End n) h = h.finish
token-by P Q lim t c d (Cut n) h = h.cut
token-by P Q lim t c d (Bad n) h = h.refuse refl ByteNotAllowed refl
token-by P Q lim t c d (Long n) h = h.refuse refl NinthByte refl

-- ---- the turns

module _ (P : Cursor → Draft → Type 0) (Q : Reading → Type 0) (lim : Limits) (t : List ℕ) where
  led-by : (u : Turn) (c : Cursor) (on : Cursor → Draft → Reading) → After P Q t c u → ((c' : Cursor) (d : Draft) → P c' d → Q (on c' d)) → Q (led u t c on)
  led-by (goes d) c on h next = next c d h
  led-by (drops d) c on h next = next (next_line t c) d h
  led-by (ends r) c on h next = h

  -- what every turn keeps holds at the end, whatever the fuel
  pub read_by : ((c : Cursor) (d : Draft) → P c d → Q (at_text_end d.names d.clauses))
      → ((c : Cursor) (d : Draft) → P c d → Keeps P Q lim t (scan t c).next d (scan t c).token)
      → (k : ℕ) (c : Cursor) (d : Draft) → P c d → Q (read_from k lim t c d)
  unfolding read_from
  read_by ended turn zero c d h = ended c d h
  read_by ended turn (suc k) c d h =
      led-by (at_token lim d (scan t c).token) (scan t c).next (λ c' d'. read_from k lim t c' d')
      (token-by P Q lim t (scan t c).next d (scan t c).token (turn c d h))
      (λ c' d'. read_by ended turn k c' d')
