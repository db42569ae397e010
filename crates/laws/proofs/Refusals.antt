-- Why a text is refused, once it is neither too long nor ends inside a line: the reading comes to a token that it cannot pass. Assumes nothing.
use Prim.Native.Nat.{ℕ, zero, suc, ◌≤◌, ◌<◌}
use mathlib.Core.Logic.{◌↔◌, ◌⊎◌, inl, inr}
use mathlib.Core.Path.{◌≡◌, refl, ap, sym, subst, ◌∙◌}
use mathlib.Core.Bool.{Bool, true, false, false≢true}
use mathlib.Core.List.{List, [], ◌∷◌}
use native.Mathlib.Omega.{arith}
use lib.ListN.{length}
use borrow.Author.Tests.{le-leb, lt-leb, le-ltb}
use Rattle.scan.specs.declared.Cursor.{Cursor}
use Rattle.scan.specs.declared.Lit.{Lit}
use Rattle.scan.specs.declared.Token.{Token}
use Rattle.scan.specs.declared.Token.TheVariants.{Literal, True, Line, End, Cut, Bad, Long}
use Rattle.scan.specs.Scan.{scan, start, open_end, reason_of}
use Rattle.scan.proofs.Closed.{no_cut}
use Rattle.written.specs.declared.Reason.TheVariants.{ByteNotAllowed, NinthByte, TooManyTerms, TooManyLiterals, TooManyClauses, NoClause, BlankLine}
use Rattle.written.specs.declared.Fault.{Fault}
use Rattle.written.specs.Lists.{has}
use Rattle.written.specs.Limits.{Limits}
use Rattle.written.specs.Reasons.{fault, fault_at}
use Rattle.written.specs.Reading.{Reading, Draft, Turn, accepted, refused, goes, drops, ends, stops, held, kept, nothing, at_literal, at_line_end, at_text_end, at_token, next_line, led, read_from, read_text}
use Rattle.laws.specs.Reasons.{names_line}
use Rattle.laws.specs.ReadCalls.{Comes, Fails}
use Rattle.laws.specs.ReadCalls.Comes.{begins, goes_on, drops-line}
use Rattle.laws.specs.ReadCalls.Fails.{bad-byte, ninth_byte, term-room, literal-room, clause-room, blank-line, no_clause}
use Rattle.laws.proofs.Basics.{by_cases}
use Rattle.laws.proofs.Turns.{literal-by, line-by}
use Rattle.laws.proofs.Fuel.{left, Falls, turn-falls, fuel_same}

-- ---- the token at which a reading stops

abbrev is_refused : Turn → Bool
is_refused (goes d) = false
is_refused (drops d) = false
is_refused (ends (accepted f)) = false
is_refused (ends (refused e)) = true

abbrev fault_of : Turn → Fault
fault_of (goes d) = fault NoClause
fault_of (drops d) = fault NoClause
fault_of (ends (accepted f)) = fault NoClause
fault_of (ends (refused e)) = e

-- a turn that stops is by that fault
abbrev Stopping : Limits → Draft → Token → Fault → Turn → Type 0
Stopping lim d k e u = u ≡ stops e → Fails lim d k e

module _ (lim : Limits) (d : Draft) (e : Fault) where
  onward : {k : Token} {u : Turn} → is_refused u ≡ false → Stopping lim d k e u
  onward h q = absurd (false≢true (sym h ∙ ap is_refused q))

  by-fault : {k : Token} (f : Fault) → Fails lim d k f → Stopping lim d k e (stops f)
  by-fault {k} f h q = subst (Fails lim d k) (ap fault_of q) h

  literal-stops : (l : Lit) → Stopping lim d (Literal l) e (at_literal lim d l)
  literal-stops l =
      literal-by (Stopping lim d (Literal l) e) lim d l (onward refl) (onward refl)
      (λ fresh new full. by-fault (fault_at l.line TooManyTerms) (term-room l fresh new full))
      (λ fresh room full. by-fault (fault_at l.line TooManyLiterals) (literal-room l fresh room full))
      (λ _. onward refl)

  line-stops : (n : ℕ) (ls : List ℕ) → d.line ≡ ls → Stopping lim d (Line n) e (at_line_end lim d n ls)
  line-stops n ls same =
      line-by (Stopping lim d (Line n) e) lim d n ls same (λ none. by-fault (fault_at n BlankLine) (blank-line n none))
      (λ some full. by-fault (fault_at n TooManyClauses) (clause-room n some full))
      (λ _ _. onward refl)

  end-stops : (n : ℕ) (cs : List (List ℕ)) → d.clauses ≡ cs → Stopping lim d (End n) e (ends (at_text_end d.names cs))
  unfolding at_text_end
  end-stops n [] same = by-fault (fault NoClause) (no_clause n same)
  end-stops n (c ∷ cs) same = onward refl

  -- a token other than `Cut` stops a reading exactly if it cannot be passed
  token-stops : (k : Token) → (reason_of k ≡ 3 → ⊥) → Stopping lim d k e (at_token lim d k)
  unfolding at_token
  token-stops (Literal l) whole = literal-stops l
  token-stops (True n) whole = onward refl
  token-stops (Line n) whole = line-stops n d.line refl
  token-stops (End n) whole = end-stops n d.clauses refl
  token-stops (Cut n) whole = absurd (whole refl)
  token-stops (Bad n) whole = by-fault (fault_at n ByteNotAllowed) (bad-byte n)
  token-stops (Long n) whole = by-fault (fault_at n NinthByte) (ninth_byte n)

-- a line's end, by the line's literals
pub line-none : (lim : Limits) (d : Draft) (n : ℕ) (ls : List ℕ) → length ls ≡ 0 → at_line_end lim d n ls ≡ stops (fault_at n BlankLine)
unfolding at_line_end
line-none lim d n [] none = refl
line-none lim d n (l ∷ ls) none = absurd (omega arith)

pub line-full : (lim : Limits) (d : Draft) (n : ℕ) (ls : List ℕ) → 0 < length ls → lim.clauses ≤ length d.clauses → at_line_end lim d n ls ≡ stops (fault_at n TooManyClauses)
unfolding at_line_end
line-full lim d n [] some full = absurd (omega arith)
line-full lim d n (l ∷ ls) some full = rw (le-leb lim.clauses (length d.clauses) full) refl

pub line-room : (lim : Limits) (d : Draft) (n : ℕ) (ls : List ℕ) → 0 < length ls → length d.clauses < lim.clauses → at_line_end lim d n ls ≡ goes (kept d)
unfolding at_line_end
line-room lim d n [] some room = absurd (omega arith)
line-room lim d n (l ∷ ls) some room = rw (lt-leb lim.clauses (length d.clauses) room) refl

token-fails : (lim : Limits) (d : Draft) (k : Token) (e : Fault) → Fails lim d k e → at_token lim d k ≡ stops e
unfolding at_token at_literal at_text_end
token-fails lim d k e (bad-byte n) = refl
token-fails lim d k e (ninth_byte n) = refl
token-fails lim d k e (term-room l fresh new full) = rw (fresh.once, fresh.one_way, new, le-leb lim.terms (length d.names) full) refl
token-fails lim d k e (literal-room l fresh room full) =
    by_cases (has l.name d.names) (λ known. rw (fresh.once, fresh.one_way, known, le-leb lim.literals (held d) full) refl)
    (λ new. rw (fresh.once, fresh.one_way, new, lt-leb lim.terms (length d.names) (room new), le-leb lim.literals (held d) full) refl)
token-fails lim d k e (clause-room n some full) = line-full lim d n d.line some full
token-fails lim d k e (blank-line n none) = line-none lim d n d.line (ap length none)
token-fails lim d k e (no_clause n bare) = rw bare refl

-- so the reasons are those that name a line, and 9
pub fails_late : (lim : Limits) (d : Draft) (k : Token) (e : Fault) → Fails lim d k e → (names_line e.reason ≡ true) ⊎ (e ≡ fault NoClause)
fails_late lim d k e (bad-byte n) = inl refl
fails_late lim d k e (ninth_byte n) = inl refl
fails_late lim d k e (term-room l fresh new full) = inl refl
fails_late lim d k e (literal-room l fresh room full) = inl refl
fails_late lim d k e (clause-room n some full) = inl refl
fails_late lim d k e (blank-line n none) = inl refl
fails_late lim d k e (no_clause n bare) = inr refl

-- ---- where a reading comes by

module _ (lim : Limits) (t : List ℕ) where
  -- the reading comes to a token that ends it with r
  abbrev pub Ending : Reading → Type 0
  Ending r = (c : Cursor) × (d : Draft) × Comes lim t c d × (at_token lim d (scan t c).token ≡ ends r)

  turn-ends : (u : Turn) (c : Cursor) (d : Draft) (on : Cursor → Draft → Reading) → Comes lim t c d → at_token lim d (scan t c).token ≡ u
      → Falls t (left t c) (scan t c).next u → ((b : Cursor) (a : Draft) → left t b < left t c → Comes lim t b a → Ending (on b a))
      → Ending (led u t (scan t c).next on)
  turn-ends (goes a) c d on h q falls next = next (scan t c).next a falls (goes_on c d a h q)
  turn-ends (drops a) c d on h q falls next = next (next_line t (scan t c).next) a falls (drops-line c d a h q)
  turn-ends (ends r) c d on h q falls next = (c, d, h, q)

  from-ends : (k : ℕ) (c : Cursor) (d : Draft) → left t c < k → Comes lim t c d → Ending (read_from k lim t c d)
  unfolding read_from
  from-ends zero c d few h = absurd (omega arith)
  from-ends (suc k) c d few h =
      turn-ends (at_token lim d (scan t c).token) c d (λ b a. read_from k lim t b a) h refl (turn-falls lim t c d)
      (λ b a fewer g. from-ends k b a (omega arith) g)

  -- a turn that leads to b, by the reading from there on
  by_turn : (u : Turn) (c : Cursor) (d : Draft) → at_token lim d (scan t c).token ≡ u
      → read_from (suc (left t c)) lim t c d ≡ led u t (scan t c).next (λ b a. read_from (left t c) lim t b a)
  unfolding read_from
  by_turn u c d q = ap (λ (v : Turn). led v t (scan t c).next (λ b a. read_from (left t c) lim t b a)) q

  falls-by : (u : Turn) (c : Cursor) (d : Draft) → at_token lim d (scan t c).token ≡ u → Falls t (left t c) (scan t c).next u
  falls-by u c d q = subst (Falls t (left t c) (scan t c).next) q (turn-falls lim t c d)

  -- from wherever it comes by, the reading comes to the same
  comes-same : (c : Cursor) (d : Draft) → Comes lim t c d → read_from (suc (left t c)) lim t c d ≡ read_from (suc (length t)) lim t start nothing
  comes-same c d begins = fuel_same lim t (suc (left t start)) (suc (length t)) start nothing (omega arith) (omega arith)
  comes-same _ _ (goes_on c d a h q) =
      let b = (scan t c).next in
      let fewer = falls-by (goes a) c d q in
      fuel_same lim t (suc (left t b)) (left t c) b a (omega arith) (omega arith) ∙ sym (by_turn (goes a) c d q) ∙ comes-same c d h
  comes-same _ _ (drops-line c d a h q) =
      let b = next_line t (scan t c).next in
      let fewer = falls-by (drops a) c d q in
      fuel_same lim t (suc (left t b)) (left t c) b a (omega arith) (omega arith) ∙ sym (by_turn (drops a) c d q) ∙ comes-same c d h

  from-left : length t ≤ lim.text → open_end t ≡ false → read_text lim t ≡ read_from (suc (length t)) lim t start nothing
  unfolding read_text
  from-left short closed = rw (le-ltb lim.text (length t) short, closed) refl

  module _ (short : length t ≤ lim.text) (closed : open_end t ≡ false) where
    -- what a text says is what the token says that ends its reading
    pub ends-exactly : (r : Reading) → (read_text lim t ≡ r) ↔ Ending r
    ends-exactly r = (
      λ e. subst Ending (sym (from-left short closed) ∙ e) (from-ends (suc (length t)) start nothing (omega arith) begins),
      λ h. from-left short closed ∙ sym (comes-same h.0 h.1 h.2) ∙ by_turn (ends r) h.0 h.1 h.3,
    )

    -- it is refused exactly if its reading comes to a token that cannot be passed
    pub stops-exactly : (e : Fault) → (read_text lim t ≡ refused e) ↔ ((c : Cursor) × (d : Draft) × Comes lim t c d × Fails lim d (scan t c).token e)
    stops-exactly e = (
      λ r. let h = (ends-exactly (refused e)).0 r in (h.0, h.1, h.2, token-stops lim h.1 e (scan t h.0).token (no_cut t h.0 closed) h.3),
      λ h. (ends-exactly (refused e)).1 (h.0, h.1, h.2, token-fails lim h.1 (scan t h.0).token e h.3),
    )
