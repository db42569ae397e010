-- Each token's turn on the tables is the written one. Assumes nothing.
use Prim.Native.Nat.{ℕ, ◌+◌, ◌≤◌, ◌<◌}
use mathlib.Core.Path.{◌≡◌, refl, ap, sym, subst, ◌∙◌}
use mathlib.Core.List.{List, [], ◌∷◌}
use native.Mathlib.Omega.{arith}
use borrow.Author.Tests.{eqb-true, eqb-false, leb-true, leb-false, eq-eqb, ne_eqb, le-leb, lt-leb}
use lib.ListN.{length, set}
use lib.Dec.{eqb, leb}
use Rattle.std.proofs.Common.{Result, Ok, Err}
use Rattle.scan.specs.declared.Lit.{Lit}
use Rattle.scan.specs.declared.Token.{Token}
use Rattle.scan.specs.declared.Token.TheVariants.{Literal, True, Line, End}
use Rattle.written.specs.declared.Reason.{Reason}
use Rattle.written.specs.declared.Reason.TheVariants.{TooManyClauses, NoClause, BlankLine}
use Rattle.written.specs.declared.Fault.{Fault}
use Rattle.written.specs.Limits.{Limits}
use Rattle.written.specs.Reasons.{fault, fault_at}
use Rattle.written.specs.Reading.{Draft, ends, stops, kept, dropped, at_line_end, at_text_end, at_token}
use Rattle.laws.proofs.Basics.{by_test}
use Rattle.laws.proofs.Refusals.{line-none, line-full, line-room}
use Rattle.reading_literal.specs.declared.Taken.{Taken}
use Rattle.reading_literal.specs.Taking.{Index, TookWith}
use Rattle.reading_lines.specs.declared.Place.{Place}
use Rattle.reading_lines.specs.declared.Next.{Next}
use Rattle.reading_lines.specs.declared.Next.TheVariants as N
use Rattle.reading_lines.specs.Drafting.{Desk, desk, DraftedWith, whole, TurnedWith, TurnsWith}
use Rattle.reading_lines.specs.Turns.{place_at, given_back, after_literal, LineEnd, line_end, after_line, after_text}
use Rattle.reading_lines.proofs.Held.{line-length, given_back_lem, line_kept}
use Rattle.reading_lines.proofs.Literals.{literal-turns}

-- ---- a line's end in the code, by each way through its tests

module _ (lim : Limits) (p : Place) (n : ℕ) (ss : List ℕ) where
  pub nothing-held : p.held ≡ p.from → {f : Fault} → f ≡ fault_at n BlankLine → line_end (Err f) ss ≡ after_line lim p n ss
  unfolding after_line
  nothing-held e told = ap (λ (f : Fault). line_end (Err f) ss) told ∙ rw (eq-eqb p.held p.from e) refl

  module _ (some : p.held ≡ p.from → ⊥) where
    pub no_room : lim.clauses ≤ p.clauses → {f : Fault} → f ≡ fault_at n TooManyClauses → line_end (Err f) ss ≡ after_line lim p n ss
    unfolding after_line
    no_room full told = ap (λ (f : Fault). line_end (Err f) ss) told ∙ rw (ne_eqb p.held p.from some, le-leb lim.clauses p.clauses full) refl

    pub line-closed : p.clauses < lim.clauses
        → line_end (Ok (N.Goes (place_at p.terms (p.clauses + 1) p.held p.held))) (set ss (p.clauses + 1) p.held) ≡ after_line lim p n ss
    unfolding after_line
    line-closed room = rw (ne_eqb p.held p.from some, lt-leb lim.clauses p.clauses room) refl

-- ---- the text's end, by its clauses

text-refused : (ns : List ℕ) (cs : List (List ℕ)) → length cs ≡ 0 → ends (at_text_end ns cs) ≡ stops (fault NoClause)
unfolding at_text_end
text-refused ns [] e = refl
text-refused ns (c ∷ cs) e = absurd (omega arith)

text-whole : (ns : List ℕ) (cs : List (List ℕ)) (ls : List ℕ) → (length cs ≡ 0 → ⊥) → ends (at_text_end ns cs) ≡ ends (whole (record { names = ns; clauses = cs; line = ls }))
unfolding at_text_end
text-whole ns [] ls e = absurd (e refl)
text-whole ns (c ∷ cs) ls e = refl

-- ---- the tokens

module _ (X : Index) (lim : Limits) (w : Desk) (p : Place) where
  pub literal-by : (l : Lit) (n' ls' m' o' : List ℕ) (r : Result Taken Reason) {q : Result Next Fault}
      → TookWith X lim w.names p.terms w.literals p.from p.held w.stamps w.slots l.name l.negated n' ls' m' o' r
      → q ≡ after_literal r p l.line → TurnsWith X lim (Literal l) w p (desk n' w.starts ls' m' o') q
  unfolding at_token
  literal-by l n' ls' m' o' r k e = record { told = λ w₀ d h. rw e (literal-turns X lim w₀ w p d h l n' ls' m' o' r k) }

  pub true-by : (n : ℕ) → TurnsWith X lim (True n) w p w (Ok (N.Drops (given_back p)))
  unfolding at_token
  true-by n = record { told = λ w₀ d h. record { draft = dropped d; is = refl; drafted = given_back_lem X lim w₀ w p d h } }

  -- a line's end: the tables with the starts that a line's end leaves
  abbrev pub ended : List ℕ → Desk
  ended ss = desk w.names ss w.literals w.stamps w.slots

  abbrev pub Ends : ℕ → Desk → Draft → LineEnd → Type 0
  Ends n w₀ d e = TurnedWith X lim w₀ (ended e.starts) (at_line_end lim d n d.line) e.next

  pub line-turns : (n : ℕ) (w₀ : Desk) (d : Draft) → DraftedWith X lim w₀ w p d → Ends n w₀ d (after_line lim p n w.starts)
  unfolding after_line
  line-turns n w₀ d h =
      let long = line-length X lim w₀ w p d h in
      by_test (Ends n w₀ d) (eqb p.held p.from)
      (λ none. (line-none lim d n d.line (omega (arith, eqb-true p.held p.from none)), h.beyond))
      (λ some.
      let more : 0 < length d.line = omega (arith, eqb-false p.held p.from some, h.ready.stamped.order) in
      by_test (Ends n w₀ d) (leb lim.clauses p.clauses)
      (λ full. (line-full lim d n d.line more (omega (arith, leb-true lim.clauses p.clauses full, h.clauses_are)), h.beyond))
      (λ room.
      let few : length d.clauses < lim.clauses = omega (arith, leb-false lim.clauses p.clauses room, h.clauses_are) in
      record { draft = kept d; is = line-room lim d n d.line more few; drafted = line_kept X lim w₀ w p d h few }))

  pub line-by : (n : ℕ) (ss : List ℕ) {q : Result Next Fault} → line_end q ss ≡ after_line lim p n w.starts → TurnsWith X lim (Line n) w p (ended ss) q
  unfolding at_token
  line-by n ss e =
      record { told = λ w₀ d h. subst (Ends n w₀ d) (sym e) (line-turns n w₀ d h) }

  -- the text's end
  pub text-turns : (w₀ : Desk) (d : Draft) → DraftedWith X lim w₀ w p d → TurnedWith X lim w₀ w (ends (at_text_end d.names d.clauses)) (after_text p)
  unfolding after_text
  text-turns w₀ d h =
      by_test (TurnedWith X lim w₀ w (ends (at_text_end d.names d.clauses))) (eqb p.clauses 0)
      (λ none. (text-refused d.names d.clauses (omega (arith, eqb-true p.clauses 0 none, h.clauses_are)), h.beyond))
      (λ some.
      record { draft = d; is = text-whole d.names d.clauses d.line (λ e. omega (arith, eqb-false p.clauses 0 some, h.clauses_are)); drafted = h })

  pub end_by : (n : ℕ) {q : Result Next Fault} → q ≡ after_text p → TurnsWith X lim (End n) w p w q
  unfolding at_token
  end_by n e = record { told = λ w₀ d h. rw e (text-turns w₀ d h) }

  -- a token that stops the reading
  pub fault-by : (k : Token) (f : Fault) → ((d : Draft) → at_token lim d k ≡ stops f) → TurnsWith X lim k w p w (Err f)
  fault-by k f e = record { told = λ w₀ d h. (e d, h.beyond) }
