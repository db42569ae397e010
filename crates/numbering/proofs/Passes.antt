-- Each number's turn on the tables is the written one. Assumes nothing.
use Prim.Native.Nat.{ℕ, suc, ◌+◌, ◌-◌, ◌^◌, ◌≤◌, ◌<◌}
use mathlib.Core.Path.{◌≡◌, refl, ap, sym, subst, ◌∙◌}
use mathlib.Core.Bool.{Bool, true, false, not, ◌||◌, true≢false}
use mathlib.Core.List.{List}
use native.Mathlib.Omega.{arith}
use native.Mathlib.Numerals.{add-one}
use borrow.Author.Tests.{eqb-true, eqb-false, leb-true, leb-false, lt-ltb, le-ltb, le-leb, lt-leb, not-true, not-false}
use lib.ListN.{length, take}
use lib.Dec.{eqb, leb, ltb}
use Rattle.std.proofs.Common.{Result, Ok, Err}
use Rattle.written.specs.declared.Reason.{Reason}
use Rattle.written.specs.declared.Reason.TheVariants.{ByteNotAllowed, ClauseCount, PastHeader}
use Rattle.written.specs.declared.Fault.{Fault}
use Rattle.written.specs.declared.Header.{Header}
use Rattle.written.specs.declared.Signed.{Signed}
use Rattle.written.specs.declared.Numeral.TheVariants.{Number, Bad, End}
use Rattle.written.specs.Limits.{Limits}
use Rattle.written.specs.Lists.{has, place_of}
use Rattle.written.specs.Reasons.{fault, fault_at}
use Rattle.written.specs.Reading.{Reading, Turn, goes, drops, ends, at_literal, at_line_end, at_text_end}
use Rattle.written.specs.Numbered.{name_for, names_to, Sum, sum, Pass, on, to, turned, is_open, at_number, at_numbers_end, at_numeral}
use Rattle.laws.proofs.Basics.{by_test}
use Rattle.laws.proofs.NumberedNames.{names-has, names-place}
use Rattle.laws.proofs.NumberedTurns.{Then, lit_of, number_by, number_above, number-zero, number_passed, number-turn, zero-past, zero-dropped, zero-line}
use Rattle.laws.proofs.NumberedReadings.{Sums, number-sums}
use Rattle.reading_literal.specs.declared.Taken.{Taken}
use Rattle.reading_literal.specs.Taking.{by_number, placing, placed, CanPlace}
use Rattle.reading_literal.proofs.Takes.{can-place, placed_took}
use Rattle.reading_lines.specs.declared.Next.{Next}
use Rattle.reading_lines.specs.declared.Next.TheVariants as N
use Rattle.reading_lines.specs.Drafting.{Desk, DraftedWith, TurnedWith}
use Rattle.reading_lines.specs.Turns.{after_literal, LineEnd, line_end, after_line, after_text}
use Rattle.reading_lines.proofs.Held.{known_are, line-length}
use Rattle.reading_lines.proofs.Literals.{literal-turns}
use Rattle.reading_lines.proofs.Tokens.{line-turns, text-turns}
use Rattle.numbering.specs.declared.Going.{Going}
use Rattle.numbering.specs.declared.Pass as D
use Rattle.numbering.specs.declared.Pass.TheVariants as P
use Rattle.numbering.specs.Passes.{going, pass_of, ZeroEnd, zero_end, kept_by, after_zero, after_numbers}
use Rattle.numbering.specs.Counting.{Count, count, desk_with, Summed, CanCount, Passed, CountsBy}

-- ---- a clause's end in the code, by each way through its tests

module _ (lim : Limits) (h : Header) (g : Going) (n : ℕ) (ss : List ℕ) where
  pub past-count : h.clauses ≤ g.ended → {f : Fault} → f ≡ fault_at n ClauseCount → zero_end (P.Refused f) ss ≡ after_zero lim h g n ss
  unfolding after_zero
  past-count full told = ap (λ (f : Fault). zero_end (P.Refused f) ss) told ∙ sym (rw (le-leb h.clauses g.ended full) refl)

  module _ (few : g.ended < h.clauses) where
    pub of-dropped : g.dropped ≡ true → zero_end (P.On (going g.place false (g.ended + 1))) ss ≡ after_zero lim h g n ss
    unfolding after_zero
    of-dropped d = sym (rw (lt-leb h.clauses g.ended few, d, add-one g.ended) refl)

    pub of-line : g.dropped ≡ false → {next : Result Next Fault} {ss' : List ℕ} → line_end next ss' ≡ after_line lim g.place n ss → {r : D.Pass} → r ≡ pass_of next (g.ended + 1)
        → zero_end r ss' ≡ after_zero lim h g n ss
    unfolding after_zero
    of-line d {next} {ss'} e told =
        ap (λ (r : D.Pass). zero_end r ss') told ∙ ap (λ (l : LineEnd). kept_by l (g.ended + 1)) e
        ∙ sym (rw (lt-leb h.clauses g.ended few, d, add-one g.ended) refl)

-- ---- a number's turn

abbrev is_end : Turn → Bool
is_end (goes d) = false
is_end (drops d) = false
is_end (ends r) = true

module _ (lim : Limits) (h : Header) (few : h.variables ≤ lim.terms) (small : lim.terms < 10 ^ 8) where
  -- what a number leads on to is a reading on its way
  next-sums : (s : Sum) → Sums lim h s → (x : Signed) (s' : Sum) → at_number lim h s x ≡ on s' → Sums lim h s'
  next-sums s k x s' e =
      subst (Then (Sums lim h) (λ r. Unit {0})) e
      (number_by (Sums lim h) (λ r. Unit {0}) lim h s x (number-sums lim h few small (λ r. Unit {0}) (λ e. tt) s k x))

  module _ (w₀ w : Desk) (g : Going) (s : Sum) (k : Summed lim h w₀ w g s) (x : Signed) (w' : Desk) where
    -- the code goes on
    onward : (g' : Going) (s' : Sum) → at_number lim h s x ≡ on s' → DraftedWith by_number lim w₀ w' g'.place s'.draft → g'.dropped ≡ s'.is_dropped → g'.ended ≡ s'.ended
        → Passed lim h w₀ w' (at_number lim h s x) (P.On g')
    onward g' s' e drafted dropped ended =
        record { sum = s'; is = e; summed = record { drafted = drafted; dropped-is = dropped; ended_is = ended; sums = next-sums s k.sums x s' e } }

    -- a turn of the open clause
    turn-passes : (n : ℕ) (u : Turn) → at_number lim h s x ≡ turned n u → (next : Result Next Fault) → TurnedWith by_number lim w₀ w' u next
        → Passed lim h w₀ w' (at_number lim h s x) (pass_of next n)
    turn-passes n u e (Ok (N.Goes p)) l = onward (going p false n) (sum l.draft false n) (e ∙ ap (turned n) l.is) l.drafted refl refl
    turn-passes n u e (Ok (N.Drops p)) l = onward (going p true n) (sum l.draft true n) (e ∙ ap (turned n) l.is) l.drafted refl refl
    turn-passes n u e (Ok (N.Whole p)) l = record { draft = l.draft; is = e ∙ ap (turned n) l.is; drafted = l.drafted }
    turn-passes n u e (Err f) l = (e ∙ ap (turned n) l.0, l.1)

  -- ---- a number

  module _ (x : Signed) (t : Count) (g : Going) where
    pub above_counts : h.variables < x.number → {f : Fault} → f ≡ fault_at x.line PastHeader → CountsBy lim h (Number x) t g t (P.Refused f)
    unfolding at_numeral
    above_counts high told = record { told = λ w₀ ns os s k. rw told (number_above lim h s x high, k.drafted.beyond) }

    -- a clause's end
    abbrev Ends : Desk → List ℕ → List ℕ → Sum → ZeroEnd → Type 0
    Ends w₀ ns os s e = Passed lim h w₀ (desk_with ns os (count e.starts t.literals t.stamps)) (at_number lim h s x) e.pass

    zero-passes : x.number ≡ 0 → (w₀ : Desk) (ns os : List ℕ) (s : Sum) → Summed lim h w₀ (desk_with ns os t) g s → Ends w₀ ns os s (after_zero lim h g x.line t.starts)
    unfolding after_zero
    zero-passes none w₀ ns os s k =
        let w = desk_with ns os t in
        let zero = number-zero lim h s x none in
        by_test (Ends w₀ ns os s) (leb h.clauses g.ended)
        (λ full. (zero ∙ zero-past lim h s x.line (omega (arith, leb-true h.clauses g.ended full, k.ended_is)), k.drafted.beyond))
        (λ room.
        let left : s.ended < h.clauses = omega (arith, leb-false h.clauses g.ended room, k.ended_is) in
        by_test (Ends w₀ ns os s) g.dropped
        (λ d. onward w₀ w g s k x w (going g.place false (suc g.ended)) (sum s.draft false (suc s.ended))
        (zero ∙ zero-dropped lim h s x.line left (sym k.dropped-is ∙ d)) k.drafted refl (ap suc k.ended_is))
        (λ d.
        let e = after_line lim g.place x.line t.starts in
        turn-passes w₀ w g s k x (desk_with ns os (count e.starts t.literals t.stamps)) (suc g.ended) (at_line_end lim s.draft x.line s.draft.line)
        (zero ∙ zero-line lim h s x.line left (sym k.dropped-is ∙ d) ∙ ap (λ (n : ℕ). turned (suc n) (at_line_end lim s.draft x.line s.draft.line)) (sym k.ended_is))
        e.next (line-turns by_number lim w g.place x.line w₀ s.draft k.drafted)))

    pub zero-counts : x.number ≡ 0 → {r : D.Pass} {ss : List ℕ} → zero_end r ss ≡ after_zero lim h g x.line t.starts
        → CountsBy lim h (Number x) t g (count ss t.literals t.stamps) r
    unfolding at_numeral
    zero-counts none e = record { told = λ w₀ ns os s k. subst (Ends w₀ ns os s) (sym e) (zero-passes none w₀ ns os s k) }

    -- a variable
    module _ (low : x.number ≤ h.variables) (some : x.number ≡ 0 → ⊥) where
      is : x.number ≡ suc (x.number - 1)
      is = omega (arith, some)

      pub dropped-counts : g.dropped ≡ true → CountsBy lim h (Number x) t g t (P.On g)
      unfolding at_numeral
      dropped-counts d =
          record {
            told = λ w₀ ns os s k.
                let w = desk_with ns os t in
                onward w₀ w g s k x w g s (number_passed lim h s x (x.number - 1) is (omega arith) (sym k.dropped-is ∙ d)) k.drafted k.dropped-is k.ended_is;
          }

      -- its literal is of a known term, its number less 1
      module _ (w₀ : Desk) (ns os : List ℕ) (s : Sum) (k : Summed lim h w₀ (desk_with ns os t) g s) where
        known : take g.place.terms ns ≡ names_to h.variables
        known = known_are by_number lim w₀ (desk_with ns os t) g.place s.draft k.drafted ∙ k.sums.names

        old : has (name_for x.number) (take g.place.terms ns) ≡ true
        old = rw (known, ap name_for is) (names-has h.variables (x.number - 1) (omega (arith, is)))

        here : x.number - 1 ≡ place_of (name_for x.number) (take g.place.terms ns)
        here = sym (rw (known, ap name_for is) (names-place h.variables (x.number - 1) (omega (arith, is))))

        can : lim.terms ≤ 32768 → CanPlace lim t.literals t.stamps g.place.from g.place.held (x.number - 1)
        can fit =
            can-place by_number lim ns g.place.terms t.literals g.place.from g.place.held t.stamps os k.drafted.ready (name_for x.number) x.negated
            (x.number - 1) old here fit

      pub literal-can : CanCount lim h t g → lim.terms ≤ 32768 → CanPlace lim t.literals t.stamps g.place.from g.place.held (x.number - 1)
      literal-can c fit = can c.first c.names c.slots c.sum c.summed fit

      pub literal-counts : g.dropped ≡ false → {r : Result Taken Reason} {ls ms : List ℕ} {next : Result Next Fault}
          → placing r ls ms ≡ placed lim t.literals t.stamps g.place.from g.place.held (x.number - 1) x.negated
          → next ≡ after_literal r g.place x.line → {q : D.Pass} → q ≡ pass_of next g.ended → CountsBy lim h (Number x) t g (count t.starts ls ms) q
      unfolding at_numeral
      literal-counts d {r} {ls} {ms} {next} e a b =
          record {
            told = λ w₀ ns os s k.
                let w = desk_with ns os t in
                let took = placed_took by_number lim ns g.place.terms t.literals g.place.from g.place.held t.stamps os k.drafted.ready (name_for x.number)
                x.negated (x.number - 1) (old w₀ ns os s k) (here w₀ ns os s k) e in
                let turns = literal-turns by_number lim w₀ w g.place s.draft k.drafted (lit_of x) ns ls ms os r took in
                rw (b, a) (turn-passes w₀ w g s k x (desk_with ns os (count t.starts ls ms)) g.ended (at_literal lim s.draft (lit_of x))
                (number-turn lim h s x (x.number - 1) is (omega (arith, is)) (sym k.dropped-is ∙ d) k.sums.names
                ∙ ap (λ (n : ℕ). turned n (at_literal lim s.draft (lit_of x))) (sym k.ended_is))
                (after_literal r g.place x.line) turns);
          }

  -- ---- what is no number, and the text's end

  -- a turn that ends the reading
  ends-pass : (w₀ w : Desk) (end : Reading) (u : Pass) → u ≡ to end → (r : Result Next Fault) → TurnedWith by_number lim w₀ w (ends end) r → Passed lim h w₀ w u (pass_of r 0)
  ends-pass w₀ w end u q (Ok (N.Goes p)) l = absurd (true≢false (ap is_end l.is))
  ends-pass w₀ w end u q (Ok (N.Drops p)) l = absurd (true≢false (ap is_end l.is))
  ends-pass w₀ w end u q (Ok (N.Whole p)) l = record { draft = l.draft; is = q ∙ ap (turned 0) l.is; drafted = l.drafted }
  ends-pass w₀ w end u q (Err f) l = (q ∙ ap (turned 0) l.0, l.1)

  module _ (t : Count) (g : Going) where
    pub bad-counts : (n : ℕ) {f : Fault} → f ≡ fault_at n ByteNotAllowed → CountsBy lim h (Bad n) t g t (P.Refused f)
    unfolding at_numeral
    bad-counts n told = record { told = λ w₀ ns os s k. rw told (refl, k.drafted.beyond) }

    module _ (w₀ : Desk) (ns os : List ℕ) (s : Sum) (k : Summed lim h w₀ (desk_with ns os t) g s) where
      abbrev Finishes : D.Pass → Type 0
      Finishes r = Passed lim h w₀ (desk_with ns os t) (to (at_numbers_end h s)) r

      -- the three tests that a clause is open or that clauses are too few
      tests : {a b e : Bool} → s.is_dropped ≡ a → ltb 0 (length s.draft.line) ≡ b → ltb s.ended h.clauses ≡ e
          → (is_open s || ltb s.ended h.clauses) ≡ ((a || b) || e)
      tests p q r = λ i. (p i || q i) || r i

      unfinished : (is_open s || ltb s.ended h.clauses) ≡ true → Finishes (P.Refused (fault ClauseCount))
      unfolding at_numbers_end
      unfinished e = (rw e refl, k.drafted.beyond)

      finished : (is_open s || ltb s.ended h.clauses) ≡ false → Finishes (pass_of (after_text g.place) 0)
      unfolding at_numbers_end
      finished e =
          ends-pass w₀ (desk_with ns os t) (at_text_end s.draft.names s.draft.clauses) (to (at_numbers_end h s)) (rw e refl) (after_text g.place)
          (text-turns by_number lim (desk_with ns os t) g.place w₀ s.draft k.drafted)

      end-passes : Finishes (after_numbers h g)
      unfolding after_numbers
      end-passes =
          let long = line-length by_number lim w₀ (desk_with ns os t) g.place s.draft k.drafted in
          by_test Finishes g.dropped (λ d. unfinished (tests (sym k.dropped-is ∙ d) refl refl)) (λ d.
          let kept = sym k.dropped-is ∙ d in
          by_test Finishes (not (eqb g.place.held g.place.from))
          (λ held.
          let some : 0 < length s.draft.line = omega (arith, long, eqb-false g.place.held g.place.from (not-true _ held), k.drafted.ready.stamped.order) in
          unfinished (tests kept (lt-ltb 0 (length s.draft.line) some) refl))
          (λ none.
          let bare = le-ltb 0 (length s.draft.line) (omega (arith, long, eqb-true g.place.held g.place.from (not-false _ none))) in
          by_test Finishes (ltb g.ended h.clauses)
          (λ less. unfinished (tests kept bare (ap (λ (n : ℕ). ltb n h.clauses) (sym k.ended_is) ∙ less)))
          (λ all. finished (tests kept bare (ap (λ (n : ℕ). ltb n h.clauses) (sym k.ended_is) ∙ all)))))

    pub end-counts : {r : D.Pass} → r ≡ after_numbers h g → CountsBy lim h End t g t r
    unfolding at_numeral
    end-counts told = record { told = λ w₀ ns os s k. rw told (end-passes w₀ ns os s k) }
