-- What an accepted numbered reading gives: a proper file, a term for each variable, and as many clauses ended as its header says. Assumes nothing.
use Prim.Native.Nat.{ℕ, suc, ◌^◌, ◌≤◌, ◌<◌}
use mathlib.Core.Path.{◌≡◌, refl, ap, sym, subst, ◌∙◌}
use mathlib.Core.Bool.{true, false, ◌||◌, false≢true}
use mathlib.Core.List.{List, [], ◌∷◌}
use native.Mathlib.Omega.{arith}
use borrow.Author.Tests.{leb-true, leb-false, ltb-true, ltb-false}
use lib.ListN.{length}
use lib.Dec.{ltb, leb}
use Rattle.std.proofs.Common.{Option, Some, None}
use Rattle.scan.specs.Scan.{open_end}
use Rattle.written.specs.declared.Reason.TheVariants.{TextTooLong, TextCut, HeaderForm, TooManyTerms}
use Rattle.written.specs.declared.Fault.{Fault}
use Rattle.written.specs.declared.Form.{Form}
use Rattle.written.specs.declared.Form.TheVariants.{Own, Numbered}
use Rattle.written.specs.declared.Header.{Header}
use Rattle.written.specs.declared.Signed.{Signed}
use Rattle.written.specs.Limits.{Limits}
use Rattle.written.specs.Clauses.{File, as_read}
use Rattle.written.specs.Reasons.{fault, fault_at}
use Rattle.written.specs.Reading.{Reading, accepted, refused, at_text_end, read_text}
use Rattle.written.specs.Numerals.{header_at}
use Rattle.written.specs.Numbered.{names_to, Sum, is_open, at_numbers_end, numbers_from, begun, after_header, from_header, read_numbered, read_as}
use Rattle.laws.specs.Valid.{Proper, Valid}
use Rattle.laws.specs.NumberedCalls.{head_at, Heading, Heads, numbers_at}
use Rattle.laws.specs.NumberedCalls.Heads.{missing, malformed, term-room}
use Rattle.laws.proofs.Basics.{by_test, neither-first, neither-second}
use Rattle.laws.proofs.Drafts.{Fits, Sound, dropped-fits, kept-fits, taken-fits, end-sound}
use Rattle.laws.proofs.Readings.{reading-sound, as_read-valid}
use Rattle.laws.proofs.NumberedNames.{name-valid, names-length, names-valid, names-differ}
use Rattle.laws.proofs.NumberedTurns.{Carries, lit_of, taken-names, numbers-by}

-- ---- on its way

-- what holds of a reading on its way
pub record Sums (lim : Limits) (h : Header) (s : Sum) : Type 0 where
  pub fits : Fits lim s.draft
  pub names : s.draft.names ≡ names_to h.variables
  pub empty : s.is_dropped ≡ true → s.draft.line ≡ []
  pub few : s.ended ≤ h.clauses

module _ (lim : Limits) (h : Header) (few : h.variables ≤ lim.terms) (small : lim.terms < 10 ^ 8) where
  -- from the header's end
  pub begun-sums : Sums lim h (begun h)
  begun-sums =
      let n = h.variables in
      record {
        fits = record {
          few-terms = omega (arith, names-length n);
          few-clauses = omega arith;
          few-literals = omega arith;
          names-valid = names-valid n (omega arith);
          names-differ = names-differ n;
          clauses-valid = refl;
          line-below = refl;
          line_differs = refl;
        };
        names = refl;
        empty = λ e. absurd (false≢true e);
        few = omega arith;
      }

  -- every number keeps it
  pub number-sums : (Q : Reading → Type 0) → ((e : Fault) → Q (refused e)) → (s : Sum) → Sums lim h s → (x : Signed) → Carries (Sums lim h) Q lim h s x
  number-sums Q none s k x =
      record {
        pass = λ _. k;
        over = λ _ room. record { fits = k.fits; names = k.names; empty = λ e. absurd (false≢true e); few = omega arith };
        skip = λ _. record { fits = k.fits; names = k.names; empty = λ e. absurd (false≢true e); few = k.few };
        leave = λ _. record { fits = dropped-fits lim s.draft k.fits; names = k.names; empty = λ _. refl; few = k.few };
        take = λ _ some low room. record {
          fits = taken-fits lim s.draft k.fits (lit_of x) (name-valid x.number (omega arith)) room;
          names = taken-names s.draft h.variables x k.names some low;
          empty = λ e. absurd (false≢true e);
          few = k.few;
        };
        keep = λ _ room some open-room. record { fits = kept-fits lim s.draft k.fits some open-room; names = k.names; empty = λ e. absurd (false≢true e); few = omega arith };
        refuse = λ r. none (fault_at x.line r);
      }

-- ---- at the end

-- what stands where an accepted reading ends: no clause begun, and as many ended as the header says
pub record Counted (lim : Limits) (h : Header) (s : Sum) (f : File) : Type 0 where
  pub file : f ≡ record { names = s.draft.names; clauses = s.draft.clauses }
  pub counted : s.ended ≡ h.clauses
  pub closed : is_open s ≡ false
  pub proper : Proper lim f
  pub names : f.names ≡ names_to h.variables

-- what holds of the file of an accepted reading
abbrev pub EndsWith : (File → Type 0) → Reading → Type 0
EndsWith P (accepted f) = P f
EndsWith P (refused e) = Unit {0}

module _ (lim : Limits) (h : Header) (s : Sum) (k : Sums lim h s) where
  text-counted : is_open s ≡ false → h.clauses ≤ s.ended → (cs : List (List ℕ)) → s.draft.clauses ≡ cs → EndsWith (Counted lim h s) (at_text_end s.draft.names cs)
  unfolding at_text_end
  text-counted closed full [] e = tt
  text-counted closed full (c ∷ cs) e =
      record {
        file = λ i. record { names = s.draft.names; clauses = sym e i };
        counted = omega (arith, k.few);
        closed = closed;
        proper = end-sound lim s.draft k.fits (c ∷ cs) e;
        names = k.names;
      }

  ends-counted : EndsWith (Counted lim h s) (at_numbers_end h s)
  unfolding at_numbers_end
  ends-counted =
      let few = ltb s.ended h.clauses in
      by_test (EndsWith (Counted lim h s)) (is_open s || few) (λ _. tt) (λ none.
      text-counted (neither-first (is_open s) few none) (ltb-false s.ended h.clauses (neither-second (is_open s) few none)) s.draft.clauses refl)

  pub end-counted : (f : File) → at_numbers_end h s ≡ accepted f → Counted lim h s f
  end-counted f e = subst (EndsWith (Counted lim h s)) e ends-counted

-- ---- from the text's start

-- what is shown of each refusal before the numbers, and of what the numbers come to, holds of a text
module _ (Q : Reading → Type 0) (lim : Limits) (t : List ℕ) where
  -- of the numbers after a header
  abbrev pub OfNumbers : Type 0
  OfNumbers = (h : Header) → Heading lim t h → Q (numbers_from (suc (length t)) lim t h (numbers_at t h) (begun h))

  header-by : ((e : Fault) → Heads lim t e → Q (refused e)) → OfNumbers → (head_at t).at < length t → (k : Option Header) → header_at t (head_at t).at ≡ k → Q (after_header lim t (head_at t).line k)
  unfolding after_header
  header-by heads next there None e = heads (fault_at (head_at t).line HeaderForm) (malformed there e)
  header-by heads next there (Some h) e =
      by_test Q (ltb lim.terms h.variables) (λ high. heads (fault_at (head_at t).line TooManyTerms) (term-room h there e (ltb-true lim.terms h.variables high))) (λ few.
      next h (record { there = there; says = e; few = ltb-false lim.terms h.variables few }))

  pub text-by : (lim.text < length t → Q (refused (fault TextTooLong))) → (open_end t ≡ true → Q (refused (fault TextCut)))
      → (open_end t ≡ false → (e : Fault) → Heads lim t e → Q (refused e)) → (open_end t ≡ false → OfNumbers) → Q (read_numbered lim t)
  unfolding read_numbered from_header
  text-by long cut heads next =
      by_test Q (ltb lim.text (length t)) (λ q. long (ltb-true lim.text (length t) q)) (λ _.
      by_test Q (open_end t) cut (λ closed.
      by_test Q (leb (length t) (head_at t).at) (λ q. heads closed (fault HeaderForm) (missing (leb-true (length t) (head_at t).at q))) (λ there.
      header-by (heads closed) (next closed) (leb-false (length t) (head_at t).at there) (header_at t (head_at t).at) refl)))

-- what is known of an accepted text
pub record Accepted (lim : Limits) (t : List ℕ) (f : File) : Type 0 where
  pub header : Header
  pub heading : Heading lim t header
  pub last : Sum
  pub ends : Counted lim header last f

module _ (lim : Limits) (t : List ℕ) (small : lim.terms < 10 ^ 8) where
  numbers-end : (h : Header) → Heading lim t h → EndsWith (Accepted lim t) (numbers_from (suc (length t)) lim t h (numbers_at t h) (begun h))
  numbers-end h heading =
      numbers-by (λ c s. Sums lim h s) (EndsWith (Accepted lim t)) lim t h (λ c s k. ended s k)
      (λ c s k. record { number = λ x _. number-sums lim h heading.few small (EndsWith (Accepted lim t)) (λ e. tt) s k x; bad = λ n _. tt; finish = ended s k })
      (suc (length t)) (numbers_at t h) (begun h) (begun-sums lim h heading.few small)
    where
      by_end : (s : Sum) → Sums lim h s → (r : Reading) → at_numbers_end h s ≡ r → EndsWith (Accepted lim t) r
      by_end s k (accepted f) e = record { header = h; heading = heading; last = s; ends = end-counted lim h s k f e }
      by_end s k (refused e) q = tt

      ended : (s : Sum) → Sums lim h s → EndsWith (Accepted lim t) (at_numbers_end h s)
      ended s k = by_end s k (at_numbers_end h s) refl

  pub numbered-accepted : (f : File) → read_numbered lim t ≡ accepted f → Accepted lim t f
  numbered-accepted f e = subst (EndsWith (Accepted lim t)) e (text-by (EndsWith (Accepted lim t)) lim t (λ _. tt) (λ _. tt) (λ _ e _. tt) (λ _. numbers-end))

  -- the file of an accepted text is proper
  pub numbered-proper : (f : File) → read_numbered lim t ≡ accepted f → Proper lim f
  numbered-proper f e = (numbered-accepted f e).ends.proper

  pub numbered-sound : Sound lim (read_numbered lim t)
  numbered-sound = sound (read_numbered lim t) refl
    where
      sound : (r : Reading) → read_numbered lim t ≡ r → Sound lim r
      sound (accepted f) e = numbered-proper f e
      sound (refused e) q = tt

  pub numbered-valid : (f : File) → read_numbered lim t ≡ accepted f → Valid lim (as_read f)
  numbered-valid f e = as_read-valid lim f (numbered-proper f e)

  -- a term for each variable that the header says, whether it is used or not
  pub every_variable : (f : File) → read_numbered lim t ≡ accepted f → (h : Header) → header_at t (head_at t).at ≡ Some h → f.names ≡ names_to h.variables
  every_variable f e h q =
      let a = numbered-accepted f e in
      a.ends.names ∙ ap (λ (g : Header). names_to g.variables) (ap (headed h) (sym a.heading.says ∙ q))
    where
      headed : Header → Option Header → Header
      headed d (Some g) = g
      headed d None = d

-- a text of either form comes to a proper file, or to none
pub form-sound : (lim : Limits) → lim.terms < 10 ^ 8 → (form : Form) (t : List ℕ) → Sound lim (read_as form lim t)
unfolding read_text read_numbered
form-sound lim small Own t = reading-sound lim t
form-sound lim small Numbered t = numbered-sound lim t small
