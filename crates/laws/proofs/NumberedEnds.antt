-- A numbered text is accepted exactly if its reading comes to the text's end with as many clauses ended as its header says. Assumes nothing.
use Prim.Native.Nat.{ℕ, ◌^◌, ◌≤◌, ◌<◌}
use mathlib.Core.Logic.{◌↔◌}
use mathlib.Core.Path.{◌≡◌, refl, ap, sym, subst, ◌∙◌}
use mathlib.Core.Bool.{Bool, true, false, false≢true, true≢false}
use mathlib.Core.List.{List, [], ◌∷◌}
use native.Mathlib.Omega.{arith}
use lib.ListN.{length}
use borrow.Author.Tests.{le-ltb}
use Rattle.scan.specs.declared.Cursor.{Cursor}
use Rattle.scan.specs.Scan.{open_end}
use Rattle.written.specs.declared.Fault.{Fault}
use Rattle.written.specs.declared.Header.{Header}
use Rattle.written.specs.declared.Numeral.{Numeral}
use Rattle.written.specs.declared.Numeral.TheVariants.{Number, Bad, End}
use Rattle.written.specs.Limits.{Limits}
use Rattle.written.specs.Clauses.{File}
use Rattle.written.specs.Reading.{Reading, accepted, refused, at_text_end}
use Rattle.written.specs.Numerals.{number_at}
use Rattle.written.specs.Numbered.{Sum, Pass, on, to, is_open, at_numbers_end, at_numeral, read_numbered}
use Rattle.laws.specs.NumberedCalls.{Heading, Comes, Arrived}
use Rattle.laws.proofs.NumberedTurns.{Then, number_by}
use Rattle.laws.proofs.NumberedReadings.{Sums, begun-sums, number-sums, end-counted, text-by}
use Rattle.laws.proofs.NumberedRefusals.{comes-by, Ending, numbers-end, numbers-exactly}

abbrev is_accepted : Reading → Bool
is_accepted (accepted f) = true
is_accepted (refused e) = false

abbrev outcome : Reading → Pass → Reading
outcome r (on s) = r
outcome r (to q) = q

-- wherever a reading comes by, its draft fits
pub comes-sums : (lim : Limits) (t : List ℕ) (h : Header) → h.variables ≤ lim.terms → lim.terms < 10 ^ 8 → (c : Cursor) (s : Sum) → Comes lim t h c s → Sums lim h s
comes-sums lim t h few small =
    comes-by lim t h (λ c s. Sums lim h s) (begun-sums lim h few small)
    (λ c s k. record { number = λ x _. number-sums lim h few small (λ r. Unit {0}) (λ e. tt) s k x; bad = λ n _. tt; finish = tt })

-- no number accepts a text
numeral-ends : (lim : Limits) (h : Header) (s : Sum) (f : File) (k : Numeral) → at_numeral lim h s k ≡ to (accepted f) → (k ≡ End) × (at_numbers_end h s ≡ accepted f)
unfolding at_numeral
numeral-ends lim h s f (Number x) q =
    let never = number_by (λ s. Unit {0}) (λ r. is_accepted r ≡ false) lim h s x (record { pass = λ _. tt; over = λ _ _. tt; skip = λ _. tt; leave = λ _. tt; take = λ _ _ _ _. tt; keep = λ _ _ _ _. tt; refuse = λ r. refl }) in
    absurd (true≢false (subst (Then (λ s. Unit {0}) (λ r. is_accepted r ≡ false)) q never))
numeral-ends lim h s f (Bad n) q = absurd (false≢true (ap (λ (p : Pass). is_accepted (outcome (accepted f) p)) q))
numeral-ends lim h s f End q = (refl, ap (outcome (accepted f)) q)

-- the text's end accepts what is whole
whole-ends : (h : Header) (s : Sum) → is_open s ≡ false → s.ended ≡ h.clauses → 0 < length s.draft.clauses → at_numbers_end h s ≡ accepted (record { names = s.draft.names; clauses = s.draft.clauses })
unfolding at_numbers_end at_text_end
whole-ends h s closed counted some = rw (closed, le-ltb s.ended h.clauses (omega arith)) (text s.draft.clauses some)
  where
    text : (cs : List (List ℕ)) → 0 < length cs → at_text_end s.draft.names cs ≡ accepted (record { names = s.draft.names; clauses = cs })
    text [] l = absurd (omega arith)
    text (c ∷ cs) l = refl

module _ (lim : Limits) (t : List ℕ) (small : lim.terms < 10 ^ 8) where
  ending_arrives : (h : Header) → Heading lim t h → (f : File) → Ending lim t h (accepted f) → Arrived lim t f
  ending_arrives h heading f (c, s, k, q) =
      let ends = numeral-ends lim h s f (number_at t c).numeral q in
      let counted = end-counted lim h s (comes-sums lim t h heading.few small c s k) f ends.1 in
      record {
        header = h;
        heading = heading;
        cursor = c;
        read = s;
        comes = k;
        at-end = ends.0;
        closed = counted.closed;
        counted = counted.counted;
        some = omega (arith, counted.proper.some-clause, ap (λ (g : File). length g.clauses) counted.file);
        file = counted.file;
      }

  -- an accepted reading comes to the text's end with all that its header says
  pub reads_whole : (f : File) → read_numbered lim t ≡ accepted f → Arrived lim t f
  reads_whole =
      text-by (λ r. (f : File) → r ≡ accepted f → Arrived lim t f) lim t (λ _ f q. never f q) (λ _ f q. never f q) (λ _ e _ f q. never f q)
      (λ _ h heading f q. ending_arrives h heading f (subst (Ending lim t h) q (numbers-end lim t h)))
    where
      never : {e : Fault} (f : File) → refused e ≡ accepted f → Arrived lim t f
      never f q = absurd (false≢true (ap is_accepted q))

  -- and only such a one is accepted
  pub reads-exactly : length t ≤ lim.text → open_end t ≡ false → (f : File) → (read_numbered lim t ≡ accepted f) ↔ Arrived lim t f
  unfolding at_numeral
  reads-exactly short closed f = (reads_whole f, back)
    where
      back : Arrived lim t f → read_numbered lim t ≡ accepted f
      back a =
          (numbers-exactly lim t short closed a.header a.heading (accepted f)).1
          (a.cursor, a.read, a.comes, ap (at_numeral lim a.header a.read) a.at-end ∙ ap to (whole-ends a.header a.read a.closed a.counted a.some ∙ ap accepted (sym a.file)))
