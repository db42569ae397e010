-- What a literal comes to: each way through the code leaves what is written. Assumes nothing.
use Prim.Native.Nat.{ℕ, ◌+◌, ◌≤◌, ◌<◌}
use mathlib.Core.Path.{◌≡◌, refl, ap, sym, subst, ◌∙◌}
use mathlib.Core.Bool.{Bool, true, false, not, cond, ◌&&◌}
use mathlib.Core.List.{List}
use native.Mathlib.Nat.{add-zero}
use native.Mathlib.Numerals.{add-one}
use native.Mathlib.Omega.{arith}
use borrow.Author.Tests.{lt-leb, le-leb, leb-true, leb-false}
use lib.ListN.{length, take, set, length-set}
use lib.Dec.{leb}
use Rattle.std.proofs.Common.{Result, Ok, Err}
use Rattle.written.specs.declared.Reason.{Reason}
use Rattle.written.specs.declared.Reason.TheVariants.{TooManyTerms, TooManyLiterals}
use lib.Seq.{length-take-le, take-suc-set, drop-set-lt}
use Rattle.written.specs.Lists.{has, place_of}
use Rattle.written.specs.Limits.{Limits}
use Rattle.written.specs.Clauses.{literal_of}
use Rattle.machine.specs.Slots.{Indexed, Vacant}
use Rattle.laws.proofs.Basics.{by_test}
use Rattle.laws.proofs.Membership.{place_of-lt, place_of-none}
use Rattle.machine.proofs.Slots.{slot-filled}
use Rattle.reading_literal.specs.Line.{line_in, stands_in}
use Rattle.reading_literal.specs.Taking.{fate, new_terms, new_literals, put_if, Placed, placing, fate_of, placed_by, placed, CanPlace, Index, by_slots, OpenWith, TookWith}
use Rattle.reading_literal.specs.declared.Stands.{Stands}
use Rattle.reading_literal.specs.declared.Stands.TheVariants.{Not, Same, Opposite}
use Rattle.reading_literal.specs.declared.Taken.{Taken}
use Rattle.reading_literal.specs.declared.Taken.TheVariants.{Held, Grown, Skipped, Dropped}
use Rattle.reading_literal.proofs.Stamps.{unheard-not, stamped-grows, stamped-more}

-- ---- what is written, by how the literal stands to the line

abbrev unless : Stands → Result Taken Reason → Result Taken Reason
unless Not r = r
unless Same r = Ok Skipped
unless Opposite r = Ok Dropped

-- a literal that is new to the line
abbrev fresh : Limits → List ℕ → ℕ → ℕ → Result Taken Reason
fresh lim known held name =
    cond (not (has name known) && leb lim.terms (length known)) (Err TooManyTerms) (cond (leb lim.literals held) (Err TooManyLiterals) (cond (has name known) (Ok Held) (Ok Grown)))

by-standing : (a b : Bool) (r : Result Taken Reason) → unless (cond a Same (cond b Opposite Not)) r ≡ cond a (Ok Skipped) (cond b (Ok Dropped) r)
by-standing true b r = refl
by-standing false true r = refl
by-standing false false r = refl

fate-is : (lim : Limits) (known line : List ℕ) (held name : ℕ) (negated : Bool) {k : ℕ} {w : Stands} → k ≡ place_of name known → w ≡ stands_in k negated line
    → unless w (fresh lim known held name) ≡ fate lim known line held name negated
unfolding fate stands_in
fate-is lim known line held name negated {k} {w} e s =
    ap (λ (v : Stands). unless v (fresh lim known held name)) (s ∙ ap (λ (j : ℕ). stands_in j negated line) e)
    ∙ by-standing (has (literal_of (place_of name known) negated) line) (has (literal_of (place_of name known) (not negated)) line) (fresh lim known held name)

-- a name found is a known term's
pub term-known : (L : ℕ) (names : List ℕ) (terms name k : ℕ) → terms ≤ L → L ≤ length names → has name (take terms names) ≡ true
    → k ≡ place_of name (take terms names) → k < terms
term-known L names terms name k few room old is = omega (arith, is, length-take-le terms names (omega arith), place_of-lt name (take terms names) old)

-- ---- the literal of a known term, by each way through the code

module _ (lim : Limits) (literals stamps : List ℕ) (from held term : ℕ) (negated : Bool) where
  -- a literal that is new to the line
  abbrev if_room : Result Taken Reason
  if_room = cond (leb lim.literals held) (Err TooManyLiterals) (Ok Held)

  abbrev Places : Placed → Type 0
  Places q = q ≡ placed lim literals stamps from held term negated

  by-fate : {w : Stands} {r : Result Taken Reason} → r ≡ unless w if_room → w ≡ stands_in term negated (line_in literals from held) → Places (placed_by literals stamps held term negated r)
  unfolding placed fate_of stands_in
  by-fate told stands =
      ap (placed_by literals stamps held term negated)
      (told ∙ ap (λ (v : Stands). unless v if_room) stands ∙ by-standing (has (literal_of term negated) (line_in literals from held)) (has (literal_of term (not negated)) (line_in literals from held)) if_room)

  pub place-skips : Same ≡ stands_in term negated (line_in literals from held) → Places (placing (Ok Skipped) literals stamps)
  place-skips e = by-fate refl e

  pub place-drops : Opposite ≡ stands_in term negated (line_in literals from held) → Places (placing (Ok Dropped) literals stamps)
  place-drops e = by-fate refl e

  pub place-full : Not ≡ stands_in term negated (line_in literals from held) → lim.literals ≤ held → Places (placing (Err TooManyLiterals) literals stamps)
  place-full e h = by-fate (rw (le-leb lim.literals held h) refl) e

  pub place-holds : Not ≡ stands_in term negated (line_in literals from held) → held < lim.literals → {ls ms : List ℕ} → ls ≡ set literals held (literal_of term negated) → ms ≡ set stamps term held
      → Places (placing (Ok Held) ls ms)
  place-holds e h f g = (λ i. placing (Ok Held) (f i) (g i)) ∙ by-fate (rw (lt-leb lim.literals held h) refl) e

-- ---- what a literal leaves

module _ (X : Index) (lim : Limits) (names : List ℕ) (terms : ℕ) (literals : List ℕ) (from held : ℕ) (stamps slots : List ℕ)
    (o : OpenWith X lim names terms literals from held stamps slots) (name : ℕ) (negated : Bool) where
  abbrev known : List ℕ
  known = take terms names

  abbrev line : List ℕ
  line = line_in literals from held

  abbrev Left : List ℕ → List ℕ → List ℕ → List ℕ → Result Taken Reason → Type 0
  Left = TookWith X lim names terms literals from held stamps slots name negated

  count : length known ≡ terms
  count = length-take-le terms names (omega (arith, o.few-terms, o.names-room))

  -- nothing is changed
  unchanged : (r : Result Taken Reason) → new_terms r ≡ 0 → new_literals r ≡ 0 → r ≡ fate lim known line held name negated → Left names literals stamps slots r
  unchanged r a b e =
      record {
        told = e;
        names-left = rw a;
        literals-left = rw b;
        again = rw (a, b, add-zero terms, add-zero held) o;
        stamps-beyond = refl;
        slots-beyond = refl;
      }

  -- the literal of a term that is new to the line is put in
  put_in : (k : ℕ) → Not ≡ stands_in k negated line → held < lim.literals → (names' slots' : List ℕ) (terms' : ℕ) → k < terms' → terms ≤ terms'
      → terms' ≤ lim.terms → lim.terms ≤ length names' → X.holds (take terms' names') slots'
      → OpenWith X lim names' terms' (set literals held (literal_of k negated)) from (held + 1) (set stamps k held) slots'
  put_in k e h names' slots' terms' low more few room ix =
      record {
        names-room = room;
        few-terms = few;
        indexed = ix;
        literals_room = rw (length-set literals held (literal_of k negated)) o.literals_room;
        few-literals = omega arith;
        stamps-room = rw (length-set stamps k held) o.stamps-room;
        stamped = stamped-more literals from held stamps terms o.stamped k negated e (omega (arith, o.literals_room)) (omega (arith, o.stamps-room))
            terms' low more;
      }

  -- ---- the name is known

  module _ (k : ℕ) (old : has name known ≡ true) (is : k ≡ place_of name known) where
    low : k < terms
    low = term-known lim.terms names terms name k o.few-terms o.names-room old is

    pub skips : Same ≡ stands_in k negated line → Left names literals stamps slots (Ok Skipped)
    skips e = unchanged (Ok Skipped) refl refl (fate-is lim known line held name negated is e)

    pub drops : Opposite ≡ stands_in k negated line → Left names literals stamps slots (Ok Dropped)
    drops e = unchanged (Ok Dropped) refl refl (fate-is lim known line held name negated is e)

    module _ (e : Not ≡ stands_in k negated line) where
      pub no_room-known : lim.literals ≤ held → Left names literals stamps slots (Err TooManyLiterals)
      no_room-known h = unchanged (Err TooManyLiterals) refl refl (sym (rw (old, le-leb lim.literals held h)) ∙ fate-is lim known line held name negated is e)

      pub holds : held < lim.literals → {ls ss : List ℕ} → ls ≡ set literals held (literal_of k negated) → ss ≡ set stamps k held → Left names ls ss slots (Ok Held)
      holds h f g =
          record {
            told = sym (rw (old, lt-leb lim.literals held h)) ∙ fate-is lim known line held name negated is e;
            names-left = refl;
            literals-left = f ∙ ap (λ (j : ℕ). set literals held (literal_of j negated)) is;
            again = rw (add-zero terms, f, g) (put_in k e h names slots terms low (omega arith) o.few-terms o.names-room o.indexed);
            stamps-beyond = rw g (drop-set-lt lim.terms stamps k held (omega (arith, low, o.few-terms)));
            slots-beyond = refl;
          }

    -- what `place` asks, and what has become of the literal by what it promises
    pub can-place : lim.terms ≤ 32768 → CanPlace lim literals stamps from held k
    can-place fit =
        record {
          stamped = stamped-grows literals from held stamps terms o.stamped (length stamps) (omega (arith, o.few-terms, o.stamps-room));
          in_stamps = omega (arith, low, o.few-terms, o.stamps-room);
          fits = omega (arith, low, o.few-terms);
          room = o.literals_room;
        }

    abbrev LeftBy : Result Taken Reason → Type 0
    LeftBy r = Left names (put_if (new_literals r) literals held (literal_of k negated)) (put_if (new_literals r) stamps k held) slots r

    by-line : LeftBy (fate_of lim line held k negated)
    unfolding fate_of stands_in
    by-line =
        by_test LeftBy (has (literal_of k negated) line) (λ same. skips (rw same refl)) (λ once.
        by_test LeftBy (has (literal_of k (not negated)) line) (λ other. drops (rw (once, other) refl)) (λ one_way.
        by_test LeftBy (leb lim.literals held) (λ full. no_room-known (rw (once, one_way) refl) (leb-true lim.literals held full)) (λ more.
        holds (rw (once, one_way) refl) (leb-false lim.literals held more) refl refl)))

    pub placed_took : {r : Result Taken Reason} {ls ms : List ℕ} → placing r ls ms ≡ placed lim literals stamps from held k negated → Left names ls ms slots r
    unfolding placed
    placed_took e = subst (λ (q : Placed). Left names q.literals q.stamps slots q.answer) (sym e) by-line

-- ---- the name is new, and its slot would be s

module _ (H : ℕ) (lim : Limits) (names : List ℕ) (terms : ℕ) (literals : List ℕ) (from held : ℕ) (stamps slots : List ℕ)
    (o : OpenWith (by_slots H lim) lim names terms literals from held stamps slots) (name : ℕ) (negated : Bool) where
  abbrev LeftNew : List ℕ → List ℕ → List ℕ → List ℕ → Result Taken Reason → Type 0
  LeftNew = TookWith (by_slots H lim) lim names terms literals from held stamps slots name negated

  -- the names known so far and the open line, as they are called above
  abbrev names-known : List ℕ
  names-known = take terms names

  abbrev line_open : List ℕ
  line_open = line_in literals from held

  many : length names-known ≡ terms
  many = count (by_slots H lim) lim names terms literals from held stamps slots o name negated

  stays : (r : Result Taken Reason) → new_terms r ≡ 0 → new_literals r ≡ 0 → r ≡ fate lim names-known line_open held name negated → LeftNew names literals stamps slots r
  stays = unchanged (by_slots H lim) lim names terms literals from held stamps slots o name negated

  module _ (s : ℕ) (new : has name names-known ≡ false) (v : Vacant H names-known slots name s) where
    is-next : terms ≡ place_of name names-known
    is-next = sym (place_of-none name names-known new ∙ many)

    unheard : Not ≡ stands_in terms negated line_open
    unheard = unheard-not literals from held stamps terms o.stamped terms negated (omega arith)

    written : fresh lim names-known held name ≡ fate lim names-known line_open held name negated
    written = fate-is lim names-known line_open held name negated is-next unheard

    pub no_term : lim.terms ≤ terms → LeftNew names literals stamps slots (Err TooManyTerms)
    no_term h = stays (Err TooManyTerms) refl refl (sym (rw (new, many, le-leb lim.terms terms h)) ∙ written)

    module _ (few : terms < lim.terms) where
      pub no_room-new : lim.literals ≤ held → LeftNew names literals stamps slots (Err TooManyLiterals)
      no_room-new h = stays (Err TooManyLiterals) refl refl (sym (rw (new, many, lt-leb lim.terms terms few, le-leb lim.literals held h)) ∙ written)

      indexed-more : Indexed H lim.terms (take (terms + 1) (set names terms name)) (set slots s (terms + 1))
      indexed-more =
          let e = ap (λ (j : ℕ). take j (set names terms name)) (add-one terms) ∙ take-suc-set names terms name (omega (arith, o.names-room)) in
          let w = many in
          rw e (rw many at (slot-filled H lim.terms names-known slots o.indexed name s v (omega arith) new))

      pub grows : held < lim.literals → {ns ls ms ss : List ℕ} → ns ≡ set names terms name → ls ≡ set literals held (literal_of terms negated)
          → ms ≡ set stamps terms held → ss ≡ set slots s (terms + 1) → LeftNew ns ls ms ss (Ok Grown)
      grows h d f g e =
          record {
            told = sym (rw (new, many, lt-leb lim.terms terms few, lt-leb lim.literals held h)) ∙ written;
            names-left = d;
            literals-left = f ∙ ap (λ (j : ℕ). set literals held (literal_of j negated)) is-next;
            again = rw (d, e, f, g)
                (put_in (by_slots H lim) lim names terms literals from held stamps slots o name negated terms unheard h (set names terms name) (set slots s (terms + 1)) (terms + 1) (omega arith) (omega arith) (omega arith)
                (rw (length-set names terms name) o.names-room) indexed-more);
            stamps-beyond = rw g (drop-set-lt lim.terms stamps terms held few);
            slots-beyond = rw e (drop-set-lt (H + lim.terms + 1) slots s (terms + 1) (omega (arith, v.upto, many)));
          }
