-- A reading on its way stays within the limits, its names valid and its clauses proper: what each token keeps. Assumes nothing.
use Prim.Native.Nat.{ℕ, ◌+◌, ◌*◌, ◌≤◌, ◌<◌}
use mathlib.Core.Path.{◌≡◌, refl, ap, sym, ◌∙◌}
use mathlib.Core.Bool.{true}
use mathlib.Core.List.{List, [], ◌∷◌, map, map-append}
use native.Mathlib.Omega.{arith}
use borrow.Author.Tests.{lt-ltb}
use lib.ListN.{length, length-append}
use lib.Dec.{ltb}
use Rattle.scan.specs.declared.Cursor.{Cursor}
use Rattle.scan.specs.declared.Lit.{Lit}
use Rattle.scan.specs.declared.Token.{Token}
use Rattle.written.specs.Lists.{total, all, place_of, differ}
use Rattle.written.specs.Limits.{Limits}
use Rattle.written.specs.Clauses.{literal_of, term_of}
use Rattle.written.specs.Agreement.{is_name}
use Rattle.written.specs.Reading.{Reading, Draft, accepted, refused, known, taken, kept, dropped, nothing, at_text_end}
use Rattle.laws.specs.Valid.{is_clause, Proper}
use Rattle.laws.proofs.Sums.{total_append}
use Rattle.laws.proofs.All.{all_snoc, all_implied}
use Rattle.laws.proofs.Membership.{differ_snoc}
use Rattle.laws.proofs.Literals.{term-of-literal, literal-below, new_term}
use Rattle.laws.proofs.Known.{known-longer, known-place, known-few, known-all, known-differ, below_more, clause-more}
use Rattle.laws.proofs.Tokens.{well_named}
use Rattle.laws.proofs.Turns.{Room, Keeps}

-- what holds of a reading on its way
pub record Fits (lim : Limits) (d : Draft) : Type 0 where
  pub few-terms : length d.names ≤ lim.terms
  pub few-clauses : length d.clauses ≤ lim.clauses
  pub few-literals : total length d.clauses + length d.line ≤ lim.literals
  pub names-valid : all is_name d.names ≡ true
  pub names-differ : differ d.names ≡ true
  pub clauses-valid : all (is_clause (length d.names)) d.clauses ≡ true
  pub line-below : all (λ l. ltb l (2 * length d.names)) d.line ≡ true
  pub line_differs : differ (map term_of d.line) ≡ true

-- what holds of what a reading comes to
abbrev pub Sound : Limits → Reading → Type 0
Sound lim (accepted f) = Proper lim f
Sound lim (refused e) = Unit {0}

pub nothing-fits : (lim : Limits) → Fits lim nothing
nothing-fits lim =
    record {
      few-terms = omega arith;
      few-clauses = omega arith;
      few-literals = omega arith;
      names-valid = refl;
      names-differ = refl;
      clauses-valid = refl;
      line-below = refl;
      line_differs = refl;
    }

module _ (lim : Limits) (d : Draft) (fits : Fits lim d) where
  -- a dropped line gives back its literals
  pub dropped-fits : Fits lim (dropped d)
  dropped-fits =
      record {
        few-terms = fits.few-terms;
        few-clauses = fits.few-clauses;
        few-literals = omega arith;
        names-valid = fits.names-valid;
        names-differ = fits.names-differ;
        clauses-valid = fits.clauses-valid;
        line-below = refl;
        line_differs = refl;
      }

  -- a line with a literal is kept
  pub kept-fits : 0 < length d.line → length d.clauses < lim.clauses → Fits lim (kept d)
  unfolding is_clause
  kept-fits some room =
      record {
        few-terms = fits.few-terms;
        few-clauses = omega (arith, length-append d.clauses (d.line ∷ []));
        few-literals = omega (arith, total_append length d.clauses (d.line ∷ []), fits.few-literals);
        names-valid = fits.names-valid;
        names-differ = fits.names-differ;
        clauses-valid = all_snoc (is_clause (length d.names)) d.clauses d.line fits.clauses-valid (rw (lt-ltb 0 (length d.line) some, fits.line-below) fits.line_differs);
        line-below = refl;
        line_differs = refl;
      }

  -- a literal that there is room for is taken
  pub taken-fits : (l : Lit) → is_name l.name ≡ true → Room lim d l → Fits lim (taken d l)
  taken-fits l name room =
      let ns = d.names in
      let n = length (known l.name ns) in
      let here = place_of l.name ns in
      let new = literal_of here l.negated in
      let longer = known-longer l.name ns in
      record {
        few-terms = known-few l.name ns lim.terms room.term-room fits.few-terms;
        few-clauses = fits.few-clauses;
        few-literals = omega (arith, length-append d.line (new ∷ []), room.literal-room);
        names-valid = known-all l.name ns is_name name fits.names-valid;
        names-differ = known-differ l.name ns fits.names-differ;
        clauses-valid = all_implied (is_clause (length ns)) (is_clause n) (clause-more (length ns) n longer) d.clauses fits.clauses-valid;
        line-below = all_snoc (λ k. ltb k (2 * n)) d.line new (below_more (length ns) n longer d.line fits.line-below) (lt-ltb new (2 * n) (literal-below here n l.negated (known-place l.name ns)));
        line_differs = ap differ (map-append term_of d.line (new ∷ [])) ∙ rw (term-of-literal here l.negated) (differ_snoc (map term_of d.line) here fits.line_differs (new_term here l.negated d.line room.once room.one_way));
      }

  -- the text's end
  pub end-sound : (cs : List (List ℕ)) → d.clauses ≡ cs → Sound lim (at_text_end d.names cs)
  unfolding at_text_end
  end-sound [] e = tt
  end-sound (x ∷ xs) e =
      record {
        few-terms = fits.few-terms;
        few-clauses = rw e at fits.few-clauses;
        few-literals = omega (arith, fits.few-literals, ap (total length) e);
        some-clause = omega arith;
        names-valid = fits.names-valid;
        names-differ = fits.names-differ;
        clauses-valid = rw e at fits.clauses-valid;
      }

-- every token keeps it
pub token-fits : (lim : Limits) (t : List ℕ) (c : Cursor) (d : Draft) → Fits lim d → (k : Token) → well_named k ≡ true → Keeps (λ c' d'. Fits lim d') (Sound lim) lim t c d k
token-fits lim t c d fits k name =
    record {
      skip = λ _. fits;
      leave = λ _. dropped-fits lim d fits;
      take = λ _ l e room. taken-fits lim d fits l (ap well_named (sym e) ∙ name) room;
      keep = λ _ some room. kept-fits lim d fits some room;
      refuse = λ _ r _. tt;
      cut = tt;
      finish = end-sound lim d fits d.clauses refl;
    }
