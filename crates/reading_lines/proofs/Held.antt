-- What tables that hold a draft say of it, and that they hold one at first, and again as its open line is given back or kept. Assumes nothing.
use Prim.Native.Nat.{ℕ, ◌+◌, ◌-◌, ◌≤◌, ◌<◌}
use mathlib.Core.Path.{◌≡◌, refl, ap, sym, subst, ◌∙◌}
use mathlib.Core.List.{List, [], ◌∷◌, ◌++◌, flatten}
use native.Mathlib.Omega.{arith}
use lib.ListN.{length, get_or, take, drop, set, length-append, length-drop, length-set}
use lib.Seq.{length-take-le, drop-set-lt}
use Rattle.written.specs.Limits.{Limits}
use Rattle.written.specs.Tables.{starts_from, over}
use Rattle.written.specs.Reading.{Draft, held, kept, dropped}
use Rattle.laws.proofs.Sums.{total_append}
use Rattle.laws.proofs.Padding.{over-take}
use Rattle.laws.proofs.Parts.{starts-length}
use Rattle.reading_literal.specs.Taking.{Index, OpenWith}
use Rattle.reading_literal.proofs.Stamps.{line-whole, line-empty, marked-none}
use Rattle.reading_lines.specs.declared.Place.{Place}
use Rattle.reading_lines.specs.Drafting.{Desk, desk, BeyondWith, DraftedWith}
use Rattle.reading_lines.specs.Turns.{place_at, given_back}
use Rattle.reading_lines.proofs.Growing.{set-over, starts_snoc, flatten_snoc}

-- ---- a draft begins

-- what that asks of the tables w, which were w₀ when they were lent: the names ns are known before the text is read
pub record Begins (X : Index) (lim : Limits) (w₀ w : Desk) (ns : List ℕ) : Type 0 where
  pub names-room : lim.terms ≤ length w.names
  pub few-terms : length ns ≤ lim.terms
  pub indexed : X.holds ns w.slots
  pub starts-room : lim.clauses < length w.starts
  pub literals_room : lim.literals ≤ length w.literals
  pub stamps-room : lim.terms ≤ length w.stamps
  pub first : get_or w.starts 0 0 ≡ 0
  pub names_are : w.names ≡ over ns w₀.names
  pub starts_are : w.starts ≡ w₀.starts
  pub beyond : BeyondWith X lim w₀ w

-- the starts of no clause
one-start : (ss : List ℕ) → 0 < length ss → get_or ss 0 0 ≡ 0 → ss ≡ over (starts_from 0 []) ss
unfolding starts_from
one-start [] l e = absurd (omega arith)
one-start (s ∷ ss) l e = ap (λ (x : ℕ). x ∷ ss) e

pub begins-drafted : (X : Index) (lim : Limits) (w₀ w : Desk) (ns : List ℕ) → Begins X lim w₀ w ns
    → DraftedWith X lim w₀ w (place_at (length ns) 0 0 0) (record { names = ns; clauses = []; line = [] })
unfolding flatten
begins-drafted X lim w₀ w ns b =
    let known = ap (take (length ns)) b.names_are ∙ over-take ns w₀.names (length ns) refl in
    record {
      ready = record {
        names-room = b.names-room;
        few-terms = b.few-terms;
        indexed = subst (λ (ks : List ℕ). X.holds ks w.slots) (sym known) b.indexed;
        literals_room = b.literals_room;
        few-literals = omega arith;
        stamps-room = b.stamps-room;
        stamped = marked-none w.literals 0 w.stamps (length ns) (omega arith);
      };
      starts-room = b.starts-room;
      few-clauses = omega arith;
      terms_are = refl;
      clauses_are = refl;
      from_is = refl;
      names_are = b.names_are;
      starts_are = one-start w.starts (omega (arith, b.starts-room)) b.first ∙ ap (over (starts_from 0 [])) b.starts_are;
      kept_are = refl;
      line-is = line-empty w.literals 0;
      beyond = b.beyond;
    }

-- ---- and goes on

-- a line begins past some of the literals held
line-begins : (X : Index) (lim : Limits) (ns : List ℕ) (terms : ℕ) (ls : List ℕ) (from held at : ℕ) (ms os : List ℕ) → at ≤ held
    → OpenWith X lim ns terms ls from held ms os → OpenWith X lim ns terms ls at at ms os
line-begins X lim ns terms ls from held at ms os l h =
    record {
      names-room = h.names-room;
      few-terms = h.few-terms;
      indexed = h.indexed;
      literals_room = h.literals_room;
      few-literals = omega (arith, h.few-literals);
      stamps-room = h.stamps-room;
      stamped = marked-none ls at ms terms (omega (arith, h.stamped.room));
    }

module _ (X : Index) (lim : Limits) (w₀ w : Desk) (p : Place) (d : Draft) (h : DraftedWith X lim w₀ w p d) where
  pub known_are : take p.terms w.names ≡ d.names
  known_are = ap (take p.terms) h.names_are ∙ over-take d.names w₀.names p.terms (sym h.terms_are)

  pub line-length : length d.line + p.from ≡ p.held
  line-length =
      let o = h.ready.stamped.order in
      let r = h.ready.stamped.room in
      let e = length-take-le (p.held - p.from) (drop p.from w.literals) (omega (arith, length-drop p.from w.literals)) in
      omega (arith, ap length h.line-is)

  pub held_are : p.held ≡ held d
  held_are = omega (arith, line-length, h.from_is)

  pub given_back_lem : DraftedWith X lim w₀ w (given_back p) (dropped d)
  given_back_lem =
      record {
        ready = line-begins X lim w.names p.terms w.literals p.from p.held p.from w.stamps w.slots h.ready.stamped.order h.ready;
        starts-room = h.starts-room;
        few-clauses = h.few-clauses;
        terms_are = h.terms_are;
        clauses_are = h.clauses_are;
        from_is = h.from_is;
        names_are = h.names_are;
        starts_are = h.starts_are;
        kept_are = h.kept_are;
        line-is = line-empty w.literals p.from;
        beyond = h.beyond;
      }

  module _ (more : length d.clauses < lim.clauses) where
    starts-longer : set w.starts (p.clauses + 1) p.held ≡ over (starts_from 0 (d.clauses ++ d.line ∷ [])) w₀.starts
    starts-longer =
        let ss = starts_from 0 d.clauses in
        let n : length ss ≡ p.clauses + 1 = starts-length 0 d.clauses ∙ ap (λ (k : ℕ). k + 1) (sym h.clauses_are) in
        let e = starts_snoc 0 d.clauses d.line p.held (omega (arith, total_append length d.clauses (d.line ∷ []), held_are)) in
        ap (λ (k : ℕ). set w.starts k p.held) (sym n)
        ∙ ap (λ (s : List ℕ). set s (length ss) p.held) h.starts_are
        ∙ set-over ss w₀.starts p.held (omega (arith, ap length h.starts_are, h.starts-room, h.clauses_are))
        ∙ ap (λ (s : List ℕ). over s w₀.starts) (sym e)

    pub line_kept : DraftedWith X lim w₀ (desk w.names (set w.starts (p.clauses + 1) p.held) w.literals w.stamps w.slots)
        (place_at p.terms (p.clauses + 1) p.held p.held) (kept d)
    line_kept =
        let n = length-append d.clauses (d.line ∷ []) in
        record {
          ready = line-begins X lim w.names p.terms w.literals p.from p.held p.held w.stamps w.slots (omega arith) h.ready;
          starts-room = rw (length-set w.starts (p.clauses + 1) p.held) h.starts-room;
          few-clauses = omega arith;
          terms_are = h.terms_are;
          clauses_are = omega (arith, h.clauses_are);
          from_is = omega (arith, held_are, total_append length d.clauses (d.line ∷ []));
          names_are = h.names_are;
          starts_are = starts-longer;
          kept_are = line-whole w.literals p.from p.held h.ready.stamped.order
              ∙ ((λ i. h.kept_are i ++ h.line-is i) ∙ sym (flatten_snoc d.clauses d.line));
          line-is = line-empty w.literals p.held;
          beyond = record {
            names-beyond = h.beyond.names-beyond;
            starts-beyond = drop-set-lt (lim.clauses + 1) w.starts (p.clauses + 1) p.held (omega (arith, h.clauses_are)) ∙ h.beyond.starts-beyond;
            literals-beyond = h.beyond.literals-beyond;
            stamps-beyond = h.beyond.stamps-beyond;
            slots-beyond = h.beyond.slots-beyond;
          };
        }
