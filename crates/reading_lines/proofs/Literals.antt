-- A literal that is taken: the tables then hold what is written of the draft. Assumes nothing.
use Prim.Native.Nat.{ℕ, ◌+◌, ◌≤◌}
use mathlib.Core.Path.{◌≡◌, refl, ap, sym, ◌∙◌}
use mathlib.Core.Bool.{not, ◌&&◌}
use mathlib.Core.List.{List}
use native.Mathlib.Nat.{add-zero}
use native.Mathlib.Omega.{arith}
use lib.ListN.{length, take, drop}
use lib.Dec.{leb}
use Rattle.std.proofs.Common.{Result, Ok, Err}
use Rattle.scan.specs.declared.Lit.{Lit}
use Rattle.written.specs.declared.Reason.{Reason}
use Rattle.written.specs.Lists.{has, place_of}
use Rattle.written.specs.Limits.{Limits}
use Rattle.written.specs.Clauses.{literal_of}
use Rattle.written.specs.Reasons.{fault_at}
use Rattle.written.specs.Tables.{over}
use Rattle.written.specs.Reading.{Draft, Turn, goes, drops, stops, numbered, held, dropped, at_literal}
use Rattle.laws.proofs.Basics.{by_cases}
use Rattle.reading_literal.specs.declared.Taken.{Taken}
use Rattle.reading_literal.specs.declared.Taken.TheVariants.{Held, Grown, Skipped, Dropped}
use Rattle.reading_literal.specs.Line.{line_in}
use Rattle.reading_literal.specs.Taking.{Index, fate, new_terms, new_literals, put_if, TookWith}
use Rattle.reading_lines.specs.declared.Place.{Place}
use Rattle.reading_lines.specs.Drafting.{Desk, desk, BeyondWith, DraftedWith, TurnedWith}
use Rattle.reading_lines.specs.Turns.{place_at, after_literal}
use Rattle.reading_lines.proofs.Growing.{more_if, more-length, put-over, put-take, put-drop, put-line}
use Rattle.reading_lines.proofs.Held.{known_are, held_are, given_back_lem}

-- the draft with what a literal adds to it
abbrev grown : Draft → Lit → Result Taken Reason → Draft
grown d l r =
    record { names = more_if (new_terms r) d.names l.name; clauses = d.clauses; line = more_if (new_literals r) d.line (numbered d l l.negated) }

-- the written turn, by what becomes of the literal
abbrev turn_by : Draft → Lit → Result Taken Reason → Turn
turn_by d l (Ok Held) = goes (grown d l (Ok Held))
turn_by d l (Ok Grown) = goes (grown d l (Ok Grown))
turn_by d l (Ok Skipped) = goes d
turn_by d l (Ok Dropped) = drops (dropped d)
turn_by d l (Err e) = stops (fault_at l.line e)

by-fate : (lim : Limits) (d : Draft) (l : Lit) → at_literal lim d l ≡ turn_by d l (fate lim d.names d.line (held d) l.name l.negated)
unfolding at_literal fate
by-fate lim d l =
    by_cases (has (numbered d l l.negated) d.line) (λ a. rw a refl) (λ a. rw a
    (by_cases (has (numbered d l (not l.negated)) d.line) (λ b. rw b refl) (λ b. rw b
    (by_cases (not (has l.name d.names) && leb lim.terms (length d.names)) (λ e. rw e refl) (λ e. rw e
    (by_cases (leb lim.literals (held d)) (λ f. rw f refl) (λ f. rw f
    (by_cases (has l.name d.names) (λ g. rw g refl) (λ g. rw g refl)))))))))

-- it adds one term and one literal at the most
one_each : (r : Result Taken Reason) → (new_terms r ≤ 1) × (new_literals r ≤ 1)
one_each (Ok Held) = (omega arith, omega arith)
one_each (Ok Grown) = (omega arith, omega arith)
one_each (Ok Skipped) = (omega arith, omega arith)
one_each (Ok Dropped) = (omega arith, omega arith)
one_each (Err e) = (omega arith, omega arith)

module _ (X : Index) (lim : Limits) (w₀ w : Desk) (p : Place) (d : Draft) (h : DraftedWith X lim w₀ w p d) (l : Lit) (n' ls' m' o' : List ℕ) where
  -- the tables after it
  abbrev w' : Desk
  w' = desk n' w.starts ls' m' o'

  abbrev Taking : Result Taken Reason → Type 0
  Taking r = TookWith X lim w.names p.terms w.literals p.from p.held w.stamps w.slots l.name l.negated n' ls' m' o' r

  module _ (r : Result Taken Reason) (k : Taking r) where
    turn_is : at_literal lim d l ≡ turn_by d l r
    turn_is =
        let known = known_are X lim w₀ w p d h in
        let all = held_are X lim w₀ w p d h in
        by-fate lim d l ∙ ap (turn_by d l) (sym (k.told ∙ (λ i. fate lim (known i) (h.line-is i) (all i) l.name l.negated)))

    still-beyond : BeyondWith X lim w₀ w'
    still-beyond =
        record {
          names-beyond = ap (drop lim.terms) k.names-left ∙ put-drop (new_terms r) lim.terms w.names p.terms l.name k.again.few-terms ∙ h.beyond.names-beyond;
          starts-beyond = h.beyond.starts-beyond;
          literals-beyond = ap (drop lim.literals) k.literals-left ∙ put-drop (new_literals r) lim.literals w.literals p.held _ k.again.few-literals ∙ h.beyond.literals-beyond;
          stamps-beyond = k.stamps-beyond ∙ h.beyond.stamps-beyond;
          slots-beyond = k.slots-beyond ∙ h.beyond.slots-beyond;
        }

    names_grow : n' ≡ over (more_if (new_terms r) d.names l.name) w₀.names
    names_grow =
        k.names-left
        ∙ (λ i. put_if (new_terms r) (h.names_are i) (h.terms_are i) l.name)
        ∙ put-over (new_terms r) d.names w₀.names l.name
        (omega (arith, k.again.few-terms, h.ready.names-room, h.terms_are, ap length h.names_are))

    line-grows : line_in ls' p.from (p.held + new_literals r) ≡ more_if (new_literals r) d.line (numbered d l l.negated)
    line-grows =
        let known = known_are X lim w₀ w p d h in
        ap (λ (t : List ℕ). line_in t p.from (p.held + new_literals r)) k.literals-left
        ∙ put-line (new_literals r) w.literals p.from p.held _ (one_each r).1 h.ready.stamped.order
        (omega (arith, k.again.few-literals, h.ready.literals_room))
        ∙ (λ i. more_if (new_literals r) (h.line-is i) (literal_of (place_of l.name (known i)) l.negated))

    taken_in : DraftedWith X lim w₀ w' (place_at (p.terms + new_terms r) p.clauses p.from (p.held + new_literals r)) (grown d l r)
    taken_in =
        record {
          ready = k.again;
          starts-room = h.starts-room;
          few-clauses = h.few-clauses;
          terms_are = omega (arith, h.terms_are, more-length (new_terms r) d.names l.name (one_each r).0);
          clauses_are = h.clauses_are;
          from_is = h.from_is;
          names_are = names_grow;
          starts_are = h.starts_are;
          kept_are = ap (take p.from) k.literals-left ∙ put-take (new_literals r) p.from w.literals p.held _ h.ready.stamped.order ∙ h.kept_are;
          line-is = line-grows;
          beyond = still-beyond;
        }

  pub literal-turns : (r : Result Taken Reason) → Taking r → TurnedWith X lim w₀ w' (at_literal lim d l) (after_literal r p l.line)
  literal-turns (Ok Held) k = record { draft = grown d l (Ok Held); is = turn_is (Ok Held) k; drafted = rw (add-zero p.terms) at (taken_in (Ok Held) k) }
  literal-turns (Ok Grown) k = record { draft = grown d l (Ok Grown); is = turn_is (Ok Grown) k; drafted = taken_in (Ok Grown) k }
  literal-turns (Ok Skipped) k = record { draft = d; is = turn_is (Ok Skipped) k; drafted = rw (add-zero p.terms, add-zero p.held) at (taken_in (Ok Skipped) k) }
  literal-turns (Ok Dropped) k =
      record {
        draft = dropped d;
        is = turn_is (Ok Dropped) k;
        drafted = given_back_lem X lim w₀ w' p d (rw (add-zero p.terms, add-zero p.held) at (taken_in (Ok Dropped) k));
      }
  literal-turns (Err e) k = (turn_is (Err e) k, still-beyond (Err e) k)
