-- From walking tables to the standings of the clauses, and back. Assumes nothing.
use mathlib.Core.Path.{refl, ◌∙◌, sym, fun_ext}
use mathlib.Core.List.{List, map}
use Prim.Native.Nat.{ℕ}
use lib.ListN.{length, length-map}
use Rattle.written.specs.Clauses.{State, value_of}
use Rattle.machine.specs.Tallies.{Tallies}
use Rattle.machine.specs.Moving.{Fixed, Moving}
use Rattle.machine.specs.Holds.{HoldsClauses, HoldsValues, Walking, Kept}
use Rattle.machine.proofs.Status.{status}
use Rattle.machine.proofs.Mid.{Mid}
use Rattle.machine.proofs.Counts.{total-critical, total-bare, count-is, xored-is}

-- tallies kept, at once and one after the other
pub kept_refl : (C T : ℕ) (t : Tallies) → Kept C T t t
kept_refl C T t = record { trues-kept = λ j l. refl; breaks-kept = λ j l. refl; list-kept = λ j l. refl; places-kept = λ j l. refl }

pub kept_trans : {C T : ℕ} {o t s : Tallies} → Kept C T o t → Kept C T t s → Kept C T o s
kept_trans a b =
    record {
      trues-kept = λ j l. b.trues-kept j l ∙ a.trues-kept j l;
      breaks-kept = λ j l. b.breaks-kept j l ∙ a.breaks-kept j l;
      list-kept = λ j l. b.list-kept j l ∙ a.list-kept j l;
      places-kept = λ j l. b.places-kept j l ∙ a.places-kept j l;
    }

-- from walking tables to the clauses' standings, and back
module _ (top : ℕ) (s : State) (x : Fixed) (w : Moving) where
  abbrev cs : List (List ℕ)
  cs = s.file.clauses

  abbrev vs : List ℕ
  vs = s.values

  pub to-mid : Walking top s x w → Mid w.tallies (length vs) (map (status (value_of vs)) cs) s.uncovered w.tallies
  to-mid g =
      record {
        room = rw (length-map cs (status (value_of vs))) g.trues-room;
        counts = λ c l. g.trues c (rw (length-map cs (status (value_of vs))) at l) ∙ sym (count-is vs cs c);
        breaks = record { room = g.breaks-room; all = λ t l. g.breaks t l ∙ sym (total-critical vs t cs) };
        number = g.number ∙ sym (total-bare vs cs);
        list = rw (length-map cs (status (value_of vs)), fun_ext (count-is vs cs), fun_ext (xored-is vs cs)) g.places;
        front = g.list;
        kept = kept_refl (length (map (status (value_of vs)) cs)) (length vs) w.tallies;
      }

  pub from-mid : HoldsClauses top (length vs) cs x → HoldsValues vs w.words → {o : Tallies}
      → Mid o (length vs) (map (status (value_of vs)) cs) s.uncovered w.tallies → Walking top s x w
  from-mid h v m =
      record {
        holds = h;
        words = v;
        trues-room = rw (length-map cs (status (value_of vs))) at m.room;
        trues = λ c l. m.counts c (rw (length-map cs (status (value_of vs))) l) ∙ count-is vs cs c;
        breaks-room = m.breaks.room;
        breaks = λ t l. m.breaks.all t l ∙ total-critical vs t cs;
        number = m.number ∙ total-bare vs cs;
        places = rw (← fun_ext (count-is vs cs), ← fun_ext (xored-is vs cs)) (rw (length-map cs (status (value_of vs))) at m.list);
        list = m.front;
      }
