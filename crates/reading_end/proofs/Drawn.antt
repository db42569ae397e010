-- A draft, however names are looked up: whole, it is its file laid in the lent tables; refused, it is within their full sizes. Assumes nothing.
use Prim.Native.Nat.{ℕ, ◌+◌, ◌≤◌, ◌<◌}
use mathlib.Core.List.{List}
use native.Mathlib.Omega.{arith}
use lib.ListN.{length}
use Rattle.std.proofs.Common.{Result, Ok, Err}
use Rattle.written.specs.declared.Fault.{Fault}
use Rattle.written.specs.Limits.{Limits}
use Rattle.written.specs.Reading.{Reading, Draft}
use Rattle.laws.proofs.Padding.{same-later}
use Rattle.reading_literal.specs.Taking.{Index, by_slots}
use Rattle.reading_lines.specs.declared.Place.{Place}
use Rattle.reading_lines.specs.Drafting.{Desk, BeyondWith, DraftedWith, LeadsWith, Blank, whole, read_all, Drawn}
use Rattle.reading_lines.proofs.Loop.{Lent}
use Rattle.reading_end.specs.Laid.{PastOn, LaidOn}
use Rattle.reading_end.specs.Drawn.{CanLay, Gives, Laying}

module _ (X : Index) (lim : Limits) (slots-fit : X.slots ≤ lim.clauses) (w₀ w : Desk) where
  pub beyond-past : BeyondWith X lim w₀ w → lim.terms ≤ length w.names → lim.clauses + 1 ≤ length w.starts → lim.literals ≤ length w.literals
      → lim.terms ≤ length w.stamps → lim.clauses ≤ length w.slots → PastOn lim w₀ w
  beyond-past far n s l m o =
      record {
        names-room = n;
        starts-room = s;
        literals_room = l;
        stamps-room = m;
        slots-room = o;
        names-past = far.names-beyond;
        starts-past = far.starts-beyond;
        literals-past = far.literals-beyond;
        stamps-past = far.stamps-beyond;
        slots-past = same-later _ _ w.slots w₀.slots slots-fit far.slots-beyond;
      }

  -- the file of a draft, whose slots have their full size
  pub drafted-laid : (p : Place) (d : Draft) → DraftedWith X lim w₀ w p d → lim.clauses ≤ length w.slots
      → LaidOn lim w₀ w p (record { names = d.names; clauses = d.clauses })
  drafted-laid p d h room =
      record {
        terms_are = h.terms_are;
        clauses_are = h.clauses_are;
        from_is = h.from_is;
        names_are = h.names_are;
        starts_are = h.starts_are;
        kept_are = h.kept_are;
        past = beyond-past h.beyond h.ready.names-room (omega (arith, h.starts-room)) h.ready.literals_room h.ready.stamps-room room;
      }

  -- ---- tables that a draft could be made in, as long as they were
  module _ (t : List ℕ) (can : CanLay lim t w₀) (long : Lent w₀ w) where
    slots-long : lim.clauses ≤ length w.slots
    slots-long = omega (arith, can.slots-room, long.slots-long)

    pub leads-gives : (r : Reading) (p : Place) → LeadsWith r whole X lim w₀ w p → Gives lim r w₀ w p
    leads-gives r p h =
        record {
          file = record { names = h.draft.names; clauses = h.draft.clauses };
          is = h.is;
          laid = drafted-laid p h.draft h.drafted slots-long;
        }

    pub far_past : BeyondWith X lim w₀ w → PastOn lim w₀ w
    far_past far =
        beyond-past far (omega (arith, can.names-room, long.names-long)) (omega (arith, can.starts-room, long.starts-long))
        (omega (arith, can.literals_room, long.literals-long)) (omega (arith, can.stamps-room, long.stamps-long)) slots-long

-- ---- clause text, whose names have H homes

module _ (H : ℕ) (lim : Limits) (slots-fit : H + lim.terms + 1 ≤ lim.clauses) (t : List ℕ) (w₀ : Desk) (can : CanLay lim t w₀) where
  pub can-draft : 0 < H → Blank H lim t w₀
  can-draft some =
      record {
        short = can.short;
        homes-some = some;
        names-room = can.names-room;
        starts-room = omega (arith, can.starts-room);
        literals_room = can.literals_room;
        stamps-room = can.stamps-room;
        slots-room = omega (arith, can.slots-room);
        first = can.first;
        bare = λ j l. can.bare j (omega arith);
      }

  pub drawn_laying : (w : Desk) → Lent w₀ w → (z : Result Place Fault) → Drawn H lim t w₀ w z → Laying lim (read_all lim t) w₀ w z
  drawn_laying w long (Ok p) h = leads-gives (by_slots H lim) lim slots-fit w₀ w t can long (read_all lim t) p h
  drawn_laying w long (Err e) h = (h.0, far_past (by_slots H lim) lim slots-fit w₀ w t can long h.1)
