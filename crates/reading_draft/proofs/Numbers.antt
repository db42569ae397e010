-- What is drawn of numbered text is its reading, laid in the tables. Assumes nothing.
use Prim.Native.Nat.{ℕ}
use mathlib.Core.List.{List}
use native.Mathlib.Omega.{arith}
use Rattle.std.proofs.Common.{Result, Ok, Err}
use Rattle.written.specs.declared.Fault.{Fault}
use Rattle.written.specs.Limits.{Limits}
use Rattle.written.specs.Numbered.{numbers_in}
use Rattle.reading_literal.specs.Taking.{by_number}
use Rattle.reading_lines.specs.declared.Place.{Place}
use Rattle.reading_lines.specs.Drafting.{Desk}
use Rattle.reading_lines.proofs.Loop.{Lent}
use Rattle.reading_end.specs.Drawn.{CanLay, Laying}
use Rattle.reading_end.proofs.Drawn.{leads-gives, far_past}
use Rattle.numbering.specs.Counting.{Count, count, desk_with, EndsBy, CanDraw, Drawn}

-- the tables that numbers are put into
abbrev count_in : Desk → Count
count_in w = count w.starts w.literals w.stamps

module _ (lim : Limits) (t : List ℕ) (w₀ : Desk) (can : CanLay lim t w₀) where
  pub can-number : CanDraw lim t w₀.names (count_in w₀)
  can-number =
      record {
        short = can.short;
        closed = can.closed;
        names-room = can.names-room;
        starts-room = omega (arith, can.starts-room);
        literals_room = can.literals_room;
        stamps-room = can.stamps-room;
        first = can.first;
      }

  laid_by : (w : Desk) → Lent w₀ w → (z : Result Place Fault) → EndsBy lim (numbers_in lim t) w₀ w z → Laying lim (numbers_in lim t) w₀ w z
  laid_by w long (Ok p) h = leads-gives by_number lim (omega arith) w₀ w t can long (numbers_in lim t) p h
  laid_by w long (Err e) h = (h.0, far_past by_number lim (omega arith) w₀ w t can long h.1)

  -- the slots are those that were lent
  pub numbers_laying : (ns : List ℕ) (k : Count) → Lent w₀ (desk_with ns w₀.slots k) → (z : Result Place Fault) → Drawn lim t w₀.names (count_in w₀) ns k z
      → Laying lim (numbers_in lim t) w₀ (desk_with ns w₀.slots k) z
  numbers_laying ns k long z drawn = laid_by (desk_with ns w₀.slots k) long z (drawn.told w₀.slots)
