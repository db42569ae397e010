-- A whole text: its header as it is judged, and its numbers after the names of its variables. Assumes nothing.
use Prim.Native.Nat.{ℕ, suc, ◌^◌, ◌≤◌, ◌<◌}
use mathlib.Core.Path.{◌≡◌, refl, ap, sym, subst, ◌∙◌}
use mathlib.Core.List.{List, []}
use native.Mathlib.Omega.{arith}
use borrow.Author.Tests.{le-leb, lt-leb, lt-ltb, le-ltb}
use lib.ListN.{length, take, drop, length-append, length-drop}
use lib.Seq.{length-take-le}
use Rattle.std.proofs.Common.{Option, Some, None, Result, Err}
use Rattle.scan.specs.declared.Cursor.{Cursor}
use Rattle.written.specs.declared.Reason.TheVariants.{TooManyTerms, HeaderForm}
use Rattle.written.specs.declared.Fault.{Fault}
use Rattle.written.specs.declared.Header.{Header}
use Rattle.written.specs.Limits.{Limits}
use Rattle.written.specs.Tables.{over}
use Rattle.written.specs.Reasons.{fault, fault_at}
use Rattle.written.specs.Reading.{Reading, refused}
use Rattle.written.specs.Numerals.{header_at}
use Rattle.written.specs.Numbered.{names_to, begun, after_header, from_header, numbers_in}
use Rattle.laws.specs.NumberedCalls.{head_at}
use Rattle.laws.proofs.Times.{times-le}
use Rattle.laws.proofs.Padding.{over-drop, same-later}
use Rattle.laws.proofs.Faults.{Stands}
use Rattle.laws.proofs.NumberedNames.{names-length}
use Rattle.laws.proofs.NumeralSteps.{head-stands, header-stands, header-end}
use Rattle.laws.proofs.NumberedReadings.{begun-sums}
use Rattle.reading_literal.specs.Taking.{by_number}
use Rattle.reading_lines.specs.declared.Place.{Place}
use Rattle.reading_lines.specs.Drafting.{DraftedWith}
use Rattle.reading_lines.specs.Turns.{place_at}
use Rattle.reading_lines.proofs.Held.{Begins, begins-drafted}
use Rattle.numbering.specs.Passes.{outset}
use Rattle.numbering.specs.Counting.{Count, desk_with, Summed, EndsBy, CanBegin, read_numbers, Counted, CanDraw, Drawn}

no-other : (d : Option Header) → ((h : Header) → d ≡ Some h → ⊥) → d ≡ None
no-other None other = refl
no-other (Some h) other = absurd (other h refl)

module _ (lim : Limits) (t names : List ℕ) (k : Count) (can : CanDraw lim t names k) {c : Cursor} (q : c ≡ head_at t) where
  stands : Stands t c
  stands = subst (Stands t) (sym q) (head-stands t can.closed)

  -- lines have numbers up to one more than the text has bytes
  pub line_low : c.line ≤ suc (length t)
  line_low = omega (arith, stands.most, times-le 10 (take c.at t), length-take-le c.at t stands.within, stands.within)

  -- ---- a header that cannot be passed: nothing is written

  by-head : {r : Reading} → from_header lim t c ≡ r → numbers_in lim t ≡ r
  by-head e = ap (from_header lim t) (sym q) ∙ e

  stopped : {f : Fault} (e : Fault) → f ≡ e → numbers_in lim t ≡ refused e → Drawn lim t names k names k (Err f)
  stopped e told is = record { told = λ os. rw told (is, record { names-beyond = refl; starts-beyond = refl; literals-beyond = refl; stamps-beyond = refl; slots-beyond = refl }) }

  pub no_header : length t ≤ c.at → {f : Fault} → f ≡ fault HeaderForm → Drawn lim t names k names k (Err f)
  unfolding from_header
  no_header l told = stopped (fault HeaderForm) told (by-head (rw (le-leb (length t) c.at l) refl))

  module _ (there : c.at < length t) {d : Option Header} (headed : d ≡ header_at t c.at) where
    after : {x : Option Header} → d ≡ x → from_header lim t c ≡ after_header lim t c.line x
    unfolding from_header
    after e = rw (lt-leb (length t) c.at there) (ap (after_header lim t c.line) (sym headed ∙ e))

    pub malformed : ((h : Header) → d ≡ Some h → ⊥) → {f : Fault} → f ≡ fault_at c.line HeaderForm → Drawn lim t names k names k (Err f)
    unfolding after_header
    malformed other told = stopped (fault_at c.line HeaderForm) told (by-head (after (no-other d other)))

    module _ {h : Header} (says : d ≡ Some h) where
      pub too_many : lim.terms < h.variables → {f : Fault} → f ≡ fault_at c.line TooManyTerms → Drawn lim t names k names k (Err f)
      unfolding after_header
      too_many l told = stopped (fault_at c.line TooManyTerms) told (by-head (after says ∙ rw (lt-ltb lim.terms h.variables l) refl))

      -- ---- the numbers, after the names

      module _ (few : h.variables ≤ lim.terms) (small : lim.terms < 10 ^ 8) {names' : List ℕ} (put : names' ≡ over (names_to h.variables) names) where
        reads : numbers_in lim t ≡ read_numbers lim t h c.line
        unfolding after_header
        reads = by-head (after says ∙ rw (le-ltb lim.terms h.variables few) refl)

        as_long : length names' ≡ length names
        as_long =
            let n = names-length h.variables in
            omega (arith, ap length put, length-append (names_to h.variables) (drop (length (names_to h.variables)) names), length-drop (length (names_to h.variables)) names, can.names-room)

        begins : (os : List ℕ) → Begins by_number lim (desk_with names os k) (desk_with names' os k) (names_to h.variables)
        begins os =
            record {
              names-room = omega (arith, as_long, can.names-room);
              few-terms = omega (arith, names-length h.variables);
              indexed = tt;
              starts-room = can.starts-room;
              literals_room = can.literals_room;
              stamps-room = can.stamps-room;
              first = can.first;
              names_are = put;
              starts_are = refl;
              beyond = record {
                names-beyond = same-later h.variables lim.terms names' names few
                    (ap (drop h.variables) put ∙ over-drop (names_to h.variables) names h.variables (names-length h.variables));
                starts-beyond = refl;
                literals-beyond = refl;
                stamps-beyond = refl;
                slots-beyond = refl;
              };
            }

        summed : (os : List ℕ) → Summed lim h (desk_with names os k) (desk_with names' os k) (outset h) (begun h)
        summed os =
            let e = begins-drafted by_number lim (desk_with names os k) (desk_with names' os k) (names_to h.variables) (begins os) in
            record {
              drafted = subst (λ (n : ℕ). DraftedWith by_number lim (desk_with names os k) (desk_with names' os k) (place_at n 0 0 0) (begun h).draft) (names-length h.variables) e;
              dropped-is = refl;
              ended_is = refl;
              sums = begun-sums lim h few small;
            }

        pub numbers-can : CanBegin lim t h c.line k
        numbers-can =
            record {
              can = record { first = desk_with names [] k; names = names'; slots = []; sum = begun h; summed = summed []; small = few };
              begun-is = refl;
              short = can.short;
              closed = can.closed;
              stands = header-stands t c h (sym headed ∙ says) stands;
              inside = (header-end t c.at h (sym headed ∙ says)).within;
              gap = rw (header-end t c.at h (sym headed ∙ says)).line-end refl;
            }

        pub numbers-drawn : {k' : Count} (z : Result Place Fault) → Counted lim t h c.line k k' z → Drawn lim t names k names' k' z
        numbers-drawn {k'} z counted =
            record { told = λ os. subst (λ (u : Reading). EndsBy lim u (desk_with names os k) (desk_with names' os k') z) (sym reads) (counted.told (desk_with names os k) names' os (summed os)) }
