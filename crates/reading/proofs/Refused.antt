-- Tables that were cleared: a draft can be begun in them, and where a text is refused they are 0 still, or cleared again. Assumes nothing.
use mathlib.Core.Path.{◌≡◌, refl, ap, sym, ◌∙◌, subst}
use mathlib.Core.List.{List, []}
use Prim.Native.Nat.{ℕ}
use native.Mathlib.Omega.{arith}
use Rattle.std.specs.Prelude.{Result, Ok, Err, ⊤, is_ok}
use Rattle.written.specs.declared.Fault.{Fault}
use Rattle.written.specs.declared.Reason.{Reason}
use Rattle.written.specs.Limits.{Limits}
use Rattle.written.specs.Reasons.{fault}
use Rattle.written.specs.Reading.{Reading, refused, after_tests}
use Rattle.written.specs.Tables.{Tables, lent, sizes, full_sizes}
use Rattle.written.specs.Outcomes.{ten, ten_of, read_leaves}
use Rattle.laws.proofs.Each.Table.{Names, Starts, Literals, Breaks, Places}
use Rattle.laws.proofs.Holding.{full_at}
use Rattle.laws.proofs.Tests.{not-both}
use Rattle.reading_lines.specs.declared.Place.{Place}
use Rattle.reading_lines.specs.Drafting.{Desk}
use Rattle.reading_end.specs.Tests.{text_tests}
use Rattle.reading_end.specs.Clearing.{desk_in, wiped}
use Rattle.reading_end.specs.Bare.{Bare}
use Rattle.reading_end.specs.Laid.{PastOn}
use Rattle.reading_end.specs.Drawn.{CanLay, Laying}
use Rattle.reading_end.proofs.Bare.{bare-zero}
use Rattle.reading_end.proofs.Whole.{wiped-back}
use Rattle.reading.proofs.Texts.{failed-read, passed-read, passed-short, passed-closed}

-- tests whose reason is told as something else are passed where that is none
pub passed-if : {A E : Type 0} (v : Result ⊤ A) {w : Result ⊤ E} → is_ok w ≡ is_ok v → w ≡ Ok tt → v ≡ Ok tt
passed-if (Ok x) same told = refl
passed-if (Err e) same told = not-both (ap is_ok told) same

-- the text's bytes come to q, and it fails a test: nothing is written
failed-leaves : (lim : Limits) (text : List ℕ) (q : Reading) (t : Tables) → Bare lim t → {r : Reason} → text_tests lim text ≡ Err r
    → ten (Err (fault r)) t ≡ ten_of (read_leaves lim t [] (after_tests lim text q))
unfolding read_leaves
failed-leaves lim text q t b {r} h = ap (ten (Err (fault r))) (sym b.zero) ∙ sym (ap (λ x. ten_of (read_leaves lim t [] x)) (failed-read lim text q h))

-- cleared tables are tables that a draft can be made in
bare_lay : (lim : Limits) (text : List ℕ) (q : Reading) (t : Tables) → Bare lim t → text_tests lim text ≡ Ok tt → CanLay lim text (desk_in t)
unfolding full_sizes sizes
bare_lay lim text q t b passed =
    record {
      short = passed-short lim text q passed;
      closed = passed-closed lim text q passed;
      names-room = full_at lim t Names b.full;
      starts-room = full_at lim t Starts b.full;
      literals_room = full_at lim t Literals b.full;
      stamps-room = full_at lim t Breaks b.full;
      slots-room = full_at lim t Places b.full;
      first = bare-zero lim t b.zero Starts 0 (omega arith);
      bare = λ j l. bare-zero lim t b.zero Places j l;
    }

-- a draft in them is refused, and what it used is cleared
refused-leaves : (lim : Limits) (t : Tables) → Bare lim t → {x : Reading} {e : Fault} → x ≡ refused e → (w : Desk) → PastOn lim (desk_in t) w → {d : Desk} → d ≡ wiped lim w
    → ten (Err e) (lent d.names t.values d.starts d.literals t.occurrence_starts t.occurrences t.trues d.stamps t.uncovered d.slots)
    ≡ ten_of (read_leaves lim t [] x)
unfolding read_leaves
refused-leaves lim t b {x} {e} h w past {d} q =
    let r = q ∙ wiped-back lim t b w past in
    let u : lent d.names t.values d.starts d.literals t.occurrence_starts t.occurrences t.trues d.stamps t.uncovered d.slots ≡ t =
    (λ i. lent (r i).names t.values (r i).starts (r i).literals t.occurrence_starts t.occurrences t.trues (r i).stamps t.uncovered (r i).slots) in
    ap (ten (Err e)) (u ∙ sym b.zero) ∙ sym (ap (λ y. ten_of (read_leaves lim t [] y)) h)

-- ---- put together from what the calls gave, as they gave it

-- v was answered to the tests of the text, whose bytes come to q
module _ (lim : Limits) (text : List ℕ) (q : Reading) (t : Tables) (b : Bare lim t) {v : Result ⊤ Reason} (asked : v ≡ text_tests lim text) where
  pub was-failed : {r : Reason} → v ≡ Err r → ten (Err (fault r)) t ≡ ten_of (read_leaves lim t [] (after_tests lim text q))
  was-failed h = failed-leaves lim text q t b (sym asked ∙ h)

  module _ (told : v ≡ Ok tt) where
    pub can_lay : CanLay lim text (desk_in t)
    can_lay = bare_lay lim text q t b (sym asked ∙ told)

    -- the draft ended by z, in the tables w
    pub was-refused : (w : Desk) {z : Result Place Fault} {e : Fault} → Laying lim q (desk_in t) w z → z ≡ Err e → {d : Desk} → d ≡ wiped lim w
        → ten (Err e) (lent d.names t.values d.starts d.literals t.occurrence_starts t.occurrences t.trues d.stamps t.uncovered d.slots)
        ≡ ten_of (read_leaves lim t [] (after_tests lim text q))
    was-refused w drawn ended cleared =
        let d = subst (Laying lim q (desk_in t) w) ended drawn in
        refused-leaves lim t b (passed-read lim text q (sym asked ∙ told) ∙ d.0) w d.1 cleared
