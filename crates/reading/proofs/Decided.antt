-- Whether the tables are full decides a reading of any kind of text; once they are cleared, it does not depend on what stood in them. Assumes nothing.
use mathlib.Core.Path.{◌≡◌, ap, sym, ◌∙◌, subst}
use mathlib.Core.Bool.{Bool, true, false, not}
use mathlib.Core.List.{List, []}
use Prim.Native.Nat.{ℕ}
use lib.ListN.{length}
use borrow.Author.Tests.{leb-true}
use Rattle.std.specs.Prelude.{Result, Ok, Err}
use Rattle.written.specs.declared.Fault.{Fault}
use Rattle.written.specs.declared.Counts.{Counts}
use Rattle.written.specs.declared.Reason.TheVariants.{TableTooShort}
use Rattle.written.specs.Limits.{Limits}
use Rattle.written.specs.Reasons.{fault}
use Rattle.written.specs.Clauses.{as_read}
use Rattle.written.specs.Reading.{Reading, accepted, refused}
use Rattle.written.specs.Tables.{Tables, lent, are_full, cleared, counts_of}
use Rattle.written.specs.Marks.{marks_full, full_marked, unmarked}
use Rattle.written.specs.Outcomes.{leaves, Ten, ten, ten_of, read_leaves, read_into}
use Rattle.laws.proofs.Holding.{cleared-full, cleared-again, holding-cleared}
use Rattle.laws.proofs.Readings.{as_read-valid}
use Rattle.laws.proofs.Drafts.{Sound}
use Rattle.laws.proofs.Marks.{full-tables, full-marks}
use Rattle.laws.proofs.ReadCalls.{short_into, ten_into}
use Rattle.machine.specs.Passes.{zeroed}
use Rattle.machine.proofs.Cleared.{zeroed-over}
use Rattle.laws.proofs.Tests.{said_no, said-yes}
use Rattle.reading_lines.specs.Drafting.{Desk}
use Rattle.reading_end.specs.Clearing.{blanked, desk_in, wiped, Others, others_in, wiped_others}
use Rattle.reading_end.proofs.Cleared.{both-wiped, blanked-is}
use Rattle.reading_end.specs.Bare.{Bare}

-- full tables, and u once they are cleared
module _ (lim : Limits) (t : Tables) (full : are_full lim t ≡ true) {u : Tables} (e : u ≡ blanked lim t) where
  cleared_now : u ≡ cleared lim t
  cleared_now = e ∙ blanked-is lim t full

  now_bare : Bare lim u
  now_bare = subst (Bare lim) (sym cleared_now) (record { full = cleared-full lim t full; zero = cleared-again lim t })

-- what is read into cleared tables is what is read into those before; it comes to r
leaves-cleared : (lim : Limits) (r : Reading) → Sound lim r → (t : Tables) → ten_of (read_leaves lim (cleared lim t) [] r) ≡ ten_of (read_leaves lim t [] r)
unfolding read_leaves
leaves-cleared lim (accepted f) proper t = ap (ten (Ok (counts_of (as_read f)))) (holding-cleared lim (as_read f) t (as_read-valid lim f proper))
leaves-cleared lim (refused f) _ t = ap (ten (Err f)) (cleared-again lim t)

decided : (lim : Limits) (r : Reading) → Sound lim r → (t : Tables) → are_full lim t ≡ true → {u : Tables} → u ≡ blanked lim t
    → ten_of (read_leaves lim u [] r) ≡ ten_of (read_leaves lim t [] r)
decided lim r sound t full e = ap (λ (v : Tables). ten_of (read_leaves lim v [] r)) (cleared_now lim t full e) ∙ leaves-cleared lim r sound t

-- ---- a reading put together from what its calls gave, as they gave it

-- the ten tables, those of a draft and the others
abbrev joined : Desk → Others → Tables
joined w o =
    lent w.names o.values w.starts w.literals o.occurrence_starts o.occurrences o.trues w.stamps o.uncovered w.slots

-- what was cleared
module _ (lim : Limits) (t : Tables) (full : are_full lim t ≡ true) {w : Desk} (p : w ≡ wiped lim (desk_in t)) {o : Others} (q : o ≡ wiped_others lim (others_in t)) where
  pub is-bare : Bare lim (joined w o)
  is-bare = now_bare lim t full (both-wiped lim t p q)

  -- what was read
  pub was_read : (r : Reading) → Sound lim r → {l : Ten (Result Counts Fault)} → l ≡ ten_of (read_leaves lim (joined w o) [] r) → l ≡ ten_of (read_leaves lim t [] r)
  was_read r sound e = e ∙ decided lim r sound t full (both-wiped lim t p q)

-- a was answered to whether the tables and the marks are full; what is read comes to q
module _ (lim : Limits) (q : Reading) (t : Tables) (ms : List ℕ) {a : Bool} (asked : a ≡ full_marked lim t ms) where
  pub was-short : not a ≡ true → leaves (Err (fault TableTooShort)) t ms ≡ read_into lim q t ms
  was-short h = sym (short_into lim q t ms (said_no h asked))

  module _ (h : not a ≡ false) where
    full : full_marked lim t ms ≡ true
    full = said-yes h asked

    pub tables-full : are_full lim t ≡ true
    tables-full = full-tables lim t ms full

    -- the marks cleared, and the text read into the tables
    pub was-marked : {r : Result Counts Fault} {u : Tables} {ns : List ℕ} → ns ≡ zeroed lim.terms ms → ten r u ≡ ten_of (read_leaves lim t [] q)
        → leaves r u ns ≡ read_into lim q t ms
    unfolding unmarked marks_full
    was-marked wiped e =
        ap (leaves _ _) (wiped ∙ zeroed-over lim.terms ms (leb-true lim.terms (length ms) (full-marks lim t ms full))) ∙ ten_into lim q t ms full e
