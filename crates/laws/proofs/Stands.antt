-- A valid state written into full tables stands there, as calls leave it: the next call is given neither reason 1 nor reason 12.
-- A file's counts are those given. Assumes nothing.
use Prim.Native.Nat.{ℕ, ◌≤◌}
use mathlib.Core.Path.{◌≡◌, refl, ap, ◌∙◌}
use mathlib.Core.Bool.{true}
use mathlib.Core.List.{List}
use lib.ListN.{length}
use lib.Dec.{ltb}
use Rattle.written.specs.declared.Counts.{Counts}
use Rattle.written.specs.declared.Order.{Order}
use Rattle.written.specs.Lists.{total, all}
use Rattle.written.specs.Limits.{Limits}
use Rattle.written.specs.Clauses.{File, State}
use Rattle.written.specs.Tables.{Tables, are_full, counts_of, holding}
use Rattle.written.specs.Agreement.{state_in, agree}
use Rattle.written.specs.Marks.{is_free, marks_hold}
use Rattle.written.specs.Orders.{in_range}
use Rattle.laws.specs.Valid.{Valid}
use Rattle.laws.specs.Calls.{Marked, Stands, SameFile}
use Rattle.laws.specs.Demands.{Acceptable}
use Rattle.laws.specs.WalkCalls.{Allowed}
use Rattle.laws.proofs.Holding.{holding-take, holding-beyond, holding-full}
use Rattle.laws.proofs.Back.{holding-back}
use Rattle.laws.proofs.Agreeing.{agree-counts}
use Rattle.laws.proofs.Agrees.{holding-agrees}
use Rattle.laws.proofs.Marks.{full-both, agree-all}

pub stands_in_lem : (lim : Limits) (s : State) (t : Tables) (ms : List ℕ) → Valid lim s → Marked lim s ms → are_full lim t ≡ true
    → Stands lim s t (counts_of s) (holding lim s t) ms
stands_in_lem lim s t ms v marked full =
    record {
      valid = v;
      counts = refl;
      state = back;
      left = refl;
      in_full-sizes = holding-take lim s t v;
      beyond = holding-beyond lim s t v;
      marked = marked;
      full = full-both lim (holding lim s t) ms (holding-full lim s t v full) marked.full;
      agrees = agree-all lim (holding lim s t) ms (counts_of s) (holding-agrees lim s t v)
          (ap (λ (x : State). marks_hold ms x.values) back ∙ marked.hold)
          marked.rest;
    }
  where
    back : state_in (counts_of s) (holding lim s t) ≡ s
    back = holding-back lim s t v

-- where a state stands, a flip list and a walk can follow
module _ (lim : Limits) (s : State) (t : Tables) (m : Counts) (u : Tables) (ms : List ℕ) (h : Stands lim s t m u ms) where
  pub stands-acceptable : (ts : List ℕ) → length ts ≤ lim.list → all (λ v. ltb v m.terms) ts ≡ true → all (is_free ms) ts ≡ true
      → Acceptable lim ts m u ms
  stands-acceptable ts short known free = record { full = h.full; short = short; agrees = h.agrees; known = known; free = free }

  pub stands-allowed : (o : Order) → in_range o ≡ true → Allowed lim o m u ms
  stands-allowed o range = record { full = h.full; range = range; agrees = h.agrees }

-- a state on the file that stood has the counts that were given, but for the uncovered
pub same-file : (lim : Limits) (n : Counts) (t : Tables) (s : State) → agree lim n t ≡ true → are_full lim t ≡ true → s.file ≡ (state_in n t).file
    → SameFile n (counts_of s)
unfolding counts_of
same-file lim n t s ok full e =
    let given = agree-counts lim n t ok full in
    record {
      terms = ap (λ (f : File). length f.names) e ∙ ap (λ (m : Counts). m.terms) given;
      clauses = ap (λ (f : File). length f.clauses) e ∙ ap (λ (m : Counts). m.clauses) given;
      literals = ap (λ (f : File). total length f.clauses) e ∙ ap (λ (m : Counts). m.literals) given;
    }
