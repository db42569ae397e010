-- Request 4: "Demands 2 and 3 then hold of this reading too": walks and flip lists over what a numbered text says. Assumes nothing.
use Prim.Native.Nat.{ℕ, ◌^◌, ◌≤◌, ◌<◌}
use mathlib.Core.Path.{◌≡◌, ap, ◌∙◌}
use mathlib.Core.Bool.{true}
use mathlib.Core.List.{List, []}
use lib.ListN.{length}
use lib.Dec.{ltb}
use Rattle.std.specs.Prelude.{Ok}
use Rattle.written.specs.declared.Counts.{Counts}
use Rattle.written.specs.declared.Order.{Order}
use Rattle.written.specs.Lists.{all}
use Rattle.written.specs.Limits.{Limits}
use Rattle.written.specs.Clauses.{File, afresh}
use Rattle.written.specs.Reading.{accepted}
use Rattle.written.specs.Numbered.{read_numbered}
use Rattle.written.specs.Walk.{walk_over}
use Rattle.written.specs.Orders.{in_range}
use Rattle.written.specs.Tables.{Tables, are_full, counts_of, holding}
use Rattle.written.specs.Marks.{is_free, full_marked, unmarked}
use Rattle.written.specs.Outcomes.{walk_leaves, walk_of, flips_of, numbered_of}
use Rattle.laws.specs.Valid.{Bits}
use Rattle.laws.specs.Calls.{Marked}
use Rattle.laws.specs.Demands.{Acceptable, Accepted}
use Rattle.laws.specs.NumberedOutcomes.{counts_numbered}
use Rattle.laws.specs.WalkCalls.{WalksOver}
use Rattle.laws.proofs.NumberedReadings.{numbered-proper}
use Rattle.laws.proofs.FlipCalls.{acceptable-flips, file-acceptable, filled-acceptable}
use Rattle.laws.proofs.WalkCalls.{filled-walks}
use Rattle.laws.proofs.NumberedCalls.{marks-left, numbered-filled}

module _ (lim : Limits) (text : List ℕ) (small : lim.terms < 10 ^ 8) (f : File) (read : read_numbered lim text ≡ accepted f) where
  -- ---- demand 2: over what a numbered text has filled, the walks go over the file that it says, and no term is pinned

  pub numbered-walks : (o : Order) (t : Tables) (ms : List ℕ) → full_marked lim t ms ≡ true → in_range o ≡ true
      → WalksOver lim f o t (counts_numbered lim text t ms) (numbered_of lim text t ms).tables (numbered_of lim text t ms).marks
  numbered-walks o t ms full range = filled-walks lim f o t ms _ _ _ (numbered-filled lim text small t ms full f read) range

  -- a text that is read and walked
  pub walk-numbered : (o : Order) (t : Tables) (ms : List ℕ) → full_marked lim t ms ≡ true → in_range o ≡ true
      → walk_of lim o (counts_numbered lim text t ms) (numbered_of lim text t ms).tables (numbered_of lim text t ms).marks ≡ walk_leaves lim t (unmarked lim ms) (walk_over o [] f)
  walk-numbered o t ms full range = (numbered-walks o t ms full range).left ∙ ap (λ (us : List ℕ). walk_leaves lim t us (walk_over o [] f)) (marks-left lim text t ms full)

  -- ---- demand 3

  -- "one accepted clause file, any starting values and any list of up to 65,536 flips of known terms", which are free
  pub numbered-acceptable : (vs ts : List ℕ) (t : Tables) (ms : List ℕ) → length vs ≡ length f.names → Bits vs → Marked lim (afresh f vs) ms → length ts ≤ lim.list
      → all (λ v. ltb v (length f.names)) ts ≡ true → all (is_free ms) ts ≡ true → are_full lim t ≡ true
      → Acceptable lim ts (counts_of (afresh f vs)) (holding lim (afresh f vs) t) ms
  numbered-acceptable vs ts t ms = file-acceptable lim f vs ts t ms (numbered-proper lim text small f read)

  -- such a list is applied, and leaves what is demanded
  pub numbered-flips : (vs ts : List ℕ) (t : Tables) (ms : List ℕ) → length vs ≡ length f.names → Bits vs → Marked lim (afresh f vs) ms → length ts ≤ lim.list
      → all (λ v. ltb v (length f.names)) ts ≡ true → all (is_free ms) ts ≡ true → are_full lim t ≡ true
      → (m : Counts) × ((flips_of lim ts (counts_of (afresh f vs)) (holding lim (afresh f vs) t) ms).answer ≡ Ok m)
      × Accepted lim ts (counts_of (afresh f vs)) m (holding lim (afresh f vs) t) ms
  numbered-flips vs ts t ms one_each bits marked few known free full =
      acceptable-flips lim ts _ _ ms (numbered-acceptable vs ts t ms one_each bits marked few known free full)

  -- a text that is read and flipped: no term is pinned
  pub flips-numbered : (ts : List ℕ) (t : Tables) (ms : List ℕ) → full_marked lim t ms ≡ true → length ts ≤ lim.list
      → all (λ v. ltb v (counts_numbered lim text t ms).terms) ts ≡ true
      → (m : Counts) × ((flips_of lim ts (counts_numbered lim text t ms) (numbered_of lim text t ms).tables (numbered_of lim text t ms).marks).answer ≡ Ok m)
      × Accepted lim ts (counts_numbered lim text t ms) m (numbered_of lim text t ms).tables (numbered_of lim text t ms).marks
  flips-numbered ts t ms full few known =
      acceptable-flips lim ts _ _ _ (filled-acceptable lim f ts t ms _ _ _ (numbered-filled lim text small t ms full f read) few known)
