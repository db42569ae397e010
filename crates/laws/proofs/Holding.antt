-- Lent tables into which a state is written: their lengths, and what stands. Assumes nothing.
use Prim.Native.Nat.{ℕ, ◌≤◌}
use mathlib.Core.Path.{◌≡◌, ap, sym, ◌∙◌}
use mathlib.Core.Bool.{true}
use native.Mathlib.Omega.{arith}
use lib.ListN.{length, get_or, take, drop, length-replicate}
use lib.Seq.{take-append-le}
use lib.Dec.{leb}
use borrow.Author.Tests.{leb-true, le-leb}
use Rattle.written.specs.Lists.{zeros, padded}
use Rattle.written.specs.Limits.{Limits}
use Rattle.written.specs.Clauses.{State}
use Rattle.written.specs.Tables.{Lent, Tables, each, sizes, full_sizes, are_full, counts_of, in_use, tables_of, over, holding, cleared}
use Rattle.laws.specs.Valid.{Valid}
use Rattle.laws.proofs.Lists.{padded-length, over-length}
use Rattle.laws.proofs.Padding.{over-take, over-drop, over_by, padded-take, over-sizes, over-same}
use Rattle.laws.proofs.Each.{Table, at, by-each, each_at, every-all, every-at}
use Rattle.laws.proofs.Sizes.{in_use_lem, valid-fit, sizes-fit}

-- ---- one table at a time

pub full_at : (lim : Limits) (t : Tables) (k : Table) → are_full lim t ≡ true → at k (full_sizes lim) ≤ length (at k t)
unfolding are_full
full_at lim t k h =
    leb-true (at k (full_sizes lim)) (length (at k t)) (sym (each_at (λ n xs. leb n (length xs)) k (full_sizes lim) t) ∙ every-at (λ b. b) _ k h)

pub full-all : (lim : Limits) (t : Tables) → ((k : Table) → at k (full_sizes lim) ≤ length (at k t)) → are_full lim t ≡ true
unfolding are_full
full-all lim t h =
    every-all (λ b. b) _
    (λ k. each_at (λ n xs. leb n (length xs)) k (full_sizes lim) t ∙ le-leb (at k (full_sizes lim)) (length (at k t)) (h k))

pub tables-at : (lim : Limits) (s : State) (k : Table) → at k (tables_of lim s) ≡ padded (at k (full_sizes lim)) (at k (in_use s))
unfolding tables_of
tables-at lim s k = each_at padded k (full_sizes lim) (in_use s)

pub holding-at : (lim : Limits) (s : State) (t : Tables) (k : Table) → at k (holding lim s t) ≡ over (at k (tables_of lim s)) (at k t)
unfolding holding
holding-at lim s t k = each_at over k (tables_of lim s) t

pub cleared_at : (lim : Limits) (t : Tables) (k : Table) → at k (cleared lim t) ≡ over (zeros (at k (full_sizes lim))) (at k t)
unfolding cleared
cleared_at lim t k = each_at (λ n xs. over (zeros n) xs) k (full_sizes lim) t

-- ---- lengths

-- the tables of a valid state are of full size
pub tables-length : (lim : Limits) (s : State) (k : Table) → Valid lim s → length (at k (tables_of lim s)) ≡ at k (full_sizes lim)
tables-length lim s k v =
    let a = in_use_lem lim s v k in
    let b = sizes-fit lim (counts_of s) (valid-fit lim s v) k in
    ap length (tables-at lim s k) ∙ padded-length (at k (full_sizes lim)) (at k (in_use s)) (omega arith)

-- no table's length changes
pub holding-length : (lim : Limits) (s : State) (t : Tables) (k : Table) → Valid lim s → are_full lim t ≡ true → length (at k (holding lim s t)) ≡ length (at k t)
holding-length lim s t k v f =
    let a = tables-length lim s k v in
    let b = full_at lim t k f in
    ap length (holding-at lim s t k) ∙ over-length (at k (tables_of lim s)) (at k t) (omega arith)

pub cleared-length : (lim : Limits) (t : Tables) (k : Table) → are_full lim t ≡ true → length (at k (cleared lim t)) ≡ length (at k t)
cleared-length lim t k f =
    let a = length-replicate {A = ℕ} (at k (full_sizes lim)) 0 in
    let b = full_at lim t k f in
    ap length (cleared_at lim t k) ∙ over-length (zeros (at k (full_sizes lim))) (at k t) (omega arith)

pub holding-full : (lim : Limits) (s : State) (t : Tables) → Valid lim s → are_full lim t ≡ true → are_full lim (holding lim s t) ≡ true
holding-full lim s t v f = full-all lim (holding lim s t) (λ k. omega (arith, holding-length lim s t k v f, full_at lim t k f))

pub cleared-full : (lim : Limits) (t : Tables) → are_full lim t ≡ true → are_full lim (cleared lim t) ≡ true
cleared-full lim t f = full-all lim (cleared lim t) (λ k. omega (arith, cleared-length lim t k f, full_at lim t k f))

-- ---- what stands, and what stood before

-- the full sizes hold the state's tables
pub holding-take : (lim : Limits) (s : State) (t : Tables) → Valid lim s → each take (full_sizes lim) (holding lim s t) ≡ tables_of lim s
holding-take lim s t v =
    by-each _ _
    (λ k. each_at take k (full_sizes lim) (holding lim s t) ∙ ap (take (at k (full_sizes lim))) (holding-at lim s t k)
    ∙ over-take (at k (tables_of lim s)) (at k t) (at k (full_sizes lim)) (tables-length lim s k v))

-- and begin with the entries in use
pub tables-used : (lim : Limits) (s : State) → Valid lim s → each take (sizes (counts_of s)) (tables_of lim s) ≡ in_use s
tables-used lim s v =
    by-each _ _
    (λ k. each_at take k (sizes (counts_of s)) (tables_of lim s) ∙ ap (take (at k (sizes (counts_of s)))) (tables-at lim s k)
    ∙ padded-take (at k (sizes (counts_of s))) (at k (full_sizes lim)) (at k (in_use s)) (in_use_lem lim s v k))

pub holding-used : (lim : Limits) (s : State) (t : Tables) → Valid lim s → each take (sizes (counts_of s)) (holding lim s t) ≡ in_use s
holding-used lim s t v =
    by-each _ _
    (λ k.
    let n = at k (sizes (counts_of s)) in
    let a = tables-length lim s k v in
    let b = sizes-fit lim (counts_of s) (valid-fit lim s v) k in
    each_at take k (sizes (counts_of s)) (holding lim s t) ∙ ap (take n) (holding-at lim s t k)
    ∙ take-append-le n (at k (tables_of lim s)) (drop (length (at k (tables_of lim s))) (at k t)) (omega arith)
    ∙ sym (each_at take k (sizes (counts_of s)) (tables_of lim s)) ∙ ap (at k) (tables-used lim s v))

-- what lies past the full sizes is untouched
pub holding-beyond : (lim : Limits) (s : State) (t : Tables) → Valid lim s → each drop (full_sizes lim) (holding lim s t) ≡ each drop (full_sizes lim) t
holding-beyond lim s t v =
    by-each _ _
    (λ k. each_at drop k (full_sizes lim) (holding lim s t) ∙ ap (drop (at k (full_sizes lim))) (holding-at lim s t k)
    ∙ over-drop (at k (tables_of lim s)) (at k t) (at k (full_sizes lim)) (tables-length lim s k v) ∙ sym (each_at drop k (full_sizes lim) t))

-- so what stood in the full sizes makes no difference
drop-each : (n : Lent ℕ) (t u : Tables) → each drop n t ≡ each drop n u → (k : Table) → drop (at k n) (at k t) ≡ drop (at k n) (at k u)
drop-each n t u e k = sym (each_at drop k n t) ∙ ap (at k) e ∙ each_at drop k n u

pub holding-by : (lim : Limits) (s : State) (t u : Tables) → Valid lim s → each drop (full_sizes lim) t ≡ each drop (full_sizes lim) u → holding lim s t ≡ holding lim s u
holding-by lim s t u v e =
    by-each _ _
    (λ k. holding-at lim s t k
    ∙ over_by (at k (tables_of lim s)) (at k t) (at k u) (at k (full_sizes lim)) (tables-length lim s k v) (drop-each (full_sizes lim) t u e k)
    ∙ sym (holding-at lim s u k))

-- the same of tables that are cleared: 0 up to the full sizes
module _ (lim : Limits) where
  zeros-length : (k : Table) → length (zeros (at k (full_sizes lim))) ≡ at k (full_sizes lim)
  zeros-length k = length-replicate {A = ℕ} (at k (full_sizes lim)) 0

  pub cleared-take : (t : Tables) → each take (full_sizes lim) (cleared lim t) ≡ each (λ n xs. zeros n) (full_sizes lim) t
  cleared-take t =
      by-each _ _
      (λ k. each_at take k (full_sizes lim) (cleared lim t) ∙ ap (take (at k (full_sizes lim))) (cleared_at lim t k)
      ∙ over-take (zeros (at k (full_sizes lim))) (at k t) (at k (full_sizes lim)) (zeros-length k)
      ∙ sym (each_at (λ n xs. zeros n) k (full_sizes lim) t))

  pub cleared-beyond : (t : Tables) → each drop (full_sizes lim) (cleared lim t) ≡ each drop (full_sizes lim) t
  cleared-beyond t =
      by-each _ _
      (λ k. each_at drop k (full_sizes lim) (cleared lim t) ∙ ap (drop (at k (full_sizes lim))) (cleared_at lim t k)
      ∙ over-drop (zeros (at k (full_sizes lim))) (at k t) (at k (full_sizes lim)) (zeros-length k) ∙ sym (each_at drop k (full_sizes lim) t))

  pub cleared_by : (t u : Tables) → each drop (full_sizes lim) t ≡ each drop (full_sizes lim) u → cleared lim t ≡ cleared lim u
  cleared_by t u e =
      by-each _ _
      (λ k. cleared_at lim t k
      ∙ over_by (zeros (at k (full_sizes lim))) (at k t) (at k u) (at k (full_sizes lim)) (zeros-length k) (drop-each (full_sizes lim) t u e k)
      ∙ sym (cleared_at lim u k))

-- what is written last stands alone
pub holding-again : (lim : Limits) (s r : State) (t : Tables) → Valid lim s → Valid lim r → holding lim s (holding lim r t) ≡ holding lim s t
holding-again lim s r t v w = holding-by lim s (holding lim r t) t v (holding-beyond lim r t w)

pub holding-cleared : (lim : Limits) (s : State) (t : Tables) → Valid lim s → holding lim s (cleared lim t) ≡ holding lim s t
holding-cleared lim s t v = holding-by lim s (cleared lim t) t v (cleared-beyond lim t)

pub cleared-again : (lim : Limits) (t : Tables) → cleared lim (cleared lim t) ≡ cleared lim t
cleared-again lim t = cleared_by lim (cleared lim t) t (cleared-beyond lim t)

-- two states written over the same tables: as long, and the same past the entries in use of both
module _ (lim : Limits) (s r : State) (t : Tables) (k : Table) (v : Valid lim s) (w : Valid lim r) where
  pub holding-sizes : length (at k (holding lim s t)) ≡ length (at k (holding lim r t))
  holding-sizes =
      ap length (holding-at lim s t k)
      ∙ over-sizes (at k (tables_of lim s)) (at k (tables_of lim r)) (at k t) (tables-length lim s k v ∙ sym (tables-length lim r k w))
      ∙ ap length (sym (holding-at lim r t k))

  pub holding-past : (j : ℕ) → at k (sizes (counts_of s)) ≤ j → at k (sizes (counts_of r)) ≤ j → get_or (at k (holding lim s t)) j 0 ≡ get_or (at k (holding lim r t)) j 0
  holding-past j ls lr =
      let a = in_use_lem lim s v k in
      let b = in_use_lem lim r w k in
      let c = sizes-fit lim (counts_of s) (valid-fit lim s v) k in
      let d = sizes-fit lim (counts_of r) (valid-fit lim r w) k in
      rw (holding-at lim s t k, holding-at lim r t k, tables-at lim s k, tables-at lim r k)
      (over-same (at k (full_sizes lim)) (at k (in_use s)) (at k (in_use r)) (at k t) j (omega arith) (omega arith) (omega arith) (omega arith))
