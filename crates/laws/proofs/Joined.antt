-- Request 7: flip lists in turn are the joined list, the empty list changes nothing, and a list given twice brings all back but an order.
-- Assumes nothing.
use Prim.Native.Nat.{ℕ, ◌≤◌}
use mathlib.Core.Logic.{◌↔◌}
use mathlib.Core.Path.{◌≡◌, refl, ap, sym, subst, subst₂, ◌∙◌}
use mathlib.Core.Bool.{Bool, true}
use mathlib.Core.List.{List, [], ◌++◌}
use native.Mathlib.Omega.{arith}
use lib.ListN.{length, length-append}
use lib.Dec.{ltb}
use Rattle.std.specs.Prelude.{Result, Ok}
use Rattle.written.specs.declared.Refusal.{Refusal}
use Rattle.written.specs.declared.Counts.{Counts}
use Rattle.written.specs.Lists.{all}
use Rattle.written.specs.Limits.{Limits}
use Rattle.written.specs.Clauses.{State}
use Rattle.written.specs.Flips.{flipped}
use Rattle.written.specs.Tables.{Tables, counts_of, holding}
use Rattle.written.specs.Agreement.{state_in}
use Rattle.written.specs.Marks.{is_free, full_marked, agree_marked}
use Rattle.written.specs.Outcomes.{Leaves, leaves, flips_leave, flips_of}
use Rattle.laws.specs.Valid.{Valid}
use Rattle.laws.specs.Demands.{SameButOrder, Acceptable, SameButList}
use Rattle.laws.specs.Joined.{then_flips, AcceptableNext, BroughtBack}
use Rattle.laws.proofs.Basics.{both, both_first, both-second}
use Rattle.laws.proofs.All.{all_append}
use Rattle.laws.proofs.Flips.{flipped-file, flips-joined}
use Rattle.laws.proofs.Kept.{flipped-valid}
use Rattle.laws.proofs.AnyOrder.{twice_same}
use Rattle.laws.proofs.Holding.{holding-again}
use Rattle.laws.proofs.Back.{holding-back}
use Rattle.laws.proofs.Agreeing.{agree-holding}
use Rattle.laws.proofs.Stands.{stands_in_lem, stands-acceptable, same-file}
use Rattle.laws.proofs.FlipCalls.{tests, failed, passed, applied, left, tables-full, tables_agree, before-valid, before-counts, names-known, after-valid, after-marked}
use Rattle.laws.proofs.FlipCalls.{same-counts, same_tables}

-- ---- a list after an accepted list

module _ (lim : Limits) (xs : List ℕ) (n : Counts) (t : Tables) (ms : List ℕ) (h : Acceptable lim xs n t ms) where
  abbrev after : State
  after = flipped xs (state_in n t)

  valid : Valid lim after
  valid = after-valid lim xs n t ms h

  same-terms : (counts_of after).terms ≡ n.terms
  same-terms = (same-file lim n t after (tables_agree lim xs n t ms h) (tables-full lim xs n t ms h) (flipped-file xs (state_in n t))).terms

  -- the next list is asked no more than it would have been in the first one's place
  next-asked : (ys : List ℕ) → AcceptableNext lim ys (flips_of lim xs n t ms) ↔ Acceptable lim ys n t ms
  unfolding flips_leave
  next-asked ys =
      subst (λ (l : Leaves (Result Counts Refusal)). AcceptableNext lim ys l ↔ Acceptable lim ys n t ms) (sym (passed lim xs n t ms h)) (
        λ k. record { full = h.full; short = k.short; agrees = h.agrees; known = ap known-below (sym same-terms) ∙ k.known; free = k.free },
        λ k. stands-acceptable lim after t (counts_of after) (holding lim after t) ms
            (stands_in_lem lim after t ms valid (after-marked lim xs n t ms h) (tables-full lim xs n t ms h))
            ys
            k.short
            (ap known-below same-terms ∙ k.known)
            k.free,
      )
    where
      known-below : ℕ → Bool
      known-below m = all (λ v. ltb v m) ys

  both-valid : (ys : List ℕ) → Acceptable lim ys n t ms → Valid lim (flipped ys after)
  both-valid ys k = flipped-valid lim ys after valid (rw (flipped-file xs (state_in n t)) (names-known lim ys n t ms k))

  -- and it leaves the state after both
  in_turn : (ys : List ℕ) → Acceptable lim ys n t ms → then_flips lim ys (flips_of lim xs n t ms) ≡ flips_leave lim t ms (flipped ys after)
  unfolding flips_leave
  in_turn ys k =
      ap (then_flips lim ys) (passed lim xs n t ms h)
      ∙ passed lim ys (counts_of after) (holding lim after t) ms (subst (AcceptableNext lim ys) (passed lim xs n t ms h) ((next-asked ys).1 k))
      ∙ ap (λ s. flips_leave lim (holding lim after t) ms (flipped ys s)) (holding-back lim after t valid)
      ∙ ap (λ u. leaves (Ok (counts_of (flipped ys after))) u ms) (holding-again lim (flipped ys after) after t (both-valid ys k) valid)

-- ---- joined lists

module _ (lim : Limits) (xs ys : List ℕ) (n : Counts) (t : Tables) (ms : List ℕ) where
  -- a joined list is accepted exactly if both lists are, in turn, and it is within its limit
  pub joined-exactly : Acceptable lim (xs ++ ys) n t ms
      ↔ (Acceptable lim xs n t ms × AcceptableNext lim ys (flips_of lim xs n t ms) × (length (xs ++ ys) ≤ lim.list))
  joined-exactly = (
    λ k.
        let h = part k xs (omega (arith, length-append xs ys)) (first known k.known) (first (is_free ms) k.free) in
        let b = part k ys (omega (arith, length-append xs ys)) (second known k.known) (second (is_free ms) k.free) in
        (h, (next-asked lim xs n t ms h ys).1 b, k.short),
    λ k.
        let b = (next-asked lim xs n t ms k.0 ys).0 k.1 in
        record {
          full = k.0.full;
          short = k.2;
          agrees = k.0.agrees;
          known = all_append known xs ys ∙ both (all known xs) (all known ys) k.0.known b.known;
          free = all_append (is_free ms) xs ys ∙ both (all (is_free ms) xs) (all (is_free ms) ys) k.0.free b.free;
        },
  )
    where
      known : ℕ → Bool
      known v = ltb v n.terms

      first : (p : ℕ → Bool) → all p (xs ++ ys) ≡ true → all p xs ≡ true
      first p h = both_first (all p xs) (all p ys) (sym (all_append p xs ys) ∙ h)

      second : (p : ℕ → Bool) → all p (xs ++ ys) ≡ true → all p ys ≡ true
      second p h = both-second (all p xs) (all p ys) (sym (all_append p xs ys) ∙ h)

      -- a shorter list of known and free terms
      part : Acceptable lim (xs ++ ys) n t ms → (zs : List ℕ) → length zs ≤ length (xs ++ ys) → all known zs ≡ true → all (is_free ms) zs ≡ true → Acceptable lim zs n t ms
      part k zs shorter e g = record { full = k.full; short = omega (arith, k.short); agrees = k.agrees; known = e; free = g }

  -- "two accepted lists in turn leave what the joined list, if within its limit, leaves, uncovered order included"
  pub joined : Acceptable lim xs n t ms → AcceptableNext lim ys (flips_of lim xs n t ms) → length (xs ++ ys) ≤ lim.list
      → flips_of lim (xs ++ ys) n t ms ≡ then_flips lim ys (flips_of lim xs n t ms)
  joined h k short =
      passed lim (xs ++ ys) n t ms (joined-exactly.1 (h, k, short)) ∙ ap (flips_leave lim t ms) (flips-joined xs ys (state_in n t))
      ∙ sym (in_turn lim xs n t ms h ys ((next-asked lim xs n t ms h ys).0 k))

-- ---- the empty list

-- "the empty list changes nothing", whatever is lent and given
pub nothing_changes : (lim : Limits) (n : Counts) (t : Tables) (ms : List ℕ) → (flips_of lim [] n t ms).tables ≡ t
unfolding flipped
nothing_changes lim n t ms =
    tests lim [] n t ms (λ h. left lim [] n t ms h ∙ agree-holding lim n t (tables_agree lim [] n t ms h) (tables-full lim [] n t ms h))
    (λ r f. ap (λ (l : Leaves (Result Counts Refusal)). l.tables) (failed lim [] n t ms r f))

-- "the empty list is accepted" where tables are full and agree, and brings no other counts
pub nothing-applied : (lim : Limits) (n : Counts) (t : Tables) (ms : List ℕ) → full_marked lim t ms ≡ true → agree_marked lim n t ms ≡ true → (flips_of lim [] n t ms).answer ≡ Ok n
unfolding flipped
nothing-applied lim n t ms full ok =
    let h : Acceptable lim [] n t ms = record { full = full; short = omega arith; agrees = ok; known = refl; free = refl } in
    applied lim [] n t ms h ∙ ap Ok (before-counts lim [] n t ms h)

-- ---- a list given twice

-- "an accepted list given twice brings back every value, count and the uncovered set"
pub twice : (lim : Limits) (ts : List ℕ) (n : Counts) (t : Tables) (ms : List ℕ) → Acceptable lim ts n t ms → BroughtBack lim ts n t ms
unfolding flips_leave counts_of
twice lim ts n t ms h =
    record {
      counts = ap (λ (l : Leaves (Result Counts Refusal)). l.answer) out ∙ ap Ok (same-counts lim again s t valid-again valid-before same ∙ counted);
      tables = subst (λ u. SameButList n.uncovered u t) (sym (ap (λ (l : Leaves (Result Counts Refusal)). l.tables) out)) back;
    }
  where
    s : State
    s = state_in n t

    again : State
    again = flipped ts (flipped ts s)

    out : then_flips lim ts (flips_of lim ts n t ms) ≡ flips_leave lim t ms again
    out = in_turn lim ts n t ms h ts h

    counted : counts_of s ≡ n
    counted = before-counts lim ts n t ms h

    valid-before : Valid lim s
    valid-before = before-valid lim ts n t ms h

    valid-again : Valid lim again
    valid-again = both-valid lim ts n t ms h ts h

    same : SameButOrder again s
    same = twice_same lim ts s valid-before (names-known lim ts n t ms h)

    same_count : length again.uncovered ≡ n.uncovered
    same_count = same.uncovered-count ∙ ap (λ (m : Counts). m.uncovered) counted

    standing : holding lim s t ≡ t
    standing = agree-holding lim n t (tables_agree lim ts n t ms h) (tables-full lim ts n t ms h)

    back : SameButList n.uncovered (holding lim again t) t
    back = subst₂ (λ k u. SameButList k (holding lim again t) u) same_count standing (same_tables lim again s t valid-again valid-before same)
