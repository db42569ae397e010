-- The two runs of a flip on tallies that are those of the values: they can be made, and give those of the values turned. Assumes nothing.
use mathlib.Core.Path.{◌≡◌, refl, ap, ◌∙◌, sym, subst}
use mathlib.Core.Bool.{true}
use mathlib.Core.List.{List, [], map}
use Prim.Native.Nat.{ℕ, ◌*◌, ◌<◌, ◌≤◌}
use native.Mathlib.Nat.{zero-add}
use native.Mathlib.Omega.{arith}
use lib.ListN.{length, get_or, set, length-map}
use lib.Dec.{ltb}
use Rattle.written.specs.Lists.{all, has, differ, steps}
use Rattle.written.specs.Clauses.{term_of, value_of, true_count, is_uncovered, occurrences_of}
use Rattle.written.specs.Flips.{turned, false_literal, true_literal, leave, enter, moved_if, after_leaving, after_entering}
use Rattle.laws.specs.Valid.{is_clause}
use Rattle.laws.proofs.Basics.{by_cases}
use Rattle.laws.proofs.Lists.{map-by}
use Rattle.laws.proofs.Sums.{total-most}
use Rattle.laws.proofs.All.{all_get_d}
use Rattle.laws.proofs.Membership.{differ-one}
use Rattle.laws.proofs.Literals.{value-le, without, total_kept}
use Rattle.laws.proofs.Sizes.{clause-below, clause_differs}
use Rattle.machine.specs.Tallies.{Tallies, CanSteps, CanGain, CanLose, gain_one, lose_one}
use Rattle.machine.specs.Moving.{Fixed}
use Rattle.machine.specs.Holds.{HoldsClauses}
use Rattle.machine.proofs.Clause.{Turn, more, same_xor, one-low}
use Rattle.machine.proofs.Status.{Standing, fresh, status}
use Rattle.machine.proofs.Mid.{Mid}
use Rattle.machine.proofs.Touch.{Touched, gain_can, gain_mid, lose_can, lose_mid}
use Rattle.machine.proofs.Pass.{AllFrom, all_from, passed, pass}
use Rattle.machine.proofs.Turned.{turn_up, turn-down}

-- the clauses of the tables
module _ (top T : ℕ) (cs : List (List ℕ)) (x : Fixed) (hd : HoldsClauses top T cs x) (c : ℕ) (lc : c < length cs) where
  valid : is_clause T (get_or cs c []) ≡ true
  valid = all_get_d (is_clause T) cs c [] lc hd.valid

  pub lits : all (λ l. ltb l (2 * T)) (get_or cs c []) ≡ true
  lits = clause-below T (get_or cs c []) valid

  once : differ (map term_of (get_or cs c [])) ≡ true
  once = clause_differs T (get_or cs c []) valid

  -- the clause can be touched where one of its literals turns
  touched : {a b : ℕ → ℕ} {y v : ℕ} → ((l : ℕ) → a l ≤ 1) → ((l : ℕ) → b l ≤ 1) → Turn a b y v → has y (get_or cs c []) ≡ true → Touched top a y T (get_or cs c [])
  touched {a} {b} {y} la lb tn hy =
      record {
        once = once;
        stands = hy;
        low = one-low a la T (get_or cs c []) lits;
        short =
            let e = more tn (get_or cs c []) once hy in
            let f = total-most b lb (get_or cs c []) in
            let s = hd.short c lc in
            omega arith;
      }

module _ (o : Tallies) (top : ℕ) (cs : List (List ℕ)) (vs : List ℕ) (x : Fixed) (hd : HoldsClauses top (length vs) cs x) (v : ℕ) (lv : v < length vs)
    (small : get_or vs v 0 < 2) where
  abbrev T : ℕ
  T = length vs

  abbrev vs' : List ℕ
  vs' = turned v vs

  abbrev up : ℕ
  up = false_literal vs v

  abbrev down : ℕ
  down = true_literal vs v

  abbrev A : List ℕ → Standing
  A = status (value_of vs)

  abbrev B : List ℕ → Standing
  B = status (value_of vs')

  abbrev Here : ℕ → List ℕ → Type 0
  Here i ls = (i < length cs) × (get_or cs i [] ≡ ls)

  all_here : AllFrom Here 0 cs
  all_here = all_from Here 0 cs (λ j l. (rw (zero-add j) l, ap (λ (n : ℕ). get_or cs n []) (zero-add j)))

  abbrev tu : Turn (value_of vs) (value_of vs') up v
  tu = turn_up vs v small lv

  abbrev td : Turn (value_of vs') (value_of vs) down v
  td = turn-down vs v small lv

  gain_law : (i : ℕ) (ls : List ℕ) → Here i ls → has up ls ≡ true → (sts : List Standing) (us : List ℕ) (t : Tallies) → Mid o T sts us t
      → length sts ≡ length cs → i < length sts → get_or sts i fresh ≡ A ls
      → CanGain top v i t × Mid o T (set sts i (B ls)) (moved_if leave vs cs i us) (gain_one v i t)
  unfolding moved_if is_uncovered true_count
  gain_law i ls p hu sts us t m len li now =
      let f = hd.few-clauses in
      let to : Touched top (value_of vs) up T ls =
      subst (λ (k : List ℕ). Touched top (value_of vs) up T k) p.1 (touched top T cs x hd i p.0 (value-le vs) (value-le vs') tu (rw p.1 hu)) in
      (gain_can tu lv to sts us t m (omega arith) li now, rw p.1 (gain_mid tu lv to sts us t m (omega arith) li now))

  lose_law : (i : ℕ) (ls : List ℕ) → Here i ls → has down ls ≡ true → (sts : List Standing) (us : List ℕ) (t : Tallies) → Mid o T sts us t
      → length sts ≡ length cs → i < length sts
      → get_or sts i fresh ≡ passed up A B ls → CanLose top v i t × Mid o T (set sts i (B ls)) (moved_if enter vs' cs i us) (lose_one v i t)
  unfolding passed moved_if is_uncovered true_count
  lose_law i ls p hu sts us t m len li now =
      let f = hd.few-clauses in
      let to : Touched top (value_of vs') down T ls =
      subst (λ (k : List ℕ). Touched top (value_of vs') down T k) p.1 (touched top T cs x hd i p.0 (value-le vs') (value-le vs) td (rw p.1 hu)) in
      let q : term_of up ≡ term_of down = tu.term ∙ sym td.term in
      let now' : get_or sts i fresh ≡ A ls = by_cases (has up ls) (λ e. absurd (omega (arith, ap (value_of vs) (differ-one term_of ls up down to.once e hu q), tu.before, td.after))) (λ e. rw e at now) in
      (lose_can td lv to sts us t m (omega arith) li now', rw p.1 (lose_mid td lv to sts us t m (omega arith) li now'))

  -- what stands after both runs is the standing at the turned values
  settled : (c : ℕ) → c < length cs → passed down (passed up A B) B (get_or cs c []) ≡ B (get_or cs c [])
  unfolding passed status
  settled c lc =
      let ls = get_or cs c [] in
      by_cases (has down ls)
      (λ e. rw e)
      (λ e.
      by_cases (has up ls)
      (λ e'. rw (e, e'))
      (λ e'.
      let none = without vs v ls small e' e in
      rw (e, e', ← total_kept (value_of vs) (value_of vs') v tu.off ls none, ← same_xor tu ls none)))

  module _ (us : List ℕ) (t : Tallies) (m : Mid o T (map A cs) us t) where
    abbrev gone : Tallies
    gone = steps (gain_one v) (occurrences_of cs up) t

    gains : CanSteps (CanGain top v) (gain_one v) (occurrences_of cs up) t × Mid o T (map (passed up A B) cs) (after_leaving cs vs v us) gone
    unfolding occurrences_of after_leaving
    gains = pass o T (length cs) up A B Here (CanGain top v) (gain_one v) (moved_if leave vs cs) gain_law 0 cs [] us t refl (length-map cs A) all_here m

    loses : CanSteps (CanLose top v) (lose_one v) (occurrences_of cs down) gone
        × Mid o T (map (passed down (passed up A B) B) cs) (after_entering cs vs v (after_leaving cs vs v us)) (steps (lose_one v) (occurrences_of cs down) gone)
    unfolding occurrences_of after_entering
    loses =
        pass o T (length cs) down (passed up A B) B Here (CanLose top v) (lose_one v) (moved_if enter vs' cs) lose_law 0 cs [] (after_leaving cs vs v us) gone refl
        (length-map cs (passed up A B)) all_here gains.1

    pub can_gain : CanSteps (CanGain top v) (gain_one v) (occurrences_of cs up) t
    can_gain = gains.0

    pub can_lose : CanSteps (CanLose top v) (lose_one v) (occurrences_of cs down) gone
    can_lose = loses.0

    pub mid-flip : Mid o T (map B cs) (after_entering cs vs v (after_leaving cs vs v us)) (steps (lose_one v) (occurrences_of cs down) gone)
    mid-flip = rw (← map-by (passed down (passed up A B) B) B cs [] settled) loses.1
