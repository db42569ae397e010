-- One clause touched by a flip: it can be touched, and the tables are then those of the standings with that clause's changed. Assumes nothing.
use mathlib.Core.Path.{◌≡◌, refl, ap, ◌∙◌, sym, subst}
use mathlib.Core.Bool.{true, cond}
use mathlib.Core.List.{List, map}
use Prim.Native.Nat.{ℕ, suc, ◌+◌, ◌-◌, ◌<◌}
use native.Mathlib.Omega.{arith}
use lib.ListN.{length, get_or, set}
use lib.Dec.{eqb}
use lib.Bits.{bit_xor}
use borrow.Author.Tests.{eq-eqb, ne_eqb}
use Rattle.written.specs.Lists.{total, has, differ}
use Rattle.written.specs.Clauses.{term_of}
use Rattle.written.specs.Flips.{leave, enter}
use Rattle.machine.specs.Literals.{xor_true}
use Rattle.machine.specs.Tallies.{Tallies, raised, lowered, gain_one, lose_one, CanGain, CanLose}
use Rattle.machine.proofs.Clause.{Turn, more, more_xor, less_xor, xor_none}
use Rattle.machine.proofs.Status.{Standing, fresh, status, breaks-keep, breaks-raise, breaks-lower}
use Rattle.machine.proofs.Steps.{gain_0, gain_1, gain_2, lose_1, lose_2, lose_3}
use Rattle.machine.proofs.Mid.{Mid, count_in, mid-keep, mid-leave, mid-enter, can-leave, can-enter, can-raise, can-lower}
use Rattle.laws.proofs.Basics.{by-eq}
use Rattle.laws.proofs.Lists.{kept_set}

-- a clause ls in which literal x stands
pub record Touched (top : ℕ) (a : ℕ → ℕ) (x T : ℕ) (ls : List ℕ) : Type 0 where
  pub once : differ (map term_of ls) ≡ true
  pub stands : has x ls ≡ true
  pub low : total a ls ≡ 1 → xor_true a ls < T
  pub short : total a ls + 1 < top

module _ {a b : ℕ → ℕ} {o : Tallies} {top x v T c : ℕ} {ls : List ℕ} (tn : Turn a b x v) (lv : v < T) (to : Touched top a x T ls)
    (sts : List Standing) (us : List ℕ) (t : Tallies) (h : Mid o T sts us t) (few : length sts + 1 < top) (lc : c < length sts) where
  more-count : total b ls ≡ suc (total a ls)
  more-count = more tn ls to.once to.stands

  more-xored : bit_xor (xor_true a ls) v ≡ xor_true b ls
  more-xored = sym (more_xor tn ls to.once to.stands)

  less_xored : bit_xor (xor_true b ls) v ≡ xor_true a ls
  less_xored = less_xor tn ls to.once to.stands

  xored-v : total a ls ≡ 0 → xor_true b ls ≡ v
  xored-v z = sym more-xored ∙ rw (xor_none a ls z)

  -- what the tables have of a clause that stands as the values val give it
  module _ (val : ℕ → ℕ) (now : get_or sts c fresh ≡ status val ls) where
    count-is : count_in sts c ≡ total val ls
    unfolding status
    count-is = ap (λ (s : Standing). s.count) now

    xored-is : (get_or sts c fresh).xored ≡ xor_true val ls
    unfolding status
    xored-is = ap (λ (s : Standing). s.xored) now

    trues-is : get_or t.trues c 0 ≡ total val ls
    trues-is = h.counts c lc ∙ count-is

    place_is : (total val ls ≡ 0 → ⊥) → get_or t.uncovered.places c 0 ≡ xor_true val ls
    place_is nz = h.list.covered c lc (λ q. nz (sym count-is ∙ q)) ∙ xored-is

  -- the clause gains x
  module _ (now : get_or sts c fresh ≡ status a ls) where
    pub gain_can : CanGain top v c t
    gain_can =
        record {
          place = let r = h.list.places-room in omega arith;
          term = let r = h.breaks.room in omega arith;
          count = let r = h.room in let e = trues-is a now in let s = to.short in record { within = omega arith; fits = omega arith };
          first = λ z. (can-raise o T sts us t h top few c lc v lv, can-leave o T sts us t h top few c lc (count-is a now ∙ sym (trues-is a now) ∙ z));
          second = λ z. let q : total a ls ≡ 1 = sym (trues-is a now) ∙ z in rw (place_is a now (λ y. omega arith)) (can-lower o T sts us t h top few c lc (xor_true a ls) (to.low q) (count-is a now ∙ q) (xored-is a now));
        }

    abbrev w : ℕ
    w = get_or t.uncovered.places c 0

    next-xored : (total a ls ≡ 0 → ⊥) → bit_xor w v ≡ xor_true b ls
    next-xored nz = ap (λ (y : ℕ). bit_xor y v) (place_is a now nz) ∙ more-xored

    pub gain_mid : Mid o T (set sts c (status b ls)) (cond (eqb (total a ls) 0) (leave c us) us) (gain_one v c t)
    unfolding status raised lowered
    gain_mid =
        let e = trues-is a now in
        let m = more-count in
        let k = count-is a now in
        by-eq (get_or t.trues c 0) 0
        (λ z.
        rw (eq-eqb (total a ls) 0 (omega arith)) (subst (Mid o T _ _) (gain_0 v c t z refl refl refl)
        (mid-leave o T sts us t h c lc (status b ls) (raised t.breaks v) (get_or t.trues c 0 + 1) (omega arith)
        (breaks-raise T sts t.breaks h.breaks c lc (status b ls) v lv (λ q. omega arith) (omega arith) (xored-v (omega arith)))
        (kept_set T t.breaks v (get_or t.breaks v 0 + 1) o.breaks lv h.kept.breaks-kept)
        v
        (sym (xored-v (omega arith)))
        (omega arith)
        (λ q. omega arith))))
        (λ nz.
        let pl = place_is a now (λ q. omega arith) in
        let nb = next-xored (λ q. omega arith) in
        by-eq (get_or t.trues c 0) 1
        (λ z.
        let low : w < T = rw pl (to.low (omega arith)) in
        rw (ne_eqb (total a ls) 0 (λ q. omega arith)) (subst (Mid o T _ _) (gain_1 v c t z refl refl refl)
        (mid-keep o T sts us t h c lc (status b ls) (lowered t.breaks w) (get_or t.trues c 0 + 1) (omega arith)
        (breaks-lower T sts t.breaks h.breaks c lc (status b ls) w low (omega arith) (xored-is a now ∙ sym pl) (λ q. omega arith))
        (kept_set T t.breaks w (get_or t.breaks w 0 - 1) o.breaks low h.kept.breaks-kept)
        (bit_xor w v)
        nb
        (λ q. omega arith)
        (λ q. omega arith))))
        (λ n1.
        rw (ne_eqb (total a ls) 0 (λ q. omega arith)) (subst (Mid o T _ _) (gain_2 v c t nz n1 refl refl refl)
        (mid-keep o T sts us t h c lc (status b ls) t.breaks (get_or t.trues c 0 + 1) (omega arith)
        (breaks-keep T sts t.breaks h.breaks c lc (status b ls) (λ q. omega arith) (λ q. omega arith))
        h.kept.breaks-kept
        (bit_xor w v)
        nb
        (λ q. omega arith)
        (λ q. omega arith)))))

  -- the clause loses x: what was b is now a
  module _ (now : get_or sts c fresh ≡ status b ls) where
    -- it has at least x
    place-was : bit_xor (get_or t.uncovered.places c 0) v ≡ xor_true a ls
    place-was = let m = more-count in ap (λ (y : ℕ). bit_xor y v) (place_is b now (λ q. omega arith)) ∙ less_xored

    pub lose_can : CanLose top v c t
    lose_can =
        let r = h.room in
        let e = trues-is b now in
        let m = more-count in
        let k = count-is b now in
        record {
          count = record { within = omega arith; some = omega arith };
          place = let r' = h.list.places-room in omega arith;
          term = let r' = h.breaks.room in omega arith;
          last = λ z. (can-lower o T sts us t h top few c lc v lv (omega arith) (xored-is b now ∙ xored-v (omega arith)), can-enter o T sts us t h top few c lc (λ q. omega arith));
          second = λ z. rw place-was (can-raise o T sts us t h top few c lc (xor_true a ls) (to.low (omega arith)));
        }

    abbrev w' : ℕ
    w' = bit_xor (get_or t.uncovered.places c 0) v

    pub lose_mid : Mid o T (set sts c (status a ls)) (cond (eqb (total a ls) 0) (enter c us) us) (lose_one v c t)
    unfolding status raised lowered
    lose_mid =
        let e = trues-is b now in
        let m = more-count in
        let k = count-is b now in
        let pl = place-was in
        by-eq (get_or t.trues c 0) 1
        (λ z.
        rw (eq-eqb (total a ls) 0 (omega arith)) (subst (Mid o T _ _) (lose_1 v c t z refl refl refl)
        (mid-enter o T sts us t h c lc (status a ls) (lowered t.breaks v) (get_or t.trues c 0 - 1) (omega arith)
        (breaks-lower T sts t.breaks h.breaks c lc (status a ls) v lv (omega arith) (xored-is b now ∙ xored-v (omega arith)) (λ q. omega arith))
        (kept_set T t.breaks v (get_or t.breaks v 0 - 1) o.breaks lv h.kept.breaks-kept)
        (λ q. omega arith)
        (omega arith))))
        (λ n1.
        by-eq (get_or t.trues c 0) 2
        (λ z.
        let low : w' < T = rw pl (to.low (omega arith)) in
        rw (ne_eqb (total a ls) 0 (λ q. omega arith)) (subst (Mid o T _ _) (lose_2 v c t z refl refl refl)
        (mid-keep o T sts us t h c lc (status a ls) (raised t.breaks w') (get_or t.trues c 0 - 1) (omega arith)
        (breaks-raise T sts t.breaks h.breaks c lc (status a ls) w' low (λ q. omega arith) (omega arith) (sym pl))
        (kept_set T t.breaks w' (get_or t.breaks w' 0 + 1) o.breaks low h.kept.breaks-kept)
        w'
        pl
        (λ q. omega arith)
        (λ q. omega arith))))
        (λ n2.
        rw (ne_eqb (total a ls) 0 (λ q. omega arith)) (subst (Mid o T _ _) (lose_3 v c t n1 n2 refl refl refl)
        (mid-keep o T sts us t h c lc (status a ls) t.breaks (get_or t.trues c 0 - 1) (omega arith)
        (breaks-keep T sts t.breaks h.breaks c lc (status a ls) (λ q. omega arith) (λ q. omega arith))
        h.kept.breaks-kept
        w'
        pl
        (λ q. omega arith)
        (λ q. omega arith)))))
