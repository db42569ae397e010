-- One clause counted: the tables of the clauses before it become those with it. Assumes nothing.
use mathlib.Core.Path.{◌≡◌, refl, ap, ◌∙◌, sym}
use mathlib.Core.Bool.{cond}
use mathlib.Core.List.{List, [], ◌∷◌, ◌++◌}
use Prim.Native.Nat.{ℕ, ◌+◌, ◌<◌}
use native.Mathlib.Omega.{arith}
use lib.ListN.{length, get_or, set, length-set, length-append, get_or-append}
use lib.Seq.{get_or-set_same, get_or-set_other, get_or_at, set_at, set-set}
use lib.Dec.{eqb}
use borrow.Author.Tests.{eq-eqb, ne_eqb}
use Rattle.written.specs.Lists.{total}
use Rattle.written.specs.Flips.{enter}
use Rattle.written.specs.Agreement.{part_of}
use Rattle.machine.specs.Literals.{xor_true}
use Rattle.machine.specs.Tallies.{Tallies, raised}
use Rattle.machine.specs.Moving.{View, CanRead, count_at, xor_at}
use Rattle.machine.specs.Passes.{count_one, CanCount}
use Rattle.machine.proofs.Status.{Standing, fresh, status, critical, bare, critical-off, bare-off, breaks-keep, breaks-raise}
use Rattle.machine.proofs.Mid.{Mid, count_in, mid-keep, mid-enter, can-enter, can-raise}
use Rattle.laws.proofs.Basics.{by-eq}
use Rattle.laws.proofs.Lists.{kept_set}
use Rattle.laws.proofs.Sums.{total_append}

-- one clause more, as if it had two true literals
module _ (o : Tallies) (T : ℕ) (pre : List Standing) (us : List ℕ) (t : Tallies) (h : Mid o T pre us t) (c : ℕ) (lp : length pre ≡ c)
    (rt : c < length t.trues) (ru : c < length t.uncovered.list) (rp : c < length t.uncovered.places)
    (z : get_or t.uncovered.list c 0 ≡ 0) where
  abbrev s₀ : Standing
  s₀ = record { count = 2; xored = get_or t.uncovered.places c 0 }

  abbrev wide : List Standing
  wide = pre ++ s₀ ∷ []

  abbrev t⁺ : Tallies
  t⁺ = record { trues = set t.trues c 2; breaks = t.breaks; uncovered = t.uncovered }

  len : length wide ≡ c + 1
  len = length-append pre (s₀ ∷ []) ∙ (let e : length pre + 1 ≡ c + 1 = omega arith in e)

  at_old : (d : ℕ) → d < c → get_or wide d fresh ≡ get_or pre d fresh
  at_old d l = get_or-append pre (s₀ ∷ []) fresh d (omega arith)

  at_new : get_or wide c fresh ≡ s₀
  at_new = get_or_at pre s₀ [] fresh c lp

  below : (d : ℕ) → d < length wide → (d ≡ c → ⊥) → d < c
  below d l n = let e = len in omega arith

  count-new : count_in wide c ≡ 2
  count-new = ap (λ (s : Standing). s.count) at_new

  count-old : (d : ℕ) → d < c → count_in wide d ≡ count_in pre d
  count-old d l = ap (λ (s : Standing). s.count) (at_old d l)

  not_new : (d : ℕ) → d ≡ c → count_in wide d ≡ 0 → ⊥
  not_new d q y = let x = sym y ∙ ap (count_in wide) q ∙ count-new in omega arith

  pub widened : Mid o T wide us t⁺
  widened =
      let e = len in
      record {
        room = simp length-set (omega arith);
        counts = λ d l.
            by-eq d c (λ q. rw (q, count-new) (get_or-set_same t.trues c 2 0 rt))
            (λ q. let b = below d l q in rw (count-old d b) (get_or-set_other t.trues c d 2 0 q ∙ h.counts d (omega arith)));
        breaks =
            record {
              room = h.breaks.room;
              all = λ w l. let e₁ = h.breaks.all w l in let e₂ = total_append (critical w) pre (s₀ ∷ []) in let e₃ = critical-off w s₀ (λ q. omega arith) in omega arith;
            };
        number = let e₁ = h.number in let e₂ = total_append bare pre (s₀ ∷ []) in let e₃ = bare-off s₀ (λ q. omega arith) in omega arith;
        list =
            record {
              fits = let f = h.list.fits in omega arith;
              list-room = omega arith;
              places-room = omega arith;
              within = λ j l. let f = h.list.within j l in omega arith;
              placed = h.list.placed;
              bare = λ j l. let f = h.list.within j l in count-old _ (omega arith) ∙ h.list.bare j l;
              low = λ d l y. by-eq d c (λ q. absurd (not_new d q y)) (λ q. let b = below d l q in h.list.low d (omega arith) (sym (count-old d b) ∙ y));
              found = λ d l y. by-eq d c (λ q. absurd (not_new d q y)) (λ q. let b = below d l q in h.list.found d (omega arith) (sym (count-old d b) ∙ y));
              covered = λ d l y.
                  by-eq d c
                  (λ q. rw q (sym (ap (λ (s : Standing). s.xored) at_new)))
                  (λ q.
                  let b = below d l q in
                  h.list.covered d (omega arith) (λ x. y (count-old d b ∙ x)) ∙ sym (ap (λ (s : Standing). s.xored) (at_old d b)));
              rest = λ j l lj. by-eq j c (λ q. rw q z) (λ q. let b = below j lj q in h.list.rest j l (omega arith));
            };
        front = h.front;
        kept =
            record {
              trues-kept = λ j l. get_or-set_other t.trues c j 2 0 (λ q. omega arith) ∙ h.kept.trues-kept j (omega arith);
              breaks-kept = h.kept.breaks-kept;
              list-kept = λ j l. h.kept.list-kept j (omega arith);
              places-kept = λ j l. h.kept.places-kept j (omega arith);
            };
      }

  lc : c < length wide
  lc = let e = len in omega arith

  old-count : (get_or wide c fresh).count ≡ 2
  old-count = count-new

  -- then counted
  module _ (f : View) (a : ℕ → ℕ) (ls : List ℕ) (low : total a ls ≡ 1 → xor_true a ls < T) (ek : count_at f c ≡ total a ls) (ew : xor_at f c ≡ xor_true a ls) where
    pub counted-one : Mid o T (pre ++ status a ls ∷ []) (cond (eqb (total a ls) 0) (enter c us) us) (count_one f c t)
    unfolding count_one status raised
    counted-one =
        let two = old-count in
        rw (ek, ew, ← set_at pre s₀ [] (status a ls) c lp, ← set-set t.trues c 2 (total a ls))
        (by-eq (total a ls) 0
        (λ q.
        rw (eq-eqb (total a ls) 0 q, ne_eqb (total a ls) 1 (λ y. omega arith))
        (mid-enter o T wide us t⁺ widened c lc (status a ls) t.breaks (total a ls) refl
        (breaks-keep T wide t.breaks widened.breaks c lc (status a ls) (λ y. omega arith) (λ y. omega arith))
        h.kept.breaks-kept
        (λ y. omega arith)
        q))
        (λ n0.
        by-eq (total a ls) 1
        (λ q.
        rw (ne_eqb (total a ls) 0 n0, eq-eqb (total a ls) 1 q)
        (mid-keep o T wide us t⁺ widened c lc (status a ls) (raised t.breaks (xor_true a ls)) (total a ls) refl
        (breaks-raise T wide t.breaks widened.breaks c lc (status a ls) (xor_true a ls) (low q) (λ y. omega arith) q refl)
        (kept_set T t.breaks (xor_true a ls) (get_or t.breaks (xor_true a ls) 0 + 1) o.breaks (low q) h.kept.breaks-kept)
        (xor_true a ls)
        refl
        (λ y. omega arith)
        n0))
        (λ n1.
        rw (ne_eqb (total a ls) 0 n0, ne_eqb (total a ls) 1 n1)
        (mid-keep o T wide us t⁺ widened c lc (status a ls) t.breaks (total a ls) refl
        (breaks-keep T wide t.breaks widened.breaks c lc (status a ls) (λ y. omega arith) n1)
        h.kept.breaks-kept
        (xor_true a ls)
        refl
        (λ y. omega arith)
        n0))))

    pub can-count : (top : ℕ) → c + 2 < top → CanRead f c → length (part_of f.starts f.literals c) < top → CanCount top f c t
    can-count top few r s =
        let e = len in
        let two = old-count in
        record {
          number = omega arith;
          read = r;
          short = s;
          count = rt;
          enter = can-enter o T wide us t⁺ widened top (omega arith) c lc (λ y. omega arith);
          one = λ q. rw ew (can-raise o T wide us t⁺ widened top (omega arith) c lc (xor_true a ls) (low (sym ek ∙ q)));
        }
