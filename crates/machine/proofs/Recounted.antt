-- Counts worked out afresh leave walking tables of the file at the values, the uncovered list rising. Assumes nothing.
use mathlib.Core.Path.{◌≡◌, refl, ◌∙◌}
use mathlib.Core.Bool.{cond}
use mathlib.Core.List.{List, [], ◌∷◌, map}
use Prim.Native.Nat.{ℕ, zero, suc, ◌<◌, ◌≤◌}
use native.Mathlib.Nat.{zero-add}
use native.Mathlib.Omega.{arith}
use lib.ListN.{length, get_or, take, length-map}
use lib.Seq.{take-suc, take-length, length-take-le}
use lib.Dec.{eqb}
use Rattle.written.specs.Lists.{total}
use Rattle.written.specs.Clauses.{File, State, value_of, true_count, is_uncovered, uncovered_in, afresh}
use Rattle.written.specs.Flips.{enter}
use Rattle.laws.proofs.Lists.{map_append, where_snoc}
use Rattle.laws.proofs.Literals.{value-le}
use Rattle.machine.specs.Literals.{xor_true}
use Rattle.machine.specs.Tallies.{Tallies, SameSizes}
use Rattle.machine.specs.Moving.{Fixed, Moving, moving, View, view, count_at, xor_at}
use Rattle.machine.specs.Passes.{up_to, rewritten, set_below, CanCount, blank, counted, CanRecount, recounted}
use Rattle.machine.specs.Holds.{HoldsValues, HoldsAt, Ready, Walking, Kept}
use Rattle.machine.proofs.Clause.{one-low}
use Rattle.machine.proofs.Status.{Standing, status}
use Rattle.machine.proofs.Mid.{Mid}
use Rattle.machine.proofs.Flipped.{lits}
use Rattle.machine.proofs.Standings.{kept_refl, kept_trans, from-mid}
use Rattle.machine.proofs.Rewritten.{length-rewritten, rewritten-past, rewritten-at}
use Rattle.machine.proofs.Sizes.{counted-sizes}
use Rattle.machine.proofs.Opened.{count_at_lem, xor_at_lem, can-read}
use Rattle.machine.proofs.Counted.{counted-one, can-count}

-- the uncovered clauses with one clause more
uncovered-more : (vs : List ℕ) (cs : List (List ℕ)) (n : ℕ) → n < length cs
    → uncovered_in vs (take (suc n) cs) ≡ cond (eqb (total (value_of vs) (get_or cs n [])) 0) (enter n (uncovered_in vs (take n cs))) (uncovered_in vs (take n cs))
unfolding uncovered_in is_uncovered true_count enter
uncovered-more vs cs n l =
    rw (take-suc cs n [] l, where_snoc (is_uncovered vs) 0 (take n cs) (get_or cs n []), length-take-le n cs (let k : n ≤ length cs = omega arith in k), zero-add n)

module _ (top : ℕ) (f : File) (vs : List ℕ) (x : Fixed) (w : Moving) (g : Ready top f vs x w) where
  abbrev cs : List (List ℕ)
  cs = f.clauses

  abbrev T : ℕ
  T = length vs

  abbrev A : List ℕ → Standing
  A = status (value_of vs)

  abbrev read : View
  read = view w.words x.starts x.literals

  abbrev none : Tallies
  none = blank (length cs) T w.tallies

  abbrev at : ℕ → Tallies
  at n = counted n read none

  sizes : (n : ℕ) → SameSizes (at n) none
  sizes n = counted-sizes read n none

  start : Mid none T [] [] none
  unfolding blank set_below rewritten
  start =
      record {
        room = omega arith;
        counts = λ c l. absurd (omega arith);
        breaks =
            record {
              room = rw (length-rewritten (λ i p. 0) T w.tallies.breaks) g.breaks-room;
              all = λ v l. rewritten-at (λ i p. 0) T w.tallies.breaks v l g.breaks-room;
            };
        number = refl;
        list =
            record {
              fits = omega arith;
              list-room = omega arith;
              places-room = omega arith;
              within = λ j l. absurd (omega arith);
              placed = λ j l. absurd (omega arith);
              bare = λ j l. absurd (omega arith);
              low = λ d l y. absurd (omega arith);
              found = λ d l y. absurd (omega arith);
              covered = λ d l y. absurd (omega arith);
              rest = λ j l lj. absurd (omega arith);
            };
        front = refl;
        kept = kept_refl 0 T none;
      }

  -- one clause more
  module _ (n : ℕ) (l : n < length cs) (m : Mid none T (map A (take n cs)) (uncovered_in vs (take n cs)) (at n)) where
    pre : length (map A (take n cs)) ≡ n
    pre = length-map (take n cs) A ∙ length-take-le n cs (omega arith)

    trues-here : n < length (at n).trues
    unfolding blank
    trues-here = let e = (sizes n).trues-size in let r = g.trues-room in omega arith

    list-here : n < length (at n).uncovered.list
    unfolding blank set_below rewritten
    list-here = let e = (sizes n).list-size in let z = length-rewritten (λ i p. 0) (length cs) w.tallies.uncovered.list in let r = g.list-room in omega arith

    places-here : n < length (at n).uncovered.places
    unfolding blank
    places-here = let e = (sizes n).places-size in let r = g.places-room in omega arith

    zero-here : get_or (at n).uncovered.list n 0 ≡ 0
    unfolding blank set_below rewritten
    zero-here = m.kept.list-kept n (let e = pre in omega arith) ∙ rewritten-at (λ i p. 0) (length cs) w.tallies.uncovered.list n l g.list-room

    low-here : total (value_of vs) (get_or cs n []) ≡ 1 → xor_true (value_of vs) (get_or cs n []) < T
    low-here = one-low (value_of vs) (value-le vs) T (get_or cs n []) (lits top T cs x g.holds n l)

    count-here : count_at read n ≡ total (value_of vs) (get_or cs n [])
    count-here = count_at_lem top cs vs w.words x g.holds g.words n l

    xor_here : xor_at read n ≡ xor_true (value_of vs) (get_or cs n [])
    xor_here = xor_at_lem top cs vs w.words x g.holds g.words n l

    next : Mid none T (map A (take (suc n) cs)) (uncovered_in vs (take (suc n) cs)) (at (suc n))
    unfolding counted up_to
    next =
        rw (uncovered-more vs cs n l, take-suc cs n [] l, map_append A (take n cs) (get_or cs n [] ∷ []))
        (counted-one none T (map A (take n cs)) (uncovered_in vs (take n cs)) (at n) m n pre trues-here list-here places-here zero-here
        read (value_of vs) (get_or cs n []) low-here count-here xor_here)

    can : CanCount top read n (at n)
    can =
        let few = g.holds.few-clauses in
        can-count none T (map A (take n cs)) (uncovered_in vs (take n cs)) (at n) m n pre trues-here list-here places-here zero-here
        read (value_of vs) (get_or cs n []) low-here count-here xor_here top (omega arith)
        (can-read top cs vs w.words x g.holds g.words n l)
        (rw (g.holds.clause n l) (g.holds.short n l))

  passed : (n : ℕ) → n ≤ length cs → Mid none T (map A (take n cs)) (uncovered_in vs (take n cs)) (at n)
  unfolding uncovered_in counted up_to
  passed zero l = start
  passed (suc n) l = next n l (passed n (omega arith))

  -- each clause can be counted
  pub count-can : (c : ℕ) → c < length cs → CanCount top read c (at c)
  count-can c l = can c l (passed c (omega arith))

  pub recount_can : CanRecount top (length cs) T read w.tallies
  recount_can = record { breaks-room = g.breaks-room; list-room = g.list-room; clauses = record { each = count-can } }

  whole-mid : Mid none T (map A cs) (uncovered_in vs cs) (at (length cs))
  whole-mid = rw (take-length cs) at (passed (length cs) (omega arith))

  -- and all of them counted are walking tables
  pub recounted-walking : Walking top (afresh f vs) x (recounted (length cs) T x w)
  unfolding afresh recounted
  recounted-walking = from-mid top (afresh f vs) x (recounted (length cs) T x w) g.holds g.words whole-mid

  -- what is past the entries in use stays
  blank-kept : Kept (length cs) T w.tallies none
  unfolding blank set_below rewritten
  blank-kept =
      record {
        trues-kept = λ j l. refl;
        breaks-kept = λ j l. rewritten-past (λ i p. 0) T w.tallies.breaks j l;
        list-kept = λ j l. rewritten-past (λ i p. 0) (length cs) w.tallies.uncovered.list j l;
        places-kept = λ j l. refl;
      }

  pub recounted-kept : Kept (length cs) T w.tallies (recounted (length cs) T x w).tallies
  unfolding recounted
  recounted-kept = kept_trans blank-kept (rw (length-map cs A) at whole-mid.kept)

-- tables that hold a state are ready for other values of its file
pub agree-ready : (ρ : ℕ → ℕ) (top : ℕ) (s : State) (x : Fixed) (w : Moving) → HoldsAt ρ top s x w → (vs ws : List ℕ) → length vs ≡ length s.values
    → HoldsValues vs ws
    → Ready top s.file vs x (moving ws w.tallies)
agree-ready ρ top s x w g vs ws e v =
    record {
      holds = rw e g.holds;
      words = v;
      trues-room = g.trues-room;
      breaks-room = rw e g.breaks-room;
      list-room = g.places.list-room;
      places-room = g.places.places-room;
    }
