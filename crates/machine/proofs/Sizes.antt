-- What is done to the tables keeps their sizes. Assumes nothing.
use mathlib.Core.Path.{◌≡◌, refl, ◌∙◌}
use mathlib.Core.Bool.{Bool, cond}
use mathlib.Core.List.{List, [], ◌∷◌}
use Prim.Native.Nat.{ℕ, zero, suc}
use lib.ListN.{length, get_or, set, length-set}
use lib.Dec.{eqb}
use Rattle.written.specs.Lists.{steps}
use Rattle.written.specs.Agreement.{part_of}
use Rattle.laws.proofs.Basics.{by_cases}
use Rattle.machine.specs.Uncovered.{leaves, marks, enters}
use Rattle.machine.specs.Tallies.{Tallies, raised, lowered, gain_breaks, gain_one, lose_breaks, lose_one, SameSizes}
use Rattle.machine.specs.Moving.{Fixed, Moving, View, count_at, up_of, down_of, gained, lost, flip_term}
use Rattle.machine.specs.Passes.{up_to, rewritten, set_below, opened, closed, count_one, blank, counted, recounted}
use Rattle.machine.proofs.Rewritten.{length-rewritten}

pub sizes-refl : (t : Tallies) → SameSizes t t
sizes-refl t = record { trues-size = refl; breaks-size = refl; list-size = refl; places-size = refl }

pub sizes_trans : {t s r : Tallies} → SameSizes t s → SameSizes s r → SameSizes t r
sizes_trans a b =
    record {
      trues-size = a.trues-size ∙ b.trues-size;
      breaks-size = a.breaks-size ∙ b.breaks-size;
      list-size = a.list-size ∙ b.list-size;
      places-size = a.places-size ∙ b.places-size;
    }

-- one of two things of one size
either : {A : Type 0} (b : Bool) (xs ys zs : List A) → length xs ≡ length zs → length ys ≡ length zs → length (cond b xs ys) ≡ length zs
either b xs ys zs e f = by_cases b (λ q. rw q e) (λ q. rw q f)

-- ---- one clause

module _ (v c : ℕ) (t : Tallies) where
  abbrev n : ℕ
  n = get_or t.trues c 0

  pub gain_sizes : SameSizes (gain_one v c t) t
  unfolding gain_one gain_breaks raised lowered leaves marks
  gain_sizes =
      record {
        trues-size = length-set t.trues _ _;
        breaks-size = either (eqb n 0) _ _ t.breaks (length-set t.breaks _ _) (either (eqb n 1) _ _ t.breaks (length-set t.breaks _ _) refl);
        list-size = by_cases (eqb n 0) (λ e. rw e (length-set (set t.uncovered.list _ _) _ _ ∙ length-set t.uncovered.list _ _)) (λ e. rw e);
        places-size =
            by_cases (eqb n 0) (λ e. rw e (length-set (set t.uncovered.places _ _) _ _ ∙ length-set t.uncovered.places _ _)) (λ e. rw e (length-set t.uncovered.places _ _));
      }

  pub lose_sizes : SameSizes (lose_one v c t) t
  unfolding lose_one lose_breaks raised lowered enters marks
  lose_sizes =
      record {
        trues-size = length-set t.trues _ _;
        breaks-size = either (eqb n 1) _ _ t.breaks (length-set t.breaks _ _) (either (eqb n 2) _ _ t.breaks (length-set t.breaks _ _) refl);
        list-size = by_cases (eqb n 1) (λ e. rw e (length-set t.uncovered.list _ _)) (λ e. rw e);
        places-size = by_cases (eqb n 1) (λ e. rw e (length-set t.uncovered.places _ _)) (λ e. rw e (length-set t.uncovered.places _ _));
      }

pub count-sizes : (f : View) (c : ℕ) (t : Tallies) → SameSizes (count_one f c t) t
unfolding count_one raised enters marks
count-sizes f c t =
    record {
      trues-size = length-set t.trues c (count_at f c);
      breaks-size = either (eqb (count_at f c) 1) _ _ t.breaks (length-set t.breaks _ _) refl;
      list-size = by_cases (eqb (count_at f c) 0) (λ e. rw e (length-set t.uncovered.list _ _)) (λ e. rw e);
      places-size = by_cases (eqb (count_at f c) 0) (λ e. rw e (length-set t.uncovered.places _ _)) (λ e. rw e (length-set t.uncovered.places _ _));
    }

-- ---- runs and passes

pub steps-sizes : (g : ℕ → Tallies → Tallies) → ((c : ℕ) (t : Tallies) → SameSizes (g c t) t) → (run : List ℕ) (t : Tallies) → SameSizes (steps g run t) t
steps-sizes g h [] t = sizes-refl t
steps-sizes g h (c ∷ run) t = sizes_trans (steps-sizes g h run (g c t)) (h c t)

pub flip-sizes : (x : Fixed) (v : ℕ) (w : Moving) → SameSizes (flip_term x v w).tallies w.tallies
unfolding flip_term gained lost
flip-sizes x v w =
    sizes_trans (steps-sizes (lose_one v) (lose_sizes v) (part_of x.occurrence_starts x.occurrences (down_of w.words v)) (gained x v w.words w.tallies))
    (steps-sizes (gain_one v) (gain_sizes v) (part_of x.occurrence_starts x.occurrences (up_of w.words v)) w.tallies)

pub flips-sizes : (x : Fixed) (ts : List ℕ) (w : Moving) → SameSizes (steps (flip_term x) ts w).tallies w.tallies
flips-sizes x [] w = sizes-refl w.tallies
flips-sizes x (v ∷ ts) w = sizes_trans (flips-sizes x ts (flip_term x v w)) (flip-sizes x v w)

pub counted-sizes : (f : View) (n : ℕ) (t : Tallies) → SameSizes (counted n f t) t
unfolding counted up_to
counted-sizes f zero t = sizes-refl t
counted-sizes f (suc n) t = sizes_trans (count-sizes f n (counted n f t)) (counted-sizes f n t)

pub opened-sizes : (n : ℕ) (x : Fixed) (w : Moving) → SameSizes (opened n x w).tallies w.tallies
unfolding opened
opened-sizes n x w = record { trues-size = refl; breaks-size = refl; list-size = refl; places-size = length-rewritten _ n w.tallies.uncovered.places }

pub closed-sizes : (n : ℕ) (w : Moving) → SameSizes (closed n w).tallies w.tallies
unfolding closed
closed-sizes n w = record { trues-size = refl; breaks-size = refl; list-size = refl; places-size = length-rewritten _ n w.tallies.uncovered.places }

pub blank-sizes : (C T : ℕ) (t : Tallies) → SameSizes (blank C T t) t
unfolding blank set_below rewritten
blank-sizes C T t =
    record { trues-size = refl; breaks-size = length-rewritten (λ i p. 0) T t.breaks; list-size = length-rewritten (λ i p. 0) C t.uncovered.list; places-size = refl }

pub recounted-sizes : (C T : ℕ) (x : Fixed) (w : Moving) → SameSizes (recounted C T x w).tallies w.tallies
unfolding recounted
recounted-sizes C T x w = sizes_trans (counted-sizes _ C (blank C T w.tallies)) (blank-sizes C T w.tallies)
