-- The passes over the tables: written tables made ready for walking and made written again, and counts worked out afresh. Assumes nothing.
use Rattle.std.specs.Prelude.{ℕ, zero, suc, ◌≤◌, ◌<◌, ◌≡◌, cond, List, length, get_or, set, eqb}
use Rattle.written.specs.Lists.{steps}
use Rattle.written.specs.Agreement.{part_of}
use Rattle.machine.specs.Uncovered.{marks, enters, CanEnter}
use Rattle.machine.specs.Tallies.{Tallies, tallies, raised, CanRaise, CanSteps}
use Rattle.machine.specs.Moving.{Fixed, Moving, moving, View, view, CanRead, count_at, xor_at, flip_term, CanFlip}

-- 0, 1 and on below n, one after the other
unfoldable pub up_to : {S : Type 0} → (ℕ → S → S) → ℕ → S → S
up_to g zero s = s
up_to g (suc n) s = g n (up_to g n s)

-- each entry below n becomes h of its number and what stood there
unfoldable pub rewritten : (ℕ → ℕ → ℕ) → ℕ → List ℕ → List ℕ
rewritten h n ps = up_to (λ c qs. set qs c (h c (get_or qs c 0))) n ps

-- the entries below n made z
unfoldable pub set_below : {A : Type 0} → A → ℕ → List A → List A
set_below z n xs = up_to (λ i ys. set ys i z) n xs

-- the entries below n made 0
abbrev pub zeroed : ℕ → List ℕ → List ℕ
zeroed n xs = set_below 0 n xs

-- ---- opening and closing

-- what walking has at the place of clause c, where p stood, and what stands there in written tables; ts are the true counts
unfoldable pub walk_place : View → List ℕ → ℕ → ℕ → ℕ
walk_place f ts c p = cond (eqb (get_or ts c 0) 0) p (xor_at f c)

unfoldable pub rest_place : List ℕ → ℕ → ℕ → ℕ
rest_place ts c p = cond (eqb (get_or ts c 0) 0) p 0

-- what the two passes over n clauses ask
pub record CanClose (n : ℕ) (ts ps : List ℕ) : Type 0 where
  pub counts : n ≤ length ts
  pub places : n ≤ length ps

pub record CanOpen (n : ℕ) (f : View) (ts ps : List ℕ) : Type 0 where
  pub rest : CanClose n ts ps
  pub read : (c : ℕ) → c < n → CanRead f c

-- the tables with other places
abbrev pub with_places : List ℕ → Moving → Moving
with_places ps w = moving w.words (tallies w.tallies.trues w.tallies.breaks w.tallies.uncovered.list ps w.tallies.uncovered.number)

-- written tables of n clauses made ready for walking, and made written again
unfoldable pub opened : ℕ → Fixed → Moving → Moving
opened n x w = with_places (rewritten (walk_place (view w.words x.starts x.literals) w.tallies.trues) n w.tallies.uncovered.places) w

unfoldable pub closed : ℕ → Moving → Moving
closed n w = with_places (rewritten (rest_place w.tallies.trues) n w.tallies.uncovered.places) w

-- a flip list on written tables of n clauses: opened, flipped and closed
unfoldable pub applied : ℕ → Fixed → List ℕ → Moving → Moving
applied n x ts w = closed n (steps (flip_term x) ts (opened n x w))

-- what it asks; top is 2 to the width of an entry
pub record CanApply (top n : ℕ) (x : Fixed) (ts : List ℕ) (w : Moving) : Type 0 where
  pub opens : CanOpen n (view w.words x.starts x.literals) w.tallies.trues w.tallies.uncovered.places
  pub flips : CanSteps (CanFlip top x) (flip_term x) ts (opened n x w)
  pub closes : CanClose n (steps (flip_term x) ts (opened n x w)).tallies.trues (steps (flip_term x) ts (opened n x w)).tallies.uncovered.places

-- ---- counting afresh

-- clause c counted
unfoldable pub count_one : View → ℕ → Tallies → Tallies
count_one f c t =
    record {
      trues = set t.trues c (count_at f c);
      breaks = cond (eqb (count_at f c) 1) (raised t.breaks (xor_at f c)) t.breaks;
      uncovered = cond (eqb (count_at f c) 0) (enters c t.uncovered) (marks c (xor_at f c) t.uncovered);
    }

-- what it asks; top is 2 to the width of an entry
pub record CanCount (top : ℕ) (f : View) (c : ℕ) (t : Tallies) : Type 0 where
  pub number : c < top
  pub read : CanRead f c
  pub short : length (part_of f.starts f.literals c) < top
  pub count : c < length t.trues
  pub enter : CanEnter top c t.uncovered
  pub one : count_at f c ≡ 1 → CanRaise top t.breaks (xor_at f c)

-- the tallies in which counting begins, for C clauses and T terms: no break, and an empty list
unfoldable pub blank : ℕ → ℕ → Tallies → Tallies
blank C T t = tallies t.trues (zeroed T t.breaks) (zeroed C t.uncovered.list) t.uncovered.places 0

-- the tallies of the first n clauses, counted into those
unfoldable pub counted : ℕ → View → Tallies → Tallies
counted n f t = up_to (count_one f) n t

-- what that asks: each clause can be counted as it comes
pub record CanCountAll (top n : ℕ) (f : View) (t : Tallies) : Type 0 where
  pub each : (c : ℕ) → c < n → CanCount top f c (counted c f t)

-- counts worked out afresh for C clauses and T terms
unfoldable pub recounted : ℕ → ℕ → Fixed → Moving → Moving
recounted C T x w = moving w.words (counted C (view w.words x.starts x.literals) (blank C T w.tallies))

-- what that asks: room for what is zeroed, and that the clauses can then be counted
pub record CanRecount (top C T : ℕ) (f : View) (t : Tallies) : Type 0 where
  pub breaks-room : T ≤ length t.breaks
  pub list-room : C ≤ length t.uncovered.list
  pub clauses : CanCountAll top C f (blank C T t)
