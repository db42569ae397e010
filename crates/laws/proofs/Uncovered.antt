-- A flip keeps the uncovered listed: which clauses leave the list and which enter. Assumes nothing.
use Prim.Native.Nat.{ℕ, ◌+◌, ◌≤◌, ◌<◌}
use mathlib.Core.Path.{◌≡◌, refl, ap, ◌∙◌}
use mathlib.Core.Bool.{Bool, true, false, cond, ◌&&◌}
use mathlib.Core.List.{List, [], ◌∷◌}
use native.Mathlib.Omega.{arith}
use native.Mathlib.Nat.{zero-add}
use lib.ListN.{length, get_or}
use lib.Dec.{eqb, ltb}
use Rattle.written.specs.Lists.{those, has, times, steps}
use Rattle.written.specs.Clauses.{State, is_uncovered, uncovered_in, occurrences_of}
use Rattle.written.specs.Flips.{turned, false_literal, true_literal, leave, enter, moved_if, after_leaving, after_entering, flip}
use Rattle.laws.specs.Valid.{Listed}
use Rattle.laws.proofs.Basics.{by_cases}
use Rattle.laws.proofs.Times.{times-those, times_where}
use Rattle.laws.proofs.Leaving.{total_leaving, total_entering}
use Rattle.laws.proofs.Literals.{covered-by, uncovered-kept, true-before, false-after}

-- the clauses that move are those of the run that are uncovered
pub moves_those : (move : ℕ → List ℕ → List ℕ) (vs : List ℕ) (cs : List (List ℕ)) (ds us : List ℕ)
    → steps (moved_if move vs cs) ds us ≡ steps move (those (λ c. is_uncovered vs (get_or cs c [])) ds) us
unfolding moved_if
moves_those move vs cs [] us = refl
moves_those move vs cs (d ∷ ds) us =
    by_cases (is_uncovered vs (get_or cs d [])) (λ e. rw e (moves_those move vs cs ds (move d us))) (λ e. rw e (moves_those move vs cs ds us))

-- how often clause c stands among the uncovered, and among those of a literal's run that are uncovered
pub times-uncovered : (vs : List ℕ) (cs : List (List ℕ)) (c : ℕ) → times c (uncovered_in vs cs) ≡ cond (ltb c (length cs) && is_uncovered vs (get_or cs c [])) 1 0
unfolding uncovered_in
times-uncovered vs cs c = rw zero-add at (times_where (is_uncovered vs) 0 c cs [])

pub times-moving : (vs : List ℕ) (cs : List (List ℕ)) (l c : ℕ)
    → times c (those (λ d. is_uncovered vs (get_or cs d [])) (occurrences_of cs l)) ≡ cond (is_uncovered vs (get_or cs c [])) (cond (ltb c (length cs) && has l (get_or cs c [])) 1 0) 0
unfolding occurrences_of
times-moving vs cs l c =
    times-those (λ d. is_uncovered vs (get_or cs d [])) c (occurrences_of cs l) ∙ ap (λ (n : ℕ). cond (is_uncovered vs (get_or cs c [])) n 0) (rw zero-add at (times_where (has l) 0 c cs []))

-- a clause of the run that is uncovered is listed; known: it is a clause of the file
stands : (known f before : Bool) → cond before (cond (known && f) 1 0) 0 ≤ cond (known && before) 1 0
stands known f false = omega arith
stands false f true = omega arith
stands true true true = omega arith
stands true false true = omega arith

-- how often clause c stands after the leaving, and after the entering
times_leaving : (cs : List (List ℕ)) (vs us : List ℕ) (t : ℕ) → ((c : ℕ) → times c us ≡ times c (uncovered_in vs cs)) → (c : ℕ)
    → times c (after_leaving cs vs t us) + cond (is_uncovered vs (get_or cs c [])) (cond (ltb c (length cs) && has (false_literal vs t) (get_or cs c [])) 1 0) 0 ≡ times c us
unfolding after_leaving
times_leaving cs vs us t h c =
    let f = false_literal vs t in
    let out = those (λ d. is_uncovered vs (get_or cs d [])) (occurrences_of cs f) in
    let fits : (d : ℕ) → times d out ≤ times d us =
    λ d.
    let a = times-moving vs cs f d in
    let b = times-uncovered vs cs d in
    let e = h d in
    let k = stands (ltb d (length cs)) (has f (get_or cs d [])) (is_uncovered vs (get_or cs d [])) in
    omega arith in
    let m = ap (times c) (moves_those leave vs cs (occurrences_of cs f) us) in
    let n = times-moving vs cs f c in
    let e = total_leaving (λ y. cond (eqb c y) 1 0) out us fits in
    omega arith

times_entering : (cs : List (List ℕ)) (vs us : List ℕ) (t c : ℕ)
    → times c (after_entering cs vs t us) ≡ times c us + cond (is_uncovered (turned t vs) (get_or cs c [])) (cond (ltb c (length cs) && has (true_literal vs t) (get_or cs c [])) 1 0) 0
unfolding after_entering
times_entering cs vs us t c =
    let g = true_literal vs t in
    let into = those (λ d. is_uncovered (turned t vs) (get_or cs d [])) (occurrences_of cs g) in
    let m = ap (times c) (moves_those enter (turned t vs) cs (occurrences_of cs g) us) in
    let n = times-moving (turned t vs) cs g c in
    let e = total_entering (λ y. cond (eqb c y) 1 0) into us in
    omega arith

-- what leaves and what enters makes up for what was and what is uncovered
counted : (known b : Bool) → ◌≡◌ {A = ℕ} (cond b (cond (known && true) 1 0) 0) (cond (known && b) 1 0)
counted true true = refl
counted true false = refl
counted false true = refl
counted false false = refl

uncounted : (known : Bool) → ◌≡◌ {A = ℕ} (cond (known && false) 1 0) 0
uncounted true = refl
uncounted false = refl

balance : (known f g before after : Bool) → (f ≡ true → after ≡ false) → (g ≡ true → before ≡ false) → (f ≡ false → g ≡ false → after ≡ before)
    → cond (known && after) 1 0 + cond before (cond (known && f) 1 0) 0 ≡ cond (known && before) 1 0 + cond after (cond (known && g) 1 0) 0
balance known false false before after h k e = rw (e refl refl)
balance known true g before after h k e = rw (h refl) (let x = counted known before in let y = uncounted known in omega arith)
balance known false true before after h k e = rw (k refl) (let x = counted known after in let y = uncounted known in omega arith)

-- a flip keeps the uncovered listed
pub flip-listed : (t : ℕ) (s : State) → get_or s.values t 0 < 2 → t < length s.values → Listed s → Listed (flip t s)
unfolding flip
flip-listed t s b l h = record { same-times = same }
  where
    same : (c : ℕ) → times c (flip t s).uncovered ≡ times c (uncovered_in (turned t s.values) s.file.clauses)
    same c =
        let vs = s.values in
        let cs = s.file.clauses in
        let ls = get_or cs c [] in
        let f = false_literal vs t in
        let g = true_literal vs t in
        let x = times_leaving cs vs s.uncovered t h.same-times c in
        let y = times_entering cs vs (after_leaving cs vs t s.uncovered) t c in
        let z = h.same-times c in
        let before = times-uncovered vs cs c in
        let after = times-uncovered (turned t vs) cs c in
        let e =
        balance (ltb c (length cs)) (has f ls) (has g ls) (is_uncovered vs ls) (is_uncovered (turned t vs) ls)
        (covered-by (turned t vs) f ls (false-after vs t b l))
        (covered-by vs g ls (true-before vs t b))
        (uncovered-kept vs t ls b) in
        omega arith
