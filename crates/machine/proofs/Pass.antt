-- A run of steps over the clauses in which a literal stands: the tables go from one list of standings to another. One law for both kinds of step.
-- Assumes nothing.
use mathlib.Core.Path.{◌≡◌, ap, ◌∙◌, sym, subst}
use mathlib.Core.Bool.{true, cond}
use mathlib.Core.List.{List, [], ◌∷◌, ◌++◌, map, append_assoc}
use Prim.Native.Nat.{ℕ, suc, ◌+◌, ◌<◌}
use native.Mathlib.Omega.{arith}
use native.Mathlib.Nat.{add-zero}
use lib.ListN.{length, get_or, set, length-append}
use lib.Seq.{get_or_at, set_at}
use Rattle.written.specs.Lists.{has, where_from, steps}
use Rattle.laws.proofs.Basics.{by_cases}
use Rattle.machine.specs.Tallies.{Tallies, CanSteps}
use Rattle.machine.proofs.Status.{Standing, fresh}
use Rattle.machine.proofs.Mid.{Mid}

-- what holds of each clause with its number, the first of which is i
unfoldable pub AllFrom : (ℕ → List ℕ → Type 0) → ℕ → List (List ℕ) → Type 0
AllFrom P i [] = Unit {0}
AllFrom P i (ls ∷ cs) = P i ls × AllFrom P (suc i) cs

pub all_from : (P : ℕ → List ℕ → Type 0) (i : ℕ) (cs : List (List ℕ)) → ((j : ℕ) → j < length cs → P (i + j) (get_or cs j [])) → AllFrom P i cs
unfolding AllFrom
all_from P i [] h = tt
all_from P i (ls ∷ cs) h = (
  subst (λ (n : ℕ). P n ls) (add-zero i) (h 0 (omega arith)),
  all_from P (suc i) cs (λ j l. subst (λ (n : ℕ). P n (get_or cs j [])) (let e : i + suc j ≡ suc i + j = omega arith in e) (h (suc j) (omega arith))),
)

-- the standings after the run: `to` for a clause in which x stands, else as before
unfoldable pub passed : ℕ → (List ℕ → Standing) → (List ℕ → Standing) → List ℕ → Standing
passed x from to ls = cond (has x ls) (to ls) (from ls)

module _ (o : Tallies) (T N x : ℕ) (from to : List ℕ → Standing) (P : ℕ → List ℕ → Type 0) (can : ℕ → Tallies → Type 0) (g : ℕ → Tallies → Tallies)
    (f : ℕ → List ℕ → List ℕ)
    (law : (i : ℕ) (ls : List ℕ) → P i ls → has x ls ≡ true → (sts : List Standing) (us : List ℕ) (t : Tallies) → Mid o T sts us t
    → length sts ≡ N → i < length sts → get_or sts i fresh ≡ from ls → can i t × Mid o T (set sts i (to ls)) (f i us) (g i t)) where
  pub pass : (i : ℕ) (cs : List (List ℕ)) (pre : List Standing) (us : List ℕ) (t : Tallies) → length pre ≡ i → length (pre ++ map from cs) ≡ N
      → AllFrom P i cs → Mid o T (pre ++ map from cs) us t
      → CanSteps can g (where_from i (has x) cs) t
      × Mid o T (pre ++ map (passed x from to) cs) (steps f (where_from i (has x) cs) us) (steps g (where_from i (has x) cs) t)
  unfolding AllFrom CanSteps passed
  pass i [] pre us t lp len h m = (tt, m)
  pass i (ls ∷ cs) pre us t lp len h m =
      let after : (s : Standing) → length (pre ++ s ∷ []) ≡ suc i = λ s. length-append pre (s ∷ []) ∙ (let e : length pre + 1 ≡ suc i = omega arith in e) in
      let group : (s : Standing) (ss : List Standing) → (pre ++ s ∷ []) ++ ss ≡ pre ++ s ∷ ss = λ s ss. append_assoc pre (s ∷ []) ss in
      let size : (s s' : Standing) → length (pre ++ s' ∷ map from cs) ≡ N → length ((pre ++ s ∷ []) ++ map from cs) ≡ N =
      λ s s' e. ap length (group s (map from cs)) ∙ length-append pre (s ∷ map from cs) ∙ sym (length-append pre (s' ∷ map from cs)) ∙ e in
      let long : length (pre ++ from ls ∷ map from cs) ≡ length pre + length (from ls ∷ map from cs) = length-append pre (from ls ∷ map from cs) in
      by_cases (has x ls)
      (λ e.
      let r = law i ls h.0 e (pre ++ from ls ∷ map from cs) us t m len (omega arith) (get_or_at pre (from ls) (map from cs) fresh i lp) in
      let m' : Mid o T ((pre ++ to ls ∷ []) ++ map from cs) (f i us) (g i t) =
      rw (group (to ls) (map from cs)) (rw (set_at pre (from ls) (map from cs) (to ls) i lp) at r.1) in
      let q = pass (suc i) cs (pre ++ to ls ∷ []) (f i us) (g i t) (after (to ls)) (size (to ls) (from ls) len) h.1 m' in
      rw e ((r.0, q.0), rw (group (to ls) (map (passed x from to) cs)) at q.1))
      (λ e.
      let m' : Mid o T ((pre ++ from ls ∷ []) ++ map from cs) us t = rw (group (from ls) (map from cs)) m in
      let q = pass (suc i) cs (pre ++ from ls ∷ []) us t (after (from ls)) (size (from ls) (from ls) len) h.1 m' in
      rw e (q.0, rw (group (from ls) (map (passed x from to) cs)) at q.1))
