-- What a pass over a table leaves, and one entry of it. Assumes nothing.
use mathlib.Core.Path.{◌≡◌, refl, ap, ◌∙◌, sym}
use mathlib.Core.List.{List}
use Prim.Native.Nat.{ℕ, zero, suc, ◌+◌, ◌<◌, ◌≤◌}
use native.Mathlib.Numerals.{add-one}
use native.Mathlib.Omega.{arith}
use lib.ListN.{length, get_or, set, length-set}
use lib.Seq.{get_or-set_same, get_or-set_other, set-get_or}
use borrow.Author.Tests.{eq-eqb, ne_eqb}
use Rattle.machine.specs.Moving.{View, xor_at}
use Rattle.machine.specs.Passes.{up_to, rewritten, walk_place, rest_place}
use Rattle.laws.proofs.Basics.{by-eq}

-- what a pass leaves
module _ (h : ℕ → ℕ → ℕ) where
  pub length-rewritten : (n : ℕ) (ps : List ℕ) → length (rewritten h n ps) ≡ length ps
  unfolding rewritten up_to
  length-rewritten zero ps = refl
  length-rewritten (suc n) ps = length-set (rewritten h n ps) n _ ∙ length-rewritten n ps

  pub rewritten-past : (n : ℕ) (ps : List ℕ) (j : ℕ) → n ≤ j → get_or (rewritten h n ps) j 0 ≡ get_or ps j 0
  unfolding rewritten up_to
  rewritten-past zero ps j l = refl
  rewritten-past (suc n) ps j l = get_or-set_other (rewritten h n ps) n j _ 0 (λ q. omega arith) ∙ rewritten-past n ps j (omega arith)

  pub rewritten-at : (n : ℕ) (ps : List ℕ) (j : ℕ) → j < n → n ≤ length ps → get_or (rewritten h n ps) j 0 ≡ h j (get_or ps j 0)
  unfolding rewritten up_to
  rewritten-at zero ps j l r = let z : ⊥ = omega arith in absurd z
  rewritten-at (suc n) ps j l r =
      by-eq j n
      (λ q.
      let e = length-rewritten n ps in
      rw (q, get_or-set_same (rewritten h n ps) n (h n (get_or (rewritten h n ps) n 0)) 0 (omega arith), rewritten-past n ps n (omega arith)))
      (λ q. get_or-set_other (rewritten h n ps) n j _ 0 q ∙ rewritten-at n ps j (omega arith) (omega arith))

  pub rewritten-more : (i : ℕ) (ps qs rs : List ℕ) → qs ≡ rewritten h i ps → rs ≡ set qs i (h i (get_or qs i 0)) → rs ≡ rewritten h (i + 1) ps
  unfolding rewritten up_to
  rewritten-more i ps qs rs e f = rw (add-one, f, e)

  pub rewritten-none : (ps : List ℕ) → ps ≡ rewritten h 0 ps
  unfolding rewritten up_to
  rewritten-none ps = refl

  pub rewritten-end : (i n : ℕ) (ps qs : List ℕ) → qs ≡ rewritten h i ps → i ≤ n → n ≤ i → qs ≡ rewritten h n ps
  rewritten-end i n ps qs e l m = let q : i ≡ n = omega arith in e ∙ ap (λ (k : ℕ). rewritten h k ps) q

pub up_none : {S : Type 0} (g : ℕ → S → S) (s : S) → s ≡ up_to g 0 s
unfolding up_to
up_none g s = refl

pub up_more : {S : Type 0} (g : ℕ → S → S) (i : ℕ) (s t r : S) → t ≡ up_to g i s → r ≡ g i t → r ≡ up_to g (i + 1) s
unfolding up_to
up_more g i s t r e f = rw (add-one, f, e)

pub up-end : {S : Type 0} (g : ℕ → S → S) (i n : ℕ) (s t : S) → t ≡ up_to g i s → i ≤ n → n ≤ i → t ≡ up_to g n s
up-end g i n s t e l m = let q : i ≡ n = omega arith in e ∙ ap (λ (k : ℕ). up_to g k s) q

-- one entry of each pass
module _ (f : View) (ts ps : List ℕ) (c : ℕ) where
  pub walk-bare : get_or ts c 0 ≡ 0 → ps ≡ set ps c (walk_place f ts c (get_or ps c 0))
  unfolding walk_place
  walk-bare z = rw (eq-eqb _ 0 z) (sym (set-get_or ps c 0))

  pub walk-mark : {y : ℕ} → (get_or ts c 0 ≡ 0 → ⊥) → y ≡ xor_at f c → set ps c y ≡ set ps c (walk_place f ts c (get_or ps c 0))
  unfolding walk_place
  walk-mark nz e = rw (ne_eqb _ 0 nz, e)

module _ (ts ps : List ℕ) (c : ℕ) where
  pub rest-bare : get_or ts c 0 ≡ 0 → ps ≡ set ps c (rest_place ts c (get_or ps c 0))
  unfolding rest_place
  rest-bare z = rw (eq-eqb _ 0 z) (sym (set-get_or ps c 0))

  pub rest-mark : (get_or ts c 0 ≡ 0 → ⊥) → set ps c 0 ≡ set ps c (rest_place ts c (get_or ps c 0))
  unfolding rest_place
  rest-mark nz = rw (ne_eqb _ 0 nz)
