-- The mode acts on a walk through its choices alone: two orders of the same numbers that choose alike walk alike.
-- So an order without the fifth line, which chooses by the remainder (Modes), walks as document 01 says. Assumes nothing.
use Prim.Native.Nat.{ℕ, zero, suc}
use mathlib.Core.Path.{◌≡◌, refl, sym, ap, ap₂, ◌∙◌}
use mathlib.Core.Bool.{Bool, cond}
use mathlib.Core.List.{List, [], ◌∷◌}
use lib.ListN.{length}
use lib.Dec.{eqb, ltb}
use Rattle.draw.specs.declared.Drawn.{Drawn}
use Rattle.draw.specs.Draw.{choice_of, heads_of}
use Rattle.written.specs.declared.Order.{Order}
use Rattle.written.specs.Clauses.{File, State, as_read}
use Rattle.written.specs.Drawing.{Pick, choice, heads, entry_at, chosen_from}
use Rattle.written.specs.Walk.{Moment, Outcome, start, is_found, least_break, at_least, one_of, after_heads, literal_in, flip_picked, clause_picked, looked_at, in_clause, step, is_stuck, stuck_at, onwards, found_or, walks_from, walk_over}
use Rattle.laws.proofs.Modes.{remainder}

-- the same four numbers
pub record SameNumbers (o p : Order) : Type 0 where
  pub seed : o.seed ≡ p.seed
  pub flips : o.flips ≡ p.flips
  pub walks : o.walks ≡ p.walks
  pub bias : o.bias ≡ p.bias

module _ (o p : Order) (same : SameNumbers o p) (alike : (m y : ℕ) → choice o m y ≡ choice p m y) where
  from-alike : (xs : List ℕ) (y : ℕ) → chosen_from o xs y ≡ chosen_from p xs y
  unfolding chosen_from
  from-alike xs y = ap (entry_at xs) (alike (length xs) y)

  one_alike : (xs : List ℕ) (y : ℕ) → one_of o xs y ≡ one_of p xs y
  unfolding one_of
  one_alike [] y = refl
  one_alike (l ∷ []) y = refl
  one_alike (l ∷ k ∷ ls) y = from-alike (l ∷ k ∷ ls) y

  after-alike : (ls ties : List ℕ) (d : Drawn) → after_heads o ls ties d ≡ after_heads p ls ties d
  unfolding after_heads
  after-alike ls ties d = ap₂ {C = Pick} (cond (eqb d.number 1)) (from-alike ls d.next.state) (one_alike ties d.next.state)

  heads-alike : (y : ℕ) → heads o y ≡ heads p y
  unfolding heads
  heads-alike y = ap (λ (b : ℕ). heads_of b y) same.bias

  literal-alike : (s : State) (ls : List ℕ) (y : ℕ) → literal_in o s ls y ≡ literal_in p s ls y
  unfolding literal_in
  literal-alike s ls y =
      let ties : List ℕ = at_least s (least_break s ls) ls in
      ap₂ {C = Pick} (cond (ltb 0 (least_break s ls))) (ap (after_heads o ls ties) (heads-alike y) ∙ after-alike ls ties (heads p y)) (one_alike ties y)

  stuck-alike : (ms : List ℕ) (m : Moment) → is_stuck o ms m ≡ is_stuck p ms m
  unfolding is_stuck clause_picked
  stuck-alike ms m = ap (λ (c : Pick). eqb (length (looked_at ms m c)) 0) (from-alike m.state.uncovered m.generator)

  end-alike : (m : Moment) → stuck_at o m ≡ stuck_at p m
  unfolding stuck_at clause_picked
  end-alike m = ap (λ (c : Pick). record { state = m.state; generator = c.state; flips = m.flips }) (from-alike m.state.uncovered m.generator)

  step-alike : (ms : List ℕ) (m : Moment) → step o ms m ≡ step p ms m
  unfolding step in_clause clause_picked
  step-alike ms m =
      ap (in_clause o ms m) (from-alike m.state.uncovered m.generator)
      ∙ ap (flip_picked m) (literal-alike m.state _ _)

  onwards-alike : (ms : List ℕ) (k : ℕ) (m : Moment) → onwards o ms k m ≡ onwards p ms k m
  unfolding onwards
  onwards-alike ms zero m = refl
  onwards-alike ms (suc k) m =
      let goes : onwards o ms k (step o ms m) ≡ onwards p ms k (step p ms m) = ap (onwards o ms k) (step-alike ms m) ∙ onwards-alike ms k (step p ms m) in
      ap (cond (is_found m.state) m)
      (ap (λ (b : Bool). cond b (stuck_at o m) (onwards o ms k (step o ms m))) (stuck-alike ms m)
      ∙ ap₂ {C = Moment} (cond (is_stuck p ms m)) (end-alike m) goes)

  walks-alike : (ms : List ℕ) (k n : ℕ) (m : Moment) → walks_from o ms k n m ≡ walks_from p ms k n m
  unfolding walks_from
  walks-alike ms zero n m = refl
  walks-alike ms (suc k) n m =
      let e : Moment = onwards p ms p.flips (start ms m) in
      let ends : onwards o ms o.flips (start ms m) ≡ e = ap (λ (j : ℕ). onwards o ms j (start ms m)) same.flips ∙ onwards-alike ms p.flips (start ms m) in
      ap (λ (x : Moment). found_or (suc n) x (λ x. walks_from o ms k (suc n) x)) ends
      ∙ ap (λ (x : Outcome). found_or (suc n) e (λ _. x)) (walks-alike ms k (suc n) e)

  pub walk-alike : (ms : List ℕ) (f : File) → walk_over o ms f ≡ walk_over p ms f
  unfolding walk_over
  walk-alike ms f =
      ap₂ {C = Outcome} (λ k y. walks_from o ms k 0 (record { state = as_read f; generator = y; flips = 0 })) same.walks same.seed
      ∙ walks-alike ms p.walks 0 (record { state = as_read f; generator = p.seed; flips = 0 })

-- "Without the line all stays": a walk without it is that of any order of these numbers whose choices are document 01's
pub walk-stays : (o p : Order) → SameNumbers o p → o.even ≡ 0 → ((m y : ℕ) → choice p m y ≡ choice_of m y) → (ms : List ℕ) (f : File) → walk_over o ms f ≡ walk_over p ms f
walk-stays o p same off plain = walk-alike o p same (λ m y. remainder o m y off ∙ sym (plain m y))
