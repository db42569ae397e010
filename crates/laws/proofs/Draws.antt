-- What a draw keeps of the generator's state, every start and step of a walk keep: from a seed that is not 0 no walk comes to the state 0.
-- Assumes nothing.
use Prim.Native.Nat.{ℕ, zero, suc, ◌^◌, ◌<◌}
use mathlib.Core.Bool.{◌||◌}
use mathlib.Core.List.{List, [], ◌∷◌}
use lib.ListN.{length}
use lib.Dec.{eqb, ltb}
use Rattle.draw.specs.Xorshift.{next_of}
use Rattle.draw.specs.Draw.{heads_of}
use Rattle.draw.specs.declared.Drawn.{Drawn}
use Rattle.draw.proofs.Laws.{next-pos, next_fits}
use Rattle.words.specs.Words.{state_after, word_count}
use Rattle.written.specs.declared.Order.{Order}
use Rattle.written.specs.Clauses.{File, State}
use Rattle.written.specs.Drawing.{Pick, choice, heads, chosen_from, start_state}
use Rattle.written.specs.Walk.{Moment, start, step, least_break, at_least, one_of, after_heads, literal_in, flip_picked, clause_picked, in_clause, stuck_at, walk_over}
use Rattle.laws.proofs.Basics.{by_test}
use Rattle.laws.proofs.Walks.{begun}
use Rattle.laws.proofs.Endings.{walks-keep}
use Rattle.laws.proofs.Modes.{choice-state}

-- what every draw keeps, a choice, heads, the picked literal, a step, a start and the walks keep
module _ (P : ℕ → Type 0) (next : (y : ℕ) → P y → P (next_of y)) where
  pub after-keeps : (y k : ℕ) → P y → P (state_after y k)
  unfolding state_after
  after-keeps y zero h = h
  after-keeps y (suc k) h = next _ (after-keeps y k h)

  pub choice-keeps : (o : Order) (m y : ℕ) → P y → P (choice o m y).next.state
  choice-keeps o m y h = let d = choice-state o m y in rw d.state (after-keeps y d.draws h)

  pub heads-keeps : (bias y : ℕ) → P y → P (heads_of bias y).next.state
  unfolding heads_of
  heads-keeps bias y h = by_test (λ (d : Drawn). P d.next.state) (eqb y 0 || ltb 1000 bias) (λ _. h) (λ _. next y h)

  pub from-keeps : (o : Order) (xs : List ℕ) (y : ℕ) → P y → P (chosen_from o xs y).state
  unfolding chosen_from
  from-keeps o xs y h = choice-keeps o (length xs) y h

  pub one-keeps : (o : Order) (xs : List ℕ) (y : ℕ) → P y → P (one_of o xs y).state
  unfolding one_of
  one-keeps o [] y h = h
  one-keeps o (l ∷ []) y h = h
  one-keeps o (l ∷ k ∷ ls) y h = from-keeps o (l ∷ k ∷ ls) y h

  pub literal-keeps : (o : Order) (s : State) (ls : List ℕ) (y : ℕ) → P y → P (literal_in o s ls y).state
  unfolding literal_in after_heads heads
  literal-keeps o s ls y h =
      let ties : List ℕ = at_least s (least_break s ls) ls in
      let d : Drawn = heads_of o.bias y in
      let k : P d.next.state = heads-keeps o.bias y h in
      by_test (λ (p : Pick). P p.state) (ltb 0 (least_break s ls))
      (λ _. by_test (λ (p : Pick). P p.state) (eqb d.number 1) (λ _. from-keeps o ls d.next.state k) (λ _. one-keeps o ties d.next.state k))
      (λ _. one-keeps o ties y h)

  pub step_keeps : (o : Order) (ms : List ℕ) (m : Moment) → P m.generator → P (step o ms m).generator
  unfolding step in_clause flip_picked clause_picked
  step_keeps o ms m h = literal-keeps o m.state _ _ (from-keeps o m.state.uncovered m.generator h)

  -- "if the chosen clause has none": its draw was made
  pub stuck_keeps : (o : Order) (m : Moment) → P m.generator → P (stuck_at o m).generator
  unfolding stuck_at clause_picked
  stuck_keeps o m h = from-keeps o m.state.uncovered m.generator h

  pub start-keeps : (ms : List ℕ) (m : Moment) → P m.generator → P (start ms m).generator
  unfolding start start_state
  start-keeps ms m h = after-keeps m.generator (word_count (length m.state.file.names)) h

  pub end-keeps : (o : Order) (ms : List ℕ) (f : File) → P o.seed → P (walk_over o ms f).last.generator
  unfolding walk_over
  end-keeps o ms f h =
      walks-keep (λ m. P m.generator) o ms (λ m q r k. step_keeps o ms m k) (stuck_keeps o) (start-keeps ms) o.walks 0 (begun o f) h

-- ---- the state is not 0: each move of a walk from such a state leaves one

pub literal-pos : (o : Order) (s : State) (ls : List ℕ) (y : ℕ) → 0 < y → 0 < (literal_in o s ls y).state
literal-pos = literal-keeps (λ y. 0 < y) next-pos

-- from a seed that is not 0 the walks end at a state that is not 0
pub end-pos : (o : Order) (ms : List ℕ) (f : File) → 0 < o.seed → 0 < (walk_over o ms f).last.generator
end-pos = end-keeps (λ y. 0 < y) next-pos

-- and the state of 32 bits stays one
pub end_fits : (o : Order) (ms : List ℕ) (f : File) → o.seed < 2 ^ 32 → (walk_over o ms f).last.generator < 2 ^ 32
end_fits = end-keeps (λ y. y < 2 ^ 32) next_fits
