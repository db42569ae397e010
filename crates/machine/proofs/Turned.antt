-- One term turned: its two literals change their values, and words that hold the values hold them turned. Assumes nothing.
use mathlib.Core.Path.{◌≡◌, ◌∙◌, sym}
use mathlib.Core.List.{List}
use Prim.Native.Nat.{ℕ, ◌/◌, ◌%◌, ◌<◌}
use native.Mathlib.Omega.{arith}
use lib.ListN.{length, get_or}
use Rattle.words.specs.Words.{bit_at, turn_at}
use Rattle.words.proofs.Laws.{bit_lt, turn-length, turn-same, turn-other}
use Rattle.written.specs.Clauses.{value_of}
use Rattle.written.specs.Flips.{turned, false_literal, true_literal}
use Rattle.laws.proofs.Basics.{by-eq}
use Rattle.laws.proofs.Turning.{turned-length, turned_same, turned-other}
use Rattle.laws.proofs.Literals.{false-is, true-is, value-other, false-term, true-term, true-before, false-before, true-after, false-after}
use Rattle.machine.specs.Moving.{up_of, down_of}
use Rattle.machine.specs.Holds.{HoldsValues}
use Rattle.machine.proofs.Clause.{Turn}

module _ (vs : List ℕ) (v : ℕ) (small : get_or vs v 0 < 2) (l : v < length vs) where
  -- the false literal becomes true
  pub turn_up : Turn (value_of vs) (value_of (turned v vs)) (false_literal vs v) v
  turn_up = record { off = value-other vs v; before = false-before vs v small; after = false-after vs v small l; term = false-term vs v small }

  -- and the true one false
  pub turn-down : Turn (value_of (turned v vs)) (value_of vs) (true_literal vs v) v
  turn-down = record { off = λ m n. sym (value-other vs v m n); before = true-after vs v small l; after = true-before vs v small; term = true-term vs v small }

-- words that hold the values
module _ (vs ws : List ℕ) (h : HoldsValues vs ws) where
  pub bit_small : (t : ℕ) → t < length vs → get_or vs t 0 < 2
  unfolding bit_at
  bit_small t l = rw (← h.values t l) (bit_lt _ (t % 32))

  module _ (v : ℕ) (l : v < length vs) where
    pub in_words : v / 32 < length ws
    in_words = let r = h.room in omega arith

    pub up_is : up_of ws v ≡ false_literal vs v
    unfolding up_of
    up_is = rw (h.values v l) (sym (false-is vs v (bit_small v l)))

    pub down_is : down_of ws v ≡ true_literal vs v
    unfolding down_of
    down_is = let b = bit_small v l in rw (h.values v l) (omega (arith, true-is vs v b))

    -- turned, they hold the values turned
    pub turned-values : HoldsValues (turned v vs) (turn_at ws v)
    turned-values =
        let n = turned-length v vs in
        record {
          room = omega (arith, h.room, turn-length ws v);
          values = λ t lt.
              by-eq t v
              (λ e. rw (e, turned_same v vs l, turn-same ws v in_words, h.values v l))
              (λ e. turn-other ws v t in_words e ∙ h.values t (omega arith) ∙ sym (turned-other v t vs e));
        }
