-- Tables that begin with a list, with parts one after another or with value words: what is read from them. Assumes nothing.
use mathlib.Core.Path.{◌≡◌, ap}
use mathlib.Core.List.{List, [], ◌++◌, flatten, append_assoc}
use Prim.Native.Nat.{ℕ, ◌+◌, ◌-◌, ◌≤◌, ◌<◌}
use native.Mathlib.Omega.{arith}
use lib.ListN.{length, get_or, drop, length-append, get_or-append}
use lib.Seq.{take-length}
use Rattle.words.specs.Words.{word_count}
use Rattle.written.specs.Lists.{total, zeros, padded}
use Rattle.written.specs.Tables.{starts_from, words_of, over}
use Rattle.written.specs.Agreement.{part_of}
use Rattle.laws.specs.Valid.{Bits}
use Rattle.laws.proofs.Sums.{total-take}
use Rattle.laws.proofs.Parts.{starts-length, flatten-length, starts-at, starts-step, part-back}
use Rattle.laws.proofs.Values.{words-length, value-at}
use Rattle.machine.specs.Moving.{CanPart}
use Rattle.machine.specs.Holds.{HoldsValues}
use Rattle.machine.specs.Lent.{Begins}

module _ {xs ys : List ℕ} (b : Begins xs ys) where
  pub begins-length : length xs ≤ length ys
  begins-length = rw b.is (omega (arith, length-append xs b.rest))

  pub begins-at : (k : ℕ) → k < length xs → get_or ys k 0 ≡ get_or xs k 0
  begins-at k l = rw b.is (get_or-append xs b.rest 0 k l)

-- a list filled up, and written over another
module _ (n : ℕ) (xs : List ℕ) where
  pub over-begins : (old : List ℕ) → Begins xs (over (padded n xs) old)
  over-begins old = record { rest = zeros (n - length xs) ++ drop (length (padded n xs)) old; is = append_assoc xs (zeros (n - length xs)) _ }

-- parts that stand one after another: each can be read, and is itself
module _ (ps : List (List ℕ)) {ss xs : List ℕ} (bs : Begins (starts_from 0 ps) ss) (bx : Begins (flatten ps) xs) (k : ℕ) (l : k < length ps) where
  pub part-can : CanPart ss xs k
  part-can =
      let n = starts-length 0 ps in
      let b = begins-length bs in
      let c = begins-length bx in
      let from = begins-at bs k (omega arith) in
      let to = begins-at bs (k + 1) (omega arith) in
      let step = starts-step 0 ps k l in
      let end = starts-at 0 ps (k + 1) (omega arith) in
      let few = total-take length ps (k + 1) (length ps) (omega arith) in
      let all = ap (total length) (take-length ps) in
      record { start = omega arith; order = omega arith; within = omega (arith, flatten-length ps) }

  pub part-is : part_of ss xs k ≡ get_or ps k []
  part-is = rw (bs.is, bx.is) (part-back ps bs.rest bx.rest k l)

-- the words that are written for values hold them
pub words-hold : (vs : List ℕ) → Bits vs → {ws : List ℕ} → Begins (words_of vs) ws → HoldsValues vs ws
unfolding word_count
words-hold vs h b =
    record { room = omega (arith, words-length vs, begins-length b); values = λ t l. rw b.is (value-at vs b.rest t h l) }
