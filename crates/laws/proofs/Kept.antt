-- Flips of known terms keep a state valid. Assumes nothing.
use Prim.Native.Nat.{ℕ, ◌<◌}
use mathlib.Core.Path.{◌≡◌, ◌∙◌}
use mathlib.Core.Bool.{true}
use mathlib.Core.List.{List, [], ◌∷◌}
use native.Mathlib.Omega.{arith}
use lib.ListN.{length}
use lib.Dec.{ltb}
use borrow.Author.Tests.{ltb-true}
use Rattle.written.specs.Lists.{all}
use Rattle.written.specs.Limits.{Limits}
use Rattle.written.specs.Clauses.{State}
use Rattle.written.specs.Flips.{flip, flipped}
use Rattle.laws.specs.Valid.{Valid}
use Rattle.laws.proofs.Basics.{both_first, both-second}
use Rattle.laws.proofs.Turning.{bit_at_lem, turned-length, turned-bits}
use Rattle.laws.proofs.Uncovered.{flip-listed}

pub flip-valid : (lim : Limits) (t : ℕ) (s : State) → Valid lim s → t < length s.file.names → Valid lim (flip t s)
unfolding flip
flip-valid lim t s v l =
    let n = v.one_each in
    record {
      proper = v.proper;
      one_each = turned-length t s.values ∙ v.one_each;
      bits = turned-bits t s.values v.bits;
      listed = flip-listed t s (bit_at_lem s.values t v.bits) (omega arith) v.listed;
    }

pub flipped-valid : (lim : Limits) (ts : List ℕ) (s : State) → Valid lim s → all (λ t. ltb t (length s.file.names)) ts ≡ true → Valid lim (flipped ts s)
unfolding flipped flip
flipped-valid lim [] s v h = v
flipped-valid lim (t ∷ ts) s v h =
    let n = length s.file.names in
    let a = both_first (ltb t n) (all (λ u. ltb u n) ts) h in
    let b = both-second (ltb t n) (all (λ u. ltb u n) ts) h in
    flipped-valid lim ts (flip t s) (flip-valid lim t s v (ltb-true t n a)) b
