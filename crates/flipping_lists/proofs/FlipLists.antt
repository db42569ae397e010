-- A flip list on walking tables is the written one. Assumes nothing.
use mathlib.Core.Path.{◌≡◌, refl, ap}
use mathlib.Core.Bool.{Bool, true, ◌&&◌}
use mathlib.Core.List.{List, [], ◌∷◌}
use Prim.Native.Nat.{ℕ, ◌<◌}
use lib.ListN.{length}
use lib.Dec.{ltb}
use borrow.Author.Tests.{ltb-true}
use Rattle.std.specs.List.{list_all}
use Rattle.written.specs.Lists.{all, steps}
use Rattle.written.specs.Clauses.{State}
use Rattle.written.specs.Flips.{flip, flipped}
use Rattle.laws.proofs.Basics.{both_first, both-second}
use Rattle.laws.proofs.Turning.{turned-length}
use Rattle.machine.specs.Tallies.{CanSteps}
use Rattle.machine.specs.Moving.{Fixed, Moving, flip_term, CanFlip}
use Rattle.machine.specs.Holds.{Walking, Kept}
use Rattle.machine.proofs.Standings.{kept_refl, kept_trans}
use Rattle.machine.proofs.Law.{flip-can, flip-walking, flip-kept}

-- every term of the list is one of n
abbrev pub terms_of : ℕ → List ℕ → Bool
terms_of n ts = all (λ v. ltb v n) ts

module _ (v : ℕ) (ts : List ℕ) (s : State) (b : terms_of (length s.values) (v ∷ ts) ≡ true) where
  pub terms-first : v < length s.values
  terms-first = ltb-true v (length s.values) (both_first _ (terms_of (length s.values) ts) b)

  pub terms-rest : terms_of (length (flip v s).values) ts ≡ true
  unfolding flip
  terms-rest = rw (turned-length v s.values) (both-second (ltb v (length s.values)) _ b)

-- it can be made
pub flips-can : (top : ℕ) (ts : List ℕ) (s : State) (x : Fixed) (w : Moving) → Walking top s x w → terms_of (length s.values) ts ≡ true
    → CanSteps (CanFlip top x) (flip_term x) ts w
unfolding CanSteps
flips-can top [] s x w g b = tt
flips-can top (v ∷ ts) s x w g b = (
  flip-can top s x w g v (terms-first v ts s b),
  flips-can top ts (flip v s) x (flip_term x v w) (flip-walking top s x w g v (terms-first v ts s b)) (terms-rest v ts s b),
)

-- and leaves walking tables of the state that the written flips give
pub flips-walking : (top : ℕ) (ts : List ℕ) (s : State) (x : Fixed) (w : Moving) → Walking top s x w → terms_of (length s.values) ts ≡ true
    → Walking top (flipped ts s) x (steps (flip_term x) ts w)
unfolding flipped
flips-walking top [] s x w g b = g
flips-walking top (v ∷ ts) s x w g b =
    flips-walking top ts (flip v s) x (flip_term x v w) (flip-walking top s x w g v (terms-first v ts s b)) (terms-rest v ts s b)

-- what is past the entries in use stays
pub flips-kept : (top : ℕ) (ts : List ℕ) (s : State) (x : Fixed) (w : Moving) → Walking top s x w → terms_of (length s.values) ts ≡ true
    → Kept (length s.file.clauses) (length s.values) w.tallies (steps (flip_term x) ts w).tallies
unfolding flip
flips-kept top [] s x w g b = kept_refl (length s.file.clauses) (length s.values) w.tallies
flips-kept top (v ∷ ts) s x w g b =
    let l = terms-first v ts s b in
    let k = flips-kept top ts (flip v s) x (flip_term x v w) (flip-walking top s x w g v l) (terms-rest v ts s b) in
    kept_trans (flip-kept top s x w g v l) (rw (turned-length v s.values) at k)

-- the library's test of every entry is the document's
pub every-entry : (p : ℕ → Bool) (xs : List ℕ) → list_all p xs ≡ all p xs
every-entry p [] = refl
every-entry p (x ∷ xs) = ap (λ (b : Bool). p x && b) (every-entry p xs)
