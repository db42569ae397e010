-- The uncovered list as it is written: where its clauses stand, and that it is so again as one leaves or enters; what stands past the clauses is kept.
-- Assumes nothing.
use mathlib.Core.Path.{◌≡◌, ap, ◌∙◌, sym}
use mathlib.Core.List.{List}
use Prim.Native.Nat.{ℕ, ◌-◌, ◌≤◌, ◌<◌}
use native.Mathlib.Omega.{arith}
use native.Mathlib.Numerals.{add-one}
use lib.ListN.{length, get_or, set, take}
use lib.Seq.{length-take-le, get_or-take, take-set-le, take-set-lt, take-take, take-suc-set}
use Rattle.written.specs.Lists.{place_of, times}
use Rattle.written.specs.Flips.{leave, enter}
use Rattle.machine.specs.Uncovered.{Uncovered, leaves, enters}
use Rattle.machine.specs.Holds.{Placed}
use Rattle.laws.proofs.Lists.{kept_set}
use Rattle.laws.proofs.Times.{times-once, place_of-once}

-- us is the uncovered list as it is written
module _ (C : ℕ) (κ ρ : ℕ → ℕ) (u : Uncovered) (h : Placed C κ ρ u) (us : List ℕ) (f : take u.number u.list ≡ us) where
  pub front-size : length us ≡ u.number
  front-size = ap length (sym f) ∙ length-take-le u.number u.list (omega (arith, h.fits, h.list-room))

  pub front_at : (j : ℕ) → j < u.number → get_or us j 0 ≡ get_or u.list j 0
  front_at j l = ap (λ (x : List ℕ). get_or x j 0) (sym f) ∙ get_or-take u.number u.list j 0 l

  -- an uncovered clause stands there once, at its place
  module _ (c : ℕ) (lc : c < C) (z : κ c ≡ 0) where
    abbrev p : ℕ
    p = get_or u.places c 0

    within : p < length us
    within = rw front-size (h.low c lc z)

    at_place : get_or us p 0 ≡ c
    at_place = front_at p (h.low c lc z) ∙ h.found c lc z

    pub front-once : times c us ≡ 1
    front-once =
        times-once c us p within at_place
        (λ j l e.
        let l' : j < u.number = rw front-size at l in
        sym (h.placed j l') ∙ ap (λ (d : ℕ). get_or u.places d 0) (sym (front_at j l') ∙ e))

    front-place : place_of c us ≡ p
    front-place = ap (λ (d : ℕ). place_of d us) (sym at_place) ∙ place_of-once us p within (ap (λ (d : ℕ). times d us) at_place ∙ front-once)

  -- as a clause leaves or enters
  pub front-leave : (c y : ℕ) → c < C → κ c ≡ 0 → take (leaves c y u).number (leaves c y u).list ≡ leave c us
  unfolding leaves leave
  front-leave c y lc z =
      let p = get_or u.places c 0 in
      let e = get_or u.list (u.number - 1) 0 in
      let lp = h.low c lc z in
      let le : u.number - 1 < u.number = omega arith in
      let m : u.number - 1 ≤ u.number = omega arith in
      take-set-le (u.number - 1) (set u.list p e) (u.number - 1) 0 (omega arith)
      ∙ sym (take-take (u.number - 1) u.number (set u.list p e) m)
      ∙ ap (take (u.number - 1)) (take-set-lt u.number u.list p e lp ∙ ap (λ (l : List ℕ). set l p e) f)
      ∙ rw (front-size, front-place c lc z, front_at (u.number - 1) le)

  pub front-enter : (c : ℕ) → u.number < C → take (enters c u).number (enters c u).list ≡ enter c us
  unfolding enters enter
  front-enter c l = let r = h.list-room in rw (add-one, take-suc-set u.list u.number c (omega arith), f)

-- entries past the clauses stay
module _ (C : ℕ) (κ ρ : ℕ → ℕ) (u : Uncovered) (h : Placed C κ ρ u) (c y : ℕ) (lc : c < C) (os : List ℕ) where
  pub leave-list-kept : κ c ≡ 0 → ((j : ℕ) → C ≤ j → get_or u.list j 0 ≡ get_or os j 0) → (j : ℕ) → C ≤ j → get_or (leaves c y u).list j 0 ≡ get_or os j 0
  unfolding leaves
  leave-list-kept z k =
      let l = h.low c lc z in
      let f = h.fits in
      kept_set C (set u.list (get_or u.places c 0) (get_or u.list (u.number - 1) 0)) (u.number - 1) 0 os (omega arith)
      (kept_set C u.list (get_or u.places c 0) (get_or u.list (u.number - 1) 0) os (omega arith) k)

  pub leave-places-kept : κ c ≡ 0 → ((j : ℕ) → C ≤ j → get_or u.places j 0 ≡ get_or os j 0) → (j : ℕ) → C ≤ j → get_or (leaves c y u).places j 0 ≡ get_or os j 0
  unfolding leaves
  leave-places-kept z k =
      let l = h.low c lc z in
      kept_set C (set u.places (get_or u.list (u.number - 1) 0) (get_or u.places c 0)) c y os lc
      (kept_set C u.places (get_or u.list (u.number - 1) 0) (get_or u.places c 0) os (h.within (u.number - 1) (omega arith)) k)

  pub enter-list-kept : u.number < C → ((j : ℕ) → C ≤ j → get_or u.list j 0 ≡ get_or os j 0) → (j : ℕ) → C ≤ j → get_or (enters c u).list j 0 ≡ get_or os j 0
  unfolding enters
  enter-list-kept l k = kept_set C u.list u.number c os l k

  pub enter-places-kept : ((j : ℕ) → C ≤ j → get_or u.places j 0 ≡ get_or os j 0) → (j : ℕ) → C ≤ j → get_or (enters c u).places j 0 ≡ get_or os j 0
  unfolding enters
  enter-places-kept k = kept_set C u.places c u.number os lc k
