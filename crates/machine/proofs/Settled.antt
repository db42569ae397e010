-- A written state settles every entry: two tallies that hold it, as long and the same past the entries in use, are equal. Assumes nothing.
use mathlib.Core.Path.{◌≡◌, ap, ◌∙◌, sym}
use mathlib.Core.List.{[]}
use Prim.Native.Nat.{ℕ, ◌<◌}
use native.Mathlib.Omega.{arith}
use lib.ListN.{length, get_or}
use lib.Seq.{ext_get_or}
use Rattle.written.specs.Clauses.{State, true_count}
use Rattle.machine.specs.Tallies.{SameSizes}
use Rattle.machine.specs.Moving.{Fixed, Moving}
use Rattle.machine.specs.Holds.{HoldsAt, Kept}
use Rattle.laws.proofs.Basics.{by-eq, by-lt}
use Rattle.machine.proofs.Fronts.{front_at}

module _ (ρ : ℕ → ℕ) (top : ℕ) (s : State) (x y : Fixed) (w v : Moving) (a : HoldsAt ρ top s x w) (b : HoldsAt ρ top s y v)
    (z : SameSizes w.tallies v.tallies)
    (k : Kept (length s.file.clauses) (length s.values) v.tallies w.tallies) where
  abbrev C : ℕ
  C = length s.file.clauses

  trues-same : w.tallies.trues ≡ v.tallies.trues
  trues-same = ext_get_or 0 _ _ z.trues-size (λ i l. by-lt i C (λ q. a.trues i q ∙ sym (b.trues i q)) (λ q. k.trues-kept i q))

  breaks-same : w.tallies.breaks ≡ v.tallies.breaks
  breaks-same = ext_get_or 0 _ _ z.breaks-size (λ i l. by-lt i (length s.values) (λ q. a.breaks i q ∙ sym (b.breaks i q)) (λ q. k.breaks-kept i q))

  number_same : w.tallies.uncovered.number ≡ v.tallies.uncovered.number
  number_same = a.number ∙ sym b.number

  list_at : (i : ℕ) → get_or w.tallies.uncovered.list i 0 ≡ get_or v.tallies.uncovered.list i 0
  list_at i =
      let e = number_same in
      by-lt i w.tallies.uncovered.number
      (λ q.
      sym (front_at C _ ρ w.tallies.uncovered a.places s.uncovered a.list i q)
      ∙ front_at C _ ρ v.tallies.uncovered b.places s.uncovered b.list i (omega arith))
      (λ q. by-lt i C (λ l. a.places.rest i q l ∙ sym (b.places.rest i (omega arith) l)) (λ l. k.list-kept i l))

  places-at : (i : ℕ) → get_or w.tallies.uncovered.places i 0 ≡ get_or v.tallies.uncovered.places i 0
  places-at i =
      let e = number_same in
      by-lt i C
      (λ l.
      by-eq (true_count s.values (get_or s.file.clauses i [])) 0
      (λ q.
      let j = get_or w.tallies.uncovered.places i 0 in
      let lj : j < v.tallies.uncovered.number = let p = a.places.low i l q in omega arith in
      sym (b.places.placed j lj) ∙ ap (λ (c : ℕ). get_or v.tallies.uncovered.places c 0) (sym (list_at j) ∙ a.places.found i l q))
      (λ q. a.places.covered i l q ∙ sym (b.places.covered i l q)))
      (λ l. k.places-kept i l)

  list_same : w.tallies.uncovered.list ≡ v.tallies.uncovered.list
  list_same = ext_get_or 0 _ _ z.list-size (λ i l. list_at i)

  places_same : w.tallies.uncovered.places ≡ v.tallies.uncovered.places
  places_same = ext_get_or 0 _ _ z.places-size (λ i l. places-at i)

  pub settled : w.tallies ≡ v.tallies
  settled = λ i. record { trues = trues-same i; breaks = breaks-same i; uncovered = record { list = list_same i; places = places_same i; number = number_same i } }
