-- Lists laid one after another beside the places where each begins: to cut and to join. Assumes nothing.
use Prim.Native.Nat.{ℕ, zero, suc, ◌+◌, ◌-◌, ◌≤◌, ◌<◌}
use mathlib.Core.Path.{◌≡◌, refl, ap, ap₂, sym, ◌∙◌}
use mathlib.Core.List.{List, [], ◌∷◌, ◌++◌, flatten, append_assoc}
use native.Mathlib.Numerals.{add-one}
use native.Mathlib.Omega.{arith}
use lib.ListN.{length, get_or, take, drop, length-append, length-drop, get_or-append}
use lib.Seq.{drop-cons, length-take-le, take-length, take-append_seam, drop-append-add, take-add, drop-drop}
use Rattle.written.specs.Lists.{total, list_from, list_of}
use Rattle.written.specs.Tables.{starts_from}
use Rattle.written.specs.Agreement.{part_of}
use Rattle.laws.proofs.Lists.{list_of-is}
use Rattle.laws.proofs.Sums.{total-next}

-- ---- lengths, and where parts begin

pub starts-length : (a : ℕ) (ps : List (List ℕ)) → length (starts_from a ps) ≡ length ps + 1
unfolding starts_from
starts-length a [] = refl
starts-length a (p ∷ ps) = let r = starts-length (a + length p) ps in omega arith

pub flatten-length : {A : Type 0} (ps : List (List A)) → length (flatten ps) ≡ total length ps
unfolding flatten
flatten-length [] = refl
flatten-length (p ∷ ps) = length-append p (flatten ps) ∙ ap (λ n. length p + n) (flatten-length ps)

-- part k begins where those before it end
pub starts-at : (a : ℕ) (ps : List (List ℕ)) (k : ℕ) → k ≤ length ps → get_or (starts_from a ps) k 0 ≡ a + total length (take k ps)
unfolding starts_from
starts-at a [] zero l = omega arith
starts-at a [] (suc k) l = absurd (omega arith)
starts-at a (p ∷ ps) zero l = omega arith
starts-at a (p ∷ ps) (suc k) l = let r = starts-at (a + length p) ps k (omega arith) in omega arith

pub starts_first : (a : ℕ) (ps : List (List ℕ)) → get_or (starts_from a ps) 0 0 ≡ a
starts_first a ps = let e = starts-at a ps 0 (omega arith) in omega arith

pub starts-step : (a : ℕ) (ps : List (List ℕ)) (k : ℕ) → k < length ps → get_or (starts_from a ps) (k + 1) 0 ≡ get_or (starts_from a ps) k 0 + length (get_or ps k [])
starts-step a ps k l =
    omega (arith, starts-at a ps k (omega arith), starts-at a ps (k + 1) (omega arith), ap (λ j. total length (take j ps)) (add-one k), total-next length ps k [] l)

pub starts-last : (a : ℕ) (ps : List (List ℕ)) → get_or (starts_from a ps) (length ps) 0 ≡ a + total length ps
starts-last a ps = starts-at a ps (length ps) (omega arith) ∙ ap (λ qs. a + total length qs) (take-length ps)

-- ---- to cut

cut-from : (a : ℕ) (ps : List (List ℕ)) (rest : List ℕ) (k : ℕ) → k < length ps
    → take (length (get_or ps k [])) (drop (get_or (starts_from a ps) k 0 - a) (flatten ps ++ rest)) ≡ get_or ps k []
unfolding starts_from flatten
cut-from a [] rest k l = absurd (omega arith)
cut-from a (p ∷ ps) rest zero l =
    let z : a - a ≡ 0 = omega arith in
    rw (z, append_assoc p (flatten ps) rest) (take-append_seam p (flatten ps ++ rest))
cut-from a (p ∷ ps) rest (suc k) l =
    let s = get_or (starts_from (a + length p) ps) k 0 in
    let z : s - a ≡ length p + (s - (a + length p)) = omega (arith, starts-at (a + length p) ps k (omega arith)) in
    rw (z, append_assoc p (flatten ps) rest, drop-append-add p (flatten ps ++ rest)) (cut-from (a + length p) ps rest k (omega arith))

-- the k-th of lists that are laid one after another, whatever follows
pub part-back : (ps : List (List ℕ)) (more rest : List ℕ) (k : ℕ) → k < length ps → part_of (starts_from 0 ps ++ more) (flatten ps ++ rest) k ≡ get_or ps k []
unfolding part_of
part-back ps more rest k l =
    let n = starts-length 0 ps in
    let a = get_or-append (starts_from 0 ps) more 0 k (omega arith) in
    let b = get_or-append (starts_from 0 ps) more 0 (k + 1) (omega arith) in
    let c = starts-step 0 ps k l in
    let e : get_or (starts_from 0 ps ++ more) (k + 1) 0 - get_or (starts_from 0 ps ++ more) k 0 ≡ length (get_or ps k []) = omega arith in
    let z : get_or (starts_from 0 ps ++ more) k 0 ≡ get_or (starts_from 0 ps) k 0 - 0 = omega arith in
    ap₂ {C = List ℕ} (λ m j. take m (drop j (flatten ps ++ rest))) e z ∙ cut-from 0 ps rest k l

pub parts-back : (ps : List (List ℕ)) (more rest : List ℕ) → list_of (length ps) (part_of (starts_from 0 ps ++ more) (flatten ps ++ rest)) ≡ ps
parts-back ps more rest = list_of-is (length ps) _ ps [] refl (part-back ps more rest)

-- ---- to join

pub part_length : (ss xs : List ℕ) (k : ℕ) → get_or ss (k + 1) 0 ≤ length xs → length (part_of ss xs k) ≡ get_or ss (k + 1) 0 - get_or ss k 0
unfolding part_of
part_length ss xs k h = length-take-le (get_or ss (k + 1) 0 - get_or ss k 0) (drop (get_or ss k 0) xs) (omega (arith, length-drop (get_or ss k 0) xs))

-- m starts that do not fall
pub up-to-last : (ss : List ℕ) (m : ℕ) → ((k : ℕ) → k < m → get_or ss k 0 ≤ get_or ss (k + 1) 0) → (i n : ℕ) → i + n ≡ m → get_or ss i 0 ≤ get_or ss m 0
up-to-last ss m rise i zero e = let z : i ≡ m = omega arith in rw z (omega arith)
up-to-last ss m rise i (suc n) e = omega (arith, rise i (omega arith), up-to-last ss m rise (i + 1) n (omega arith))

-- and the last within the entries
module _ (ss xs : List ℕ) (m : ℕ) (rise : (k : ℕ) → k < m → get_or ss k 0 ≤ get_or ss (k + 1) 0) (long : m < length ss) (room : get_or ss m 0 ≤ length xs) where
  join-starts : (i n : ℕ) → i + n ≡ m → starts_from (get_or ss i 0) (list_from i n (part_of ss xs)) ≡ take (suc n) (drop i ss)
  unfolding starts_from
  join-starts i zero e = rw (drop-cons ss i 0 (omega arith)) refl
  join-starts i (suc n) e =
      let u = up-to-last ss m rise (i + 1) n (omega arith) in
      let r = rise i (omega arith) in
      let p = part_length ss xs i (omega arith) in
      let q : get_or ss (i + 1) 0 ≡ get_or ss (suc i) 0 = ap (λ j. get_or ss j 0) (add-one i) in
      let z : get_or ss i 0 + length (part_of ss xs i) ≡ get_or ss (suc i) 0 = omega arith in
      rw (drop-cons ss i 0 (omega arith), z) (ap (λ (t : List ℕ). get_or ss i 0 ∷ t) (join-starts (suc i) n (omega arith)))

  join-entries : (i n : ℕ) → i + n ≡ m → flatten (list_from i n (part_of ss xs)) ≡ take (get_or ss m 0 - get_or ss i 0) (drop (get_or ss i 0) xs)
  unfolding flatten part_of
  join-entries i zero e = let z : i ≡ m = omega arith in let y : get_or ss m 0 - get_or ss m 0 ≡ 0 = omega arith in rw (z, y) refl
  join-entries i (suc n) e =
      let a = get_or ss i 0 in
      let b = get_or ss (i + 1) 0 in
      let d = get_or ss m 0 in
      let u = up-to-last ss m rise (i + 1) n (omega arith) in
      let r = rise i (omega arith) in
      let two : d - a ≡ (b - a) + (d - b) = omega arith in
      let ba : a + (b - a) ≡ b = omega arith in
      let q : get_or ss (suc i) 0 ≡ b = ap (λ j. get_or ss j 0) (sym (add-one i)) in
      ap (λ (t : List ℕ). take (b - a) (drop a xs) ++ t)
      (join-entries (suc i) n (omega arith) ∙ ap₂ {C = List ℕ} (λ j l. take (d - j) l) q (ap (λ j. drop j xs) (q ∙ sym ba) ∙ sym (drop-drop (b - a) a xs)))
      ∙ sym (take-add (b - a) (d - b) (drop a xs)) ∙ ap (λ j. take j (drop a xs)) (sym two)

  -- laid one after another again, the parts are what was cut
  pub parts-starts : get_or ss 0 0 ≡ 0 → starts_from 0 (list_of m (part_of ss xs)) ≡ take (m + 1) ss
  parts-starts z = ap (λ j. starts_from j (list_of m (part_of ss xs))) (sym z) ∙ join-starts 0 m (omega arith) ∙ ap (λ j. take j ss) (sym (add-one m))

  pub parts-entries : get_or ss 0 0 ≡ 0 → flatten (list_of m (part_of ss xs)) ≡ take (get_or ss m 0) xs
  parts-entries z =
      let y : get_or ss m 0 - 0 ≡ get_or ss m 0 = omega arith in
      join-entries 0 m (omega arith) ∙ (rw (z, y) refl)
