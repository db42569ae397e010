-- The rest of a table past the entries in use, and the spare bits of the value words. Assumes nothing.
use Prim.Native.Nat.{ℕ, ◌+◌, ◌-◌, ◌*◌, ◌/◌, ◌%◌, ◌^◌, ◌≤◌, ◌<◌, zero-le}
use mathlib.Core.Path.{◌≡◌, refl, ap, sym, ◌∙◌}
use mathlib.Core.Bool.{Bool, true, ◌&&◌}
use mathlib.Core.List.{List}
use native.Mathlib.Omega.{arith}
use native.Mathlib.Nat.{div-lt_iff_lt-mul, le_antisymm, mod-eq_of_lt, one-mul}
use lib.ListN.{length, get_or, take, drop, length-take, length-drop, get_or-eq_default}
use lib.Seq.{get_or-take, length-take-le}
use lib.Pow.{pow_pos, pow_mono}
use lib.Bits.{bit_or, or_add_and, or_zero_l, and_le_l, and_le_r}
use lib.Dec.{eqb, ltb}
use borrow.Author.Tests.{eqb-true, eq-eqb}
use Rattle.words.specs.Words.{bit_at, bit_of, word_count}
use Rattle.words.proofs.Laws.{bit_cleared, bit_past}
use Rattle.written.specs.Lists.{all, below, same, list_of}
use Rattle.written.specs.Tables.{word_of, words_of}
use Rattle.laws.proofs.Basics.{by-lt, both, both_first, both-second, same-eq, same_tests}
use Rattle.laws.proofs.All.{same_refl, all_take, all_drop}
use Rattle.laws.proofs.Lists.{list_from-length, get_or-list_of, list_of-is, drop-take}
use Rattle.laws.proofs.Values.{word_at, word_lt, words_back, values-bits}
use Rattle.machine.specs.Judging.{rest_right, spare_right, values_in}
use Rattle.laws.proofs.Tests.{all-places, all-next}

-- entries joined by `or` are 0 exactly if each is
or_none : (a b : ℕ) → eqb (bit_or a b) 0 ≡ (eqb a 0 && eqb b 0)
or_none a b =
    same_tests _ _
    (λ h. let e = eqb-true (bit_or a b) 0 h in let s = or_add_and a b in let l = and_le_l a b in let r = and_le_r a b in
    both _ _ (eq-eqb a 0 (omega arith)) (eq-eqb b 0 (omega arith)))
    (λ h. rw (eqb-true a 0 (both_first (eqb a 0) _ h), eqb-true b 0 (both-second (eqb a 0) _ h)) (eq-eqb (bit_or 0 0) 0 (or_zero_l 0)))

-- i entries were joined to y
pub record Joined (xs : List ℕ) (y i : ℕ) : Type 0 where
  pub within : i ≤ length xs
  pub none : eqb y 0 ≡ all (λ k. eqb (get_or xs k 0) 0) (below i)

pub none-joined : (xs : List ℕ) → Joined xs 0 0
none-joined xs = record { within = zero-le; none = refl }

pub one-joined : (xs : List ℕ) (y i : ℕ) → Joined xs y i → i < length xs → Joined xs (bit_or y (get_or xs i 0)) (i + 1)
one-joined xs y i j l =
    record {
      within = omega arith;
      none = or_none y (get_or xs i 0) ∙ ap (λ (b : Bool). b && eqb (get_or xs i 0) 0) j.none ∙ sym (all-next (λ k. eqb (get_or xs k 0) 0) i);
    }

pub all-joined : (xs : List ℕ) (y i : ℕ) → Joined xs y i → length xs ≤ i → eqb y 0 ≡ all (λ x. eqb x 0) xs
all-joined xs y i j l =
    j.none ∙ ap (λ (n : ℕ). all (λ k. eqb (get_or xs k 0) 0) (below n)) (le_antisymm j.within l) ∙ sym (all-places (λ x. eqb x 0) xs 0)

-- the rest, lent as a part
pub rest-is : (a b : ℕ) (xs : List ℕ) {r : Bool} → r ≡ all (λ x. eqb x 0) (take (b - a) (drop a xs)) → r ≡ rest_right a b xs
unfolding rest_right
rest-is a b xs e = e ∙ ap (all (λ x. eqb x 0)) (sym (drop-take a b xs))

-- a quotient by a power is 0 exactly below it
low_of : (w m : ℕ) → w / 2 ^ m ≡ 0 → w < 2 ^ m
low_of w m e = let l : w < 1 * 2 ^ m = (div-lt_iff_lt-mul (pow_pos m)).0 (let q : w / 2 ^ m < 1 = omega arith in q) in rw (one-mul (2 ^ m)) at l

of_low : (w m : ℕ) → w < 2 ^ m → w / 2 ^ m ≡ 0
of_low w m l = let q : w / 2 ^ m < 1 = (div-lt_iff_lt-mul (pow_pos m)).1 (rw (one-mul (2 ^ m)) l) in omega arith

-- past the words there is no bit
pub spare_past : (n : ℕ) (ws : List ℕ) → length ws ≤ n / 32 → true ≡ spare_right n ws
unfolding spare_right
spare_past n ws l = rw (get_or-eq_default ws 0 {n = n / 32} l) (sym (eq-eqb (0 / 2 ^ (n % 32)) 0 (of_low 0 (n % 32) (pow_pos (n % 32)))))

-- the words in use are those of the values exactly where no bit is past the last term
module _ (T : ℕ) (ws : List ℕ) (room : word_count T ≤ length ws) (fits : (k : ℕ) → get_or ws k 0 < 2 ^ 32) where
  abbrev us : List ℕ
  us = take (word_count T) ws

  size : length us ≡ word_count T
  size = length-take-le (word_count T) ws room

  same-values : values_in T ws ≡ list_of T (bit_at us)
  unfolding values_in bit_at word_count
  same-values =
      list_of-is T (bit_at ws) (list_of T (bit_at us)) 0 (list_from-length 0 T (bit_at us))
      (λ t l. ap (λ (w : ℕ). bit_of w (t % 32)) (sym (get_or-take (word_count T) ws (t / 32) 0 (omega arith))) ∙ sym (get_or-list_of T t (bit_at us) 0 l))

  small : (k : ℕ) → get_or us k 0 < 2 ^ 32
  small k =
      by-lt k (word_count T) (λ l. rw (get_or-take (word_count T) ws k 0 l) (fits k))
      (λ l. rw (get_or-eq_default us 0 {n = k} (omega (arith, size))) (pow_pos 32))

  no_bit : spare_right T us ≡ true → (t : ℕ) → T ≤ t → bit_at us t ≡ 0
  unfolding spare_right bit_at word_count
  no_bit h t l =
      by-lt (t / 32) (word_count T)
      (λ q.
      let e : t / 32 ≡ T / 32 = omega arith in
      let w = get_or us (T / 32) 0 in
      let low = low_of w (T % 32) (eqb-true _ 0 h) in
      rw e (sym (ap (λ (v : ℕ). bit_of v (t % 32)) (mod-eq_of_lt low)) ∙ bit_cleared w (T % 32) (t % 32) (omega arith)))
      (λ q. bit_past us t (omega (arith, size)))

  pub spare_is : spare_right T us ≡ same us (words_of (values_in T ws))
  unfolding spare_right
  spare_is = same_tests _ _ there back
    where
      there : spare_right T us ≡ true → same us (words_of (values_in T ws)) ≡ true
      there h = rw (same-values, words_back us T size small (no_bit h)) (same_refl us)

      back : same us (words_of (values_in T ws)) ≡ true → spare_right T us ≡ true
      back h =
          let vs : List ℕ = values_in T ws in
          let bs : List ℕ = take 32 (drop (32 * (T / 32)) vs) in
          let long : length vs ≡ T = ap length same-values ∙ list_from-length 0 T (bit_at us) in
          let few : length bs ≤ T % 32 = omega (arith, length-take 32 (drop (32 * (T / 32)) vs), length-drop (32 * (T / 32)) vs) in
          let e : get_or us (T / 32) 0 ≡ word_of bs = ap (λ (xs : List ℕ). get_or xs (T / 32) 0) (same-eq us (words_of vs) h) ∙ word_at vs (T / 32) in
          eq-eqb _ 0 (of_low (get_or us (T / 32) 0) (T % 32) (omega (arith, e, word_lt bs (all_take (λ v. ltb v 2) 32 (drop (32 * (T / 32)) vs) (all_drop (λ v. ltb v 2) (32 * (T / 32)) vs (rw same-values (values-bits T us)))), pow_mono few)))
