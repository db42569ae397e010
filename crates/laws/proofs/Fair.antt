-- Why an even choice is even: of all the draws that are taken at once, each choice has equally many. Assumes nothing.
use Prim.Native.Nat.{ℕ, zero, suc, ◌+◌, ◌-◌, ◌*◌, ◌/◌, ◌%◌, ◌≤◌, ◌<◌}
use mathlib.Core.Path.{◌≡◌, ap, ◌∙◌}
use mathlib.Core.List.{List, ◌∷◌, map}
use native.Mathlib.Omega.{arith}
use native.Mathlib.Nat.{mod-eq_of_lt, mul-add-mod_self_left, mul-div-le, mul-suc, add_comm}
use lib.Dec.{ltb}
use borrow.Author.Tests.{lt-ltb, le-ltb}
use Rattle.draw.specs.Even.{is_even, less_one}
use Rattle.written.specs.Lists.{those, list_from, times}
use Rattle.laws.proofs.Basics.{by-lt}
use Rattle.laws.proofs.Lists.{list_from-length, list_from-get_or, list_from-join, list_from-map}
use Rattle.laws.proofs.Sums.{total_append}
use Rattle.laws.proofs.Times.{times-once}

-- the draws from i on, n of them
abbrev pub draws_from : ℕ → ℕ → List ℕ
draws_from i n = list_from i n (λ k. k)

-- of the draws above i those are, less 1, below a bound that are not past it
those-first : (b i n : ℕ) → b ≤ i + n → those (λ k. ltb (k - 1) b) (draws_from (suc i) n) ≡ draws_from (suc i) (b - i)
those-first b i zero h = let z : b - i ≡ 0 = omega arith in rw z
those-first b i (suc n) h =
    let r = those-first b (suc i) n (omega arith) in
    by-lt i b
    (λ l. let e : b - i ≡ suc (b - suc i) = omega arith in rw (lt-ltb (suc i - 1) b (omega arith), e) (ap (λ (xs : List ℕ). suc i ∷ xs) r))
    (λ l. let z : b - i ≡ 0 = omega arith in
    let y : b - suc i ≡ 0 = omega arith in
    rw (le-ltb (suc i - 1) b (omega arith), z) (rw y at r))

module _ (m k : ℕ) (l : k < m) where
  abbrev rest : ℕ → ℕ
  rest n = (n - 1) % m

  -- m draws in turn give each remainder once
  entry : (i j : ℕ) → j < m → rest (suc (m * i) + j) ≡ j
  entry i j h =
      let e : suc (m * i) + j - 1 ≡ m * i + j = omega arith in
      ap (λ (n : ℕ). n % m) e ∙ mul-add-mod_self_left m i j ∙ mod-eq_of_lt h

  one-round : (i : ℕ) → times k (list_from (suc (m * i)) m rest) ≡ 1
  one-round i =
      let n = list_from-length (suc (m * i)) m rest in
      let at : (j : ℕ) → j < m → _ = λ j h. list_from-get_or (suc (m * i)) m j rest 0 h ∙ entry i j h in
      times-once k (list_from (suc (m * i)) m rest) k (omega arith) (at k l) (λ j h q. omega (arith, at j (omega arith)))

  -- and q times m draws each q times
  rounds : (q i : ℕ) → times k (list_from (suc (m * i)) (m * q) rest) ≡ q
  rounds zero i = let z : m * 0 ≡ 0 = omega arith in rw z
  rounds (suc q) i =
      let more : m * suc q ≡ m + m * q = mul-suc m q ∙ add_comm (m * q) m in
      let next : suc (m * i) + m ≡ suc (m * suc i) = omega (arith, mul-suc m i) in
      rw (more, list_from-join (suc (m * i)) m (m * q) rest, next)
      (total_append _ (list_from (suc (m * i)) m rest) (list_from (suc (m * suc i)) (m * q) rest) ∙ omega (arith, one-round i, rounds q (suc i)))

-- of the draws 1 to n each choice among m is taken at once by as many as the whole part of n / m
fair : (n m k : ℕ) → k < m → times k (map (λ d. (d - 1) % m) (those (λ d. ltb (d - 1) (m * (n / m))) (draws_from 1 n))) ≡ n / m
fair n m k l =
    let b = m * (n / m) in
    let none : b - 0 ≡ b = omega arith in
    let first : those (λ d. ltb (d - 1) b) (draws_from 1 n) ≡ draws_from 1 b = those-first b 0 n (omega (arith, mul-div-le n m)) ∙ ap (draws_from 1) none in
    ap (λ (ds : List ℕ). times k (map (λ d. (d - 1) % m) ds)) first ∙ ap (times k) (list_from-map 1 b (λ d. (d - 1) % m)) ∙ begun (rounds m k l (n / m) 0)
  where
    begun : times k (list_from (suc (m * 0)) (m * (n / m)) (λ d. (d - 1) % m)) ≡ n / m → times k (list_from 1 (m * (n / m)) (λ d. (d - 1) % m)) ≡ n / m
    begun h = let z : m * 0 ≡ 0 = omega arith in rw z at h

-- "The remainder slightly favours the first parents in a line": of all numbers that may be drawn, those that an even choice takes at once favour none
pub even-fair : (m k : ℕ) → k < m → times k (map (λ n. (less_one m n).number) (those (is_even m) (draws_from 1 4294967295))) ≡ 4294967295 / m
even-fair m k l = fair 4294967295 m k l
