-- Lists filled up with 0 and written over others. Assumes nothing.
use Prim.Native.Nat.{ℕ, zero, suc, ◌+◌, ◌-◌, ◌≤◌, ◌<◌}
use mathlib.Core.Path.{◌≡◌, refl, ap, ap₂, sym, ◌∙◌}
use mathlib.Core.Bool.{true}
use mathlib.Core.List.{List, [], ◌∷◌, ◌++◌, append_assoc}
use native.Mathlib.Omega.{arith}
use native.Mathlib.Nat.{sub-zero, zero-sub, suc-sub-suc}
use lib.ListN.{length, get_or, take, drop, length-append, length-replicate, length-drop, take-append-drop, get_or-append, get_or-eq_default}
use lib.Seq.{get_or-append-add, get_or-drop, length-take-le, take-take, take_at, drop_at, drop-drop, drop-append-le}
use lib.Dec.{eqb}
use borrow.Author.Tests.{eqb-true}
use Rattle.written.specs.Lists.{all, zeros, padded}
use Rattle.written.specs.Tables.{over}
use Rattle.laws.proofs.Basics.{by-lt, both_first, both-second}
use Rattle.laws.proofs.Lists.{padded-length}

-- what is written stands, and what lay past it still does
pub over-take : (new old : List ℕ) (n : ℕ) → length new ≡ n → take n (over new old) ≡ new
over-take new old n h = take_at new (drop (length new) old) n h

pub over-drop : (new old : List ℕ) (n : ℕ) → length new ≡ n → drop n (over new old) ≡ drop n old
over-drop new old n h = drop_at new (drop (length new) old) n h ∙ ap (λ (k : ℕ). drop k old) h

-- and this is all of the old list that shows
pub over_by : (new a b : List ℕ) (n : ℕ) → length new ≡ n → drop n a ≡ drop n b → over new a ≡ over new b
over_by new a b n h e = ap (λ (r : List ℕ). new ++ r) (ap (λ (k : ℕ). drop k a) h ∙ e ∙ ap (λ (k : ℕ). drop k b) (sym h))

-- lists that are the same from m on are the same from any later place on
pub same-later : (m n : ℕ) (xs ys : List ℕ) → m ≤ n → drop m xs ≡ drop m ys → drop n xs ≡ drop n ys
same-later m n xs ys l e =
    let more : m + (n - m) ≡ n = omega arith in
    ap (λ (j : ℕ). drop j xs) (sym more) ∙ sym (drop-drop (n - m) m xs) ∙ ap (drop (n - m)) e ∙ drop-drop (n - m) m ys ∙ ap (λ (j : ℕ). drop j ys) more

-- a list's own beginning written over it
pub over-taken : (n : ℕ) (xs : List ℕ) → n ≤ length xs → over (take n xs) xs ≡ xs
over-taken n xs h = ap (λ (k : ℕ). take n xs ++ drop k xs) (length-take-le n xs h) ∙ take-append-drop n xs

-- a list of nothing but 0
pub zeros_of : (xs : List ℕ) → all (λ x. eqb x 0) xs ≡ true → xs ≡ zeros (length xs)
zeros_of [] h = refl
zeros_of (x ∷ xs) h =
    ap₂ {C = List ℕ} (λ a r. a ∷ r) (eqb-true x 0 (both_first (eqb x 0) _ h)) (zeros_of xs (both-second (eqb x 0) _ h))

-- a list followed by nothing but 0, up to n entries
pub padded-taken : (m n : ℕ) (xs : List ℕ) → m ≤ n → n ≤ length xs → all (λ x. eqb x 0) (drop m (take n xs)) ≡ true → padded n (take m xs) ≡ take n xs
padded-taken m n xs l h z =
    let a = length-take-le m xs (omega arith) in
    let b = length-drop m (take n xs) in
    let c = length-take-le n xs h in
    let e : n - length (take m xs) ≡ length (drop m (take n xs)) = omega arith in
    ap₂ {C = List ℕ} (λ a r. a ++ r) (sym (take-take m n xs l)) (ap zeros e ∙ sym (zeros_of (drop m (take n xs)) z)) ∙ take-append-drop m (take n xs)

-- a list that is filled up: itself, then nothing but 0
pub padded-take : (m n : ℕ) (xs : List ℕ) → length xs ≡ m → take m (padded n xs) ≡ xs
padded-take m n xs h = take_at xs (zeros (n - length xs)) m h

pub padded-drop : (m n : ℕ) (xs : List ℕ) → length xs ≡ m → drop m (padded n xs) ≡ zeros (n - length xs)
padded-drop m n xs h = drop_at xs (zeros (n - length xs)) m h

-- 0 past the end is 0 all the same
pub get_or-zeros : (xs : List ℕ) (n i : ℕ) → get_or (xs ++ zeros n) i 0 ≡ get_or xs i 0
get_or-zeros [] zero i = refl
get_or-zeros [] (suc n) zero = refl
get_or-zeros [] (suc n) (suc i) = get_or-zeros [] n i
get_or-zeros (x ∷ xs) n zero = refl
get_or-zeros (x ∷ xs) n (suc i) = get_or-zeros xs n i

-- past what is written the old entries stay
pub over-past : (new old : List ℕ) (k : ℕ) → length new ≤ k → get_or (over new old) k 0 ≡ get_or old k 0
over-past new old k h =
    let e : k ≡ length new + (k - length new) = omega arith in
    ap (λ (i : ℕ). get_or (over new old) i 0) e ∙ get_or-append-add new (drop (length new) old) (k - length new) 0
    ∙ get_or-drop (length new) old (k - length new) 0 ∙ ap (λ (i : ℕ). get_or old i 0) (sym e)

-- a list filled up to n entries, and written over another: n entries at least, and past its own nothing but 0 up to n
module _ (n : ℕ) (xs : List ℕ) where
  pub padded-room : n ≤ length (padded n xs)
  padded-room = omega (arith, length-append xs (zeros (n - length xs)), length-replicate {A = ℕ} (n - length xs) 0)

  pub padded-zero : (j : ℕ) → length xs ≤ j → get_or (padded n xs) j 0 ≡ 0
  padded-zero j l = get_or-zeros xs (n - length xs) j ∙ get_or-eq_default xs 0 l

  module _ (old : List ℕ) where
    pub over-room : n ≤ length (over (padded n xs) old)
    over-room = omega (arith, padded-room, length-append (padded n xs) (drop (length (padded n xs)) old))

    pub over_zero : (j : ℕ) → length xs ≤ j → j < n → get_or (over (padded n xs) old) j 0 ≡ 0
    over_zero j l h = let a = padded-room in get_or-append (padded n xs) (drop (length (padded n xs)) old) 0 j (omega arith) ∙ padded-zero j l

-- two lists as long, written over one
pub over-sizes : (new other old : List ℕ) → length new ≡ length other → length (over new old) ≡ length (over other old)
over-sizes new other old e = length-append new _ ∙ ap (λ (k : ℕ). k + length (drop k old)) e ∙ sym (length-append other _)

-- two lists filled up alike and written over one: past the entries of both, the same
pub over-same : (n : ℕ) (xs ys old : List ℕ) (j : ℕ) → length xs ≤ n → length ys ≤ n → length xs ≤ j → length ys ≤ j
    → get_or (over (padded n xs) old) j 0 ≡ get_or (over (padded n ys) old) j 0
over-same n xs ys old j hx hy lx ly =
    by-lt j n (λ l. over_zero n xs old j lx l ∙ sym (over_zero n ys old j ly l))
    (λ l. over-past (padded n xs) old j (omega (arith, padded-length n xs hx)) ∙ sym (over-past (padded n ys) old j (omega (arith, padded-length n ys hy))))

pub drop-zeros : (k n : ℕ) → drop k (zeros n) ≡ zeros (n - k)
drop-zeros zero n = ap zeros (sym (sub-zero n))
drop-zeros (suc k) zero = ap zeros (sym (zero-sub (suc k)))
drop-zeros (suc k) (suc n) = drop-zeros k n ∙ ap zeros (sym (suc-sub-suc n k))

-- a list written over entries of 0 is filled up with 0
pub over_zeros : (n : ℕ) (xs old : List ℕ) → length xs ≤ n → over xs (over (zeros n) old) ≡ over (padded n xs) old
over_zeros n xs old h =
    let many = length-replicate {A = ℕ} n 0 in
    ap (λ (r : List ℕ). xs ++ r)
    (drop-append-le (length xs) (zeros n) (drop (length (zeros n)) old) (omega arith)
    ∙ ap (λ (r : List ℕ). r ++ drop (length (zeros n)) old) (drop-zeros (length xs) n))
    ∙ sym (append_assoc xs (zeros (n - length xs)) (drop (length (zeros n)) old))
    ∙ ap (λ (k : ℕ). padded n xs ++ drop k old) (many ∙ sym (padded-length n xs h))

-- and so is one that is written over another of its length that was filled up
pub over-again : (n : ℕ) (new xs old : List ℕ) → length new ≡ length xs → over new (over (padded n xs) old) ≡ over (padded n new) old
over-again n new xs old e =
    let f : length (padded n xs) ≡ length (padded n new) = length-append xs _ ∙ ap (λ (k : ℕ). k + length (zeros (n - k))) (sym e) ∙ sym (length-append new _) in
    ap (λ (ys : List ℕ). new ++ drop (length new) ys) (append_assoc xs (zeros (n - length xs)) _)
    ∙ ap (λ (ys : List ℕ). new ++ ys) (drop_at xs _ (length new) (sym e))
    ∙ sym (append_assoc new (zeros (n - length xs)) _)
    ∙ ap₂ {C = List ℕ} (λ k j. (new ++ zeros (n - k)) ++ drop j old) (sym e) f
