-- Lists made of numbers, padded, written over others, joined: their lengths and entries. Assumes nothing.
use Prim.Native.Nat.{ℕ, zero, suc, ◌+◌, ◌-◌, ◌≤◌, ◌<◌}
use mathlib.Core.Path.{◌≡◌, refl, ap, ap₂, sym, ◌∙◌}
use mathlib.Core.Bool.{Bool, cond}
use mathlib.Core.List.{List, [], ◌∷◌, ◌++◌, map}
use native.Mathlib.Omega.{arith}
use lib.Seq.{ext_get_or, get_or-set_other, take-nil}
use lib.ListN.{length, get_or, set, take, drop, length-append, length-replicate, length-drop}
use Rattle.written.specs.Lists.{those, where_from, list_from, list_of, zeros, padded, steps}
use Rattle.written.specs.Tables.{over}
use Rattle.laws.proofs.Basics.{by_cases}

pub list_from-length : {A : Type 0} (i n : ℕ) (f : ℕ → A) → length (list_from i n f) ≡ n
list_from-length i zero f = refl
list_from-length i (suc n) f = ap suc (list_from-length (suc i) n f)

pub list_from-get_or : {A : Type 0} (i n k : ℕ) (f : ℕ → A) (d : A) → k < n → get_or (list_from i n f) k d ≡ f (i + k)
list_from-get_or i zero k f d h = absurd (omega arith)
list_from-get_or i (suc n) zero f d h = ap f (omega arith)
list_from-get_or i (suc n) (suc k) f d h = list_from-get_or (suc i) n k f d (omega arith) ∙ ap f (omega arith)

pub list_from-join : {A : Type 0} (i a b : ℕ) (f : ℕ → A) → list_from i (a + b) f ≡ list_from i a f ++ list_from (i + a) b f
list_from-join i zero b f = let e : 0 + b ≡ b = omega arith in let z : i + 0 ≡ i = omega arith in rw (e, z)
list_from-join i (suc a) b f =
    let e : suc a + b ≡ suc (a + b) = omega arith in
    let z : i + suc a ≡ suc i + a = omega arith in
    rw (e, z) (ap (λ (xs : List _). f i ∷ xs) (list_from-join (suc i) a b f))

pub list_from-map : {A : Type 0} (i n : ℕ) (f : ℕ → A) → map f (list_from i n (λ k. k)) ≡ list_from i n f
list_from-map i zero f = refl
list_from-map i (suc n) f = ap (λ (xs : List _). f i ∷ xs) (list_from-map (suc i) n f)

pub get_or-list_of : {A : Type 0} (n k : ℕ) (f : ℕ → A) (d : A) → k < n → get_or (list_of n f) k d ≡ f k
get_or-list_of n k f d l = let z : 0 + k ≡ k = omega arith in list_from-get_or 0 n k f d l ∙ ap f z

-- a list is made of its entries
pub list_of-is : {A : Type 0} (n : ℕ) (f : ℕ → A) (xs : List A) (d : A) → length xs ≡ n → ((k : ℕ) → k < n → f k ≡ get_or xs k d) → list_of n f ≡ xs
list_of-is n f xs d e h =
    let a = list_from-length 0 n f in
    ext_get_or d (list_of n f) xs (omega arith) (λ k l. let b : k < n = omega arith in get_or-list_of n k f d b ∙ h k b)

-- place by place the same
pub map-by : {A B : Type 0} (f g : A → B) (xs : List A) (d : A) → ((k : ℕ) → k < length xs → f (get_or xs k d) ≡ g (get_or xs k d)) → map f xs ≡ map g xs
map-by f g [] d h = refl
map-by f g (x ∷ xs) d h = ap₂ {C = List _} (λ a r. a ∷ r) (h 0 (omega arith)) (map-by f g xs d (λ k l. h (suc k) (omega arith)))

pub padded-length : (n : ℕ) (xs : List ℕ) → length xs ≤ n → length (padded n xs) ≡ n
padded-length n xs h = let a = length-append xs (zeros (n - length xs)) in let b = length-replicate {A = ℕ} (n - length xs) 0 in omega arith

pub over-length : (new old : List ℕ) → length new ≤ length old → length (over new old) ≡ length old
over-length new old h = omega (arith, length-append new (drop (length new) old), length-drop (length new) old)

-- entries from n on stay as one before them is set
pub kept_set : (n : ℕ) (xs : List ℕ) (k y : ℕ) (zs : List ℕ) → k < n → ((j : ℕ) → n ≤ j → get_or xs j 0 ≡ get_or zs j 0) → (j : ℕ) → n ≤ j
    → get_or (set xs k y) j 0 ≡ get_or zs j 0
kept_set n xs k y zs l h j m = get_or-set_other xs k j y 0 (λ q. omega arith) ∙ h j m

-- of the first b entries those from a on, either way round
pub drop-take : (a b : ℕ) (xs : List ℕ) → drop a (take b xs) ≡ take (b - a) (drop a xs)
drop-take zero b xs = ap (λ (k : ℕ). take k xs) (let e : b ≡ b - 0 = omega arith in e)
drop-take (suc a) zero xs = sym (ap (λ (k : ℕ). take k (drop (suc a) xs)) (let e : 0 - suc a ≡ 0 = omega arith in e))
drop-take (suc a) (suc b) [] = sym (take-nil (suc b - suc a))
drop-take (suc a) (suc b) (x ∷ xs) = drop-take a b xs ∙ ap (λ (k : ℕ). take k (drop a xs)) (let e : b - a ≡ suc b - suc a = omega arith in e)

-- no more entries pass a test than there are
pub those-short : {A : Type 0} (p : A → Bool) (xs : List A) → length (those p xs) ≤ length xs
those-short p [] = omega arith
those-short p (x ∷ xs) = let e = those-short p xs in by_cases (p x) (λ q. rw q (omega arith)) (λ q. rw q (omega arith))

-- ---- two lists, one after the other

pub map_append : {A B : Type 0} (f : A → B) (xs ys : List A) → map f (xs ++ ys) ≡ map f xs ++ map f ys
map_append f [] ys = refl
map_append f (x ∷ xs) ys = ap (λ (l : List _). f x ∷ l) (map_append f xs ys)

-- the numbers of the entries that pass a test, with one entry more
pub where_snoc : {A : Type 0} (p : A → Bool) (i : ℕ) (xs : List A) (y : A)
    → where_from i p (xs ++ y ∷ []) ≡ cond (p y) (where_from i p xs ++ (i + length xs) ∷ []) (where_from i p xs)
where_snoc p i [] y = by_cases (p y) (λ q. rw q (ap (λ (k : ℕ). k ∷ []) (omega arith))) (λ q. rw q)
where_snoc p i (x ∷ xs) y =
    let e = where_snoc p (suc i) xs y in
    let n : suc i + length xs ≡ i + suc (length xs) = omega arith in
    by_cases (p x) (λ q. rw (q, e, n) (by_cases (p y) (λ r. rw r) (λ r. rw r))) (λ q. rw (q, e, n))

pub steps-joined : {A S : Type 0} (f : A → S → S) (xs ys : List A) (s : S) → steps f (xs ++ ys) s ≡ steps f ys (steps f xs s)
steps-joined f [] ys s = refl
steps-joined f (x ∷ xs) ys s = steps-joined f xs ys (f x s)

-- what is left from a place on tells the place, or one from which as little is left
pub drop-back : {A : Type 0} (j : ℕ) (xs : List A) → drop (length xs - length (drop j xs)) xs ≡ drop j xs
drop-back zero xs = let e : length xs - length xs ≡ 0 = omega arith in rw e
drop-back (suc j) [] = refl
drop-back (suc j) (x ∷ xs) =
    let e : suc (length xs) - length (drop j xs) ≡ suc (length xs - length (drop j xs)) = omega (arith, length-drop j xs) in
    rw e (drop-back j xs)
