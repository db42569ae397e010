-- A scanned literal's name is a name: 1 to 8 bytes of a name, packed. Assumes nothing.
use Prim.Native.Nat.{ℕ, zero, suc, ◌+◌, ◌-◌, ◌*◌, ◌/◌, ◌%◌, ◌≤◌, ◌<◌}
use mathlib.Core.Path.{◌≡◌, refl, ap, sym, ◌∙◌}
use mathlib.Core.Bool.{Bool, true, false, or-true}
use mathlib.Core.List.{List, [], ◌∷◌}
use native.Mathlib.Omega.{arith}
use borrow.Author.Tests.{ltb-false, eqb-false, ne_eqb}
use lib.ListN.{length, get_or, take, drop}
use lib.Dec.{eqb, ltb, leb}
use Rattle.scan.specs.declared.Cursor.{Cursor}
use Rattle.scan.specs.declared.Lit.{Lit}
use Rattle.scan.specs.declared.Step.{Step}
use Rattle.scan.specs.declared.Token.{Token}
use Rattle.scan.specs.declared.Token.TheVariants.{Literal, True, Line, End, Cut, Bad, Long}
use Rattle.scan.specs.Scan.{ends, lead, past, packed, named, named_to, tilde, scan, scan_from, open_end}
use Rattle.scan.proofs.Names.{byte_low, byte_high}
use Rattle.written.specs.Lists.{all}
use Rattle.written.specs.Agreement.{is_name_byte, name_bytes, is_name}
use Rattle.laws.proofs.Basics.{by_cases, by_test, both, both_first, both-second}

-- the bytes that a run passes all pass its test
pub lead-all : (p : ℕ → Bool) (s : List ℕ) → all p (take (lead p s) s) ≡ true
lead-all p [] = refl
lead-all p (b ∷ s) = by_cases (p b) (λ e. rw e (both (p b) (all p (take (lead p s) s)) e (lead-all p s))) (λ e. rw e)

-- there are as many as it passes
pub lead-length : (p : ℕ → Bool) (s : List ℕ) → length (take (lead p s) s) ≡ lead p s
lead-length p [] = refl
lead-length p (b ∷ s) = by_cases (p b) (λ e. rw e (ap suc (lead-length p s))) (λ e. rw e)

-- at most k bytes of a name, packed
pub packed-bytes : (k : ℕ) (s : List ℕ) → all is_name_byte s ≡ true → length s ≤ k → name_bytes k (packed s) ≡ true
unfolding name_bytes
packed-bytes zero [] h l = refl
packed-bytes (suc k) [] h l = refl
packed-bytes zero (b ∷ s) h l = absurd (omega arith)
packed-bytes (suc k) (b ∷ s) h l =
    let byte : is_name_byte b ≡ true = both_first (is_name_byte b) (all is_name_byte s) h in
    let high = byte_high b byte in
    let rest = packed-bytes k s (both-second (is_name_byte b) (all is_name_byte s) h) (omega arith) in
    let low : (b + 256 * packed s) % 256 ≡ b = omega arith in
    let up : (b + 256 * packed s) / 256 ≡ packed s = omega arith in
    rw (low, up, byte, rest) (or-true (eqb (b + 256 * packed s) 0))

-- 1 to 8 bytes of a name, packed, are a name
pub packed-name : (s : List ℕ) → all is_name_byte s ≡ true → 0 < length s → length s ≤ 8 → is_name (packed s) ≡ true
unfolding is_name
packed-name [] h some few = absurd (omega arith)
packed-name (b ∷ s) h some few =
    let low = byte_low b (both_first (is_name_byte b) (all is_name_byte s) h) in
    rw (ne_eqb (b + 256 * packed s) 0 (λ e. omega arith)) (packed-bytes 8 (b ∷ s) h few)

-- ---- the literals that are scanned

-- a literal's name is a name
abbrev pub well_named : Token → Bool
well_named (Literal l) = is_name l.name
well_named (True n) = true
well_named (Line n) = true
well_named (End n) = true
well_named (Cut n) = true
well_named (Bad n) = true
well_named (Long n) = true

abbrev NamedWell : Step → Type 0
NamedWell s = well_named s.token ≡ true

-- the name that ends where its run of bytes ends
run-name : (t : List ℕ) (s : ℕ) → ltb 8 (past is_name_byte t s - s) ≡ false → eqb (past is_name_byte t s - s) 0 ≡ false
    → is_name (packed (take (past is_name_byte t s - s) (drop s t))) ≡ true
unfolding past
run-name t s few some =
    let n = lead is_name_byte (drop s t) in
    let size = lead-length is_name_byte (drop s t) in
    let e : s + n - s ≡ n = omega arith in
    rw e (packed-name (take n (drop s t)) (lead-all is_name_byte (drop s t)) (omega (arith, eqb-false (s + n - s) 0 some)) (omega (arith, ltb-false 8 (s + n - s) few)))

named_well : (t : List ℕ) (c : Cursor) (negated : Bool) (s : ℕ) → NamedWell (named t c negated s)
unfolding named named_to
named_well t c negated s =
    let e = past is_name_byte t s in
    by_test NamedWell (ltb 8 (e - s)) (λ _. refl) (λ few.
    by_test NamedWell (leb (length t) e) (λ _. refl) (λ _.
    by_test NamedWell (eqb (e - s) 0) (λ _. refl) (λ some.
    by_test NamedWell (ends (get_or t e 0)) (λ _. run-name t s few some) (λ _. refl))))

pub scan_well : (t : List ℕ) (c : Cursor) → well_named (scan t c).token ≡ true
unfolding scan scan_from tilde
scan_well t c =
    let a = past (λ b. eqb b 32) t c.at in
    by_test NamedWell (leb (length t) a) (λ _. by_test NamedWell (open_end t) (λ _. refl) (λ _. refl)) (λ _.
    by_test NamedWell (eqb (get_or t a 0) 10) (λ _. refl) (λ _.
    by_test NamedWell (eqb (get_or t a 0) 126)
    (λ _. by_test NamedWell (leb (length t) (a + 1)) (λ _. refl) (λ _. by_test NamedWell (ends (get_or t (a + 1) 0)) (λ _. refl) (λ _. named_well t c true (a + 1))))
    (λ _. named_well t c false a)))

-- a scanned literal's name is a name
pub literal-name : (t : List ℕ) (c : Cursor) (l : Lit) → (scan t c).token ≡ Literal l → is_name l.name ≡ true
literal-name t c l e = sym (ap well_named e) ∙ scan_well t c
