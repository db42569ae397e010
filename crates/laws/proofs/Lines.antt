-- Lines of a text: as many as it has bytes 10. A token's line is its cursor's, and a step passes at most as many lines as bytes 10.
-- Assumes nothing.
use Prim.Native.Nat.{ℕ, suc, ◌+◌, ◌-◌, ◌≤◌, ◌<◌, ◌^◌}
use mathlib.Core.Path.{◌≡◌, refl, ap, ◌∙◌}
use mathlib.Core.Bool.{Bool, true, false, not, cond, false≢true}
use mathlib.Core.List.{List}
use native.Mathlib.Omega.{arith}
use borrow.Author.Tests.{leb-false, eqb-true, not-false}
use lib.ListN.{length, get_or, take, drop, length-take}
use lib.Seq.{take-length, take-add}
use lib.Dec.{eqb, ltb, leb}
use Rattle.scan.specs.declared.Cursor.{Cursor}
use Rattle.scan.specs.declared.Step.{Step}
use Rattle.scan.specs.declared.Token.TheVariants.{Line}
use Rattle.scan.specs.Scan.{ends, past, named, named_to, tilde, scan, scan_from, open_end, line_of, line_after, to}
use Rattle.scan.proofs.Laws.{past_ge}
use Rattle.written.specs.Lists.{times}
use Rattle.written.specs.Agreement.{is_name_byte}
use Rattle.laws.proofs.Basics.{by_cases, by_test}
use Rattle.laws.proofs.Sums.{total_append, total-next, total-take}
use Rattle.laws.proofs.Times.{times-le}
use Rattle.laws.proofs.Turns.{in_text}

-- ---- bytes 10

-- the lines that end before a place
abbrev pub lines_to : List ℕ → ℕ → ℕ
lines_to t i = times 10 (take i t)

-- a byte 10 ends a line
pub lines_more : (t : List ℕ) (a d : ℕ) → a < length t → get_or t a d ≡ 10 → lines_to t (suc a) ≡ suc (lines_to t a)
lines_more t a d h e =
    let parts = total-next (λ y. cond (eqb 10 y) 1 0) t a d h in
    let one : ◌≡◌ {A = ℕ} (cond (eqb 10 (get_or t a d)) 1 0) 1 = rw e in
    omega arith

-- a text that ends with byte 10 ends a line after each of its places
pub lines-all : (t : List ℕ) → open_end t ≡ false → (i : ℕ) → i < length t → lines_to t i < times 10 t
lines-all t closed i h =
    let last = length t - 1 in
    let more = lines_more t last 10 (omega arith) (eqb-true (get_or t last 10) 10 (not-false _ closed)) in
    let low = total-take (λ y. cond (eqb 10 y) 1 0) t i last (omega arith) in
    let size : suc last ≡ length t = omega arith in
    let whole : lines_to t (suc last) ≡ times 10 t = ap (lines_to t) size ∙ ap (λ (l : List ℕ). times 10 l) (take-length t) in
    omega arith

-- those that end before a later place are these, and those that end between
pub lines-between : (t : List ℕ) (i e : ℕ) → i ≤ e → lines_to t e ≡ lines_to t i + times 10 (take (e - i) (drop i t))
lines-between t i e h =
    let place : e ≡ i + (e - i) = omega arith in
    ap (lines_to t) place ∙ ap (λ (l : List ℕ). times 10 l) (take-add i (e - i) t) ∙ total_append (λ y. cond (eqb 10 y) 1 0) (take i t) (take (e - i) (drop i t))

-- there are no more than bytes
pub lines-few : (t : List ℕ) (i : ℕ) → lines_to t i ≤ length t
lines-few t i = omega (arith, times-le 10 (take i t), length-take i t)

-- ---- a step's lines

-- what a step from the cursor c through the text t says of lines
pub record Lined (t : List ℕ) (c : Cursor) (s : Step) : Type 0 where
  pub same : line_of s.token ≡ c.line
  pub inside : in_text s.token ≡ true → c.at < length t
  pub more : c.line ≤ s.next.line
  pub most : s.next.line + lines_to t c.at ≤ c.line + lines_to t s.next.at

-- the line after has the next number, or the same where numbers end
line_after_lem : (n : ℕ) → (n ≤ line_after n) × (line_after n ≤ n + 1)
line_after_lem n = by_cases (ltb n (2 ^ 64 - 1)) (λ e. rw e (omega arith)) (λ e. rw e (omega arith))

module _ (t : List ℕ) (c : Cursor) where
  -- the cursor stays in its line
  within : {s : Step} → line_of s.token ≡ c.line → (in_text s.token ≡ true → c.at < length t) → s.next.line ≡ c.line → c.at ≤ s.next.at → Lined t c s
  within {s} e h k l = record { same = e; inside = h; more = omega arith; most = omega (arith, total-take (λ y. cond (eqb 10 y) 1 0) t c.at s.next.at l) }

  named_lined : (negated : Bool) (s : ℕ) → c.at ≤ s → c.at < length t → Lined t c (named t c negated s)
  unfolding named named_to
  named_lined negated s h k =
      let e = past is_name_byte t s in
      by_test (Lined t c) (ltb 8 (e - s)) (λ _. within refl (λ _. k) refl (omega arith)) (λ _.
      by_test (Lined t c) (leb (length t) e) (λ _. within refl (λ _. k) refl (omega arith)) (λ _.
      by_test (Lined t c) (eqb (e - s) 0) (λ _. within refl (λ _. k) refl (omega arith)) (λ _.
      by_test (Lined t c) (ends (get_or t e 0)) (λ _. within refl (λ _. k) refl (omega (arith, past_ge is_name_byte t s))) (λ _. within refl (λ _. k) refl (omega arith)))))

  tilde_lined : (s : ℕ) → c.at ≤ s → c.at < length t → Lined t c (tilde t c s)
  unfolding tilde
  tilde_lined s h k =
      by_test (Lined t c) (leb (length t) s) (λ _. within refl (λ _. k) refl (omega arith)) (λ _.
      by_test (Lined t c) (ends (get_or t s 0)) (λ _. within refl (λ _. k) refl (omega (arith, past_ge (λ b. not (eqb b 10)) t s))) (λ _.
      named_lined true s h k))

  -- a token's line is the cursor's, and its step passes at most as many lines as bytes 10
  pub scan_lined : Lined t c (scan t c)
  unfolding scan scan_from
  scan_lined =
      let a = past (λ b. eqb b 32) t c.at in
      let far = past_ge (λ b. eqb b 32) t c.at in
      by_test (Lined t c) (leb (length t) a) (λ _.
      by_test (Lined t c) (open_end t) (λ _. within refl (λ p. absurd (false≢true p)) refl (omega arith)) (λ _. within refl (λ p. absurd (false≢true p)) refl (omega arith)))
      (λ in-text.
      let here = leb-false (length t) a in-text in
      by_test (Lined t c) (eqb (get_or t a 0) 10) (λ ten. ended a far here (eqb-true (get_or t a 0) 10 ten)) (λ _.
      by_test (Lined t c) (eqb (get_or t a 0) 126) (λ _. tilde_lined (a + 1) (omega arith) (omega arith)) (λ _. named_lined false a far (omega arith))))
    where
      ended : (a : ℕ) → c.at ≤ a → a < length t → get_or t a 0 ≡ 10 → Lined t c (to (Line c.line) (a + 1) (line_after c.line))
      ended a far here ten =
          let after = line_after_lem c.line in
          let low = total-take (λ y. cond (eqb 10 y) 1 0) t c.at a far in
          let one = lines_more t a 0 here ten in
          let size : a + 1 ≡ suc a = omega arith in
          record { same = refl; inside = λ _. omega arith; more = after.0; most = rw size (omega arith) }
