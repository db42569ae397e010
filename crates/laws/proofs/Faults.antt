-- The line of a refused reading: one of the text's where the reason names one, else 0. Assumes nothing.
use Prim.Native.Nat.{ℕ, suc, ◌≤◌, ◌<◌}
use mathlib.Core.Path.{◌≡◌, refl, ap, sym, subst, ◌∙◌}
use mathlib.Core.Bool.{true, false, cond, false≢true, true≢false}
use mathlib.Core.List.{List, [], ◌∷◌}
use native.Mathlib.Omega.{arith}
use lib.ListN.{length}
use lib.Dec.{eqb, ltb}
use Rattle.scan.specs.declared.Cursor.{Cursor}
use Rattle.scan.specs.Scan.{scan, start, open_end, passed, line_of, takes}
use Rattle.scan.proofs.Advance.{scan-sound, pass_forward, pass-within}
use Rattle.written.specs.declared.Reason.{Reason}
use Rattle.written.specs.declared.Reason.TheVariants.{TextTooLong, TextCut, NoClause}
use Rattle.written.specs.declared.Fault.{Fault}
use Rattle.written.specs.Lists.{times}
use Rattle.written.specs.Limits.{Limits}
use Rattle.written.specs.Reasons.{fault, fault_at}
use Rattle.written.specs.Reading.{Reading, Draft, accepted, refused, nothing, at_text_end, read_text}
use Rattle.laws.specs.Reasons.{names_line}
use Rattle.laws.proofs.Basics.{by_cases, by_test}
use Rattle.laws.proofs.Sums.{total-take}
use Rattle.laws.proofs.Times.{times-le}
use Rattle.laws.proofs.Turns.{Keeps, read_by}
use Rattle.laws.proofs.Lines.{lines_to, lines-all, scan_lined}

-- a fault's line is one of the text's lines, or 0
pub record Placed (t : List ℕ) (e : Fault) : Type 0 where
  pub most : e.line ≤ times 10 t
  pub some : names_line e.reason ≡ true → 0 < e.line
  pub none : names_line e.reason ≡ false → e.line ≡ 0

-- what holds of what a reading comes to
abbrev pub Told : List ℕ → Reading → Type 0
Told t (accepted f) = Unit {0}
Told t (refused e) = Placed t e

-- a cursor in the text: its line is at most the one after those that end before it
pub record Stands (t : List ℕ) (c : Cursor) : Type 0 where
  pub within : c.at ≤ length t
  pub first : 0 < c.line
  pub most : c.line ≤ suc (lines_to t c.at)

pub start-stands : (t : List ℕ) → Stands t start
start-stands t = omega arith

-- a step keeps it
pub scan-stands : (t : List ℕ) (c : Cursor) → Stands t c → Stands t (scan t c).next
scan-stands t c h =
    let end : (scan t c).next.at ≤ length t =
    by_cases (takes (scan t c).token) (λ e. (scan-sound t c).most e) (λ e. omega (arith, ap (λ (k : Cursor). k.at) ((scan-sound t c).still e), h.within))
    in
    record { within = end; first = omega (arith, (scan_lined t c).more); most = omega (arith, (scan_lined t c).most) }

-- so does going on in the same line
pub later-stands : (t : List ℕ) (c : Cursor) → Stands t c → (e : ℕ) → c.at ≤ e → e ≤ length t → Stands t (record { at = e; line = c.line })
later-stands t c h e far most =
    record { within = most; first = h.first; most = omega (arith, h.most, total-take (λ y. cond (eqb 10 y) 1 0) t c.at e far) }

-- and passing on to its end
pub pass-stands : (t : List ℕ) (c : Cursor) → Stands t c → Stands t (passed t c)
pass-stands t c h = later-stands t c h (passed t c).at (pass_forward t c) (pass-within t c h.within)

-- ---- the faults

no_line : (t : List ℕ) (r : Reason) → names_line r ≡ false → Placed t (fault r)
no_line t r e = record { most = omega arith; some = λ p. absurd (false≢true (sym e ∙ p)); none = λ _. refl }

a-line : (t : List ℕ) (n : ℕ) (r : Reason) → names_line r ≡ true → 0 < n → n ≤ times 10 t → Placed t (fault_at n r)
a-line t n r e some most = record { most = most; some = λ _. some; none = λ p. absurd (true≢false (sym e ∙ p)) }

end-told : (t : List ℕ) (names : List ℕ) (cs : List (List ℕ)) → Told t (at_text_end names cs)
unfolding at_text_end
end-told t names [] = no_line t NoClause refl
end-told t names (x ∷ xs) = tt

turn-told : (lim : Limits) (t : List ℕ) → open_end t ≡ false → (c : Cursor) (d : Draft) → Stands t c
    → Keeps (λ c' d'. Stands t c') (Told t) lim t (scan t c).next d (scan t c).token
turn-told lim t closed c d h =
    let at = scan_lined t c in
    let on = scan-stands t c h in
    record {
      skip = λ _. on;
      leave = λ _. scan-stands t (passed t (scan t c).next) (pass-stands t (scan t c).next on);
      take = λ _ l _ _. on;
      keep = λ _ _ _. on;
      refuse = λ p r e. a-line t (line_of (scan t c).token) r e (omega (arith, at.same)) (omega (arith, at.same, lines-all t closed c.at (at.inside p)));
      cut = no_line t TextCut refl;
      finish = end-told t d.names d.clauses;
    }

reading-told : (lim : Limits) (t : List ℕ) → Told t (read_text lim t)
unfolding read_text
reading-told lim t =
    by_test (Told t) (ltb lim.text (length t)) (λ _. no_line t TextTooLong refl) (λ _.
    by_test (Told t) (open_end t) (λ _. no_line t TextCut refl) (λ closed.
    read_by (λ c d. Stands t c) (Told t) lim t (λ c d _. end-told t d.names d.clauses) (turn-told lim t closed) (suc (length t)) start nothing (start-stands t)))

-- a refused reading names one of the text's lines where its reason does, and else 0
pub refusal-line : (lim : Limits) (t : List ℕ) (e : Fault) → read_text lim t ≡ refused e → Placed t e
refusal-line lim t e h = subst (Told t) h (reading-told lim t)

-- which is at most the number of bytes
pub refusal-line-bound : (lim : Limits) (t : List ℕ) (e : Fault) → read_text lim t ≡ refused e → e.line ≤ length t
refusal-line-bound lim t e h = omega (arith, (refusal-line lim t e h).most, times-le 10 t)
