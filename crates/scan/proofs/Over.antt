-- Where the token at a line's end leads: past it, or nowhere at the text's end. Assumes nothing.
use mathlib.Core.Path.{◌≡◌, refl, ap, sym, ◌∙◌}
use mathlib.Core.Bool.{Bool, true, false, cond}
use mathlib.Core.List.{List, [], ◌∷◌}
use Prim.Native.Nat.{ℕ, suc, ◌+◌, ◌≤◌, ◌<◌}
use native.Mathlib.Omega.{arith}
use borrow.Author.Tests.{le-leb, lt-leb, eq-eqb, eqb-true, not-false}
use lib.ListN.{length, get_or, drop, length-drop}
use lib.Seq.{get_or-drop}
use lib.Dec.{eqb}
use Rattle.scan.specs.declared.Cursor.{Cursor}
use Rattle.scan.specs.declared.Token.{Token}
use Rattle.scan.specs.declared.Token.TheVariants.{End, Cut}
use Rattle.scan.specs.declared.Kind.TheVariants.{Space, Rest}
use Rattle.scan.specs.Scan.{is_of, lead, past, open_end, line_after, stay, scan, scan_from, rest_at, passed, line_over}
use Rattle.scan.proofs.Laws.{past_stop, past_end}

-- a run that ends within a list ends at a byte that does not pass
lead-halts : (p : ℕ → Bool) (s : List ℕ) → lead p s < length s → p (get_or s (lead p s) 0) ≡ false
lead-halts p [] h = absurd (omega arith)
lead-halts p (b ∷ s) h = halts (p b) refl (lead-halts p s) h
  where
    halts : (q : Bool) → p b ≡ q → (lead p s < length s → p (get_or s (lead p s) 0) ≡ false) → cond q (suc (lead p s)) 0 < suc (length s)
        → p (get_or (b ∷ s) (cond q (suc (lead p s)) 0) 0) ≡ false
    halts true e more k = more (omega arith)
    halts false e more k = e

pub past-halts : (p : ℕ → Bool) (t : List ℕ) (i : ℕ) → past p t i < length t → p (get_or t (past p t i) 0) ≡ false
unfolding past
past-halts p t i h = ap p (sym (get_or-drop i t (lead p (drop i t)) 0)) ∙ lead-halts p (drop i t) (omega (arith, length-drop i t))

-- no token stands there: the cursor stays, whichever it is
same-stay : (b : Bool) (k l : Token) (c : Cursor) → c ≡ (cond b (stay k c) (stay l c)).next
same-stay true k l c = refl
same-stay false k l c = refl

stays : (t : List ℕ) (c : Cursor) (a : ℕ) → length t ≤ a → c ≡ (scan_from t c a).next
unfolding scan_from
stays t c a h = rw (le-leb _ _ h) (same-stay (open_end t) (Cut c.line) (End c.line) c)

-- a line's end does
leads-on : (t : List ℕ) (c : Cursor) (a : ℕ) → a < length t → get_or t a 0 ≡ 10 → record { at = a + 1; line = line_after c.line } ≡ (scan_from t c a).next
unfolding scan_from
leads-on t c a h ten = rw (lt-leb _ _ h, eq-eqb _ _ ten) refl

module _ (t : List ℕ) (c : Cursor) {e : ℕ} (ended : e ≡ rest_at t c.at) where
  abbrev rest : ℕ
  rest = rest_at t c.at

  -- no space stands there
  scanned : past (is_of Space) t rest ≡ rest → (scan_from t (passed t c) rest).next ≡ line_over t c
  unfolding scan
  scanned q = ap (λ (a : ℕ). (scan_from t (passed t c) a).next) (sym q)

  pub at-text-end : length t ≤ e → record { at = e; line = c.line } ≡ line_over t c
  at-text-end h =
      let far : length t ≤ rest = omega (arith, ended) in
      let here : record { at = e; line = c.line } ≡ passed t c = λ i. record { at = ended i; line = c.line } in
      here ∙ stays t (passed t c) rest far ∙ scanned (past_end (is_of Space) t rest far)

  pub at-line-end : e < length t → {n : ℕ} → n ≡ line_after c.line → record { at = e + 1; line = n } ≡ line_over t c
  at-line-end h {n} q =
      let near : rest < length t = omega (arith, ended) in
      let ten : get_or t rest 0 ≡ 10 = eqb-true _ 10 (not-false _ (past-halts (is_of Rest) t c.at near)) in
      let no-space : is_of Space (get_or t rest 0) ≡ false = ap (λ (b : ℕ). eqb b 32) ten in
      let there : ◌≡◌ {A = Cursor} (record { at = e + 1; line = n }) (record { at = rest + 1; line = line_after c.line }) = λ i. record { at = ended i + 1; line = q i } in
      there ∙ leads-on t (passed t c) rest near ten ∙ scanned (past_stop (is_of Space) t rest near no-space)
