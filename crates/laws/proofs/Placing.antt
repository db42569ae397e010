-- Request 2: a blank line is refused with its line, and no line of an accepted text goes unplaced.
-- Where its reading comes to a line's end, the line has a literal and is kept as a clause. Assumes nothing.
use Prim.Native.Nat.{ℕ, ◌≤◌, ◌<◌}
use mathlib.Core.Path.{◌≡◌, refl, ap, sym, subst, ◌∙◌}
use mathlib.Core.Bool.{Bool, true, false, true≢false}
use mathlib.Core.List.{List, [], ◌∷◌}
use native.Mathlib.Omega.{arith}
use lib.ListN.{length, get_or}
use borrow.Author.Tests.{lt-leb, eq-eqb}
use Rattle.scan.specs.declared.Cursor.{Cursor}
use Rattle.scan.specs.declared.Token.{Token}
use Rattle.scan.specs.declared.Token.TheVariants.{Line}
use Rattle.scan.specs.Scan.{past, scan, scan_from, open_end}
use Rattle.written.specs.declared.Reason.TheVariants.{BlankLine}
use Rattle.written.specs.declared.Fault.{Fault}
use Rattle.written.specs.Limits.{Limits}
use Rattle.written.specs.Reasons.{fault_at}
use Rattle.written.specs.Clauses.{File}
use Rattle.written.specs.Reading.{Reading, Draft, accepted, refused, goes, kept, at_token, read_text}
use Rattle.laws.specs.ReadCalls.{Comes, Fails, is_space, Bare}
use Rattle.laws.specs.ReadCalls.Fails.{clause-room, blank-line}
use Rattle.laws.proofs.Basics.{by_cases, by-lt}
use Rattle.laws.proofs.Refusals.{line-room, stops-exactly}
use Rattle.laws.proofs.ReadCalls.{long-read, open_read}

-- ---- refused, with its line

bare_ends : (text : List ℕ) (c : Cursor) → Bare text c.at → (scan text c).token ≡ Line c.line
unfolding scan scan_from
bare_ends text c bare =
    let end : ℕ = past is_space text c.at in
    rw (lt-leb (length text) end bare.within, eq-eqb (get_or text end 0) 10 bare.ended) refl

-- "Lines of nothing or only spaces are to be refused", "met at its end in reading order, with its line"
pub blank-refused : (lim : Limits) (text : List ℕ) → length text ≤ lim.text → open_end text ≡ false → (c : Cursor) (d : Draft) → Comes lim text c d
    → d.line ≡ [] → Bare text c.at → read_text lim text ≡ refused (fault_at c.line BlankLine)
blank-refused lim text short closed c d comes none bare =
    let e : Fault = fault_at c.line BlankLine in
    let fails : Fails lim d (scan text c).token e = subst (λ (k : Token). Fails lim d k e) (sym (bare_ends text c bare)) (blank-line c.line none) in
    (stops-exactly lim text short closed e).1 (c, d, comes, fails)

-- ---- and so nowhere in an accepted text

abbrev is_accepted : Reading → Bool
is_accepted (accepted f) = true
is_accepted (refused e) = false

module _ (lim : Limits) (text : List ℕ) (f : File) (told : read_text lim text ≡ accepted f) where
  not-refused : (e : Fault) → read_text lim text ≡ refused e → ⊥
  not-refused e r = true≢false (ap is_accepted (sym told ∙ r))

  module _ (c : Cursor) (d : Draft) (comes : Comes lim text c d) where
    -- every token that the reading comes to can be passed
    passed : (e : Fault) → Fails lim d (scan text c).token e → ⊥
    passed e h =
        by-lt lim.text (length text) (λ l. not-refused _ (long-read lim text l))
        (λ s. by_cases (open_end text) (λ o. not-refused _ (open_read lim text s o))
        (λ closed. not-refused e ((stops-exactly lim text s closed e).1 (c, d, comes, h))))

    module _ (n : ℕ) (ended : (scan text c).token ≡ Line n) where
      at-end : (e : Fault) → Fails lim d (Line n) e → ⊥
      at-end e h = passed e (subst (λ (k : Token). Fails lim d k e) (sym ended) h)

      -- it is not blank
      pub no_blank : 0 < length d.line
      no_blank = some d.line refl
        where
          some : (ls : List ℕ) → d.line ≡ ls → 0 < length ls
          some [] none = absurd (at-end _ (blank-line n none))
          some (l ∷ ls) _ = omega arith

      pub line_kept : at_token lim d (scan text c).token ≡ goes (kept d)
      unfolding at_token
      line_kept =
          ap (at_token lim d) ended
          ∙ by-lt (length d.clauses) lim.clauses (line-room lim d n d.line no_blank) (λ full. absurd (at-end _ (clause-room n no_blank full)))
