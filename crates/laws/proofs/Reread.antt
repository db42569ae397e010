-- The answer line read again, token by token: each term once, in order, negated exactly if its value is 0. Assumes nothing.
use Prim.Native.Nat.{ℕ, suc, ◌+◌, ◌≤◌, ◌<◌}
use mathlib.Core.Path.{◌≡◌, refl, ap, sym, ◌∙◌}
use mathlib.Core.Bool.{true, false}
use mathlib.Core.List.{List, [], ◌∷◌, ◌++◌, append_assoc}
use native.Mathlib.Omega.{arith}
use native.Mathlib.Nat.{add-zero}
use lib.ListN.{length, get_or, length-append}
use lib.Seq.{append_snoc, get_or-append-add, get_or-append_seam}
use lib.Dec.{eqb, leb}
use borrow.Author.Tests.{lt-leb, ne_eqb}
use Rattle.scan.specs.declared.Cursor.{Cursor}
use Rattle.scan.specs.declared.Token.{Token}
use Rattle.scan.specs.declared.Token.TheVariants.{Line}
use Rattle.scan.specs.Scan.{ends, past, packed, named, tilde, scan, scan_from, to, cursor_at, line_after}
use Rattle.scan.proofs.Laws.{past_more, past_stop}
use Rattle.scan.proofs.Names.{byte_low, byte_high}
use Rattle.scan.proofs.Written.{named-reads}
use Rattle.written.specs.Lists.{all}
use Rattle.written.specs.Agreement.{is_name_byte, is_name}
use Rattle.written.specs.Printed.{name_of, signed, spaced, answer}
pub use Rattle.laws.specs.RunCalls.{literal, tokens, literals}
use Rattle.laws.proofs.Basics.{by_cases, both_first, both-second}
use Rattle.laws.proofs.Spelling.{Spelt, spelt}
use Rattle.laws.proofs.Answers.{name-length}

-- the byte after a front
at-seam : (pre ys : List ℕ) → get_or (pre ++ ys) (length pre) 0 ≡ get_or ys 0 0
at-seam pre ys = ap (λ (n : ℕ). get_or (pre ++ ys) n 0) (sym (add-zero (length pre))) ∙ get_or-append-add pre ys 0 0

-- a name of 1 to 8 bytes that a space or a line's end follows
module _ (c : Cursor) (b : ℕ) (rest : List ℕ) (closed : ends b ≡ true) (stops : is_name_byte b ≡ false) where
  bare-reads : (pre name : List ℕ) → all is_name_byte name ≡ true → length name ≤ 8 → 0 < length name
      → scan_from (pre ++ (name ++ b ∷ rest)) c (length pre) ≡ to (literal false (packed name) c.line) (length pre + length name) c.line
  unfolding scan_from
  bare-reads pre [] names few some = absurd (omega arith)
  bare-reads pre (x ∷ name) names few some =
      let text : List ℕ = pre ++ (x ∷ name ++ b ∷ rest) in
      let low : 33 ≤ x = byte_low x (both_first (is_name_byte x) (all is_name_byte name) names) in
      let high : x ≤ 125 = byte_high x (both_first (is_name_byte x) (all is_name_byte name) names) in
      let in-text : leb (length text) (length pre) ≡ false = lt-leb (length text) (length pre) (omega (arith, length-append pre (x ∷ name ++ b ∷ rest))) in
      rw (in-text, get_or-append_seam pre x (name ++ b ∷ rest) 0, ne_eqb x 10 (λ e. omega arith), ne_eqb x 126 (λ e. omega arith))
      (named-reads pre (x ∷ name) b rest names few some closed stops c false)

  after-tilde : (pre name : List ℕ) → all is_name_byte name ≡ true → length name ≤ 8 → 0 < length name
      → named (pre ++ (126 ∷ name ++ b ∷ rest)) c true (length pre + 1) ≡ to (literal true (packed name) c.line) (length pre + suc (length name)) c.line
  after-tilde pre name names few some =
      let more : length (pre ++ 126 ∷ []) ≡ length pre + 1 = length-append pre (126 ∷ []) in
      let ends_at : length pre + suc (length name) ≡ length (pre ++ 126 ∷ []) + length name = omega arith in
      rw (← append_snoc pre 126 (name ++ b ∷ rest), ← more, ends_at) (named-reads (pre ++ 126 ∷ []) name b rest names few some closed stops c true)

  tilde-reads : (pre name : List ℕ) → all is_name_byte name ≡ true → length name ≤ 8 → 0 < length name
      → scan_from (pre ++ (126 ∷ name ++ b ∷ rest)) c (length pre) ≡ to (literal true (packed name) c.line) (length pre + suc (length name)) c.line
  unfolding scan_from tilde
  tilde-reads pre [] names few some = absurd (omega arith)
  tilde-reads pre (x ∷ name) names few some =
      let text : List ℕ = pre ++ (126 ∷ x ∷ name ++ b ∷ rest) in
      let low : 33 ≤ x = byte_low x (both_first (is_name_byte x) (all is_name_byte name) names) in
      let size = length-append pre (126 ∷ x ∷ name ++ b ∷ rest) in
      let in-text : leb (length text) (length pre) ≡ false = lt-leb (length text) (length pre) (omega arith) in
      let in-text₂ : leb (length text) (length pre + 1) ≡ false = lt-leb (length text) (length pre + 1) (omega arith) in
      rw (in-text, get_or-append_seam pre 126 (x ∷ name ++ b ∷ rest) 0, in-text₂, get_or-append-add pre (126 ∷ x ∷ name ++ b ∷ rest) 1 0, ne_eqb x 32 (λ e. omega arith), ne_eqb x 10 (λ e. omega arith))
      (after-tilde pre (x ∷ name) names few some)

-- bytes that begin with what ends a name
record Stops (ys : List ℕ) : Type 0 where
  byte : ℕ
  rest : List ℕ
  is : ys ≡ byte ∷ rest
  closed : ends byte ≡ true
  stops : is_name_byte byte ≡ false

-- the terms that follow, or the line's end
tail_stops : (xs vs after : List ℕ) → length vs ≡ length xs → Stops (spaced xs vs ++ 10 ∷ after)
unfolding spaced
tail_stops [] vs after l = record { byte = 10; rest = after; is = refl; closed = refl; stops = refl }
tail_stops (x ∷ xs) [] after l = absurd (omega arith)
tail_stops (x ∷ xs) (v ∷ vs) after l = record { byte = 32; rest = signed v x ++ spaced xs vs ++ 10 ∷ after; is = refl; closed = refl; stops = refl }

-- a signed name
signed_reads : (c : Cursor) (pre ys : List ℕ) (v x : ℕ) → Stops ys → Spelt x
    → scan_from (pre ++ (signed v x ++ ys)) c (length pre) ≡ to (literal (eqb v 0) x c.line) (length pre + length (signed v x)) c.line
unfolding signed
signed_reads c pre ys v x k s =
    by_cases (eqb v 0)
    (λ e. rw (e, k.is) (rw s.says at (tilde-reads c k.byte k.rest k.closed k.stops pre (name_of 8 x) s.bytes (name-length 8 x) s.some)))
    (λ e. rw (e, k.is) (rw s.says at (bare-reads c k.byte k.rest k.closed k.stops pre (name_of 8 x) s.bytes (name-length 8 x) s.some)))

-- begins with no space
signed-first : (v x : ℕ) (ys : List ℕ) → Spelt x → eqb (get_or (signed v x ++ ys) 0 0) 32 ≡ false
unfolding signed
signed-first v x ys s = by_cases (eqb v 0) (λ e. rw e refl) (λ e. rw e (first (name_of 8 x) s.bytes s.some))
  where
    first : (name : List ℕ) → all is_name_byte name ≡ true → 0 < length name → eqb (get_or (name ++ ys) 0 0) 32 ≡ false
    first [] h l = absurd (omega arith)
    first (b ∷ name) h l = ne_eqb b 32 (λ e. omega (arith, byte_low b (both_first (is_name_byte b) (all is_name_byte name) h)))

module _ (n : ℕ) (pre ys : List ℕ) (v x : ℕ) (k : Stops ys) (s : Spelt x) where
  -- where the spaces end
  here : past (λ b. eqb b 32) (pre ++ (signed v x ++ ys)) (length pre) ≡ length pre
  here =
      let size = length-append pre (signed v x ++ ys) in
      let more = length-append (signed v x) ys in
      let some : 0 < length ys = rw k.is (omega arith) in
      past_stop (λ b. eqb b 32) (pre ++ (signed v x ++ ys)) (length pre) (omega arith)
      (ap (λ (b : ℕ). eqb b 32) (at-seam pre (signed v x ++ ys)) ∙ signed-first v x ys s)

  -- a term where no space stands before it, and after one
  first_reads : scan (pre ++ (signed v x ++ ys)) (cursor_at (length pre) n) ≡ to (literal (eqb v 0) x n) (length pre + length (signed v x)) n
  unfolding scan
  first_reads = ap (scan_from (pre ++ (signed v x ++ ys)) (cursor_at (length pre) n)) here ∙ signed_reads (cursor_at (length pre) n) pre ys v x k s

next-reads : (n : ℕ) (pre ys : List ℕ) (v x : ℕ) → Stops ys → Spelt x
    → scan (pre ++ (32 ∷ signed v x ++ ys)) (cursor_at (length pre) n) ≡ to (literal (eqb v 0) x n) (length (pre ++ 32 ∷ signed v x)) n
unfolding scan
next-reads n pre ys v x k s =
    let text : List ℕ = pre ++ 32 ∷ [] ++ (signed v x ++ ys) in
    let same : text ≡ pre ++ (32 ∷ signed v x ++ ys) = append_snoc pre 32 (signed v x ++ ys) in
    let more : length (pre ++ 32 ∷ []) ≡ length pre + 1 = length-append pre (32 ∷ []) in
    let size = length-append (pre ++ 32 ∷ []) (signed v x ++ ys) in
    let is-space : eqb (get_or text (length pre) 0) 32 ≡ true =
    ap (λ (t : List ℕ). eqb (get_or t (length pre) 0) 32) same ∙ ap (λ (b : ℕ). eqb b 32) (get_or-append_seam pre 32 (signed v x ++ ys) 0) in
    let past-space : past (λ b. eqb b 32) text (length pre) ≡ length (pre ++ 32 ∷ []) =
    sym (past_more (λ b. eqb b 32) text (length pre) (omega arith) is-space) ∙ ap (past (λ b. eqb b 32) text) (sym more)
    ∙ here n (pre ++ 32 ∷ []) ys v x k s in
    let end : length (pre ++ 32 ∷ []) + length (signed v x) ≡ length (pre ++ 32 ∷ signed v x) = omega (arith, length-append pre (32 ∷ signed v x)) in
    rw (← same) (ap (scan_from text (cursor_at (length pre) n)) past-space ∙ signed_reads (cursor_at (length pre) n) (pre ++ 32 ∷ []) ys v x k s
    ∙ ap (λ (m : ℕ). to (literal (eqb v 0) x n) m n) end)

-- the line's end
line_reads : (n : ℕ) (pre after : List ℕ) → scan (pre ++ 10 ∷ after) (cursor_at (length pre) n) ≡ to (Line n) (length pre + 1) (line_after n)
unfolding scan scan_from
line_reads n pre after =
    let size = length-append pre (10 ∷ after) in
    let ten = get_or-append_seam pre 10 after 0 in
    let stop : past (λ b. eqb b 32) (pre ++ 10 ∷ after) (length pre) ≡ length pre =
    past_stop (λ b. eqb b 32) (pre ++ 10 ∷ after) (length pre) (omega arith) (ap (λ (b : ℕ). eqb b 32) ten) in
    ap (scan_from (pre ++ 10 ∷ after) (cursor_at (length pre) n)) stop
    ∙ rw (lt-leb (length (pre ++ 10 ∷ after)) (length pre) (omega arith), ten) refl

-- ---- all terms

-- one token more, by where it leads
one_more : (k : ℕ) (t : List ℕ) (c d : Cursor) (token : Token) (ts : List Token) → scan t c ≡ record { token = token; next = d } → tokens k t d ≡ ts
    → tokens (suc k) t c ≡ token ∷ ts
one_more k t c d token ts e h = rw e (ap {B = List Token} (λ r. token ∷ r) h)

-- terms that each stand after a space
rest-reads : (n : ℕ) (after xs vs pre : List ℕ) → all is_name xs ≡ true → length vs ≡ length xs
    → tokens (suc (length xs)) (pre ++ (spaced xs vs ++ 10 ∷ after)) (cursor_at (length pre) n) ≡ literals n xs vs ++ Line n ∷ []
unfolding spaced
rest-reads n after [] vs pre h l = one_more 0 _ _ _ _ _ (line_reads n pre after) refl
rest-reads n after (x ∷ xs) [] pre h l = absurd (omega arith)
rest-reads n after (x ∷ xs) (v ∷ vs) pre h l =
    let ys : List ℕ = spaced xs vs ++ 10 ∷ after in
    let s = spelt x (both_first (is_name x) (all is_name xs) h) in
    let text : pre ++ (32 ∷ signed v x ++ spaced xs vs ++ 10 ∷ after) ≡ pre ++ (32 ∷ signed v x ++ ys) =
    ap {B = List ℕ} (λ l. pre ++ (32 ∷ l)) (append_assoc (signed v x) (spaced xs vs) (10 ∷ after)) in
    let text₂ : pre ++ (32 ∷ signed v x) ++ ys ≡ pre ++ (32 ∷ signed v x ++ ys) = append_assoc pre (32 ∷ signed v x) ys in
    rw text (one_more (suc (length xs)) _ _ _ _ _ (next-reads n pre ys v x (tail_stops xs vs after (omega arith)) s)
    (rw (← text₂) (rest-reads n after xs vs (pre ++ 32 ∷ signed v x) (both-second (is_name x) (all is_name xs) h) (omega arith))))

-- an answer of valid names, in line n of any text, gives the literal of each term in order and then the line's end
pub answer-reads : (n : ℕ) (pre after xs vs : List ℕ) → all is_name xs ≡ true → length vs ≡ length xs
    → tokens (suc (length xs)) (pre ++ (answer xs vs ++ 10 ∷ after)) (cursor_at (length pre) n) ≡ literals n xs vs ++ Line n ∷ []
unfolding answer spaced
answer-reads n pre after [] vs h l = one_more 0 _ _ _ _ _ (line_reads n pre after) refl
answer-reads n pre after (x ∷ xs) [] h l = absurd (omega arith)
answer-reads n pre after (x ∷ xs) (v ∷ vs) h l =
    let ys : List ℕ = spaced xs vs ++ 10 ∷ after in
    let s = spelt x (both_first (is_name x) (all is_name xs) h) in
    let text : pre ++ (signed v x ++ spaced xs vs ++ 10 ∷ after) ≡ pre ++ (signed v x ++ ys) =
    ap {B = List ℕ} (λ l. pre ++ l) (append_assoc (signed v x) (spaced xs vs) (10 ∷ after)) in
    let text₂ : pre ++ signed v x ++ ys ≡ pre ++ (signed v x ++ ys) = append_assoc pre (signed v x) ys in
    let end : length (pre ++ signed v x) ≡ length pre + length (signed v x) = length-append pre (signed v x) in
    rw text (one_more (suc (length xs)) _ _ _ _ _ (first_reads n pre ys v x (tail_stops xs vs after (omega arith)) s)
    (rw (← text₂, ← end) (rest-reads n after xs vs (pre ++ signed v x) (both-second (is_name x) (all is_name xs) h) (omega arith))))
