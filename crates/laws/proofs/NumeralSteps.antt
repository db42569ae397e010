-- Steps through numbered text: a cursor stays in the text, each number takes bytes and has a line, a header ends its line. Assumes nothing.
use Prim.Native.Nat.{ℕ, zero, suc, ◌+◌, ◌-◌, ◌≤◌, ◌<◌}
use mathlib.Core.Path.{◌≡◌, refl, ap, sym, subst, ◌∙◌}
use mathlib.Core.Bool.{Bool, true, false, not, cond, ◌&&◌, true≢false}
use mathlib.Core.List.{List}
use native.Mathlib.Omega.{arith}
use borrow.Author.Tests.{le-leb, lt-leb, eqb-true, not-false}
use lib.ListN.{length, get_or, take, drop, get_or-eq_default}
use lib.Seq.{get_or-take, get_or-drop}
use lib.Dec.{eqb, ltb}
use Rattle.std.proofs.Common.{Option, Some, None}
use Rattle.scan.specs.declared.Cursor.{Cursor}
use Rattle.scan.specs.Scan.{lead, past, rest_at, open_end, start}
use Rattle.scan.specs.Text.{bytes}
use Rattle.scan.proofs.Laws.{past_more, past_ge, past-le, get_d_any}
use Rattle.scan.proofs.Over.{past-halts}
use Rattle.written.specs.declared.Header.{Header}
use Rattle.written.specs.declared.Signed.{Signed}
use Rattle.written.specs.declared.Numeral.{Numeral}
use Rattle.written.specs.declared.Numeral.TheVariants.{Number, Bad, End}
use Rattle.written.specs.declared.Met.{Met}
use Rattle.written.specs.Lists.{times}
use Rattle.written.specs.Sheet.{is_number, begins}
use Rattle.written.specs.Numerals.{is_blank, is_gap, is_word, word_end, word_at, past_comments, sizes_at, header_at, is_signed, past_gaps, numeral_of, met, number_at}
use Rattle.laws.proofs.Basics.{by_cases, by-lt, by_test, both_first, both-second}
use Rattle.laws.proofs.All.{all_get_d}
use Rattle.laws.proofs.Sums.{total-take}
use Rattle.laws.proofs.Tokens.{lead-all, lead-length}
use Rattle.laws.proofs.Lines.{lines_more, lines-all, lines-between, lines-few}
use Rattle.laws.proofs.Faults.{Stands, start-stands, later-stands}
use Rattle.laws.proofs.Fuel.{left}

-- a run ends at the latest where a byte does not pass
past-at-most : (p : ℕ → Bool) (t : List ℕ) (i j : ℕ) → i ≤ j → p (get_or t j 0) ≡ false → past p t i ≤ j
unfolding past
past-at-most p t i j h fails =
    let s : List ℕ = drop i t in
    let n = lead p s in
    by-lt j (i + n)
    (λ l.
    let place : i + (j - i) ≡ j = omega arith in
    let passes = all_get_d p (take n s) (j - i) 0 (omega (arith, lead-length p s)) (lead-all p s) in
    let there : get_or (take n s) (j - i) 0 ≡ get_or t j 0 = get_or-take n s (j - i) 0 (omega arith) ∙ get_or-drop i t (j - i) 0 ∙ ap (λ (k : ℕ). get_or t k 0) place in
    absurd (true≢false (sym passes ∙ ap p there ∙ fails)))
    (λ l. l)

-- past the gaps, with the lines that end there
pub gaps_stands : (t : List ℕ) (c : Cursor) → Stands t c → Stands t (past_gaps t c)
unfolding past_gaps
gaps_stands t c h =
    let e = past is_gap t c.at in
    record {
      within = past-le is_gap t c.at h.within;
      first = omega (arith, h.first);
      most = omega (arith, h.most, lines-between t c.at e (past_ge is_gap t c.at));
    }

-- ---- a number

abbrev pub is_end : Numeral → Bool
is_end (Number x) = false
is_end (Bad n) = false
is_end End = true

-- the line of what is no end
abbrev pub line_in : Numeral → ℕ
line_in (Number x) = x.line
line_in (Bad n) = n
line_in End = 0

-- a line of the text
pub record LineOf (t : List ℕ) (n : ℕ) : Type 0 where
  pub some : 0 < n
  pub most : n ≤ suc (length t)
  pub closed : open_end t ≡ false → n ≤ times 10 t

-- that of a cursor before the text's end is one
pub stands-line : (t : List ℕ) (c : Cursor) → Stands t c → c.at < length t → LineOf t c.line
stands-line t c h l =
    record {
      some = h.first;
      most = omega (arith, h.most, lines-few t c.at);
      closed = λ closed. omega (arith, h.most, lines-all t closed c.at l);
    }

-- a word stands on its line
word_line : (w : List ℕ) (n : ℕ) → line_in (numeral_of w n) ≡ n
unfolding numeral_of
word_line w n = by_test (λ k. line_in k ≡ n) (is_signed w) (λ _. refl) (λ _. refl)

module _ (t : List ℕ) (c : Cursor) where
  -- where the gaps end
  abbrev pub word_from : Cursor
  word_from = past_gaps t c

  -- the text ends there, or a word begins
  pub number-end : length t ≤ word_from.at → number_at t c ≡ record { numeral = End; next = word_from }
  unfolding number_at met
  number-end h = rw (le-leb (length t) word_from.at h) refl

  pub number-here : word_from.at < length t
      → number_at t c
      ≡ record { numeral = numeral_of (word_at t word_from.at) word_from.line; next = record { at = word_end t word_from.at; line = word_from.line } }
  unfolding number_at met
  number-here h = rw (lt-leb (length t) word_from.at h) refl

  pub gaps_forward : c.at ≤ word_from.at
  unfolding past_gaps
  gaps_forward = past_ge is_gap t c.at

  -- a word has a byte
  word-further : word_from.at < length t → word_from.at < word_end t word_from.at
  unfolding past_gaps
  word-further h =
      let a = past is_gap t c.at in
      omega (arith, past_more is_word t a h (ap not (past-halts is_gap t c.at h)), past_ge is_word t (a + 1))

  -- where no word begins the text ends
  word-there : is_end (number_at t c).numeral ≡ false → word_from.at < length t
  word-there some = by-lt word_from.at (length t) (λ l. l) (λ l. absurd (true≢false (sym (ap (λ (m : Met). is_end m.numeral) (number-end l)) ∙ some)))

  -- the cursor stays in the text
  pub number-stands : Stands t c → Stands t (number_at t c).next
  number-stands h =
      by-lt word_from.at (length t)
      (λ l. rw (number-here l) (later-stands t word_from (gaps_stands t c h) (word_end t word_from.at) (past_ge is_word t word_from.at) (past-le is_word t word_from.at (omega arith))))
      (λ l. rw (number-end l) (gaps_stands t c h))

  -- what is no end takes a byte
  pub number-falls : is_end (number_at t c).numeral ≡ false → left t (number_at t c).next < left t c
  number-falls some =
      let l = word-there some in
      let e = ap (λ (m : Met). m.next.at) (number-here l) in
      omega (arith, e, word-further l, gaps_forward, past-le is_word t word_from.at (omega arith))

  -- what is met ends at a gap, if the text ends with its last line
  pub number-gap : open_end t ≡ false → is_end (number_at t c).numeral ≡ false
      → ((number_at t c).next.at < length t) × (is_gap (get_or t (number_at t c).next.at 0) ≡ true)
  number-gap closed some =
      let l = word-there some in
      let ten : get_or t (length t - 1) 0 ≡ 10 = get_d_any t 0 10 (length t - 1) (omega arith) ∙ eqb-true (get_or t (length t - 1) 10) 10 (not-false _ closed) in
      let near : word_end t word_from.at < length t =
      omega (arith, past-at-most is_word t word_from.at (length t - 1) (omega arith) (ap is_word ten)) in
      rw (ap (λ (m : Met). m.next.at) (number-here l)) (near, not-false _ (past-halts is_word t word_from.at near))

  -- and stands on a line of the text
  pub number-line : Stands t c → is_end (number_at t c).numeral ≡ false → LineOf t (line_in (number_at t c).numeral)
  number-line h some =
      let l = word-there some in
      let e = ap (λ (m : Met). line_in m.numeral) (number-here l) ∙ word_line (word_at t word_from.at) word_from.line in
      subst (LineOf t) (sym e) (stands-line t word_from (gaps_stands t c h) l)

  module _ (x : Signed) (is : (number_at t c).numeral ≡ Number x) where
    pub signed-falls : left t (number_at t c).next < left t c
    signed-falls = number-falls (ap is_end is)

    pub signed-line : Stands t c → LineOf t x.line
    signed-line h = subst (λ (k : Numeral). LineOf t (line_in k)) is (number-line h (ap is_end is))

  pub bad-line : (n : ℕ) → (number_at t c).numeral ≡ Bad n → Stands t c → LineOf t n
  bad-line n is h = subst (λ (k : Numeral). LineOf t (line_in k)) is (number-line h (ap is_end is))

-- ---- the header

-- where a header ends: after its beginning, at its line's byte 10
pub record Ends (t : List ℕ) (at : ℕ) (h : Header) : Type 0 where
  pub within : h.end < length t
  pub after : at < h.end
  pub line-end : get_or t h.end 0 ≡ 10

-- a byte that is not 0 stands in the text
there : (t : List ℕ) (i b : ℕ) → get_or t i 0 ≡ b → 0 < b → i < length t
there t i b e some = by-lt i (length t) (λ l. l) (λ l. absurd (omega (arith, e, get_or-eq_default t 0 l)))

abbrev HeadEnds : List ℕ → ℕ → Option Header → Type 0
HeadEnds t at (Some h) = Ends t at h
HeadEnds t at None = Unit {0}

sizes-end : (t : List ℕ) (at v : ℕ) → at < v → HeadEnds t at (sizes_at t v)
unfolding sizes_at
sizes-end t at v l =
    let c = past is_blank t (word_end t v) in
    let ended = eqb (get_or t (word_end t c) 0) 10 in
    by_test (HeadEnds t at) (is_number (word_at t v) && ltb (word_end t v) c && is_number (word_at t c) && ended)
    (λ form.
    let first = both_first (is_number (word_at t v) && ltb (word_end t v) c && is_number (word_at t c)) ended form in
    let ten = eqb-true (get_or t (word_end t c) 0) 10 (both-second (is_number (word_at t v) && ltb (word_end t v) c && is_number (word_at t c)) ended form) in
    record {
      within = there t (word_end t c) 10 ten (omega arith);
      after = omega (arith, past_ge is_word t v, past_ge is_blank t (word_end t v), past_ge is_word t c);
      line-end = ten;
    })
    (λ _. tt)

header-ends : (t : List ℕ) (at : ℕ) → HeadEnds t at (header_at t at)
unfolding header_at
header-ends t at =
    let k = past is_blank t (suc at) in
    let v = past is_blank t (k + 3) in
    by_test (HeadEnds t at) (begins (bytes "p") (drop at t) && ltb (suc at) k && begins (bytes "cnf") (drop k t) && ltb (k + 3) v)
    (λ _. sizes-end t at v (omega (arith, past_ge is_blank t (suc at), past_ge is_blank t (k + 3))))
    (λ _. tt)

pub header-end : (t : List ℕ) (at : ℕ) (h : Header) → header_at t at ≡ Some h → Ends t at h
header-end t at h e = subst (HeadEnds t at) e (header-ends t at)

-- the cursor at a header's end, on the header's line
pub header-stands : (t : List ℕ) (c : Cursor) (h : Header) → header_at t c.at ≡ Some h → Stands t c → Stands t (record { at = h.end; line = c.line })
header-stands t c h e stands =
    let ended = header-end t c.at h e in
    later-stands t c stands h.end (omega (arith, ended.after)) (omega (arith, ended.within))

-- ---- comments

-- past the line that begins at a cursor
abbrev pub past_line : List ℕ → Cursor → Cursor
past_line t c = record { at = suc (rest_at t c.at); line = suc c.line }

abbrev pub is_comment : List ℕ → Cursor → Bool
is_comment t c = eqb (get_or t c.at 0) 99

module _ (t : List ℕ) where
  comment_there : (c : Cursor) → is_comment t c ≡ true → c.at < length t
  comment_there c e = there t c.at 99 (eqb-true (get_or t c.at 0) 99 e) (omega arith)

  -- its line ends in a text that does
  comment_stands : open_end t ≡ false → (c : Cursor) → is_comment t c ≡ true → Stands t c → Stands t (past_line t c)
  comment_stands closed c e h =
      let l = comment_there c e in
      let is_rest : ℕ → Bool = λ b. not (eqb b 10) in
      let last = length t - 1 in
      let ten : is_rest (get_or t last 0) ≡ false = ap is_rest (get_d_any t 0 10 last (omega arith)) ∙ closed in
      let r = rest_at t c.at in
      let near : r < length t = omega (arith, past-at-most is_rest t c.at last (omega arith) ten) in
      let more = lines_more t r 0 near (eqb-true (get_or t r 0) 10 (not-false _ (past-halts is_rest t c.at near))) in
      let far = past_ge is_rest t c.at in
      record { within = near; first = omega arith; most = omega (arith, more, h.most, total-take (λ y. cond (eqb 10 y) 1 0) t c.at r far) }

  comment_falls : (c : Cursor) → is_comment t c ≡ true → left t (past_line t c) < left t c
  comment_falls c e = omega (arith, comment_there c e, past_ge (λ b. not (eqb b 10)) t c.at)

  -- the cursor past them is in the text
  pub comments-stand : open_end t ≡ false → (k : ℕ) (c : Cursor) → Stands t c → Stands t (past_comments k t c)
  unfolding past_comments
  comments-stand closed zero c h = h
  comments-stand closed (suc k) c h =
      by_test (Stands t) (is_comment t c) (λ e. comments-stand closed k (past_line t c) (comment_stands closed c e h)) (λ _. h)

  -- a turn for each byte left is enough: no comment begins where it stops, and more turns change nothing
  pub comments-stop : (k : ℕ) (c : Cursor) → left t c ≤ k → is_comment t (past_comments k t c) ≡ false
  unfolding past_comments
  comments-stop zero c h = by_cases (is_comment t c) (λ e. absurd (omega (arith, comment_there c e))) (λ e. e)
  comments-stop (suc k) c h =
      by_test (λ a. is_comment t a ≡ false) (is_comment t c) (λ e. comments-stop k (past_line t c) (omega (arith, comment_falls c e))) (λ e. e)

  -- no comment begins there
  pub comments-none : (k : ℕ) (c : Cursor) → is_comment t c ≡ false → past_comments k t c ≡ c
  unfolding past_comments
  comments-none zero c e = refl
  comments-none (suc k) c e = rw e refl

  pub comments-same : (j k : ℕ) (c : Cursor) → left t c ≤ j → left t c ≤ k → past_comments j t c ≡ past_comments k t c
  unfolding past_comments
  comments-same zero k c h l = sym (comments-none k c (comments-stop zero c h))
  comments-same (suc j) zero c h l = comments-none (suc j) c (comments-stop zero c l)
  comments-same (suc j) (suc k) c h l =
      by_cases (is_comment t c)
      (λ e. rw e (comments-same j k (past_line t c) (omega (arith, comment_falls c e)) (omega (arith, comment_falls c e))))
      (λ e. rw e refl)

  -- past the comments at the text's start
  pub head-stands : open_end t ≡ false → Stands t (past_comments (length t) t start)
  head-stands closed = comments-stand closed (length t) start (start-stands t)
