-- A reading's fuel is no part of its meaning: a turn for each byte left and one more are enough, and any more give the same. Assumes nothing.
use Prim.Native.Nat.{ℕ, zero, suc, ◌-◌, ◌≤◌, ◌<◌}
use mathlib.Core.Path.{◌≡◌, refl, ap}
use mathlib.Core.List.{List}
use native.Mathlib.Omega.{arith}
use lib.ListN.{length}
use Rattle.scan.specs.declared.Cursor.{Cursor}
use Rattle.scan.specs.Scan.{scan, start, passed, takes}
use Rattle.scan.proofs.Advance.{scan-sound, scan-falls, pass_forward}
use Rattle.written.specs.Limits.{Limits}
use Rattle.written.specs.Reading.{Reading, Draft, Turn, goes, drops, ends, nothing, at_token, next_line, led, read_from}
use Rattle.laws.proofs.Basics.{by_cases}
use Rattle.laws.proofs.Turns.{After, token-by}

-- ---- every turn but the last takes a byte

-- the bytes left at a cursor
abbrev pub left : List ℕ → Cursor → ℕ
left t c = length t - c.at

-- a step leaves no more, and neither does passing a line's rest
scan-left : (t : List ℕ) (c : Cursor) → left t (scan t c).next ≤ left t c
scan-left t c = by_cases (takes (scan t c).token) (λ e. omega (arith, scan-falls t c e)) (λ e. omega (arith, ap (λ (k : Cursor). k.at) ((scan-sound t c).still e)))

pub next-left : (t : List ℕ) (c : Cursor) → left t (next_line t c) ≤ left t c
next-left t c = omega (arith, scan-left t (passed t c), pass_forward t c)

-- a turn leaves fewer than n bytes, or ends the reading
abbrev pub Falls : List ℕ → ℕ → Cursor → Turn → Type 0
Falls t n c u = After (λ c' d. left t c' < n) (λ r. Unit {0}) t c u

pub turn-falls : (lim : Limits) (t : List ℕ) (c : Cursor) (d : Draft) → Falls t (left t c) (scan t c).next (at_token lim d (scan t c).token)
turn-falls lim t c d =
    token-by (λ c' d'. left t c' < left t c) (λ r. Unit {0}) lim t (scan t c).next d (scan t c).token
    (record {
      skip = scan-falls t c;
      leave = λ e. omega (arith, scan-falls t c e, next-left t (scan t c).next);
      take = λ e l _ _. scan-falls t c e;
      keep = λ e _ _. scan-falls t c e;
      refuse = λ _ r _. tt;
      cut = tt;
      finish = tt;
    })

-- ---- so the fuel makes no difference

led-same : (t : List ℕ) (n : ℕ) (u : Turn) (c : Cursor) (f g : Cursor → Draft → Reading) → Falls t n c u
    → ((c' : Cursor) (d : Draft) → left t c' < n → f c' d ≡ g c' d) → led u t c f ≡ led u t c g
led-same t n (goes d) c f g h same = same c d h
led-same t n (drops d) c f g h same = same (next_line t c) d h
led-same t n (ends r) c f g h same = refl

-- any two fuels above the bytes left give the same reading
pub fuel_same : (lim : Limits) (t : List ℕ) (j k : ℕ) (c : Cursor) (d : Draft) → left t c < j → left t c < k → read_from j lim t c d ≡ read_from k lim t c d
unfolding read_from
fuel_same lim t zero k c d h l = absurd (omega arith)
fuel_same lim t (suc j) zero c d h l = absurd (omega arith)
fuel_same lim t (suc j) (suc k) c d h l =
    led-same t (left t c) (at_token lim d (scan t c).token) (scan t c).next (λ c' d'. read_from j lim t c' d') (λ c' d'. read_from k lim t c' d')
    (turn-falls lim t c d)
    (λ c' d' few. fuel_same lim t j k c' d' (omega arith) (omega arith))

-- more fuel than a reading of the text has gives the same
pub fuel_enough : (lim : Limits) (t : List ℕ) (k : ℕ) → suc (length t) ≤ k → read_from k lim t start nothing ≡ read_from (suc (length t)) lim t start nothing
fuel_enough lim t k h = fuel_same lim t k (suc (length t)) start nothing (omega arith) (omega arith)
