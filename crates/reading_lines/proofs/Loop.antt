-- The loop over the tokens: what is left to read of the draft makes the whole reading, and each turn brings the text's end nearer. Assumes nothing.
use Prim.Native.Nat.{ℕ, zero, suc, ◌≤◌, ◌<◌}
use mathlib.Core.Path.{◌≡◌, refl, ap, sym, subst, ◌∙◌}
use mathlib.Core.List.{List, []}
use native.Mathlib.Omega.{arith}
use lib.ListN.{length, take}
use lib.Seq.{length-take-le}
use Rattle.std.proofs.Common.{Result, Ok, Err}
use Rattle.scan.specs.declared.Cursor.{Cursor}
use Rattle.scan.specs.declared.Step.{Step}
use Rattle.scan.specs.Scan.{scan, start, passed, line_of}
use Rattle.scan.proofs.Advance.{scan-falls}
use Rattle.written.specs.declared.Fault.{Fault}
use Rattle.written.specs.Limits.{Limits}
use Rattle.written.specs.Reading.{Reading, Draft, Turn, nothing, at_token, next_line, led, read_from}
use Rattle.laws.proofs.Times.{times-le}
use Rattle.laws.proofs.Turns.{After, token-by}
use Rattle.laws.proofs.Lines.{scan_lined}
use Rattle.laws.proofs.Faults.{Stands, start-stands, scan-stands, pass-stands}
use Rattle.laws.proofs.Fuel.{left, next-left}
use Rattle.machine.proofs.Slots.{none-known}
use Rattle.reading_literal.specs.Taking.{by_slots}
use Rattle.reading_lines.specs.declared.Place.{Place}
use Rattle.reading_lines.specs.declared.Next.{Next}
use Rattle.reading_lines.specs.declared.Next.TheVariants as N
use Rattle.reading_lines.specs.Drafting.{Desk, DraftedWith, GoingWith, TurnedWith, TurnsWith, Blank, read_all, Drawn}
use Rattle.reading_lines.specs.Turns.{outset}
use Rattle.reading_lines.proofs.Held.{begins-drafted}

-- tables as long as those that were lent
pub record Lent (w₀ w : Desk) : Type 0 where
  pub names-long : length w.names ≡ length w₀.names
  pub starts-long : length w.starts ≡ length w₀.starts
  pub literals-long : length w.literals ≡ length w₀.literals
  pub stamps-long : length w.stamps ≡ length w₀.stamps
  pub slots-long : length w.slots ≡ length w₀.slots

lent-on : (w₀ w w' : Desk) → Lent w₀ w → Lent w w' → Lent w₀ w'
lent-on w₀ w w' a b =
    record {
      names-long = b.names-long ∙ a.names-long;
      starts-long = b.starts-long ∙ a.starts-long;
      literals-long = b.literals-long ∙ a.literals-long;
      stamps-long = b.stamps-long ∙ a.stamps-long;
      slots-long = b.slots-long ∙ a.slots-long;
    }

-- the tables hold a draft, and the reading of it from here on, with turns enough, is the whole reading
pub record Underway (H : ℕ) (lim : Limits) (t : List ℕ) (w₀ w : Desk) (c : Cursor) (p : Place) : Type 0 where
  pub draft : Draft
  pub drafted : DraftedWith (by_slots H lim) lim w₀ w p draft
  pub turns : ℕ
  pub enough : left t c < turns
  pub rest : read_from turns lim t c draft ≡ read_all lim t
  pub stands : Stands t c
  pub lent : Lent w₀ w

-- the whole reading r, as a turn u that left the cursor at c, and as many turns after it as suffice for n bytes
record Rest (lim : Limits) (t : List ℕ) (r : Reading) (u : Turn) (c : Cursor) (n : ℕ) : Type 0 where
  turns : ℕ
  enough : n ≤ turns
  is : led u t c (λ c' d. read_from turns lim t c' d) ≡ r

module _ (H : ℕ) (lim : Limits) (t : List ℕ) where
  blank-drafted : (w : Desk) → Blank H lim t w → DraftedWith (by_slots H lim) lim w w outset nothing
  blank-drafted w b =
      begins-drafted (by_slots H lim) lim w w []
      (record {
        names-room = b.names-room;
        few-terms = omega arith;
        indexed = none-known H lim.terms w.slots b.homes-some b.slots-room b.bare;
        starts-room = b.starts-room;
        literals_room = b.literals_room;
        stamps-room = b.stamps-room;
        first = b.first;
        names_are = refl;
        starts_are = refl;
        beyond = record { names-beyond = refl; starts-beyond = refl; literals-beyond = refl; stamps-beyond = refl; slots-beyond = refl };
      })

  pub begun : (w : Desk) → Blank H lim t w → Underway H lim t w w start outset
  begun w b =
      record {
        draft = nothing;
        drafted = blank-drafted w b;
        turns = suc (length t);
        enough = omega arith;
        rest = refl;
        stands = start-stands t;
        lent = record { names-long = refl; starts-long = refl; literals-long = refl; stamps-long = refl; slots-long = refl };
      }

  -- ---- a turn's cursor

  -- it stands in the text, fewer bytes before its end
  abbrev Nearer : Cursor → Cursor → Type 0
  Nearer c c' = Stands t c' × (left t c' < left t c)

  turn-nearer : (c : Cursor) (d : Draft) → Stands t c → After (λ c' d'. Nearer c c') (λ r. Unit {0}) t (scan t c).next (at_token lim d (scan t c).token)
  turn-nearer c d h =
      let on = scan-stands t c h in
      let below = passed t (scan t c).next in
      token-by (λ c' d'. Nearer c c') (λ r. Unit {0}) lim t (scan t c).next d (scan t c).token
      (record {
        skip = λ e. (on, scan-falls t c e);
        leave = λ e. (scan-stands t below (pass-stands t (scan t c).next on), omega (arith, scan-falls t c e, next-left t (scan t c).next));
        take = λ e l _ _. (on, scan-falls t c e);
        keep = λ e _ _. (on, scan-falls t c e);
        refuse = λ _ r _. tt;
        cut = tt;
        finish = tt;
      })

  -- ---- where the loop goes on, and where it ends

  rest-by : (c : Cursor) (d : Draft) (r : Reading) (k : ℕ) → left t c < k → read_from k lim t c d ≡ r
      → Rest lim t r (at_token lim d (scan t c).token) (scan t c).next (left t c)
  unfolding read_from
  rest-by c d r zero l e = absurd (omega arith)
  rest-by c d r (suc k) l e = record { turns = k; enough = omega arith; is = e }

  module _ (w₀ w : Desk) (c : Cursor) (p : Place) (u : Underway H lim t w₀ w c p) where
    pub going : GoingWith (by_slots H lim) lim w p
    going = record { first = w₀; draft = u.draft; drafted = u.drafted }

    -- lines have numbers up to one more than the text has bytes
    pub line_low : line_of (scan t c).token ≤ suc (length t)
    line_low = omega (arith, (scan_lined t c).same, u.stands.most, times-le 10 (take c.at t), length-take-le c.at t u.stands.within, u.stands.within)

    abbrev turn : Turn
    turn = at_token lim u.draft (scan t c).token

    rest : Rest lim t (read_all lim t) turn (scan t c).next (left t c)
    rest = rest-by c u.draft (read_all lim t) u.turns u.enough u.rest

    -- the whole reading, where the turn is v
    read-on : {v : Turn} → turn ≡ v → read_all lim t ≡ led v t (scan t c).next (λ c' d. read_from rest.turns lim t c' d)
    read-on e = sym rest.is ∙ ap (λ (v : Turn). led v t (scan t c).next (λ c' d. read_from rest.turns lim t c' d)) e

    nearer : {v : Turn} → turn ≡ v → After (λ c' d. Nearer c c') (λ r. Unit {0}) t (scan t c).next v
    nearer e = subst (After (λ c' d. Nearer c c') (λ r. Unit {0}) t (scan t c).next) e (turn-nearer c u.draft u.stands)

    module _ (w' : Desk) where
      -- the loop goes on with a draft under way, nearer to the text's end
      abbrev GoesOn : Cursor → Place → Type 0
      GoesOn c' q = (Lent w w' → Underway H lim t w₀ w' c' q) × (left t c' < left t c)

      goes_on : (c' : Cursor) (q : Place) (d : Draft) → DraftedWith (by_slots H lim) lim w₀ w' q d → Nearer c c' → read_all lim t ≡ read_from rest.turns lim t c' d → GoesOn c' q
      goes_on c' q d h near e = (
        λ long. record {
          draft = d;
          drafted = h;
          turns = rest.turns;
          enough = omega (arith, near.1, rest.enough);
          rest = sym e;
          stands = near.0;
          lent = lent-on w₀ w w' u.lent long;
        },
        near.1,
      )

      -- after a token that left the cursor at c': on, or the reading
      abbrev pub Follows : Cursor → Result Next Fault → Type 0
      Follows c' (Ok (N.Goes q)) = GoesOn c' q
      Follows c' (Ok (N.Drops q)) = GoesOn (next_line t c') q
      Follows c' (Ok (N.Whole q)) = Drawn H lim t w₀ w' (Ok q)
      Follows c' (Err f) = Drawn H lim t w₀ w' (Err f)

      follows : (n : Result Next Fault) → TurnedWith (by_slots H lim) lim w₀ w' turn n → Follows (scan t c).next n
      follows (Ok (N.Goes q)) l = goes_on (scan t c).next q l.draft l.drafted (nearer l.is) (read-on l.is)
      follows (Ok (N.Drops q)) l = goes_on (next_line t (scan t c).next) q l.draft l.drafted (nearer l.is) (read-on l.is)
      follows (Ok (N.Whole q)) l = record { draft = l.draft; is = read-on l.is; drafted = l.drafted }
      follows (Err f) l = (read-on l.0, l.1)

      pub turned_on : (s : Step) (n : Result Next Fault) → s ≡ scan t c → TurnsWith (by_slots H lim) lim s.token w p w' n → Follows s.next n
      turned_on s n e k = rw e (follows n ((rw e at k).told w₀ u.draft u.drafted))
