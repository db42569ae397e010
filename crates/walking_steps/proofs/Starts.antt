-- A start on tables that hold a moment: it can be made, and the tables then hold the moment that is written for it. Assumes nothing.
use mathlib.Core.Path.{◌≡◌, refl, ap, sym, ◌∙◌}
use mathlib.Core.Bool.{Bool}
use mathlib.Core.List.{List}
use Prim.Native.Nat.{ℕ, ◌+◌, ◌≤◌, ◌<◌}
use native.Mathlib.Omega.{arith}
use lib.ListN.{length}
use Rattle.words.specs.Words.{filled, word_count}
use Rattle.written.specs.Lists.{padded}
use Rattle.written.specs.Clauses.{State, afresh}
use Rattle.written.specs.Drawing.{start_values, start_state}
use Rattle.written.specs.Tables.{words_of, over}
use Rattle.written.specs.Marks.{held}
use Rattle.written.specs.Walk.{Moment, start}
use Rattle.laws.specs.Valid.{Bits}
use Rattle.laws.proofs.Padding.{over-again}
use Rattle.laws.proofs.Values.{words-length}
use Rattle.laws.proofs.Marks.{held-length, held-bits}
use Rattle.laws.proofs.Starts.{start-length, start-bits, filled-start}
use Rattle.machine.specs.Moving.{Fixed, Moving}
use Rattle.machine.specs.Passes.{recounted}
use Rattle.machine.specs.Holds.{Ready}
use Rattle.machine.proofs.Standings.{kept_trans}
use Rattle.machine.proofs.Sizes.{sizes_trans, recounted-sizes}
use Rattle.machine.proofs.Begins.{over-begins, words-hold}
use Rattle.machine.proofs.Recounted.{recount_can, recounted-walking, recounted-kept, agree-ready}
use Rattle.walking_steps.specs.Stepping.{Stand, held_in, drawn_for, start_in, CanStart, any_pinned}
use Rattle.walking_steps.specs.Following.{walking, Follows, CanBegin, CanGo}
use Rattle.walking_steps.proofs.Plain.{none-pinned}
use Rattle.walking_steps.proofs.Held.{held-over}

module _ (ρ : State → ℕ → ℕ) (top full : ℕ) (ms : List ℕ) (x : Fixed) (base : Moving) (m : Moment) (v : Stand) (f : Follows ρ top full x base m v) where
  abbrev terms : ℕ
  terms = length m.state.file.names

  abbrev clauses : ℕ
  clauses = length m.state.file.clauses

  -- the values that are drawn, and those that pinned terms have in their place
  abbrev bits : List ℕ
  bits = start_values terms v.generator

  abbrev vs : List ℕ
  vs = held ms bits

  drawn-long : length bits ≡ terms
  drawn-long = start-length terms v.generator

  long : length vs ≡ terms
  long = held-length ms bits ∙ drawn-long

  many : length vs ≡ length m.state.values
  many = long ∙ sym f.one_each

  filled_now : filled v.tables.words terms v.generator (word_count terms) ≡ over (padded full (words_of bits)) base.words
  unfolding word_count
  filled_now =
      filled-start v.tables.words terms v.generator (omega (arith, f.tables.words.room, f.one_each))
      ∙ ap (over (words_of bits)) f.words
      ∙ over-again full (words_of bits) (words_of m.state.values) base.words
      (words-length bits ∙ ap word_count (drawn-long ∙ sym f.one_each) ∙ sym (words-length m.state.values))

  drawn : (drawn_for ms terms v).words ≡ over (padded full (words_of vs)) base.words
  drawn =
      ap (held_in ms terms) filled_now ∙ ap (λ (k : ℕ). held_in ms k (over (padded full (words_of bits)) base.words)) (sym drawn-long)
      ∙ held-over full base.words ms bits (start-bits terms v.generator)

  vs-bits : Bits vs
  vs-bits = held-bits ms bits (start-bits terms v.generator)

  ready : Ready top m.state.file vs x (drawn_for ms terms v)
  ready =
      agree-ready (ρ m.state) top m.state x v.tables f.tables vs (drawn_for ms terms v).words many
      (words-hold vs vs-bits (rw drawn (over-begins full (words_of vs) base.words)))

  can : terms ≤ length ms → CanStart top terms clauses ms x v
  can l = record { counts = rw long at (recount_can top m.state.file vs x (drawn_for ms terms v) ready); marks = l }

  follows : Follows walking top full x base (start ms m) (start_in ms terms clauses x v)
  unfolding start start_state start_in afresh recounted
  follows =
      rw (← f.generator)
      (record {
        tables = rw long at (recounted-walking top m.state.file vs x (drawn_for ms terms v) ready);
        one_each = long;
        bits = vs-bits;
        words = drawn;
        sizes = sizes_trans (recounted-sizes clauses terms x (drawn_for ms terms v)) f.sizes;
        kept = rw long (kept_trans (rw f.one_each at f.kept) (rw long at (recounted-kept top m.state.file vs x (drawn_for ms terms v) ready)));
        generator = refl;
        flips = f.flips;
      })

-- a start can be made, and the tables then hold the written start
pub start-can : (top T C : ℕ) (ms : List ℕ) (x : Fixed) (v : Stand) → CanBegin top T C ms x v → CanStart top T C ms x v
start-can top T C ms x v b =
    rw (b.terms, b.clauses) at (can b.place top b.full ms x b.base b.moment v b.follows (rw b.terms b.marks))

pub start-follows : (ρ : State → ℕ → ℕ) (top full T C : ℕ) (ms : List ℕ) (x : Fixed) (base : Moving) (m : Moment) (v : Stand) → Follows ρ top full x base m v
    → length m.state.file.names ≡ T → length m.state.file.clauses ≡ C → Follows walking top full x base (start ms m) (start_in ms T C x v)
start-follows ρ top full T C ms x base m v f t c = rw (t, c) at (follows ρ top full ms x base m v f)

-- and the walk can go on from there
pub start-goes : (top T C k most : ℕ) (pinned : Bool) (ms : List ℕ) (x : Fixed) (v : Stand) → pinned ≡ any_pinned ms T → CanBegin top T C ms x v
    → v.flips + k < most → CanGo top k most pinned ms x (start_in ms T C x v)
unfolding start_in start afresh
start-goes top T C k most pinned ms x v any b l =
    let f = start-follows b.place top b.full T C ms x b.base b.moment v b.follows b.terms b.clauses in
    record {
      full = b.full;
      base = b.base;
      moment = start ms b.moment;
      follows = f;
      few = l;
      marks = omega (arith, f.one_each, b.terms, b.marks);
      plain = λ q t below. none-pinned ms T (sym any ∙ q) t (omega (arith, f.one_each, b.terms, below));
    }
