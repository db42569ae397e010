-- The tables of a reading on its way, the draft that they hold, and how the code's turns are the written ones. Assumes nothing.
use Rattle.std.specs.Prelude.{ℕ, ◌+◌, ◌≤◌, ◌<◌, ◌≡◌, length, get_or, take, drop, Result, Ok, Err}
use mathlib.Core.List.{List, flatten}
use Rattle.scan.specs.declared.Token.{Token}
use Rattle.written.specs.declared.Fault.{Fault}
use Rattle.written.specs.Lists.{total}
use Rattle.written.specs.Limits.{Limits}
use Rattle.written.specs.Tables.{starts_from, over}
use Rattle.written.specs.Lending.{Held}
use Rattle.written.specs.Reading.{Reading, Draft, Turn, accepted, refused, goes, drops, ends, at_token, from_left}
use Rattle.reading_literal.specs.Line.{line_in}
use Rattle.reading_literal.specs.Taking.{Index, by_slots, OpenWith}
use Rattle.reading_lines.specs.declared.Place.{Place}
use Rattle.reading_lines.specs.declared.Next.{Next}
use Rattle.reading_lines.specs.declared.Next.TheVariants as N

-- the tables that a draft is made in
pub record Desk : Type 0 where
  pub names : List ℕ
  pub starts : List ℕ
  pub literals : List ℕ
  pub stamps : List ℕ
  pub slots : List ℕ

abbrev pub desk : List ℕ → List ℕ → List ℕ → List ℕ → List ℕ → Desk
desk n s l m o = record { names = n; starts = s; literals = l; stamps = m; slots = o }

abbrev pub desk_at : Held → Held → Held → Held → Held → Desk
desk_at n s l m o = desk n s l m o

-- past the full sizes, and past the slots that names are looked up by, nothing has changed
pub record BeyondWith (X : Index) (lim : Limits) (w₀ w : Desk) : Type 0 where
  pub names-beyond : drop lim.terms w.names ≡ drop lim.terms w₀.names
  pub starts-beyond : drop (lim.clauses + 1) w.starts ≡ drop (lim.clauses + 1) w₀.starts
  pub literals-beyond : drop lim.literals w.literals ≡ drop lim.literals w₀.literals
  pub stamps-beyond : drop lim.terms w.stamps ≡ drop lim.terms w₀.stamps
  pub slots-beyond : drop X.slots w.slots ≡ drop X.slots w₀.slots

-- the tables w hold the draft d at the place p; they were w₀ at first, and names and starts are written over those
pub record DraftedWith (X : Index) (lim : Limits) (w₀ w : Desk) (p : Place) (d : Draft) : Type 0 where
  pub ready : OpenWith X lim w.names p.terms w.literals p.from p.held w.stamps w.slots
  pub starts-room : lim.clauses < length w.starts
  pub few-clauses : length d.clauses ≤ lim.clauses
  pub terms_are : p.terms ≡ length d.names
  pub clauses_are : p.clauses ≡ length d.clauses
  pub from_is : p.from ≡ total length d.clauses
  pub names_are : w.names ≡ over d.names w₀.names
  pub starts_are : w.starts ≡ over (starts_from 0 d.clauses) w₀.starts
  pub kept_are : take p.from w.literals ≡ flatten d.clauses
  pub line-is : line_in w.literals p.from p.held ≡ d.line
  pub beyond : BeyondWith X lim w₀ w

-- the tables hold some draft
pub record GoingWith (X : Index) (lim : Limits) (w : Desk) (p : Place) : Type 0 where
  pub first : Desk
  pub draft : Draft
  pub drafted : DraftedWith X lim first w p draft

-- u is `from d` for a draft d that the tables hold
pub record LeadsWith {A : Type 0} (u : A) (from : Draft → A) (X : Index) (lim : Limits) (w₀ w : Desk) (p : Place) : Type 0 where
  pub draft : Draft
  pub is : u ≡ from draft
  pub drafted : DraftedWith X lim w₀ w p draft

-- the reading that a draft comes to at the text's end, where a clause is kept
abbrev pub whole : Draft → Reading
whole d = accepted (record { names = d.names; clauses = d.clauses })

-- where the code goes is the written turn u
abbrev pub TurnedWith : Index → Limits → Desk → Desk → Turn → Result Next Fault → Type 0
TurnedWith X lim w₀ w u (Ok (N.Goes p)) = LeadsWith u goes X lim w₀ w p
TurnedWith X lim w₀ w u (Ok (N.Drops p)) = LeadsWith u drops X lim w₀ w p
TurnedWith X lim w₀ w u (Ok (N.Whole p)) = LeadsWith u (λ d. ends (whole d)) X lim w₀ w p
TurnedWith X lim w₀ w u (Err f) = (u ≡ ends (refused f)) × BeyondWith X lim w₀ w

-- whatever draft the tables held, the token k has done to it what is written
pub record TurnsWith (X : Index) (lim : Limits) (k : Token) (w : Desk) (p : Place) (w' : Desk) (r : Result Next Fault) : Type 0 where
  pub told : (w₀ : Desk) (d : Draft) → DraftedWith X lim w₀ w p d → TurnedWith X lim w₀ w' (at_token lim d k) r

-- the same with names looked up by their homes, of which there are H
abbrev pub Beyond : ℕ → Limits → Desk → Desk → Type 0
Beyond H lim w₀ w = BeyondWith (by_slots H lim) lim w₀ w

abbrev pub Drafted : ℕ → Limits → Desk → Desk → Place → Draft → Type 0
Drafted H lim w₀ w p d = DraftedWith (by_slots H lim) lim w₀ w p d

abbrev pub Going : ℕ → Limits → Desk → Place → Type 0
Going H lim w p = GoingWith (by_slots H lim) lim w p

abbrev pub Leads : {A : Type 0} → A → (Draft → A) → ℕ → Limits → Desk → Desk → Place → Type 0
Leads u from H lim w₀ w p = LeadsWith u from (by_slots H lim) lim w₀ w p

abbrev pub Turned : ℕ → Limits → Desk → Desk → Turn → Result Next Fault → Type 0
Turned H lim w₀ w u r = TurnedWith (by_slots H lim) lim w₀ w u r

abbrev pub TurnsBy : ℕ → Limits → Token → Desk → Place → Desk → Result Next Fault → Type 0
TurnsBy H lim k w p w' r = TurnsWith (by_slots H lim) lim k w p w' r

-- what a draft of the text t asks of its tables at first; H homes of names have H + terms + 1 slots
pub record Blank (H : ℕ) (lim : Limits) (t : List ℕ) (w : Desk) : Type 0 where
  pub short : length t ≤ lim.text
  pub homes-some : 0 < H
  pub names-room : lim.terms ≤ length w.names
  pub starts-room : lim.clauses < length w.starts
  pub literals_room : lim.literals ≤ length w.literals
  pub stamps-room : lim.terms ≤ length w.stamps
  pub slots-room : H + lim.terms < length w.slots
  pub first : get_or w.starts 0 0 ≡ 0
  pub bare : (j : ℕ) → j ≤ H + lim.terms → get_or w.slots j 0 ≡ 0

-- the reading of a text from its start
abbrev pub read_all : Limits → List ℕ → Reading
read_all lim t = from_left lim t

-- what the code ends with is the written reading of the text t
abbrev pub Drawn : ℕ → Limits → List ℕ → Desk → Desk → Result Place Fault → Type 0
Drawn H lim t w₀ w (Ok p) = Leads (read_all lim t) whole H lim w₀ w p
Drawn H lim t w₀ w (Err f) = (read_all lim t ≡ refused f) × Beyond H lim w₀ w
