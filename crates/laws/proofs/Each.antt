-- The ten tables taken one at a time: what holds of each holds of all. Assumes nothing.
use mathlib.Core.Path.{◌≡◌, refl}
use mathlib.Core.Bool.{Bool, true}
use Rattle.written.specs.Tables.{Lent, each, every}
use Rattle.laws.proofs.Basics.{both_first, both-second}

-- the ten, by name
pub data Table : Type 0 where
  Names Values Starts Literals OccurrenceStarts Occurrences Trues Breaks Uncovered Places : Table

-- what stands for one of them
abbrev pub at : {A : Type 0} → Table → Lent A → A
at Names t = t.names
at Values t = t.values
at Starts t = t.starts
at Literals t = t.literals
at OccurrenceStarts t = t.occurrence_starts
at Occurrences t = t.occurrences
at Trues t = t.trues
at Breaks t = t.breaks
at Uncovered t = t.uncovered
at Places t = t.places

-- equal at each is equal
pub by-each : {A : Type 0} (a b : Lent A) → ((k : Table) → at k a ≡ at k b) → a ≡ b
by-each a b h =
    λ i. record {
      names = h Names i;
      values = h Values i;
      starts = h Starts i;
      literals = h Literals i;
      occurrence_starts = h OccurrenceStarts i;
      occurrences = h Occurrences i;
      trues = h Trues i;
      breaks = h Breaks i;
      uncovered = h Uncovered i;
      places = h Places i;
    }

-- f table by table, at one
pub each_at : {A B C : Type 0} (f : A → B → C) (k : Table) (a : Lent A) (b : Lent B) → at k (each f a b) ≡ f (at k a) (at k b)
unfolding each
each_at f Names a b = refl
each_at f Values a b = refl
each_at f Starts a b = refl
each_at f Literals a b = refl
each_at f OccurrenceStarts a b = refl
each_at f Occurrences a b = refl
each_at f Trues a b = refl
each_at f Breaks a b = refl
each_at f Uncovered a b = refl
each_at f Places a b = refl

-- a test of every table, and of one
pub every-all : {A : Type 0} (p : A → Bool) (t : Lent A) → ((k : Table) → p (at k t) ≡ true) → every p t ≡ true
unfolding every
every-all p t h =
    rw (h Names, h Values, h Starts, h Literals, h OccurrenceStarts, h Occurrences, h Trues, h Breaks, h Uncovered, h Places)

pub every-at : {A : Type 0} (p : A → Bool) (t : Lent A) (k : Table) → every p t ≡ true → p (at k t) ≡ true
unfolding every
every-at p t Names h = search (both_first, both-second) depth 10
every-at p t Values h = search (both_first, both-second) depth 10
every-at p t Starts h = search (both_first, both-second) depth 10
every-at p t Literals h = search (both_first, both-second) depth 10
every-at p t OccurrenceStarts h = search (both_first, both-second) depth 10
every-at p t Occurrences h = search (both_first, both-second) depth 10
every-at p t Trues h = search (both_first, both-second) depth 10
every-at p t Breaks h = search (both_first, both-second) depth 10
every-at p t Uncovered h = search (both_first, both-second) depth 10
every-at p t Places h = search (both_first, both-second) depth 10
