-- What a call answers and leaves, in one equation: put together and taken apart. Assumes nothing.
use Prim.Native.Nat.{ℕ}
use mathlib.Core.Path.{◌≡◌, ap, ◌∙◌}
use mathlib.Core.List.{List}
use Rattle.written.specs.Tables.{Tables}
use Rattle.written.specs.Outcomes.{Leaves, leaves, Ten, ten, ten_of, told}

pub both_left : {A : Type 0} {a : A} {t : Tables} {ms : List ℕ} {l : Leaves A} → a ≡ l.answer → t ≡ l.tables → ms ≡ l.marks → leaves a t ms ≡ l
both_left p q r i = leaves (p i) (q i) (r i)

pub the_answer : {A : Type 0} {l m : Leaves A} → l ≡ m → l.answer ≡ m.answer
the_answer e i = (e i).answer

pub the_tables : {A : Type 0} {l m : Leaves A} → l ≡ m → l.tables ≡ m.tables
the_tables e i = (e i).tables

pub the_marks : {A : Type 0} {l m : Leaves A} → l ≡ m → l.marks ≡ m.marks
the_marks e i = (e i).marks

-- the answer and the ten tables, and the marks beside them
pub both-ten : {A : Type 0} {a : A} {t : Tables} {l : Ten A} → a ≡ l.answer → t ≡ l.tables → ten a t ≡ l
both-ten p q i = ten (p i) (q i)

pub ten-marked : {A : Type 0} {a : A} {t : Tables} {ms : List ℕ} {l : Leaves A} → ten a t ≡ ten_of l → ms ≡ l.marks → leaves a t ms ≡ l
ten-marked e r i = leaves (e i).answer (e i).tables (r i)

-- an answer that is told another way
pub told_as : {A B : Type 0} (f : A → B) {b : B} {a : A} {t : Tables} {ms : List ℕ} {l : Leaves A} → b ≡ f a → leaves a t ms ≡ l
    → leaves b t ms ≡ told f l
told_as f q e = both_left (q ∙ ap f (the_answer e)) (the_tables e) (the_marks e)
