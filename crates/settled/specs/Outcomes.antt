-- "Each statement settles the returned value and every entry of the lent tables for all inputs, refused ones too; show that two outcomes allowed by it
-- are equal." A statement is taken as the toolchain reads it from the code: a function's generated `ended` and `clauses`. Assumes nothing.
use Rattle.std.specs.Prelude.{◌≡◌}
use seplogic.Ra.Ura.{Ura}
use base.Logic.{SProp, ent, emp}
use prog.Memory.{Memory}
use prog.Routine.{Routine}
use types.Logic.{Logic}
use contract.Monad.{Fun, fact, conj}
use contract.Lifetimes.{Lfts}
use denote.Triple.Entry.{Args, Res}
use denote.Triple.Clauses.{Ended, Clauses, ClausesAt, Lasts, at_exit}

-- an outcome of a call with the arguments a: its result, and what it leaves behind each reference that it was lent to write
pub record Outcome (T : Ended) (κs : Lfts T.signature.lifetimes) (a : Args T.signature κs) : Type 0 where
  pub result : Res T.signature κs
  pub left : Lasts T κs a

module _ {M : Type 1} (𝓤 : Ura M) (T : Ended) (κs : Lfts T.signature.lifetimes) (a : Args T.signature κs) (c : ClausesAt 𝓤 T κs) (g : c.ghost) where
  -- the `ensures` holds of an outcome
  abbrev pub allows : Outcome T κs a → SProp 𝓤
  allows x = c.ensures g x.result (at_exit T κs a x.left)

  -- of arguments for which the `requires` holds, two outcomes that are allowed are equal
  pub record Settles : Type 2 where
    pub one-outcome : (x y : Outcome T κs a) → ent 𝓤 (conj 𝓤 (c.requires g) (conj 𝓤 (allows x) (allows y))) (fact 𝓤 (x ≡ y))

  -- the same of what is seen of an outcome
  pub record SettlesSeen {S : Type 0} (seen : Outcome T κs a → S) : Type 2 where
    pub one_seen : (x y : Outcome T κs a) → ent 𝓤 (conj 𝓤 (c.requires g) (conj 𝓤 (allows x) (allows y))) (fact 𝓤 (seen x ≡ seen y))

  -- nothing is asked of the arguments: so all of them have one outcome
  pub record SettlesAll : Type 2 where
    pub asks_nothing : c.requires g ≡ emp 𝓤
    pub one-outcome : (x y : Outcome T κs a) → ent 𝓤 (conj 𝓤 (allows x) (allows y)) (fact 𝓤 (x ≡ y))

-- a function's `requires` and `ensures`, in every model of memory
abbrev pub Contract : Ended → Type 2
Contract T = (M : Type 1) (𝓤 : Ura M) (𝓛 : Logic 𝓤) → (Memory → SProp 𝓤) → (Routine → Fun 𝓤) → Clauses 𝓤 T

-- the statement of a public function
abbrev pub Public : (T : Ended) → Contract T → Type 2
Public T f = (M : Type 1) (𝓤 : Ura M) (𝓛 : Logic 𝓤) (mem : Memory → SProp 𝓤) (run : Routine → Fun 𝓤)
    (κs : Lfts T.signature.lifetimes) (a : Args T.signature κs) (g : (f M 𝓤 𝓛 mem run κs a).ghost) → SettlesAll 𝓤 T κs a (f M 𝓤 𝓛 mem run κs a) g

-- the statement of a function that one crate lends to another, and that may ask for something
abbrev pub Inner : (T : Ended) → Contract T → Type 2
Inner T f = (M : Type 1) (𝓤 : Ura M) (𝓛 : Logic 𝓤) (mem : Memory → SProp 𝓤) (run : Routine → Fun 𝓤)
    (κs : Lfts T.signature.lifetimes) (a : Args T.signature κs) (g : (f M 𝓤 𝓛 mem run κs a).ghost) → Settles 𝓤 T κs a (f M 𝓤 𝓛 mem run κs a) g

-- the same where the statement leaves something open, by what it settles
abbrev pub InnerSeen : (T : Ended) (S : Type 0) → ((κs : Lfts T.signature.lifetimes) (a : Args T.signature κs) → Outcome T κs a → S) → Contract T → Type 2
InnerSeen T S seen f = (M : Type 1) (𝓤 : Ura M) (𝓛 : Logic 𝓤) (mem : Memory → SProp 𝓤) (run : Routine → Fun 𝓤)
    (κs : Lfts T.signature.lifetimes) (a : Args T.signature κs) (g : (f M 𝓤 𝓛 mem run κs a).ghost) → SettlesSeen 𝓤 T κs a (f M 𝓤 𝓛 mem run κs a) g (seen κs a)
