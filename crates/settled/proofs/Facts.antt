-- Facts that are held at once, and what follows from them; what is left behind ten tables, and behind five of them. Assumes nothing.
use Prim.Native.Nat.{ℕ}
use mathlib.Core.Path.{◌≡◌, sym, ◌∙◌}
use mathlib.Core.List.{List, []}
use seplogic.Ra.Ura.{Ura}
use base.Logic.{SProp, ent, sep, emp, via, emp∗, comm∗, fst∗, snd∗, both⊢}
use base.Fml.{Lft, GName}
use contract.BorrowLft.{◌⊑◌, ⊑_static}
use contract.Monad.{fact, fact_use, fact_i, conj, conj_l, conj_r}
use contract.Lifetimes.{Lfts}
use denote.Triple.Entry.{Args}
use denote.Triple.Clauses.{Ended}
use Rattle.written.specs.Tables.{Tables}
use Rattle.pages.specs.Pages.{Page, page_of}
use Rattle.pages.specs.declared.Page as lent
use Rattle.settled.specs.Outcomes.{Outcome}

-- two things that are the same third one
pub meet : {A : Type 0} {x y z : A} → x ≡ z → y ≡ z → x ≡ y
meet p q = p ∙ sym q

-- two outcomes with one result that leave the same
pub same : {T : Ended} {κs : Lfts T.signature.lifetimes} {a : Args T.signature κs} {x y : Outcome T κs a} → x.result ≡ y.result → x.left ≡ y.left → x ≡ y
same p q i = record { result = p i; left = q i }

-- what is left behind ten tables that are lent to be written, before what follows them
abbrev pub Ten : Type 0 → Type 0
Ten R = List ℕ × (List ℕ × (List ℕ × (List ℕ × (List ℕ × (List ℕ × (List ℕ × (List ℕ × (List ℕ × (List ℕ × R)))))))))

abbrev pub ten : {R : Type 0} → Tables → R → Ten R
ten t r =
    (t.names, (t.values, (t.starts, (t.literals, (t.occurrence_starts, (t.occurrences, (t.trues, (t.breaks, (t.uncovered, (t.places, r))))))))))

-- the same where values, true counts, break counts, list and places are lent to be written, and the others to be read
abbrev pub Five : Type 0 → Type 0
Five R =
    Unit {0} × (List ℕ × (Unit {0} × (Unit {0} × (Unit {0} × (Unit {0} × (List ℕ × (List ℕ × (List ℕ × (List ℕ × R)))))))))

abbrev pub five : {R : Type 0} → Tables → R → Five R
five t r = (tt, (t.values, (tt, (tt, (tt, (tt, (t.trues, (t.breaks, (t.uncovered, (t.places, r))))))))))

-- and where all ten are lent to be read
abbrev pub None : Type 0 → Type 0
None R =
    Unit {0} × (Unit {0} × (Unit {0} × (Unit {0} × (Unit {0} × (Unit {0} × (Unit {0} × (Unit {0} × (Unit {0} × (Unit {0} × R)))))))))

abbrev pub none : {R : Type 0} → R → None R
none r = (tt, (tt, (tt, (tt, (tt, (tt, (tt, (tt, (tt, (tt, r))))))))))

-- what a page holds: the place, what stands in the buffer, and which loan the buffer is
abbrev pub held : lent.Page → Page × GName
held p = (page_of p, p.out.ghost_name)

-- two pages of one loan that hold the same
pub one-page : (p q : lent.Page) {n : GName} {b : Page} → p.out.ghost_name ≡ n → page_of p ≡ b → q.out.ghost_name ≡ n → page_of q ≡ b → held p ≡ held q
one-page p q m e n f i = (meet e f i, meet m n i)

module _ {M : Type 1} (𝓤 : Ura M) where
  pub both : {A B C : Type 0} → (A → B → C) → ent 𝓤 (conj 𝓤 (fact 𝓤 A) (fact 𝓤 B)) (fact 𝓤 C)
  both {A} {B} {C} f =
      fact_use 𝓤 A (conj_l 𝓤 (fact 𝓤 A) (fact 𝓤 B)) (λ a. fact_use 𝓤 B (conj_r 𝓤 (fact 𝓤 A) (fact 𝓤 B)) (λ b. fact_i 𝓤 C (conj 𝓤 (fact 𝓤 A) (fact 𝓤 B)) (f a b)))

  -- beside what was asked
  pub all_three : {R A B C : Type 0} → (R → A → B → C) → ent 𝓤 (conj 𝓤 (fact 𝓤 R) (conj 𝓤 (fact 𝓤 A) (fact 𝓤 B))) (fact 𝓤 C)
  all_three {R} {A} {B} {C} f =
      fact_use 𝓤 R (conj_l 𝓤 (fact 𝓤 R) (conj 𝓤 (fact 𝓤 A) (fact 𝓤 B)))
      (λ r. via 𝓤 (conj 𝓤 (fact 𝓤 A) (fact 𝓤 B)) (conj_r 𝓤 (fact 𝓤 R) (conj 𝓤 (fact 𝓤 A) (fact 𝓤 B))) (both (f r)))

  -- of two clauses each, whatever was asked
  pub each : {A B A₂ B₂ C : Type 0} → (X : SProp 𝓤) → (A → B → A₂ → B₂ → C)
      → ent 𝓤 (conj 𝓤 X (conj 𝓤 (sep 𝓤 (fact 𝓤 A) (fact 𝓤 B)) (sep 𝓤 (fact 𝓤 A₂) (fact 𝓤 B₂)))) (fact 𝓤 C)
  each {A} {B} {A₂} {B₂} {C} X f =
      let P = sep 𝓤 (fact 𝓤 A) (fact 𝓤 B) in
      let Q = sep 𝓤 (fact 𝓤 A₂) (fact 𝓤 B₂) in
      via 𝓤 (conj 𝓤 P Q) (conj_r 𝓤 X (conj 𝓤 P Q))
      (fact_use 𝓤 A (via 𝓤 P (conj_l 𝓤 P Q) (fst∗ 𝓤 (fact 𝓤 A) (fact 𝓤 B)))
      (λ a. fact_use 𝓤 B (via 𝓤 P (conj_l 𝓤 P Q) (snd∗ 𝓤 (fact 𝓤 A) (fact 𝓤 B)))
      (λ b. fact_use 𝓤 A₂ (via 𝓤 Q (conj_r 𝓤 P Q) (fst∗ 𝓤 (fact 𝓤 A₂) (fact 𝓤 B₂)))
      (λ c. fact_use 𝓤 B₂ (via 𝓤 Q (conj_r 𝓤 P Q) (snd∗ 𝓤 (fact 𝓤 A₂) (fact 𝓤 B₂))) (λ d. fact_i 𝓤 C (conj 𝓤 P Q) (f a b c d))))))

  -- beside whatever was asked
  pub past-asked : (P : SProp 𝓤) {A B C : Type 0} → (A → B → C) → ent 𝓤 (conj 𝓤 P (conj 𝓤 (fact 𝓤 A) (fact 𝓤 B))) (fact 𝓤 C)
  past-asked P {A} {B} f = via 𝓤 (conj 𝓤 (fact 𝓤 A) (fact 𝓤 B)) (conj_r 𝓤 P (conj 𝓤 (fact 𝓤 A) (fact 𝓤 B))) (both f)

  -- what a type asks of a loan is nothing, where its values borrow nothing
  pub lent-long : (κ : Lft) → sep 𝓤 (fact 𝓤 (κ ⊑ [])) (emp 𝓤) ≡ emp 𝓤
  lent-long κ =
      let long = fact 𝓤 (κ ⊑ []) in
      both⊢ 𝓤 (snd∗ 𝓤 long (emp 𝓤)) (via 𝓤 (sep 𝓤 (emp 𝓤) long) (via 𝓤 long (fact_i 𝓤 (κ ⊑ []) (emp 𝓤) (⊑_static κ)) (emp∗ 𝓤 long)) (comm∗ 𝓤 (emp 𝓤) long))
