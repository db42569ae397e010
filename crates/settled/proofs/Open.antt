-- The statements that are no equation, or leave something open. Assumes nothing.
use Prim.Native.Nat.{ℕ}
use mathlib.Core.Path.{◌≡◌, refl, sym, ap, ◌∙◌}
use mathlib.Core.List.{List}
use mathlib.Core.Bool.{Bool, true≢false}
use lib.ListN.{take}
use native.Mathlib.Omega.{arith}
use Rattle.std.proofs.Common.{Result, Ok, Err}
use Rattle.written.specs.declared.Reason.{Reason}
use Rattle.written.specs.Lists.{place_of}
use Rattle.written.specs.Limits.{Limits}
use Rattle.written.specs.Clauses.{literal_of}
use Rattle.laws.proofs.Basics.{by-lt}
use Rattle.machine.specs.Slots.{Vacant}
use Rattle.names.specs.Finding.{homes, Finds}
use Rattle.reading_literal.specs.declared.Taken.{Taken}
use Rattle.reading_literal.specs.Taking.{new_terms, new_literals, put_if, Index, TookWith}
use Rattle.settled.specs.Outcomes.{Inner, InnerSeen}
use Rattle.settled.proofs.Facts.{meet, same, all_three}
use Rattle.tables.specs.contracts.part as part
use Rattle.names.specs.contracts.find as find
use Rattle.reading_literal.specs.contracts.take as taken

-- a search has one answer: where the name first stands, or the first empty slot
one-slot : {H : ℕ} {known slots : List ℕ} {name s u : ℕ} → Vacant H known slots name s → Vacant H known slots name u → s ≡ u
one-slot {s = s} {u = u} v w =
    by-lt s u (λ h. absurd (w.run s v.from h v.empty)) (λ h. by-lt u s (λ k. absurd (v.run u w.from k w.empty)) (λ k. omega arith))

one_found : (H : ℕ) (known slots : List ℕ) (name : ℕ) (r s : Result ℕ ℕ) → Finds H known slots name r → Finds H known slots name s → r ≡ s
one_found H known slots name (Ok t) (Ok u) p q = ap Ok (meet p.1 q.1)
one_found H known slots name (Ok t) (Err u) p q = absurd (true≢false (sym p.0 ∙ q.0))
one_found H known slots name (Err s) (Ok u) p q = absurd (true≢false (sym q.0 ∙ p.0))
one_found H known slots name (Err s) (Err u) p q = ap Err (one-slot p.1 q.1)

-- a literal that is taken has one fate, and leaves the names and the literals that go with it
one-taken : {X : Index} {lim : Limits} {names : List ℕ} {terms : ℕ} {literals : List ℕ} {from held : ℕ} {stamps slots : List ℕ} {name : ℕ} {negated : Bool}
    {n₁ l₁ s₁ h₁ n₂ l₂ s₂ h₂ : List ℕ} {r₁ r₂ : Result Taken Reason}
    → TookWith X lim names terms literals from held stamps slots name negated n₁ l₁ s₁ h₁ r₁
    → TookWith X lim names terms literals from held stamps slots name negated n₂ l₂ s₂ h₂ r₂ → ◌≡◌ {A = Result Taken Reason × List ℕ × List ℕ} (r₁, n₁, l₁) (r₂, n₂, l₂)
one-taken {names = names} {terms = terms} {literals = literals} {held = held} {name = name} {negated = negated} p q i =
    let e = meet p.told q.told in (
      e i,
      (p.names-left ∙ ap (λ z. put_if (new_terms z) names terms name) e ∙ sym q.names-left) i,
      (p.literals-left ∙ ap (λ z. put_if (new_literals z) literals held (literal_of (place_of name (take terms names)) negated)) e ∙ sym q.literals-left) i,
    )

pub find-settled : Inner find.ended (λ M 𝓤. find.clauses)
find-settled M 𝓤 𝓛 mem run κs a g = record { one-outcome = λ x y. all_three 𝓤 (λ r p q. same (one_found homes (take a.1.1.0 a.0.now) a.1.0.now a.1.1.1.0 x.result y.result p q) refl) }

-- what the part shows, not where it lies
pub part-settled : InnerSeen part.ended (List ℕ) (λ κs a x. x.result.now) (λ M 𝓤. part.clauses)
part-settled M 𝓤 𝓛 mem run κs a g = record { one_seen = λ x y. all_three 𝓤 (λ r p q. meet p q) }

-- not the stamps and slots: which slot a name takes is the search's business
pub taken-settled : InnerSeen taken.ended (Result Taken Reason × List ℕ × List ℕ) (λ κs a x. (x.result, x.left.0, x.left.1.0)) (λ M 𝓤. taken.clauses)
taken-settled M 𝓤 𝓛 mem run κs a g = record { one_seen = λ x y. all_three 𝓤 (λ r p q. one-taken p q) }
