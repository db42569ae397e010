-- The open line and its stamps: one look at a stamp tells what scanning the line tells, and a literal put in keeps the stamps so. Assumes nothing.
use Prim.Native.Nat.{ℕ, suc, ◌+◌, ◌-◌, ◌≤◌, ◌<◌}
use mathlib.Core.Path.{◌≡◌, refl, ap, sym, ◌∙◌}
use mathlib.Core.Bool.{Bool, true, false, not, cond, false≢true}
use mathlib.Core.List.{List, [], ◌∷◌, ◌++◌}
use native.Mathlib.Omega.{arith}
use lib.ListN.{length, get_or, take, drop, set, length-set, length-drop}
use lib.Seq.{get_or-set_same, get_or-set_other, get_or-take, get_or-drop, length-take-le, take-suc-set, drop-set-add, take-add}
use Rattle.written.specs.Lists.{has, place_of}
use Rattle.written.specs.Clauses.{literal_of, term_of}
use Rattle.laws.proofs.Basics.{by_cases, by-eq}
use Rattle.laws.proofs.Membership.{has_get_d, place_of-lt, place_of-get_or}
use Rattle.laws.proofs.Literals.{term-of-literal, other-term}
use Rattle.reading_literal.specs.Line.{line_in, stands_in, Stamped}
use Rattle.reading_literal.specs.declared.Stands.TheVariants.{Not, Same, Opposite}

-- a literal of a term is one of two
either : (l t : ℕ) (n : Bool) → term_of l ≡ t → (l ≡ literal_of t n → ⊥) → l ≡ literal_of t (not n)
either l t n h q =
    by-eq l (literal_of t (not n)) (λ e. e) (λ e. absurd (other-term t l n (λ a. q (sym a)) (λ a. e (sym a)) (sym h)))

-- neither of two, by the answer
neither : (a b : Bool) → Not ≡ cond a Same (cond b Opposite Not) → (a ≡ false) × (b ≡ false)
neither true b e = let z : ◌≡◌ {A = ℕ} 0 1 = cc in absurd (omega arith)
neither false true e = let z : ◌≡◌ {A = ℕ} 0 1 = cc in absurd (omega arith)
neither false false e = (refl, refl)

-- ---- the line

module _ (ls : List ℕ) (from held : ℕ) (order : from ≤ held) (room : held ≤ length ls) (x : ℕ) where
  count : length (line_in ls from held) ≡ held - from
  count = length-take-le (held - from) (drop from ls) (omega (arith, length-drop from ls))

  at_place : (i : ℕ) → i < held - from → get_or (line_in ls from held) i 0 ≡ get_or ls (from + i) 0
  at_place i l = get_or-take (held - from) (drop from ls) i 0 l ∙ get_or-drop from ls i 0

  line-has : (p : ℕ) → from ≤ p → p < held → get_or ls p 0 ≡ x → has x (line_in ls from held) ≡ true
  line-has p l m e =
      let q : from + (p - from) ≡ p = omega arith in
      let here = at_place (p - from) (omega arith) ∙ (ap (λ (i : ℕ). get_or ls i 0) q ∙ e) in
      rw here at (has_get_d (line_in ls from held) (p - from) 0 (omega (arith, count)))

  line-none : ((p : ℕ) → from ≤ p → p < held → get_or ls p 0 ≡ x → ⊥) → has x (line_in ls from held) ≡ false
  line-none un =
      by_cases (has x (line_in ls from held))
      (λ h.
      let i = place_of x (line_in ls from held) in
      let m : i < held - from = omega (arith, count, place_of-lt x (line_in ls from held) h) in
      absurd (un (from + i) (omega arith) (omega arith) (sym (at_place i m) ∙ place_of-get_or x (line_in ls from held) 0 h)))
      (λ h. h)

-- with one literal more
pub line-more : (ls : List ℕ) (from held x : ℕ) → from ≤ held → held < length ls → line_in (set ls held x) from (held + 1) ≡ line_in ls from held ++ x ∷ []
line-more ls from held x o l =
    let i = held - from in
    let e : held + 1 - from ≡ suc i = omega arith in
    let f : from + i ≡ held = omega arith in
    ap (λ (k : ℕ). take k (drop from (set ls held x))) e
    ∙ (ap (λ (k : ℕ). take (suc i) (drop from (set ls k x))) (sym f)
    ∙ (ap (take (suc i)) (drop-set-add from ls i x)
    ∙ take-suc-set (drop from ls) i x (omega (arith, length-drop from ls))))

-- the literals before the line, and those of the line, are all that are held
pub line-whole : (ls : List ℕ) (from held : ℕ) → from ≤ held → take held ls ≡ take from ls ++ line_in ls from held
line-whole ls from held o = let f : from + (held - from) ≡ held = omega arith in ap (λ (k : ℕ). take k ls) (sym f) ∙ take-add from (held - from) ls

-- a line without literals
pub line-empty : (ls : List ℕ) (at : ℕ) → line_in ls at at ≡ []
line-empty ls at = let z : at - at ≡ 0 = omega arith in ap (λ (k : ℕ). take k (drop at ls)) z

-- ---- the stamps

-- a line begins, and a line that is dropped gives back its literals
pub marked-none : (ls : List ℕ) (at : ℕ) (stamps : List ℕ) (terms : ℕ) → at ≤ length ls → Stamped ls at at stamps terms
marked-none ls at stamps terms h =
    record { order = omega arith; room = h; below = λ p l m. absurd (omega arith); here = λ p l m. absurd (omega arith) }

module _ (ls : List ℕ) (from held : ℕ) (stamps : List ℕ) (terms : ℕ) (st : Stamped ls from held stamps terms) where
  -- more terms are known
  pub stamped-grows : (more : ℕ) → terms ≤ more → Stamped ls from held stamps more
  stamped-grows more h = record { order = st.order; room = st.room; below = λ p l m. omega (arith, st.below p l m); here = st.here }

  module _ (t : ℕ) (n : Bool) where
    -- no literal of the term stands in the line
    abbrev Absent : Type 0
    Absent = (p : ℕ) → from ≤ p → p < held → term_of (get_or ls p 0) ≡ t → ⊥

    absent : Absent → Not ≡ stands_in t n (line_in ls from held)
    unfolding stands_in
    absent un = rw (none n, none (not n))
      where
        none : (b : Bool) → has (literal_of t b) (line_in ls from held) ≡ false
        none b = line-none ls from held st.order st.room (literal_of t b) (λ p l m e. un p l m (ap term_of e ∙ term-of-literal t b))

    -- a place in the line with a literal of the term is where the stamp says
    pointed : (p : ℕ) → from ≤ p → p < held → term_of (get_or ls p 0) ≡ t → get_or stamps t 0 ≡ p
    pointed p l m e = ap (λ (x : ℕ). get_or stamps x 0) (sym e) ∙ st.here p l m

    abbrev p : ℕ
    p = get_or stamps t 0

    pub stamp_before : p < from → Not ≡ stands_in t n (line_in ls from held)
    stamp_before h = absent (λ q l m e. omega (arith, pointed q l m e))

    pub stamp_after : held ≤ p → Not ≡ stands_in t n (line_in ls from held)
    stamp_after h = absent (λ q l m e. omega (arith, pointed q l m e))

    pub stamp_of_another : (term_of (get_or ls p 0) ≡ t → ⊥) → Not ≡ stands_in t n (line_in ls from held)
    stamp_of_another un = absent (λ q a b e. un (ap (λ (x : ℕ). term_of (get_or ls x 0)) (pointed q a b e) ∙ e))

    module _ (low : from ≤ p) (high : p < held) where
      pub stamp_same : get_or ls p 0 ≡ literal_of t n → Same ≡ stands_in t n (line_in ls from held)
      unfolding stands_in
      stamp_same e = rw (line-has ls from held st.order st.room (literal_of t n) p low high e)

      pub stamp_opposite : term_of (get_or ls p 0) ≡ t → (get_or ls p 0 ≡ literal_of t n → ⊥) → Opposite ≡ stands_in t n (line_in ls from held)
      unfolding stands_in
      stamp_opposite h un =
          rw (
            line-none ls from held st.order st.room (literal_of t n)
                (λ q a b e. un (ap (λ (x : ℕ). get_or ls x 0) (pointed q a b (ap term_of e ∙ term-of-literal t n)) ∙ e)),
            line-has ls from held st.order st.room (literal_of t (not n)) p low high (either (get_or ls p 0) t n h un),
          )

    -- what the answer `Not` tells
    not_there : Not ≡ stands_in t n (line_in ls from held) → Absent
    unfolding stands_in
    not_there e q l m h =
        let none = neither (has (literal_of t n) (line_in ls from held)) (has (literal_of t (not n)) (line_in ls from held)) e in
        by-eq (get_or ls q 0) (literal_of t n)
        (λ a. false≢true (sym none.0 ∙ line-has ls from held st.order st.room (literal_of t n) q l m a))
        (λ a. false≢true (sym none.1 ∙ line-has ls from held st.order st.room (literal_of t (not n)) q l m (either (get_or ls q 0) t n h a)))

    -- a term that is new to the names is new to the line
    unheard : terms ≤ t → Absent
    unheard h q l m e = omega (arith, st.below q l m)

    pub unheard-not : terms ≤ t → Not ≡ stands_in t n (line_in ls from held)
    unheard-not h = absent (unheard h)

    -- a literal of a term that is new to the line; the term may be new to the names too
    module _ (new : Not ≡ stands_in t n (line_in ls from held)) (more : held < length ls) (in_stamps : t < length stamps) where
      abbrev ls' : List ℕ
      ls' = set ls held (literal_of t n)

      abbrev stamps' : List ℕ
      stamps' = set stamps t held

      term-here : term_of (get_or ls' held 0) ≡ t
      term-here = ap term_of (get_or-set_same ls held (literal_of t n) 0 more) ∙ term-of-literal t n

      term-other : (q : ℕ) → (q ≡ held → ⊥) → term_of (get_or ls' q 0) ≡ term_of (get_or ls q 0)
      term-other q a = ap term_of (get_or-set_other ls held q (literal_of t n) 0 a)

      pub stamped-more : (terms' : ℕ) → t < terms' → terms ≤ terms' → Stamped ls' from (held + 1) stamps' terms'
      stamped-more terms' low grows =
          record {
            order = omega (arith, st.order);
            room = rw (length-set ls held (literal_of t n)) (omega arith);
            below = λ q l m.
                by-eq q held (λ a. omega (arith, term-here, ap (λ (x : ℕ). term_of (get_or ls' x 0)) a))
                (λ a. omega (arith, term-other q a, st.below q l (omega arith)));
            here = λ q l m.
                by-eq q held
                (λ a.
                ap (λ (x : ℕ). get_or stamps' (term_of (get_or ls' x 0)) 0) a
                ∙ (ap (λ (x : ℕ). get_or stamps' x 0) term-here ∙ (get_or-set_same stamps t held 0 in_stamps ∙ sym a)))
                (λ a.
                ap (λ (x : ℕ). get_or stamps' x 0) (term-other q a)
                ∙ (get_or-set_other stamps t (term_of (get_or ls q 0)) held 0 (not_there new q l (omega arith)) ∙ st.here q l (omega arith)));
          }
