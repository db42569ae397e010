-- Names found by slots: a search of the slots is a search of the names, and a new name put in its slot is found after. Assumes nothing.
use mathlib.Core.Path.{◌≡◌, refl, ap, sym, ◌∙◌}
use mathlib.Core.Bool.{true, false}
use mathlib.Core.List.{List, [], ◌∷◌, ◌++◌}
use Prim.Native.Nat.{ℕ, ◌+◌, ◌-◌, ◌≤◌, ◌<◌}
use native.Mathlib.Nat.{mod-lt}
use native.Mathlib.Numerals.{add-one}
use native.Mathlib.Omega.{arith}
use lib.ListN.{length, get_or, take, set, length-set, length-append, get_or-append}
use lib.Seq.{length-take-le, take-suc, take_all, get_or-take, get_or-append_seam, get_or-set_same, get_or-set_other}
use Rattle.written.specs.Lists.{has, place_of, differ}
use Rattle.laws.proofs.Basics.{by_cases, by-eq, by-lt}
use Rattle.laws.proofs.Membership.{has_get_d, place_of-lt, place_of-get_or, differ_snoc}
use Rattle.laws.proofs.Times.{differ-place}
use Rattle.machine.specs.Slots.{home_of, Reached, Indexed, Vacant}

-- ---- names that differ

-- one that stands among those before it stands twice
pub differ-fails : (ys : List ℕ) (i : ℕ) → i < length ys → has (get_or ys i 0) (take i ys) ≡ true → false ≡ differ ys
differ-fails ys i l h =
    by_cases (differ ys)
    (λ d.
    let before = place_of-lt (get_or ys i 0) (take i ys) h in
    let w = length-take-le i ys (omega arith) in
    let p = place_of (get_or ys i 0) (take i ys) in
    let e = sym (get_or-take i ys p 0 (omega arith)) ∙ place_of-get_or (get_or ys i 0) (take i ys) 0 h in
    let one = sym (differ-place ys p d (omega arith)) ∙ (ap (λ (x : ℕ). place_of x ys) e ∙ differ-place ys i d l) in
    absurd (omega arith))
    (λ d. sym d)

-- ---- a search

pub home-low : (H name : ℕ) → 0 < H → home_of H name < H
unfolding home_of
home-low H name some = mod-lt _ some

-- the slots from the name's home to s are in use, by other names
pub record Searched (H : ℕ) (known slots : List ℕ) (name s : ℕ) : Type 0 where
  pub from : home_of H name ≤ s
  pub upto : s ≤ H + length known
  pub used : (i : ℕ) → home_of H name ≤ i → i < s → get_or slots i 0 ≡ 0 → ⊥
  pub other : (i : ℕ) → home_of H name ≤ i → i < s → get_or known (get_or slots i 0 - 1) 0 ≡ name → ⊥

-- the known names are the first of a table
module _ (H L : ℕ) (names : List ℕ) (terms : ℕ) (slots : List ℕ) (fits : terms ≤ length names) (ix : Indexed H L (take terms names) slots) (name : ℕ) where
  abbrev known : List ℕ
  known = take terms names

  count : length known ≡ terms
  count = length-take-le terms names fits

  pub search_begun : Searched H known slots name (home_of H name)
  search_begun =
      record {
        from = omega arith;
        upto = omega (arith, home-low H name ix.some);
        used = λ i l m. absurd (omega arith);
        other = λ i l m. absurd (omega arith);
      }

  module _ (s : ℕ) (h : Searched H known slots name s) where
    within : s ≤ H + L
    within = omega (arith, h.upto, ix.few)

    pub in_slots : s < length slots
    in_slots = omega (arith, within, ix.room)

    pub search_missed : get_or slots s 0 ≡ 0 → (has name known ≡ false) × Vacant H known slots name s
    search_missed z = (
      by_cases (has name known) (λ q. absurd (unknown (place_of name known) (place_of-lt name known q) (place_of-get_or name known 0 q))) (λ q. q),
      record { from = h.from; upto = h.upto; empty = z; run = h.used },
    )
      where
        unknown : (k : ℕ) → k < length known → get_or known k 0 ≡ name → ⊥
        unknown k l e =
            let p = ix.reached k l in
            let from : home_of H name ≤ p.at = rw (ap (λ (x : ℕ). home_of H x) e) at p.from in
            by-lt p.at s
            (λ lt. h.other p.at from lt (ap (λ (x : ℕ). get_or known (x - 1) 0) p.here ∙ (ap (λ (x : ℕ). get_or known x 0) (omega arith) ∙ e)))
            (λ ge. by-eq p.at s
            (λ q. omega (arith, p.here, z, ap (λ (x : ℕ). get_or slots x 0) q))
            (λ q. p.run s (rw (ap (λ (x : ℕ). home_of H x) e) h.from) (omega arith) z))

    -- the slot holds a term
    module _ (full : get_or slots s 0 ≡ 0 → ⊥) where
      abbrev t : ℕ
      t = get_or slots s 0 - 1

      is-term : t < terms
      is-term = let a = ix.low s within in let w = count in by-eq (get_or slots s 0) 0 (λ q. absurd (full q)) (λ q. omega arith)

      pub in_names : t < length names
      in_names = let a = is-term in omega arith

      pub before-end : s < H + terms
      before-end = let w = count in by-lt s (H + terms) (λ l. l) (λ g. absurd (full (ix.bare s (omega arith) within)))

      pub search_hit : get_or names t 0 ≡ name → (has name known ≡ true) × (t ≡ place_of name known)
      search_hit e =
          let l : t < length known = omega (arith, is-term, count) in
          let here = get_or-take terms names t 0 is-term ∙ e in
          (rw here at (has_get_d known t 0 l), sym (rw here at (differ-place known t ix.apart l)))

      pub search_again : (get_or names t 0 ≡ name → ⊥) → Searched H known slots name (s + 1)
      search_again un =
          record {
            from = omega (arith, h.from);
            upto = omega (arith, before-end, count);
            used = λ i l m z. by-eq i s (λ q. full (ap (λ (x : ℕ). get_or slots x 0) (sym q) ∙ z)) (λ q. h.used i l (omega arith) z);
            other = λ i l m e.
                by-eq i s
                (λ q. un (sym (get_or-take terms names t 0 is-term) ∙ (ap (λ (x : ℕ). get_or known (get_or slots x 0 - 1) 0) (sym q) ∙ e)))
                (λ q. h.other i l (omega arith) e);
          }

-- ---- a new name, put in the slot where the search for it ended

module _ (H L : ℕ) (known slots : List ℕ) (ix : Indexed H L known slots) (name s : ℕ) (v : Vacant H known slots name s) where
  pub slot_in : s < length slots
  slot_in = omega (arith, v.upto, ix.few, ix.room)

  module _ (few : length known < L) (new : has name known ≡ false) where
    abbrev more : List ℕ
    more = known ++ name ∷ []

    abbrev filled : List ℕ
    filled = set slots s (length known + 1)

    longer : length more ≡ length known + 1
    longer = length-append known (name ∷ [])

    name-here : get_or more (length known) 0 ≡ name
    name-here = get_or-append_seam known name [] 0

    name-other : (k : ℕ) → k < length known → get_or more k 0 ≡ get_or known k 0
    name-other k l = get_or-append known (name ∷ []) 0 k l

    slot-here : get_or filled s 0 ≡ length known + 1
    slot-here = get_or-set_same slots s (length known + 1) 0 slot_in

    slot-other : (j : ℕ) → (j ≡ s → ⊥) → get_or filled j 0 ≡ get_or slots j 0
    slot-other j q = get_or-set_other slots s j (length known + 1) 0 q

    used-stays : (i : ℕ) → (get_or slots i 0 ≡ 0 → ⊥) → get_or filled i 0 ≡ 0 → ⊥
    used-stays i full z =
        by-eq i s (λ q. omega (arith, slot-here, z, ap (λ (x : ℕ). get_or filled x 0) q)) (λ q. full (sym (slot-other i q) ∙ z))

    new-reached : Reached H more filled (length known)
    new-reached =
        record {
          at = s;
          from = rw name-here v.from;
          here = slot-here;
          run = λ i l m. used-stays i (v.run i (rw name-here at l) m);
        }

    old-reached : (k : ℕ) → k < length known → Reached H more filled k
    old-reached k l =
        let p = ix.reached k l in
        let e = name-other k l in
        record {
          at = p.at;
          from = rw e p.from;
          here = slot-other p.at (λ q. omega (arith, p.here, v.empty, ap (λ (x : ℕ). get_or slots x 0) q)) ∙ p.here;
          run = λ i il m. used-stays i (p.run i (rw e at il) m);
        }

    pub slot-filled : Indexed H L more filled
    slot-filled =
        record {
          some = ix.some;
          few = omega (arith, longer);
          room = rw (length-set slots s (length known + 1)) ix.room;
          apart = differ_snoc known name ix.apart new;
          low = λ j l.
              by-eq j s (λ q. omega (arith, longer, slot-here, ap (λ (x : ℕ). get_or filled x 0) q)) (λ q. omega (arith, longer, slot-other j q, ix.low j l));
          bare = λ j l m. let w = longer in slot-other j (λ q. omega (arith, v.upto)) ∙ ix.bare j (omega arith) m;
          reached = λ k l. let w = longer in by-eq k (length known) (λ q. rw q new-reached) (λ q. old-reached k (omega arith));
        }

-- ---- the names of a table put in one after another

pub none-known : (H L : ℕ) (slots : List ℕ) → 0 < H → H + L < length slots → ((j : ℕ) → j ≤ H + L → get_or slots j 0 ≡ 0) → Indexed H L [] slots
none-known H L slots some room zero =
    record {
      some = some;
      few = omega arith;
      room = room;
      apart = refl;
      low = λ j l. omega (arith, zero j l);
      bare = λ j _ l. zero j l;
      reached = λ k l. absurd (omega arith);
    }

pub next_known : (H L : ℕ) (names slots : List ℕ) (i s : ℕ) → i < length names → length names ≤ L → Indexed H L (take i names) slots
    → has (get_or names i 0) (take i names) ≡ false → Vacant H (take i names) slots (get_or names i 0) s → Indexed H L (take (i + 1) names) (set slots s (i + 1))
next_known H L names slots i s l few ix new v =
    let w = length-take-le i names (omega arith) in
    let e = ap (λ (k : ℕ). take k names) (add-one i) ∙ take-suc names i 0 l in
    rw e (rw w at (slot-filled H L (take i names) slots ix (get_or names i 0) s v (omega arith) new))

pub all_known : (H L : ℕ) (names slots : List ℕ) (i : ℕ) → length names ≤ i → Indexed H L (take i names) slots → true ≡ differ names
all_known H L names slots i l ix = sym (rw (take_all i names l) at ix.apart)
