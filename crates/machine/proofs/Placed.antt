-- The uncovered list with its places: what holds of them holds again as a clause is marked, leaves or enters. Assumes nothing.
use mathlib.Core.Path.{◌≡◌, ap, ◌∙◌, sym}
use mathlib.Core.List.{List}
use Prim.Native.Nat.{ℕ, ◌-◌, ◌≤◌, ◌<◌}
use native.Mathlib.Omega.{arith}
use lib.ListN.{length, get_or, set, length-set}
use lib.Seq.{get_or-set_same, get_or-set_other}
use Rattle.machine.specs.Uncovered.{Uncovered, leaves, marks, enters}
use Rattle.machine.specs.Holds.{Placed}
use Rattle.laws.proofs.Basics.{by-eq}

-- other places, with the same uncovered clauses
pub placed_same : (C : ℕ) (κ κ' ρ ρ' : ℕ → ℕ) (u : Uncovered) (ps : List ℕ) → Placed C κ ρ u → ((d : ℕ) → d < C → κ d ≡ 0 → κ' d ≡ 0)
    → ((d : ℕ) → d < C → κ' d ≡ 0 → κ d ≡ 0) → C ≤ length ps
    → ((d : ℕ) → d < C → κ d ≡ 0 → get_or ps d 0 ≡ get_or u.places d 0) → ((d : ℕ) → d < C → (κ' d ≡ 0 → ⊥) → get_or ps d 0 ≡ ρ' d)
    → Placed C κ' ρ' (record { list = u.list; places = ps; number = u.number })
placed_same C κ κ' ρ ρ' u ps h to from room same new =
    record {
      fits = h.fits;
      list-room = h.list-room;
      places-room = room;
      within = h.within;
      placed = λ j l. same _ (h.within j l) (h.bare j l) ∙ h.placed j l;
      bare = λ j l. to _ (h.within j l) (h.bare j l);
      low = λ d l z. rw (same d l (from d l z)) (h.low d l (from d l z));
      found = λ d l z. rw (same d l (from d l z)) (h.found d l (from d l z));
      covered = new;
      rest = h.rest;
    }

module _ (C : ℕ) (κ κ' ρ ρ' : ℕ → ℕ) (u : Uncovered) (h : Placed C κ ρ u) (c : ℕ) (lc : c < C) (off : (d : ℕ) → (d ≡ c → ⊥) → κ' d ≡ κ d)
    (offρ : (d : ℕ) → (d ≡ c → ⊥) → ρ' d ≡ ρ d) (y : ℕ) where
  -- a clause whose state is of no concern to the list
  pub placed-keep : (κ c ≡ 0 → ⊥) → (κ' c ≡ 0 → ⊥) → y ≡ ρ' c → Placed C κ' ρ' (marks c y u)
  unfolding marks
  placed-keep o n ey =
      let r = h.places-room in
      placed_same C κ κ' ρ ρ' u (set u.places c y) h
      (λ d l z. off d (λ q. o (ap κ (sym q) ∙ z)) ∙ z)
      (λ d l z. sym (off d (λ q. n (ap κ' (sym q) ∙ z))) ∙ z)
      (simp length-set r)
      (λ d l z. get_or-set_other u.places c d y 0 (λ q. o (ap κ (sym q) ∙ z)))
      (λ d l z. by-eq d c (λ q. rw (q, get_or-set_same u.places c y 0 (omega arith)) ey)
      (λ q. rw (offρ d q) (get_or-set_other u.places c d y 0 q ∙ h.covered d l (λ x. z (off d q ∙ x)))))

  module _ (z : κ c ≡ 0) (nz : κ' c ≡ 0 → ⊥) (ey : y ≡ ρ' c) where
    abbrev p : ℕ
    p = get_or u.places c 0

    abbrev m : ℕ
    m = u.number - 1

    abbrev e : ℕ
    e = get_or u.list m 0

    abbrev list' : List ℕ
    list' = (leaves c y u).list

    abbrev places' : List ℕ
    places' = (leaves c y u).places

    p<n : p < u.number
    p<n = h.low c lc z

    m<n : m < u.number
    m<n = let a = p<n in omega arith

    e<C : e < C
    e<C = h.within m m<n

    at-e : get_or u.places e 0 ≡ m
    at-e = h.placed m m<n

    at_p : get_or u.list p 0 ≡ c
    at_p = h.found c lc z

    list-other : (j : ℕ) → (j ≡ m → ⊥) → (j ≡ p → ⊥) → get_or list' j 0 ≡ get_or u.list j 0
    unfolding leaves
    list-other j jm jp = get_or-set_other (set u.list p e) m j _ 0 jm ∙ get_or-set_other u.list p j e 0 jp

    list-p : (p ≡ m → ⊥) → get_or list' p 0 ≡ e
    unfolding leaves
    list-p pm = let a = p<n in let b = h.fits in let r = h.list-room in get_or-set_other (set u.list p e) m p _ 0 pm ∙ get_or-set_same u.list p e 0 (omega arith)

    list-m : get_or list' m 0 ≡ 0
    unfolding leaves
    list-m = let a = m<n in let b = h.fits in let r = h.list-room in get_or-set_same (set u.list p e) m _ 0 (simp length-set (omega arith))

    places-c : get_or places' c 0 ≡ y
    unfolding leaves
    places-c = let r = h.places-room in get_or-set_same (set u.places e _) c y 0 (simp length-set (omega arith))

    places-e : (e ≡ c → ⊥) → get_or places' e 0 ≡ p
    unfolding leaves
    places-e ec = let a = e<C in let r = h.places-room in get_or-set_other (set u.places e _) c e y 0 ec ∙ get_or-set_same u.places e _ 0 (omega arith)

    places-other : (d : ℕ) → (d ≡ c → ⊥) → (d ≡ e → ⊥) → get_or places' d 0 ≡ get_or u.places d 0
    unfolding leaves
    places-other d dc de = get_or-set_other (set u.places e _) c d y 0 dc ∙ get_or-set_other u.places e d _ 0 de

    -- the last entry is c only where c has the last slot
    e≢c : (p ≡ m → ⊥) → e ≡ c → ⊥
    e≢c pm q = pm (ap (λ (x : ℕ). get_or u.places x 0) (sym q) ∙ at-e)

    -- what stands in a slot below the last that is not c's
    module _ (j : ℕ) (l : j < m) (jp : j ≡ p → ⊥) where
      d≢c : get_or u.list j 0 ≡ c → ⊥
      d≢c q = let a = m<n in jp (sym (h.placed j (omega arith)) ∙ ap (λ (x : ℕ). get_or u.places x 0) q)

      d≢e : get_or u.list j 0 ≡ e → ⊥
      d≢e q =
          let a = m<n in
          let b = sym (h.placed j (omega arith)) ∙ ap (λ (x : ℕ). get_or u.places x 0) q ∙ at-e in
          omega arith

    -- a clause that stays
    module _ (d : ℕ) (l : d < C) (zd : κ' d ≡ 0) where
      d≢c' : d ≡ c → ⊥
      d≢c' q = nz (ap κ' (sym q) ∙ zd)

      was : κ d ≡ 0
      was = sym (off d d≢c') ∙ zd

      -- the last entry, where it moves
      p≢m : d ≡ e → p ≡ m → ⊥
      p≢m q r = d≢c' (q ∙ ap (λ (i : ℕ). get_or u.list i 0) (sym r) ∙ at_p)

      places-moved : d ≡ e → get_or places' d 0 ≡ p
      places-moved q = ap (λ (i : ℕ). get_or places' i 0) q ∙ places-e (λ r. d≢c' (q ∙ r))

      -- any other keeps its slot
      q≢m : (d ≡ e → ⊥) → get_or u.places d 0 ≡ m → ⊥
      q≢m q r = q (sym (h.found d l was) ∙ ap (λ (i : ℕ). get_or u.list i 0) r)

      q≢p : get_or u.places d 0 ≡ p → ⊥
      q≢p r = d≢c' (sym (h.found d l was) ∙ ap (λ (i : ℕ). get_or u.list i 0) r ∙ at_p)

      leave_low : get_or places' d 0 < m
      leave_low =
          by-eq d e
          (λ q. rw (places-moved q) (let a = p<n in let b = p≢m q in omega arith))
          (λ q. rw (places-other d d≢c' q) (let a = h.low d l was in let b = q≢m q in omega arith))

      leave-found : get_or list' (get_or places' d 0) 0 ≡ d
      leave-found =
          by-eq d e
          (λ q. rw (places-moved q) (list-p (p≢m q) ∙ sym q))
          (λ q. rw (places-other d d≢c' q) (list-other _ (q≢m q) q≢p ∙ h.found d l was))

    leave-covered : (d : ℕ) → d < C → (κ' d ≡ 0 → ⊥) → get_or places' d 0 ≡ ρ' d
    leave-covered d l nd =
        by-eq d c
        (λ q. rw q (places-c ∙ ey))
        (λ q.
        let w : κ d ≡ 0 → ⊥ = λ r. nd (off d q ∙ r) in
        places-other d q (λ r. w (ap κ r ∙ h.bare m m<n)) ∙ h.covered d l w ∙ sym (offρ d q))

    leave-rest : (j : ℕ) → m ≤ j → j < C → get_or list' j 0 ≡ 0
    leave-rest j l lj =
        by-eq j m
        (λ q. rw q list-m)
        (λ q.
        let a = p<n in
        list-other j q (λ r. omega arith) ∙ h.rest j (omega arith) lj)

    pub placed-leave : Placed C κ' ρ' (leaves c y u)
    unfolding leaves
    placed-leave =
        let a = m<n in
        let b = h.fits in
        record {
          fits = omega arith;
          list-room = simp length-set h.list-room;
          places-room = simp length-set h.places-room;
          within = λ j l.
              by-eq j p
              (λ q. rw (q, list-p (λ y. omega arith)) e<C)
              (λ q. rw (list-other j (λ y. omega arith) q) (h.within j (omega arith)));
          placed = λ j l.
              by-eq j p
              (λ q.
              let pm : p ≡ m → ⊥ = λ y. omega arith in
              rw (q, list-p pm) (places-e (e≢c pm)))
              (λ q. rw (list-other j (λ y. omega arith) q) (places-other _ (d≢c j l q) (d≢e j l q) ∙ h.placed j (omega arith)));
          bare = λ j l.
              by-eq j p
              (λ q.
              let pm : p ≡ m → ⊥ = λ y. omega arith in
              rw (q, list-p pm) (off e (e≢c pm) ∙ h.bare m m<n))
              (λ q. rw (list-other j (λ y. omega arith) q) (off _ (d≢c j l q) ∙ h.bare j (omega arith)));
          low = leave_low;
          found = leave-found;
          covered = leave-covered;
          rest = leave-rest;
        }

  module _ (nz : κ c ≡ 0 → ⊥) (z : κ' c ≡ 0) (free : u.number < C) where
    abbrev list'' : List ℕ
    list'' = set u.list u.number c

    abbrev places'' : List ℕ
    places'' = set u.places c u.number

    in_list : get_or list'' u.number 0 ≡ c
    in_list = let r = h.list-room in get_or-set_same u.list u.number c 0 (omega arith)

    in_places : get_or places'' c 0 ≡ u.number
    in_places = let r = h.places-room in get_or-set_same u.places c u.number 0 (omega arith)

    list-kept : (j : ℕ) → (j ≡ u.number → ⊥) → get_or list'' j 0 ≡ get_or u.list j 0
    list-kept j q = get_or-set_other u.list u.number j c 0 q

    places-kept : (d : ℕ) → (d ≡ c → ⊥) → get_or places'' d 0 ≡ get_or u.places d 0
    places-kept d q = get_or-set_other u.places c d u.number 0 q

    not-c : (j : ℕ) → j < u.number → get_or u.list j 0 ≡ c → ⊥
    not-c j l q = nz (ap κ (sym q) ∙ h.bare j l)

    pub placed-enter : Placed C κ' ρ' (enters c u)
    unfolding enters
    placed-enter =
        record {
          fits = omega arith;
          list-room = simp length-set h.list-room;
          places-room = simp length-set h.places-room;
          within = λ j l. by-eq j u.number (λ q. rw (q, in_list) lc) (λ q. rw (list-kept j q) (h.within j (omega arith)));
          placed = λ j l.
              by-eq j u.number
              (λ q. rw (q, in_list) in_places)
              (λ q.
              let l' : j < u.number = omega arith in
              rw (list-kept j q) (places-kept _ (not-c j l') ∙ h.placed j l'));
          bare = λ j l.
              by-eq j u.number
              (λ q. rw (q, in_list) z)
              (λ q.
              let l' : j < u.number = omega arith in
              rw (list-kept j q) (off _ (not-c j l') ∙ h.bare j l'));
          low = λ d l zd.
              by-eq d c
              (λ q. rw (q, in_places) (omega arith))
              (λ q. rw (places-kept d q) (let a = h.low d l (sym (off d q) ∙ zd) in omega arith));
          found = λ d l zd.
              by-eq d c
              (λ q. rw (q, in_places) in_list)
              (λ q.
              let w = sym (off d q) ∙ zd in
              let a = h.low d l w in
              rw (places-kept d q) (list-kept _ (λ r. omega arith) ∙ h.found d l w));
          covered = λ d l nd. by-eq d c (λ q. absurd (nd (ap κ' q ∙ z))) (λ q. places-kept d q ∙ h.covered d l (λ r. nd (off d q ∙ r)) ∙ sym (offρ d q));
          rest = λ j l lj. list-kept j (λ q. omega arith) ∙ h.rest j (omega arith) lj;
        }
