-- A start, a step and a walk, each put together from what its calls gave. Assumes nothing.
use mathlib.Core.Path.{◌≡◌, refl, ap, sym, subst, ◌∙◌}
use mathlib.Core.Bool.{Bool, false}
use mathlib.Core.List.{List, []}
use Prim.Native.Nat.{ℕ, suc, ◌+◌, ◌/◌, ◌<◌}
use native.Mathlib.Omega.{arith}
use lib.ListN.{length, get_or}
use borrow.Author.Tests.{eq-eqb, ne_eqb}
use Rattle.words.specs.Words.{filled, state_after, word_count}
use Rattle.written.specs.declared.Order.{Order}
use Rattle.written.specs.Drawing.{Pick, chosen_from}
use Rattle.written.specs.Agreement.{part_of}
use Rattle.written.specs.Marks.{free_in}
use Rattle.machine.specs.Tallies.{Tallies, tallies}
use Rattle.machine.specs.Moving.{Fixed, fixed, occurring, Moving, view, CanPart, flip_term, CanFlip}
use Rattle.machine.specs.Passes.{CanRecount, blank, counted, recounted}
use Rattle.machine.proofs.Calls.{flip-occurring, can-occurring}
use Rattle.walking_choice.specs.Choosing.{pick, break_in, lowest, lowest_in, literal_by, CanPick, Plain}
use Rattle.walking_choice.proofs.Ties.{none-looked, some-looked}
use Rattle.walking_steps.specs.Stepping.{Stand, stand, uncovered_list, clause_for, clause_at, looked_in, literal_for, flip_for, is_stuck_in, stuck_for, step_in, CanStep, held_in, start_in, CanStart, onwards_in, any_pinned, walk_in}
use Rattle.walking_steps.specs.Following.{CanBegin, CanGo}
use Rattle.walking_steps.proofs.Starts.{start-can, start-goes}

-- the tallies without the number of uncovered clauses, at which counting does not look
abbrev unnumbered : Tallies → Tallies
unnumbered t = tallies t.trues t.breaks t.uncovered.list t.uncovered.places 0

-- a start: the words are drawn, pinned terms held, then the counts worked out
module _ (ms : List ℕ) (T C : ℕ) (x : Fixed) (v : Stand) {ds ws : List ℕ} (d : ds ≡ filled v.tables.words T v.generator (word_count T)) (w : ws ≡ held_in ms T ds) where
  pub can-count : {top : ℕ} → CanStart top T C ms x v → CanRecount top C T (view ws x.starts x.literals) (unnumbered v.tables.tallies)
  unfolding blank
  can-count h = rw (w, d) (record { breaks-room = h.counts.breaks-room; list-room = h.counts.list-room; clauses = h.counts.clauses })

  pub is_started : {y : ℕ} {t : Tallies} → y ≡ state_after v.generator (word_count T)
      → t ≡ counted C (view ws x.starts x.literals) (blank C T (unnumbered v.tables.tallies)) → stand ws t y v.flips ≡ start_in ms T C x v
  unfolding start_in recounted blank
  is_started g e = rw (e, g, w, d)

-- a step: a clause is picked, its literals of free terms are looked at, then one of them is picked, whose term is flipped
module _ (top : ℕ) (pinned : Bool) (o : Order) (ms : List ℕ) (x : Fixed) (v : Stand) (h : CanStep top pinned o ms x v) {c y : ℕ}
    (p : pick c y ≡ chosen_from o (uncovered_list v) v.generator) where
  abbrev break_for : ℕ → ℕ
  break_for = break_in v.tables.tallies.breaks

  is-clause : pick c y ≡ clause_for o v
  unfolding clause_for
  is-clause = p

  pub can-part : CanPart x.starts x.literals c
  can-part = subst (λ (q : Pick). CanPart x.starts x.literals q.picked) (sym is-clause) h.clause

  module _ {ls : List ℕ} (e : ls ≡ part_of x.starts x.literals c) where
    is_read : ls ≡ clause_at x (clause_for o v)
    is_read = e ∙ ap (clause_at x) is-clause

    pub can-pick : CanPick top v.tables.tallies.breaks ms ls
    can-pick = rw is_read h.pick

    pub can-plain : Plain pinned ms ls
    can-plain q = rw is_read (h.plain q)

    -- what one look gave
    module _ {b k f : ℕ} (look : lowest b k f ≡ lowest_in top break_for (free_in ms ls)) where
      looked : length (free_in ms ls) ≡ length (looked_in ms x (clause_for o v))
      looked = ap (λ (ks : List ℕ). length (free_in ms ks)) is_read

      -- none is of a free term: the step is stuck
      pub is_stuck_lem : ((i : ℕ) → get_or v.tables.tallies.breaks i 0 < top) → k ≡ 0
          → ◌≡◌ {A = Stand} (record { tables = v.tables; generator = y; flips = v.flips }) (step_in o ms x v)
      unfolding step_in is_stuck_in break_in
      is_stuck_lem small n =
          let none : length (looked_in ms x (clause_for o v)) ≡ 0 = sym looked ∙ none-looked top break_for (free_in ms ls) look (λ i l. small _) n in
          rw (eq-eqb _ 0 none) (ap (stuck_for v) is-clause)

      -- or one is picked
      module _ (some : k ≡ 0 → ⊥) {l z : ℕ} (q : pick l z ≡ literal_by o break_for (free_in ms ls) y) where
        goes : is_stuck_in o ms x v ≡ false
        unfolding is_stuck_in
        goes = ne_eqb _ 0 (λ n. some-looked top break_for (free_in ms ls) look some (looked ∙ n))

        is-literal : pick l z ≡ literal_for o ms x v
        unfolding literal_for
        is-literal =
            q ∙ ap (λ (ks : List ℕ). literal_by o break_for (free_in ms ks) y) is_read
            ∙ ap (λ (r : Pick). literal_by o break_for (looked_in ms x (clause_for o v)) r.state) is-clause

        pub can-flip : CanFlip top (occurring x.occurrence_starts x.occurrences) (l / 2) v.tables
        can-flip = can-occurring x top (l / 2) v.tables (subst (λ (r : Pick). CanFlip top x (r.picked / 2) v.tables) (sym is-literal) (h.flip goes))

        pub is-stepped : {w : Moving} → w ≡ flip_term (occurring x.occurrence_starts x.occurrences) (l / 2) v.tables
            → ◌≡◌ {A = Stand} (record { tables = w; generator = z; flips = v.flips + 1 }) (step_in o ms x v)
        unfolding step_in
        is-stepped f =
            let more : v.flips + 1 ≡ suc v.flips = omega arith in
            rw (goes, f, flip-occurring x (l / 2) v.tables, more) (ap (flip_for x v) is-literal)

-- a walk: a start, which reads no occurrence, and onwards from there
module _ (ms : List ℕ) (T C : ℕ) (x : Fixed) (v : Stand) where
  abbrev clauses : Fixed
  clauses = fixed x.starts x.literals [] []

  start-reads : start_in ms T C clauses v ≡ start_in ms T C x v
  unfolding start_in recounted
  start-reads = refl

  pub can-start : {top : ℕ} → CanBegin top T C ms x v → CanStart top T C ms clauses v
  can-start h = let k = start-can _ T C ms x v h in record { counts = k.counts; marks = k.marks }

  module _ {s : Stand} (e : s ≡ start_in ms T C clauses v) where
    pub can-go : {top k most : ℕ} {pinned : Bool} → pinned ≡ any_pinned ms T → CanBegin top T C ms x v → v.flips + k < most → CanGo top k most pinned ms x s
    can-go any h few = rw (e, start-reads) (start-goes _ T C _ _ _ ms x v any h few)

    pub is-walked : (o : Order) {w : Stand} → w ≡ onwards_in o ms x o.flips s → w ≡ walk_in o ms T C x v
    unfolding walk_in
    is-walked o f = rw (f, e, start-reads)
