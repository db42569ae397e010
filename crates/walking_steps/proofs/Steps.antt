-- A step on tables that hold a moment: it can be made, and the tables then hold the moment that is written for it. Assumes nothing.
use mathlib.Core.Path.{◌≡◌, refl, ap, ap₂, sym, ◌∙◌}
use mathlib.Core.Bool.{Bool, true, false}
use mathlib.Core.List.{List, []}
use Prim.Native.Nat.{ℕ, suc, ◌*◌, ◌/◌, ◌≤◌, ◌<◌}
use native.Mathlib.Omega.{arith}
use lib.ListN.{length, get_or}
use lib.Seq.{get_or-take, length-take-le}
use lib.Dec.{eqb}
use borrow.Author.Tests.{eqb-false}
use Rattle.words.specs.Words.{turn_at}
use Rattle.written.specs.declared.Order.{Order}
use Rattle.written.specs.Lists.{has}
use Rattle.written.specs.Clauses.{File, State, term_of}
use Rattle.written.specs.Drawing.{Pick, choice, chosen_from}
use Rattle.written.specs.Flips.{flip}
use Rattle.written.specs.Marks.{is_free, free_in}
use Rattle.written.specs.Walk.{Moment, is_found, break_of, literal_in, flip_picked, clause_picked, looked_at, in_clause, step, is_stuck, stuck_at}
use Rattle.laws.specs.Valid.{is_clause}
use Rattle.laws.proofs.All.{all_get_d}
use Rattle.laws.proofs.Marks.{all-free, free-by}
use Rattle.laws.proofs.Membership.{has_get_d}
use Rattle.laws.proofs.Turning.{turned-length, turned-bits}
use Rattle.laws.proofs.Values.{turn-over}
use Rattle.laws.proofs.Sizes.{clause-below}
use Rattle.laws.proofs.Modes.{choice-below}
use Rattle.laws.proofs.Picks.{those-has, literal-has, has-below}
use Rattle.laws.proofs.Endings.{step-file}
use Rattle.machine.specs.Moving.{Fixed, Moving, flip_term, CanFlip}
use Rattle.machine.proofs.Law.{flip-can, flip-walking, flip-kept}
use Rattle.machine.proofs.Standings.{kept_trans}
use Rattle.machine.proofs.Sizes.{sizes_trans, flip-sizes}
use Rattle.walking_choice.specs.Choosing.{break_in}
use Rattle.walking_steps.specs.Stepping.{Stand, uncovered_number, uncovered_list, clause_for, clause_at, looked_in, literal_for, flip_for, is_stuck_in, stuck_for, step_in, CanStep, is_found_in}
use Rattle.walking_steps.specs.Following.{walking, Follows, CanGo}
use Rattle.walking_steps.proofs.Picking.{literal-same}

-- as many clauses are uncovered as are listed
module _ (ρ : State → ℕ → ℕ) (top full : ℕ) (x : Fixed) (base : Moving) (m : Moment) (v : Stand) (f : Follows ρ top full x base m v) where
  listed : uncovered_number v ≤ length v.tables.tallies.uncovered.list
  listed = let a = f.tables.places.fits in let b = f.tables.places.list-room in omega arith

  number_is : length (uncovered_list v) ≡ uncovered_number v
  number_is = length-take-le (uncovered_number v) _ listed

  pub found-same : is_found_in v ≡ is_found m.state
  unfolding is_found_in is_found
  found-same = rw (← f.tables.list, number_is)

module _ (top full : ℕ) (o : Order) (ms : List ℕ) (x : Fixed) (base : Moving) (m : Moment) (v : Stand) (f : Follows walking top full x base m v)
    (some : uncovered_number v ≡ 0 → ⊥) where
  abbrev vs : List ℕ
  vs = m.state.values

  -- the clause that is picked, and its literals
  abbrev c : ℕ
  c = (clause_for o v).picked

  abbrev ls : List ℕ
  ls = get_or m.state.file.clauses c []

  -- those of free terms
  abbrev looked : List ℕ
  looked = free_in ms ls

  -- the literal that is picked
  abbrev l : ℕ
  l = (literal_for o ms x v).picked

  many : length (uncovered_list v) ≡ uncovered_number v
  many = number_is walking top full x base m v f

  any : 0 < length (uncovered_list v)
  any = omega (arith, many, some)

  -- the clause is the written one, and its part holds it
  clause-same : clause_for o v ≡ clause_picked o m
  unfolding clause_for clause_picked
  clause-same = ap₂ (chosen_from o) f.tables.list f.generator

  c-below : c < length m.state.file.clauses
  unfolding clause_for chosen_from
  c-below =
      let j : ℕ = (choice o (length (uncovered_list v)) v.generator).number in
      let lj : j < uncovered_number v = omega (arith, many, choice-below o (length (uncovered_list v)) v.generator any) in
      rw (get_or-take (uncovered_number v) v.tables.tallies.uncovered.list j 0 lj) (f.tables.places.within j lj)

  clause-is : clause_at x (clause_for o v) ≡ ls
  clause-is = f.tables.holds.clause c c-below

  valid : is_clause (length vs) ls ≡ true
  valid = all_get_d (is_clause (length vs)) m.state.file.clauses c [] c-below f.tables.holds.valid

  -- its literals' terms are known
  term-below : (y : ℕ) → has y ls ≡ true → y / 2 < length vs
  term-below y h = omega (arith, has-below (2 * length vs) y ls h (clause-below (length vs) ls valid))

  looked-is : looked_in ms x (clause_for o v) ≡ looked
  looked-is = ap (free_in ms) clause-is

  looked-same : looked ≡ looked_at ms m (clause_picked o m)
  unfolding looked_at
  looked-same = ap (λ (p : Pick). free_in ms (get_or m.state.file.clauses p.picked [])) clause-same

  -- what is looked at stands in the clause
  in_clause_lem : (y : ℕ) → has y looked ≡ true → has y ls ≡ true
  unfolding free_in
  in_clause_lem y h = those-has (λ k. is_free ms (term_of k)) y ls h

  -- the literal is the written one
  literal-is : literal_for o ms x v ≡ literal_in o m.state looked (clause_for o v).state
  unfolding literal_for break_in break_of term_of
  literal-is =
      rw looked-is
      (literal-same (break_in v.tables.tallies.breaks) m.state o looked (clause_for o v).state
      (record { at = λ k q. f.tables.breaks (get_or looked k 0 / 2) (term-below (get_or looked k 0) (in_clause_lem (get_or looked k 0) (has_get_d looked k 0 q))) }))

  -- a step is stuck where the written one is
  pub stuck-same : is_stuck_in o ms x v ≡ is_stuck o ms m
  unfolding is_stuck_in is_stuck
  stuck-same = ap (λ (ks : List ℕ). eqb (length ks) 0) (looked-is ∙ looked-same)

  pub stuck-follows : Follows walking top full x base (stuck_at o m) (stuck_for v (clause_for o v))
  unfolding stuck_at
  stuck-follows =
      rw clause-same
      (record { tables = f.tables; one_each = f.one_each; bits = f.bits; words = f.words; sizes = f.sizes; kept = f.kept; generator = refl; flips = f.flips })

  -- or it is not
  module _ (goes : is_stuck_in o ms x v ≡ false) where
    stands : has l ls ≡ true
    unfolding is_stuck_in
    stands =
        let some = eqb-false (length (looked_in ms x (clause_for o v))) 0 goes in
        ap (λ (p : Pick). has p.picked ls) literal-is
        ∙ in_clause_lem _ (literal-has o m.state looked (clause_for o v).state (omega (arith, ap length looked-is, some)))

    t-below : l / 2 < length vs
    t-below = term-below l stands

    -- so the step is the flip of that term
    step_is : step o ms m ≡ flip_picked m (literal_for o ms x v)
    unfolding step in_clause
    step_is =
        ap (λ (p : Pick). flip_picked m (literal_in o m.state (looked_at ms m (clause_picked o m)) p.state)) (sym clause-same)
        ∙ ap (λ (ks : List ℕ). flip_picked m (literal_in o m.state ks (clause_for o v).state)) (sym looked-same) ∙ ap (flip_picked m) (sym literal-is)

    flip-follows : Follows walking top full x base (step o ms m) (flip_for x v (literal_for o ms x v))
    unfolding flip_picked flip flip_term term_of
    flip-follows =
        rw step_is
        (record {
          tables = flip-walking top m.state x v.tables f.tables (l / 2) t-below;
          one_each = turned-length (l / 2) vs ∙ f.one_each;
          bits = turned-bits (l / 2) vs f.bits;
          words = ap (λ (ws : List ℕ). turn_at ws (l / 2)) f.words ∙ turn-over full vs base.words (l / 2) f.bits t-below;
          sizes = sizes_trans (flip-sizes x (l / 2) v.tables) f.sizes;
          kept = rw (turned-length (l / 2) vs) (kept_trans f.kept (flip-kept top m.state x v.tables f.tables (l / 2) t-below));
          generator = refl;
          flips = ap suc f.flips;
        })

    pub step_follows : Follows walking top full x base (step o ms m) (step_in o ms x v)
    unfolding step_in
    step_follows = rw goes flip-follows

    flips-can : CanFlip top x (l / 2) v.tables
    flips-can = flip-can top m.state x v.tables f.tables (l / 2) t-below

  can : (pinned : Bool) → length vs ≤ length ms → (pinned ≡ false → (t : ℕ) → t < length vs → get_or ms t 0 ≡ 0) → CanStep top pinned o ms x v
  can pinned room plain =
      let known : (i : ℕ) → i < length ls → get_or ls i 0 / 2 < length vs = λ i q. term-below (get_or ls i 0) (has_get_d ls i 0 q) in
      record {
        list = listed walking top full x base m v f;
        draw = record { some = any; short = omega (arith, many, f.tables.places.fits, f.tables.holds.few-clauses) };
        clause = f.tables.holds.clause-part c c-below;
        pick =
            rw clause-is
            (record {
              short = f.tables.holds.short c c-below;
              breaks = record { terms = λ i q. omega (arith, known i q, f.tables.breaks-room) };
              marks = record { terms = λ i q. omega (arith, known i q, room) };
            });
        plain = λ q. rw clause-is (free-by ms [] (length vs) (plain q) ls (clause-below (length vs) ls valid) ∙ all-free ls);
        flip = flips-can;
      }

-- a step can be made
pub step-can : (top k most : ℕ) (pinned : Bool) (o : Order) (ms : List ℕ) (x : Fixed) (v : Stand) → CanGo top k most pinned ms x v → (uncovered_number v ≡ 0 → ⊥)
    → CanStep top pinned o ms x v
step-can top k most pinned o ms x v g some = can top g.full o ms x g.base g.moment v g.follows some pinned g.marks g.plain

-- and the walk can go on after it
pub step-goes : (top k most : ℕ) (pinned : Bool) (o : Order) (ms : List ℕ) (x : Fixed) (v : Stand) → CanGo top (suc k) most pinned ms x v → (uncovered_number v ≡ 0 → ⊥)
    → is_stuck_in o ms x v ≡ false → CanGo top k most pinned ms x (step_in o ms x v)
step-goes top k most pinned o ms x v g some goes =
    let after = step_follows top g.full o ms x g.base g.moment v g.follows some goes in
    let same : length (step o ms g.moment).state.values ≡ length g.moment.state.values
    = after.one_each ∙ ap (λ (h : File). length h.names) (step-file o ms g.moment) ∙ sym g.follows.one_each in
    record {
      full = g.full;
      base = g.base;
      moment = step o ms g.moment;
      follows = after;
      few = let h = g.few in let made = ap (λ (w : Stand). w.flips) (moved goes) in omega arith;
      marks = omega (arith, g.marks, same);
      plain = λ q t l. g.plain q t (omega (arith, l, same));
    }
  where
    moved : is_stuck_in o ms x v ≡ false → step_in o ms x v ≡ flip_for x v (literal_for o ms x v)
    moved q = unfold step_in in rw q refl
