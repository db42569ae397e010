-- Lent tables in which a valid state is laid down are written tables that hold it. Assumes nothing.
use mathlib.Core.Path.{◌≡◌, sym, ◌∙◌}
use mathlib.Core.Bool.{true, false, ◌&&◌}
use mathlib.Core.List.{List, []}
use Prim.Native.Nat.{ℕ, ◌+◌, ◌*◌, ◌≤◌, ◌<◌}
use native.Mathlib.Omega.{arith}
use lib.ListN.{length, get_or, length-map, get_or-map}
use lib.Seq.{take-append_seam}
use lib.Dec.{ltb}
use borrow.Author.Tests.{ltb-true, lt-ltb, eqb-true, eq-eqb, ne_eqb}
use Rattle.written.specs.Lists.{has, place_of}
use Rattle.written.specs.Limits.{Limits}
use Rattle.written.specs.Clauses.{State, true_count, is_uncovered, break_count, occurrences_of}
use Rattle.written.specs.Tables.{Tables, each, sizes, full_sizes, turned_round, place_in, in_use, tables_of, holding}
use Rattle.laws.specs.Valid.{Valid}
use Rattle.laws.proofs.Basics.{both_first, both-second}
use Rattle.laws.proofs.Lists.{list_from-length, get_or-list_of}
use Rattle.laws.proofs.Sums.{total-has}
use Rattle.laws.proofs.Membership.{place_of-lt, place_of-get_or, has_get_d}
use Rattle.laws.proofs.Times.{place_of-once}
use Rattle.laws.proofs.Padding.{over-room, over_zero}
use Rattle.laws.proofs.Counted.{listed-length, listed-few, listed_has, listed_at, listed-once}
use Rattle.machine.specs.Holds.{HoldsClauses, Placed, Resting}
use Rattle.machine.specs.Lent.{fixed_in, moving_in, Laid}
use Rattle.machine.proofs.Begins.{begins-length, begins-at, over-begins, part-can, part-is, words-hold}

module _ (lim : Limits) (top : ℕ) (few-clauses : lim.clauses + 1 < top) (few-terms : 2 * lim.terms < top) (few-literals : lim.literals < top)
    (s : State) (t : Tables) (v : Valid lim s) (b : Laid s t) where
  abbrev cs : List (List ℕ)
  cs = s.file.clauses

  abbrev vs : List ℕ
  vs = s.values

  abbrev us : List ℕ
  us = s.uncovered

  abbrev T : ℕ
  T = length s.file.names

  holds : HoldsClauses top T cs (fixed_in t)
  unfolding in_use
  holds =
      let p = v.proper in
      let a = p.few-clauses in
      let e = p.few-terms in
      let rounds = turned_round s.file in
      let size : length rounds ≡ 2 * T = unfold turned_round in list_from-length 0 (2 * T) (occurrences_of cs) in
      record {
        few-clauses = omega arith;
        few-terms = omega arith;
        valid = p.clauses-valid;
        short = λ c l. let m = total-has length cs c [] l in let f = p.few-literals in omega arith;
        clause-part = part-can cs b.starts b.literals;
        clause = part-is cs b.starts b.literals;
        occurs-part = λ l h. part-can rounds b.occurrence_starts b.occurrences l (omega arith);
        occurs = λ l h.
            part-is rounds b.occurrence_starts b.occurrences l (omega arith)
            ∙ (unfold turned_round in get_or-list_of (2 * T) l (occurrences_of cs) [] h);
      }

  -- a clause is listed where it is uncovered
  in_list : (c : ℕ) → c < length cs → true_count vs (get_or cs c []) ≡ 0 → has c us ≡ true
  unfolding is_uncovered
  in_list c l z = listed_at s v.listed c ∙ rw (lt-ltb c (length cs) l, eq-eqb _ 0 z)

  not_in_list : (c : ℕ) → c < length cs → (true_count vs (get_or cs c []) ≡ 0 → ⊥) → has c us ≡ false
  unfolding is_uncovered
  not_in_list c l n = listed_at s v.listed c ∙ rw (lt-ltb c (length cs) l, ne_eqb _ 0 n)

  module _ (j : ℕ) (l : j < length us) where
    entry : (ltb (get_or us j 0) (length cs) && is_uncovered vs (get_or cs (get_or us j 0) [])) ≡ true
    entry = sym (listed_at s v.listed (get_or us j 0)) ∙ has_get_d us j 0 l

    entry-low : get_or us j 0 < length cs
    entry-low = ltb-true _ _ (both_first _ _ entry)

    entry-bare : true_count vs (get_or cs (get_or us j 0) []) ≡ 0
    unfolding is_uncovered
    entry-bare = eqb-true _ 0 (both-second (ltb (get_or us j 0) (length cs)) _ entry)

    entry_place : place_of (get_or us j 0) us ≡ j
    entry_place = place_of-once us j l (listed-once s v.listed (get_or us j 0) (sym (listed_has s v.listed (get_or us j 0)) ∙ has_get_d us j 0 l))

  -- the place that is written for a clause
  place_at_lem : (c : ℕ) → c < length cs → get_or t.places c 0 ≡ place_in us c
  unfolding in_use
  place_at_lem c l = begins-at b.places c (omega (arith, list_from-length 0 (length cs) (place_in us))) ∙ get_or-list_of (length cs) c (place_in us) 0 l

  place-bare : (c : ℕ) → c < length cs → true_count vs (get_or cs c []) ≡ 0 → get_or t.places c 0 ≡ place_of c us
  unfolding place_in
  place-bare c l z = place_at_lem c l ∙ rw (in_list c l z)

  list_at : (j : ℕ) → j < length us → get_or t.uncovered j 0 ≡ get_or us j 0
  unfolding in_use
  list_at j l = begins-at b.uncovered j l

  placed : Placed (length cs) (λ c. true_count vs (get_or cs c [])) (λ c. 0) (moving_in (length us) t).tallies.uncovered
  placed =
      record {
        fits = listed-few s v.listed;
        list-room = b.room;
        places-room = unfold in_use in omega (arith, list_from-length 0 (length cs) (place_in us), begins-length b.places);
        within = λ j l. rw (list_at j l) (entry-low j l);
        placed = λ j l. rw (list_at j l) (place-bare (get_or us j 0) (entry-low j l) (entry-bare j l) ∙ entry_place j l);
        bare = λ j l. rw (list_at j l) (entry-bare j l);
        low = λ c l z. rw (place-bare c l z) (place_of-lt c us (in_list c l z));
        found = λ c l z. rw (place-bare c l z) (list_at (place_of c us) (place_of-lt c us (in_list c l z)) ∙ place_of-get_or c us 0 (in_list c l z));
        covered = λ c l n. place_at_lem c l ∙ (unfold place_in in rw (not_in_list c l n));
        rest = b.zero;
      }

  pub laid-resting : Resting top s (fixed_in t) (moving_in (length us) t)
  unfolding in_use
  laid-resting =
      let n = v.one_each in
      record {
        holds = rw n holds;
        words = words-hold vs v.bits b.values;
        trues-room = let e = length-map cs (true_count vs) in let f = begins-length b.trues in omega arith;
        trues = λ c l. begins-at b.trues c (let e = length-map cs (true_count vs) in omega arith) ∙ (unfold true_count in get_or-map (true_count vs) cs c []);
        breaks-room = let e = list_from-length 0 T (break_count vs cs) in let f = begins-length b.breaks in omega arith;
        breaks = λ k l.
            begins-at b.breaks k (let e = list_from-length 0 T (break_count vs cs) in omega arith) ∙ get_or-list_of T k (break_count vs cs) 0 (omega arith);
        number = listed-length s v.listed;
        places = placed;
        list = rw b.uncovered.is (take-append_seam us b.uncovered.rest);
      }

-- ---- lent tables into which a state is written

module _ (lim : Limits) (s : State) (few : length s.file.clauses ≤ lim.clauses) where
  pub holding-laid : (t : Tables) → Laid s (holding lim s t)
  unfolding holding tables_of each full_sizes sizes
  holding-laid t =
      record {
        values = over-begins _ _ _;
        starts = over-begins _ _ _;
        literals = over-begins _ _ _;
        occurrence_starts = over-begins _ _ _;
        occurrences = over-begins _ _ _;
        trues = over-begins _ _ _;
        breaks = over-begins _ _ _;
        uncovered = over-begins _ _ _;
        places = over-begins _ _ _;
        room = unfold in_use in (let r = over-room lim.clauses s.uncovered t.uncovered in omega arith);
        zero = unfold in_use in (λ j l h. over_zero lim.clauses s.uncovered t.uncovered j l (omega arith));
      }
