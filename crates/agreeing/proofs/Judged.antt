-- The points as the code takes them together are agreement. Assumes nothing.
use Prim.Native.Nat.{ℕ, ◌^◌, ◌≤◌, ◌<◌}
use mathlib.Core.Path.{◌≡◌, refl, ap, ap₂, ◌∙◌}
use mathlib.Core.Bool.{Bool, true, false, ◌&&◌, and_comm}
use mathlib.Core.List.{List}
use native.Mathlib.Omega.{arith}
use lib.ListN.{length, get_or, take}
use lib.Seq.{length-take-le}
use lib.Dec.{eqb}
use Rattle.words.specs.Words.{word_count}
use Rattle.written.specs.declared.Counts.{Counts}
use Rattle.written.specs.Limits.{Limits}
use Rattle.written.specs.Clauses.{uncovered_in}
use Rattle.written.specs.Tables.{Tables, each, every, sizes, full_sizes, are_full, turned_round, in_use}
use Rattle.written.specs.Agreement.{file_in, state_in, counts_fit, names_agree, starts_agree, literals_agree, occurrences_agree, counts_agree, list_agrees, rest_is_zero, holds_together, agree}
use Rattle.laws.proofs.Basics.{by_cases, both_first, both-second}
use Rattle.laws.proofs.Each.{Names, Values, Starts, Literals, OccurrenceStarts, Occurrences, Trues, Breaks, Uncovered, Places}
use Rattle.machine.specs.Judging.{clauses_in, values_in, starts_right, clause_right, literals_right, turned_right, trues_right, breaks_right, list_right, covered_right, rest_right, spare_right, file_right, counts_right, clause_rests, count_rests, judged}
use Rattle.machine.specs.Tested.{CanCounts}
use Rattle.machine.proofs.File.{rooms, counts-fit, can-counts}
use Rattle.machine.proofs.Rest.{spare_is}

-- the last test first
turned : (v x r w : Bool) → (v && x && r && w) ≡ (x && r && w && v)
turned v false r w = ap (λ (b : Bool). b && r && w) (and_comm v false)
turned v true false w = ap (λ (b : Bool). b && w) (and_comm (v && true) false)
turned v true true w = ap (λ (b : Bool). b && true && w) (and_comm v true) ∙ ap (λ (b : Bool). b && w) (and_comm v true) ∙ and_comm v w

-- tests in another order
regroup : (f o a b u l v x r w : Bool) → (f && o && (a && b && u && l && v) && x && r && w) ≡ (f && o && (a && b && u) && l && (x && r && w && v))
regroup false o a b u l v x r w = refl
regroup true false a b u l v x r w = refl
regroup true true false b u l v x r w = refl
regroup true true true false u l v x r w = refl
regroup true true true true false l v x r w = refl
regroup true true true true true false v x r w = refl
regroup true true true true true true v x r w = turned v x r w

-- tests in one row
one-row : (x a b d e : Bool) → (x && (a && b && d && e)) ≡ (x && a && b && d && e)
one-row false a b d e = refl
one-row true a b d e = refl

words_mono : (a b : ℕ) → a ≤ b → word_count a ≤ word_count b
unfolding word_count
words_mono a b l = omega arith

module _ (lim : Limits) (n : Counts) (t : Tables) (full : are_full lim t ≡ true) (words : (k : ℕ) → get_or t.values k 0 < 2 ^ 32) where
  abbrev T : ℕ
  T = n.terms

  abbrev vs : List ℕ
  vs = values_in T t.values

  abbrev cs : List (List ℕ)
  cs = clauses_in n.clauses t.starts t.literals

  abbrev us : List ℕ
  us = take n.uncovered t.uncovered

  abbrev ps : List ℕ
  ps = take n.clauses t.places

  few : counts_fit lim n ≡ true → T ≤ lim.terms
  few h = (counts-fit lim n h).terms

  fitting : counts_fit lim n ≡ true → judged lim n t ≡ agree lim n t
  unfolding judged agree holds_together file_right turned_right counts_right trues_right breaks_right list_right covered_right clause_rests count_rests rest_right names_agree starts_agree literals_agree occurrences_agree counts_agree list_agrees rest_is_zero starts_right literals_right clause_right clauses_in values_in every each sizes full_sizes state_in file_in in_use turned_round
  fitting h =
      let size : length (take T t.names) ≡ T = length-take-le T t.names (omega (arith, rooms lim t full Names, few h)) in
      let room : word_count T ≤ length t.values = omega (arith, rooms lim t full Values, words_mono T lim.terms (few h)) in
      rw (h, size)
      (regroup (file_right n t.names t.starts t.literals) (turned_right T n.literals cs t.occurrence_starts t.occurrences)
      (trues_right n.clauses vs cs t.trues) (breaks_right T vs cs t.breaks) (eqb n.uncovered (length (uncovered_in vs cs)))
      (list_right vs cs us ps) (covered_right n.clauses us ps)
      (clause_rests lim n t.names t.values t.starts t.literals t.occurrence_starts t.occurrences)
      (count_rests lim n t.trues t.breaks t.uncovered t.places) (spare_right T (take (word_count T) t.values))
      ∙ ap₂ {C = Bool}
      (λ e w. file_right n t.names t.starts t.literals && turned_right T n.literals cs t.occurrence_starts t.occurrences
      && (trues_right n.clauses vs cs t.trues && breaks_right T vs cs t.breaks && eqb n.uncovered (length (uncovered_in vs cs)))
      && list_right vs cs us ps && (e && w && covered_right n.clauses us ps))
      (one-row (clause_rests lim n t.names t.values t.starts t.literals t.occurrence_starts t.occurrences)
      (rest_right n.clauses lim.clauses t.trues) (rest_right T lim.terms t.breaks) (rest_right n.uncovered lim.clauses t.uncovered)
      (rest_right n.clauses lim.clauses t.places))
      (spare_is T t.values room words))

  pub judged-is : judged lim n t ≡ agree lim n t
  judged-is = by_cases (counts_fit lim n) fitting (λ e. unfold judged agree in rw e refl)

  -- the ways out of the tests, one after another
  abbrev held : Bool
  held = file_right n t.names t.starts t.literals && turned_right T n.literals cs t.occurrence_starts t.occurrences

  abbrev counted : Bool
  counted = counts_right n t.values t.starts t.literals t.trues t.breaks t.uncovered t.places

  abbrev rests : Bool
  rests =
      clause_rests lim n t.names t.values t.starts t.literals t.occurrence_starts t.occurrences
      && count_rests lim n t.trues t.breaks t.uncovered t.places && spare_right T (take (word_count T) t.values)

  module _ (fit : counts_fit lim n ≡ true) where
    pub not-held : held ≡ false → false ≡ agree lim n t
    unfolding judged
    not-held e = rw (fit, e) refl ∙ judged-is

    -- the counts can then be tested
    pub counts-can : held ≡ true → CanCounts n t.values t.starts t.literals t.occurrence_starts t.occurrences t.trues t.breaks t.uncovered t.places
    counts-can h =
        let r = rooms lim t full in
        let file = file_right n t.names t.starts t.literals in
        let turns = turned_right T n.literals cs t.occurrence_starts t.occurrences in
        can-counts lim n fit t.names t.starts t.literals (r Starts) (r Literals) (both_first file turns h) t.occurrence_starts t.occurrences
        (r OccurrenceStarts) (r Occurrences) (both-second file turns h) t.values t.trues t.breaks t.uncovered t.places (r Values) (r Trues) (r Breaks) (r Uncovered) (r Places)

    pub not-counted : held ≡ true → counted ≡ false → false ≡ agree lim n t
    unfolding judged
    not-counted a e = rw (fit, a, e) refl ∙ judged-is

    pub rest_decides : held ≡ true → counted ≡ true → rests ≡ agree lim n t
    unfolding judged
    rest_decides a b = rw (fit, a, b) refl ∙ judged-is
