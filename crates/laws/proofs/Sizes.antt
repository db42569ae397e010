-- How many entries of each table a valid state has in use, and that they are within the full sizes. Assumes nothing.
use Prim.Native.Nat.{ℕ, ◌+◌, ◌*◌, ◌≤◌}
use mathlib.Core.Path.{◌≡◌, refl, ap, sym, ◌∙◌}
use mathlib.Core.Bool.{true, cond}
use mathlib.Core.List.{List, [], ◌∷◌, map, flatten}
use native.Mathlib.Omega.{arith}
use lib.ListN.{length, get_or, length-map}
use lib.Dec.{eqb, ltb}
use Rattle.words.specs.Words.{word_count}
use Rattle.written.specs.declared.Counts.{Counts}
use Rattle.written.specs.Lists.{total, all, list_of, below, has, times, differ}
use Rattle.written.specs.Limits.{Limits}
use Rattle.written.specs.Clauses.{State, term_of, occurrences_of}
use Rattle.written.specs.Tables.{sizes, full_sizes, counts_of, in_use, turned_round}
use Rattle.laws.specs.Valid.{is_clause, Valid}
use Rattle.laws.proofs.Basics.{both_first, both-second}
use Rattle.laws.proofs.Lists.{list_from-length}
use Rattle.laws.proofs.Sums.{total_append, total-by, total-list_from}
use Rattle.laws.proofs.All.{all-flatten, all_implied, all_get_d}
use Rattle.laws.proofs.Membership.{differ-map}
use Rattle.laws.proofs.Times.{where_length, times_below, differ-times}
use Rattle.laws.proofs.Parts.{starts-length, flatten-length}
use Rattle.laws.proofs.Values.{words-length}
use Rattle.laws.proofs.Each.{Table, at}
use Rattle.laws.proofs.Each.Table.{Names, Values, Starts, Literals, OccurrenceStarts, Occurrences, Trues, Breaks, Uncovered, Places}
use Rattle.laws.proofs.Counted.{listed-few}

-- ---- what a clause is

module _ (n : ℕ) (ls : List ℕ) (h : is_clause n ls ≡ true) where
  pub clause-some : ltb 0 (length ls) ≡ true
  unfolding is_clause
  clause-some = search (both_first, both-second)

  pub clause-below : all (λ l. ltb l (2 * n)) ls ≡ true
  unfolding is_clause
  clause-below = search (both_first, both-second)

  pub clause_differs : differ (map term_of ls) ≡ true
  unfolding is_clause
  clause_differs = search (both_first, both-second)

-- ---- the literals turned round are as many

times-flatten : (l : ℕ) (cs : List (List ℕ)) → times l (flatten cs) ≡ total (times l) cs
unfolding flatten
times-flatten l [] = refl
times-flatten l (c ∷ cs) = total_append (λ m. cond (eqb l m) 1 0) c (flatten cs) ∙ ap (λ n. times l c + n) (times-flatten l cs)

-- in clauses without repeats a literal stands as often as there are clauses in which it stands
pub occurrences-times : (l : ℕ) (cs : List (List ℕ)) → all differ cs ≡ true → length (occurrences_of cs l) ≡ times l (flatten cs)
unfolding occurrences_of
occurrences-times l cs d =
    where_length 0 (has l) cs ∙ total-by (λ c. cond (has l c) 1 0) (times l) cs [] (λ k h. sym (differ-times l (get_or cs k []) (all_get_d differ cs k [] h d)))
    ∙ sym (times-flatten l cs)

pub round-length : (n : ℕ) (cs : List (List ℕ)) → all (all (λ l. ltb l (2 * n))) cs ≡ true → all differ cs ≡ true
    → length (flatten (list_of (2 * n) (occurrences_of cs))) ≡ total length cs
round-length n cs low once =
    flatten-length (list_of (2 * n) (occurrences_of cs)) ∙ total-list_from length (occurrences_of cs) 0 (2 * n)
    ∙ total-by (λ l. length (occurrences_of cs l)) (λ l. times l (flatten cs)) (below (2 * n)) 0 (λ k l. occurrences-times _ cs once)
    ∙ times_below (2 * n) (flatten cs) (all-flatten (λ l. ltb l (2 * n)) cs low) ∙ flatten-length cs

-- ---- entries in use

pub in_use_lem : (lim : Limits) (s : State) → Valid lim s → (k : Table) → length (at k (in_use s)) ≡ at k (sizes (counts_of s))
unfolding in_use sizes counts_of turned_round
in_use_lem lim s v Names = refl
in_use_lem lim s v Values = words-length s.values ∙ ap word_count v.one_each
in_use_lem lim s v Starts = starts-length 0 s.file.clauses
in_use_lem lim s v Literals = flatten-length s.file.clauses
in_use_lem lim s v OccurrenceStarts = starts-length 0 _ ∙ ap (λ n. n + 1) (list_from-length 0 (2 * length s.file.names) (occurrences_of s.file.clauses))
in_use_lem lim s v Occurrences =
    let n = length s.file.names in
    let cs = s.file.clauses in
    round-length n cs (all_implied (is_clause n) (all (λ l. ltb l (2 * n))) (clause-below n) cs v.proper.clauses-valid)
    (all_implied (is_clause n) differ (λ ls h. differ-map term_of ls (clause_differs n ls h)) cs v.proper.clauses-valid)
in_use_lem lim s v Trues = length-map s.file.clauses _
in_use_lem lim s v Breaks = list_from-length 0 (length s.file.names) _
in_use_lem lim s v Uncovered = refl
in_use_lem lim s v Places = list_from-length 0 (length s.file.clauses) _

-- ---- within the limits

-- counts within their limits
pub record Fit (lim : Limits) (n : Counts) : Type 0 where
  pub terms : n.terms ≤ lim.terms
  pub clauses : n.clauses ≤ lim.clauses
  pub literals : n.literals ≤ lim.literals
  pub uncovered : n.uncovered ≤ lim.clauses

pub valid-fit : (lim : Limits) (s : State) → Valid lim s → Fit lim (counts_of s)
unfolding counts_of
valid-fit lim s v =
    record {
      terms = v.proper.few-terms;
      clauses = v.proper.few-clauses;
      literals = v.proper.few-literals;
      uncovered = omega (arith, listed-few s v.listed, v.proper.few-clauses);
    }

pub sizes-fit : (lim : Limits) (n : Counts) → Fit lim n → (k : Table) → at k (sizes n) ≤ at k (full_sizes lim)
unfolding sizes full_sizes word_count
sizes-fit lim n f Names = omega arith
sizes-fit lim n f Values = omega arith
sizes-fit lim n f Starts = omega arith
sizes-fit lim n f Literals = omega arith
sizes-fit lim n f OccurrenceStarts = omega arith
sizes-fit lim n f Occurrences = omega arith
sizes-fit lim n f Trues = omega arith
sizes-fit lim n f Breaks = omega arith
sizes-fit lim n f Uncovered = omega arith
sizes-fit lim n f Places = omega arith
