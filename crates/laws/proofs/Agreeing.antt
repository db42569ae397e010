-- Tables that agree hold a valid state, and nothing else up to their full sizes. Assumes nothing.
use Prim.Native.Nat.{ℕ, ◌+◌, ◌-◌, ◌*◌, ◌≤◌, ◌<◌}
use mathlib.Core.Path.{◌≡◌, refl, ap, sym, ◌∙◌}
use mathlib.Core.Bool.{true, ◌&&◌}
use mathlib.Core.List.{[], map, flatten}
use native.Mathlib.Omega.{arith}
use lib.ListN.{length, get_or, take, drop}
use lib.Seq.{length-take-le}
use lib.Dec.{eqb, ltb}
use borrow.Author.Tests.{lt-ltb, eqb-true}
use Rattle.words.specs.Words.{bit_at}
use Rattle.written.specs.declared.Counts.{Counts}
use Rattle.written.specs.Lists.{total, all, list_of, has, differ, padded}
use Rattle.written.specs.Limits.{Limits}
use Rattle.written.specs.Clauses.{term_of}
use Rattle.written.specs.Tables.{Tables, each, sizes, full_sizes, are_full, starts_from, place_in, in_use, over, counts_of, holding}
use Rattle.written.specs.Agreement.{part_of, file_in, state_in, agree}
use Rattle.laws.specs.Valid.{is_clause, Listed, Valid}
use Rattle.laws.proofs.Basics.{by_cases}
use Rattle.laws.proofs.Lists.{list_from-length, list_of-is, get_or-list_of}
use Rattle.laws.proofs.All.{all_get_d, all-by}
use Rattle.laws.proofs.Padding.{over-taken, padded-taken}
use Rattle.laws.proofs.Parts.{flatten-length, part_length, up-to-last, parts-starts, parts-entries}
use Rattle.laws.proofs.Values.{values-bits}
use Rattle.laws.proofs.Each.{Table, at, by-each, each_at, every-at}
use Rattle.laws.proofs.Each.Table.{Names, Values, Starts, Literals, OccurrenceStarts, Occurrences, Trues, Breaks, Uncovered, Places}
use Rattle.laws.proofs.Counted.{listed_by, listed_has}
use Rattle.laws.proofs.Sizes.{sizes-fit}
use Rattle.laws.proofs.Holding.{full_at, tables-at, holding-at}
use Rattle.laws.proofs.Points.{Points, agree-points}

module _ (lim : Limits) (n : Counts) (t : Tables) (ok : agree lim n t ≡ true) (full : are_full lim t ≡ true) where
  -- what the agreement says
  points : Points lim n t (state_in n t) (each take (sizes n) t)
  points = agree-points lim n t ok

  -- the tables are long enough for what is in use
  room : (k : Table) → at k (sizes n) ≤ length (at k t)
  room k = omega (arith, sizes-fit lim n points.fit k, full_at lim t k full)

  used-length : (k : Table) → length (at k (each take (sizes n) t)) ≡ at k (sizes n)
  used-length k = ap length (each_at take k (sizes n) t) ∙ length-take-le (at k (sizes n)) (at k t) (room k)

  -- what the state is made of, and how much of it there is
  names-length : length (state_in n t).file.names ≡ n.terms
  unfolding state_in file_in sizes
  names-length = length-take-le n.terms t.names (room Names)

  names-taken : (state_in n t).file.names ≡ take n.terms t.names
  unfolding state_in file_in
  names-taken = refl

  uncovered-taken : (state_in n t).uncovered ≡ take n.uncovered t.uncovered
  unfolding state_in
  uncovered-taken = refl

  clauses-length : length (state_in n t).file.clauses ≡ n.clauses
  unfolding state_in file_in
  clauses-length = list_from-length 0 n.clauses (part_of t.starts t.literals)

  starts-joined : starts_from 0 (state_in n t).file.clauses ≡ take (n.clauses + 1) t.starts
  unfolding state_in file_in sizes
  starts-joined =
      parts-starts t.starts t.literals n.clauses (λ k l. omega (arith, points.rise k l)) (omega (arith, room Starts))
      (omega (arith, room Literals, points.last)) points.first

  literals-joined : flatten (state_in n t).file.clauses ≡ take n.literals t.literals
  unfolding state_in file_in sizes
  literals-joined =
      parts-entries t.starts t.literals n.clauses (λ k l. omega (arith, points.rise k l)) (omega (arith, room Starts))
      (omega (arith, room Literals, points.last)) points.first
      ∙ ap (λ m. take m t.literals) points.last

  uncovered-length : length (state_in n t).uncovered ≡ n.uncovered
  unfolding state_in sizes
  uncovered-length = length-take-le n.uncovered t.uncovered (room Uncovered)

  literals-length : total length (state_in n t).file.clauses ≡ n.literals
  unfolding sizes
  literals-length =
      sym (flatten-length (state_in n t).file.clauses) ∙ ap length literals-joined ∙ length-take-le n.literals t.literals (room Literals)

  -- the counts are those of the state
  pub agree-counts : counts_of (state_in n t) ≡ n
  unfolding counts_of
  agree-counts = λ i. record { terms = names-length i; clauses = clauses-length i; literals = literals-length i; uncovered = uncovered-length i }

  listed : Listed (state_in n t)
  listed = listed_by (state_in n t) (uncovered-length ∙ points.uncovered) points.once

  clause-some : (k : ℕ) → k < n.clauses → 0 < length (get_or (state_in n t).file.clauses k [])
  unfolding state_in file_in sizes
  clause-some k l =
      let rise : (k : ℕ) → k < n.clauses → get_or t.starts k 0 ≤ get_or t.starts (k + 1) 0 = λ k l. omega (arith, points.rise k l) in
      let end : get_or t.starts n.clauses 0 ≤ length t.literals = omega (arith, room Literals, points.last) in
      let up = up-to-last t.starts n.clauses rise (k + 1) (n.clauses - (k + 1)) (omega arith) in
      let size = part_length t.starts t.literals k (omega arith) in
      rw (get_or-list_of n.clauses k (part_of t.starts t.literals) [] l) (omega (arith, points.rise k l))

  clause-at : (k : ℕ) → k < n.clauses → is_clause (length (state_in n t).file.names) (get_or (state_in n t).file.clauses k []) ≡ true
  unfolding is_clause
  clause-at k l =
      let ls = get_or (state_in n t).file.clauses k [] in
      let h = all_get_d (λ ls. all (λ l. ltb l (2 * n.terms)) ls && differ (map term_of ls)) (state_in n t).file.clauses k [] (omega (arith, clauses-length)) points.clauses-valid in
      rw (lt-ltb 0 (length ls) (clause-some k l), names-length) h

  values_length : length (state_in n t).values ≡ n.terms
  unfolding state_in
  values_length = list_from-length 0 n.terms (bit_at t.values)

  bits : all (λ v. ltb v 2) (state_in n t).values ≡ true
  unfolding state_in bit_at
  bits = values-bits n.terms t.values

  -- the state is valid
  pub agree-valid : Valid lim (state_in n t)
  agree-valid =
      record {
        proper =
            record {
              few-terms = omega (arith, names-length, points.fit.terms);
              few-clauses = omega (arith, clauses-length, points.fit.clauses);
              few-literals = omega (arith, literals-length, points.fit.literals);
              some-clause = omega (arith, clauses-length, points.some);
              names-valid = points.names-valid;
              names-differ = points.names-differ;
              clauses-valid = all-by (is_clause (length (state_in n t).file.names)) (state_in n t).file.clauses [] (λ k l. clause-at k (omega (arith, clauses-length)));
            };
        one_each = values_length ∙ sym names-length;
        bits = bits;
        listed = listed;
      }

  place_at_lem : (c : ℕ) → c < n.clauses → place_in (state_in n t).uncovered c ≡ get_or (each take (sizes n) t).places c 0
  unfolding place_in
  place_at_lem c l =
      by_cases (has c (state_in n t).uncovered) (λ e. rw e (sym (points.place c (sym (listed_has (state_in n t) listed c) ∙ e))))
      (λ e. rw e (sym (eqb-true (get_or (each take (sizes n) t).places c 0) 0 (rw e at (points.no_place c l)))))

  -- what is in use is what the state has in use
  pub agree-used : (k : Table) → at k (in_use (state_in n t)) ≡ at k (each take (sizes n) t)
  unfolding in_use each sizes
  agree-used Names = names-taken
  agree-used Values = sym points.words
  agree-used Starts = starts-joined
  agree-used Literals = literals-joined
  agree-used OccurrenceStarts = sym points.occurrence_starts
  agree-used Occurrences = sym points.occurrences
  agree-used Trues = sym points.trues
  agree-used Breaks = sym points.breaks
  agree-used Uncovered = uncovered-taken
  agree-used Places =
      ap (λ m. list_of m (place_in (state_in n t).uncovered)) clauses-length
      ∙ list_of-is n.clauses (place_in (state_in n t).uncovered) (take n.clauses t.places) 0 (used-length Places) place_at_lem

  -- past them stands nothing but 0
  zero-past : (k : Table) → all (λ x. eqb x 0) (drop (at k (sizes n)) (take (at k (full_sizes lim)) (at k t))) ≡ true
  zero-past k =
      rw (each_at drop k (sizes n) (each take (full_sizes lim) t), each_at take k (full_sizes lim) t)
      at (every-at (all (λ x. eqb x 0)) (each drop (sizes n) (each take (full_sizes lim) t)) k points.zero_rest)

  -- nothing but that state stands in the tables, the excess aside
  pub agree-holding : holding lim (state_in n t) t ≡ t
  agree-holding =
      by-each _ _
      (λ k.
      let m = at k (sizes n) in
      let full_size = at k (full_sizes lim) in
      holding-at lim (state_in n t) t k
      ∙ ap (λ xs. over xs (at k t))
      (tables-at lim (state_in n t) k ∙ ap (padded full_size) (agree-used k ∙ each_at take k (sizes n) t)
      ∙ padded-taken m full_size (at k t) (sizes-fit lim n points.fit k) (full_at lim t k full) (zero-past k))
      ∙ over-taken full_size (at k t) (full_at lim t k full))
