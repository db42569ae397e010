-- Tables into which a valid state is written agree, and no others do. Assumes nothing.
use Prim.Native.Nat.{ℕ, ◌+◌, ◌-◌, ◌*◌, ◌<◌}
use mathlib.Core.Logic.{◌↔◌}
use mathlib.Core.Path.{◌≡◌, refl, ap, sym, subst₂, ◌∙◌}
use mathlib.Core.Bool.{true, cond, ◌&&◌}
use mathlib.Core.List.{[], map}
use native.Mathlib.Omega.{arith}
use lib.ListN.{length, get_or, take, drop}
use lib.Seq.{get_or-take}
use lib.Dec.{eqb, ltb}
use borrow.Author.Tests.{ltb-true, eq-eqb}
use Rattle.written.specs.declared.Counts.{Counts}
use Rattle.written.specs.Lists.{all, has, place_of, differ}
use Rattle.written.specs.Limits.{Limits}
use Rattle.written.specs.Clauses.{State, term_of}
use Rattle.written.specs.Tables.{Tables, each, every, sizes, full_sizes, are_full, starts_from, place_in, in_use, tables_of, counts_of, holding}
use Rattle.written.specs.Agreement.{state_in, agree}
use Rattle.laws.specs.Valid.{is_clause, Valid}
use Rattle.laws.proofs.Basics.{by_cases, both}
use Rattle.laws.proofs.Lists.{get_or-list_of}
use Rattle.laws.proofs.All.{all_get_d, all-by, all-zeros}
use Rattle.laws.proofs.Padding.{padded-drop}
use Rattle.laws.proofs.Parts.{starts_first, starts-step, starts-last}
use Rattle.laws.proofs.Each.{at, each_at, every-all}
use Rattle.laws.proofs.Counted.{listed-length, listed_has, listed-once, uncovered-below}
use Rattle.laws.proofs.Sizes.{clause-some, clause-below, clause_differs, in_use_lem, valid-fit}
use Rattle.laws.proofs.Holding.{tables-at, holding-take, holding-used}
use Rattle.laws.proofs.Back.{holding-back}
use Rattle.laws.proofs.Points.{Points, points-agree}
use Rattle.laws.proofs.Agreeing.{agree-valid, agree-counts, agree-holding}

module _ (lim : Limits) (s : State) (t : Tables) (v : Valid lim s) where
  -- the starts that stand are those of the clauses
  start-at : (k : ℕ) → k < length s.file.clauses + 1 → get_or (holding lim s t).starts k 0 ≡ get_or (starts_from 0 s.file.clauses) k 0
  unfolding each sizes counts_of in_use
  start-at k l =
      sym (get_or-take (length s.file.clauses + 1) (holding lim s t).starts k 0 l) ∙ ap (λ (u : Tables). get_or u.starts k 0) (holding-used lim s t v)

  rise : (k : ℕ) → k < length s.file.clauses → get_or (holding lim s t).starts k 0 < get_or (holding lim s t).starts (k + 1) 0
  rise k l =
      let a = start-at k (omega arith) in
      let b = start-at (k + 1) (omega arith) in
      let d = starts-step 0 s.file.clauses k l in
      let n = length s.file.names in
      let ls = get_or s.file.clauses k [] in
      let e = ltb-true 0 (length ls) (clause-some n ls (all_get_d (is_clause n) s.file.clauses k [] l v.proper.clauses-valid)) in
      omega arith

  clauses-valid : all (λ ls. all (λ l. ltb l (2 * length s.file.names)) ls && differ (map term_of ls)) s.file.clauses ≡ true
  clauses-valid =
      all-by _ s.file.clauses []
      (λ k l.
      let n = length s.file.names in
      let ls = get_or s.file.clauses k [] in
      let h = all_get_d (is_clause n) s.file.clauses k [] l v.proper.clauses-valid in
      both _ _ (clause-below n ls h) (clause_differs n ls h))

  place_at_lem : (c : ℕ) → c < length s.file.clauses → get_or (in_use s).places c 0 ≡ cond (has c s.uncovered) (place_of c s.uncovered) 0
  unfolding in_use place_in
  place_at_lem c l = get_or-list_of (length s.file.clauses) c (place_in s.uncovered) 0 l

  zero_rest : every (all (λ x. eqb x 0)) (each drop (sizes (counts_of s)) (each take (full_sizes lim) (holding lim s t))) ≡ true
  zero_rest =
      rw (holding-take lim s t v)
      (every-all (all (λ x. eqb x 0)) (each drop (sizes (counts_of s)) (tables_of lim s))
      (λ k.
      ap (all (λ x. eqb x 0))
      (each_at drop k (sizes (counts_of s)) (tables_of lim s) ∙ ap (drop (at k (sizes (counts_of s)))) (tables-at lim s k)
      ∙ padded-drop (at k (sizes (counts_of s))) (at k (full_sizes lim)) (at k (in_use s)) (in_use_lem lim s v k))
      ∙ all-zeros (λ x. eqb x 0) refl (at k (full_sizes lim) - length (at k (in_use s)))))

  -- every point
  points : Points lim (counts_of s) (holding lim s t) s (in_use s)
  unfolding counts_of
  points =
      record {
        fit = valid-fit lim s v;
        some = v.proper.some-clause;
        names-valid = v.proper.names-valid;
        names-differ = v.proper.names-differ;
        first = start-at 0 (omega arith) ∙ starts_first 0 s.file.clauses;
        rise = rise;
        last = start-at (length s.file.clauses) (omega arith) ∙ starts-last 0 s.file.clauses ∙ (omega arith);
        clauses-valid = clauses-valid;
        occurrence_starts = refl;
        occurrences = refl;
        trues = refl;
        breaks = refl;
        uncovered = listed-length s v.listed;
        once = listed-once s v.listed;
        place = λ c m. place_at_lem c (uncovered-below s.values s.file.clauses c m) ∙ (rw (listed_has s v.listed c, m) refl);
        zero_rest = zero_rest;
        words = refl;
        no_place = λ c l.
            by_cases (has c s.uncovered) (λ e. rw e)
            (λ e. rw e (eq-eqb (get_or (in_use s).places c 0) 0 (place_at_lem c l ∙ (rw e refl))));
      }

-- what is written agrees
pub holding-agrees : (lim : Limits) (s : State) (t : Tables) → Valid lim s → agree lim (counts_of s) (holding lim s t) ≡ true
holding-agrees lim s t v =
    points-agree lim (counts_of s) (holding lim s t)
    (subst₂ (λ r u. Points lim (counts_of s) (holding lim s t) r u) (sym (holding-back lim s t v)) (sym (holding-used lim s t v)) (points lim s t v))

-- full tables agree exactly where some valid state stands alone in them
pub agree-exactly : (lim : Limits) (n : Counts) (t : Tables) → are_full lim t ≡ true
    → (agree lim n t ≡ true) ↔ ((s : State) × Valid lim s × (counts_of s ≡ n) × (holding lim s t ≡ t))
agree-exactly lim n t full = (
  λ h. (state_in n t, agree-valid lim n t h full, agree-counts lim n t h full, agree-holding lim n t h full),
  λ a. subst₂ (λ m u. agree lim m u ≡ true) a.2 a.3 (holding-agrees lim a.0 t a.1),
)
