-- Agreement, point by point, as facts about numbers and lists. Assumes nothing.
use Prim.Native.Nat.{ℕ, ◌+◌, ◌*◌, ◌<◌}
use mathlib.Core.Path.{◌≡◌, ap, sym, ◌∙◌}
use mathlib.Core.Bool.{Bool, true, ◌&&◌, ◌||◌}
use mathlib.Core.List.{List, map}
use lib.ListN.{length, get_or, take, drop}
use lib.Dec.{eqb, ltb}
use borrow.Author.Tests.{ltb-true, leb-true, lt-ltb, le-leb, eq-eqb, eqb-true}
use Rattle.written.specs.declared.Counts.{Counts}
use Rattle.written.specs.Lists.{all, has, place_of, times, differ, same}
use Rattle.written.specs.Limits.{Limits}
use Rattle.written.specs.Clauses.{State, term_of, uncovered_in}
use Rattle.written.specs.Tables.{Tables, each, every, sizes, full_sizes, in_use}
use Rattle.written.specs.Agreement.{is_name, state_in, counts_fit, names_agree, starts_agree, literals_agree, occurrences_agree, counts_agree, list_agrees, rest_is_zero, holds_together, agree}
use Rattle.laws.proofs.Basics.{both, both_first, both-second, same-eq}
use Rattle.laws.proofs.All.{all-below, below_all, all-has, has_all, same_refl}
use Rattle.laws.proofs.Sizes.{Fit}

-- what the points say of counts, tables, the state that they hold and the entries in use
pub record Points (lim : Limits) (n : Counts) (t : Tables) (s : State) (u : Tables) : Type 0 where
  pub fit : Fit lim n
  pub some : 0 < n.clauses
  pub names-valid : all is_name s.file.names ≡ true
  pub names-differ : differ s.file.names ≡ true
  pub first : get_or t.starts 0 0 ≡ 0
  pub rise : (k : ℕ) → k < n.clauses → get_or t.starts k 0 < get_or t.starts (k + 1) 0
  pub last : get_or t.starts n.clauses 0 ≡ n.literals
  pub clauses-valid : all (λ ls. all (λ l. ltb l (2 * n.terms)) ls && differ (map term_of ls)) s.file.clauses ≡ true
  pub occurrence_starts : u.occurrence_starts ≡ (in_use s).occurrence_starts
  pub occurrences : u.occurrences ≡ (in_use s).occurrences
  pub trues : u.trues ≡ (in_use s).trues
  pub breaks : u.breaks ≡ (in_use s).breaks
  pub uncovered : n.uncovered ≡ length (uncovered_in s.values s.file.clauses)
  pub once : (c : ℕ) → has c (uncovered_in s.values s.file.clauses) ≡ true → times c s.uncovered ≡ 1
  pub place : (c : ℕ) → has c (uncovered_in s.values s.file.clauses) ≡ true → get_or u.places c 0 ≡ place_of c s.uncovered
  pub zero_rest : every (all (λ x. eqb x 0)) (each drop (sizes n) (each take (full_sizes lim) t)) ≡ true
  pub words : u.values ≡ (in_use s).values
  pub no_place : (c : ℕ) → c < n.clauses → (has c s.uncovered || eqb (get_or u.places c 0) 0) ≡ true

same_of : {xs ys : List ℕ} → xs ≡ ys → same xs ys ≡ true
same_of {xs} {ys} e = ap (λ zs. same xs zs) (sym e) ∙ same_refl xs

module _ (lim : Limits) (n : Counts) (t : Tables) (s : State) (u : Tables) where
  abbrev Test : Bool
  Test = counts_fit lim n && holds_together lim n t s u

  fit_of : Test ≡ true → Fit lim n
  unfolding counts_fit
  fit_of h =
      record {
        terms = leb-true _ _ (search (both_first, both-second));
        clauses = leb-true _ _ (search (both_first, both-second));
        literals = leb-true _ _ (search (both_first, both-second));
        uncovered = leb-true _ _ (search (both_first, both-second));
      }

  -- from the tests to what they say, and back
  points-of : Test ≡ true → Points lim n t s u
  unfolding counts_fit holds_together names_agree starts_agree literals_agree occurrences_agree counts_agree list_agrees rest_is_zero
  points-of h =
      record {
        fit = fit_of h;
        some = ltb-true _ _ (search (both_first, both-second) depth 10);
        names-valid = search (both_first, both-second) depth 10;
        names-differ = search (both_first, both-second) depth 10;
        first = eqb-true _ _ (search (both_first, both-second) depth 10);
        rise = λ k l. ltb-true _ _ (all-below (λ c. ltb (get_or t.starts c 0) (get_or t.starts (c + 1) 0)) n.clauses k l (search (both_first, both-second) depth 10));
        last = eqb-true _ _ (search (both_first, both-second) depth 10);
        clauses-valid = search (both_first, both-second) depth 10;
        occurrence_starts = same-eq _ _ (search (both_first, both-second) depth 10);
        occurrences = same-eq _ _ (search (both_first, both-second) depth 10);
        trues = same-eq _ _ (search (both_first, both-second) depth 10);
        breaks = same-eq _ _ (search (both_first, both-second) depth 10);
        uncovered = eqb-true _ _ (search (both_first, both-second) depth 10);
        once = λ c m. eqb-true _ _ (both_first _ _ (listed c m));
        place = λ c m. eqb-true _ _ (both-second (eqb (times c s.uncovered) 1) _ (listed c m));
        zero_rest = search (both_first, both-second) depth 10;
        words = same-eq _ _ (search (both_first, both-second) depth 10);
        no_place = λ c l. all-below (λ c. has c s.uncovered || eqb (get_or u.places c 0) 0) n.clauses c l (search (both_first, both-second) depth 10);
      }
    where
      listed : (c : ℕ) → has c (uncovered_in s.values s.file.clauses) ≡ true
          → (eqb (times c s.uncovered) 1 && eqb (get_or u.places c 0) (place_of c s.uncovered)) ≡ true
      listed c m =
          all-has (λ c. eqb (times c s.uncovered) 1 && eqb (get_or u.places c 0) (place_of c s.uncovered))
          (uncovered_in s.values s.file.clauses) c m (search (both_first, both-second) depth 10)

  points-hold : Points lim n t s u → Test ≡ true
  unfolding counts_fit holds_together names_agree starts_agree literals_agree occurrences_agree counts_agree list_agrees rest_is_zero
  points-hold p =
      rw (
        le-leb n.terms lim.terms p.fit.terms,
        le-leb n.clauses lim.clauses p.fit.clauses,
        le-leb n.literals lim.literals p.fit.literals,
        le-leb n.uncovered lim.clauses p.fit.uncovered,
        lt-ltb 0 n.clauses p.some,
        p.names-valid,
        p.names-differ,
        eq-eqb (get_or t.starts 0 0) 0 p.first,
        below_all (λ c. ltb (get_or t.starts c 0) (get_or t.starts (c + 1) 0)) n.clauses (λ k l. lt-ltb _ _ (p.rise k l)),
        eq-eqb (get_or t.starts n.clauses 0) n.literals p.last,
        p.clauses-valid,
        same_of p.occurrence_starts,
        same_of p.occurrences,
        same_of p.trues,
        same_of p.breaks,
        eq-eqb n.uncovered (length (uncovered_in s.values s.file.clauses)) p.uncovered,
        has_all (λ c. eqb (times c s.uncovered) 1 && eqb (get_or u.places c 0) (place_of c s.uncovered))
            (uncovered_in s.values s.file.clauses) (λ c m. both _ _ (eq-eqb _ _ (p.once c m)) (eq-eqb _ _ (p.place c m))),
        p.zero_rest,
        same_of p.words,
        below_all (λ c. has c s.uncovered || eqb (get_or u.places c 0) 0) n.clauses p.no_place,
      )

-- agreement is all of it, of the state that the tables hold
pub agree-points : (lim : Limits) (n : Counts) (t : Tables) → agree lim n t ≡ true → Points lim n t (state_in n t) (each take (sizes n) t)
unfolding agree
agree-points lim n t h = points-of lim n t (state_in n t) (each take (sizes n) t) h

pub points-agree : (lim : Limits) (n : Counts) (t : Tables) → Points lim n t (state_in n t) (each take (sizes n) t) → agree lim n t ≡ true
unfolding agree
points-agree lim n t p = points-hold lim n t (state_in n t) (each take (sizes n) t) p
