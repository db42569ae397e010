-- Counts within their limits and full tables: what each test asks, by what was tested before it. Assumes nothing.
use mathlib.Core.Path.{◌≡◌}
use mathlib.Core.Bool.{true}
use mathlib.Core.List.{List}
use Prim.Native.Nat.{ℕ, ◌*◌, ◌≤◌, ◌<◌}
use native.Mathlib.Omega.{arith}
use lib.ListN.{length}
use borrow.Author.Tests.{leb-true}
use Rattle.words.specs.Words.{word_count}
use Rattle.written.specs.declared.Counts.{Counts}
use Rattle.written.specs.Limits.{Limits}
use Rattle.written.specs.Tables.{Tables, sizes, full_sizes, are_full}
use Rattle.written.specs.Agreement.{counts_fit}
use Rattle.laws.proofs.Basics.{both_first, both-second}
use Rattle.laws.proofs.Each.{Table, at}
use Rattle.laws.proofs.Sizes.{Fit}
use Rattle.laws.proofs.Holding.{full_at}
use Rattle.machine.specs.Judging.{clauses_in, starts_right, literals_right, turned_right, file_right}
use Rattle.machine.specs.Cuts.{Cuts}
use Rattle.machine.specs.Tested.{CanCounts}
use Rattle.machine.proofs.Cuts.{right-cuts, can-cut}
use Rattle.machine.proofs.Occurrences.{turned-can, turned-part}

-- each full table has room for as many entries as its full size
pub rooms : (lim : Limits) (t : Tables) → are_full lim t ≡ true → (k : Table) → at k (full_sizes lim) ≤ length (at k t)
rooms lim t h k = full_at lim t k h

module _ (lim : Limits) (n : Counts) (h : counts_fit lim n ≡ true) where
  pub counts-fit : Fit lim n
  unfolding counts_fit
  counts-fit =
      record {
        terms = leb-true _ _ (search (both_first, both-second));
        clauses = leb-true _ _ (search (both_first, both-second));
        literals = leb-true _ _ (search (both_first, both-second));
        uncovered = leb-true _ _ (search (both_first, both-second));
      }

  pub names-room : (k : ℕ) → (full_sizes lim).names ≤ k → n.terms ≤ k
  unfolding full_sizes sizes
  names-room k f = omega (arith, counts-fit.terms)

  pub starts-room : (k : ℕ) → (full_sizes lim).starts ≤ k → n.clauses < k
  unfolding full_sizes sizes
  starts-room k f = omega (arith, counts-fit.clauses)

  pub literals_room : (k : ℕ) → (full_sizes lim).literals ≤ k → n.literals ≤ k
  unfolding full_sizes sizes
  literals_room k f = omega (arith, counts-fit.literals)

  -- with a file that is right
  module _ (names ss ls : List ℕ) (sr : (full_sizes lim).starts ≤ length ss) (lr : (full_sizes lim).literals ≤ length ls) (r : file_right n names ss ls ≡ true) where
    pub starts-right : starts_right n.clauses n.literals ss ≡ true
    unfolding file_right
    starts-right = search (both_first, both-second)

    pub literals-right : literals_right n.terms (clauses_in n.clauses ss ls) ≡ true
    unfolding file_right
    literals-right = search (both_first, both-second)

    pub cuts : Cuts n.clauses n.literals ss
    cuts = right-cuts _ _ ss (starts-room _ sr) starts-right

    module _ (os oc : List ℕ) (or : (full_sizes lim).occurrence_starts ≤ length os) (cr : (full_sizes lim).occurrences ≤ length oc) where
      pub runs-room : 2 * n.terms < length os
      unfolding full_sizes sizes
      runs-room = omega (arith, counts-fit.terms)

      pub occurrences-room : n.literals ≤ length oc
      unfolding full_sizes sizes
      occurrences-room = omega (arith, counts-fit.literals)

      -- and occurrences that are
      pub can-counts : turned_right n.terms n.literals (clauses_in n.clauses ss ls) os oc ≡ true → (ws ts bs us ps : List ℕ)
          → (full_sizes lim).values ≤ length ws → (full_sizes lim).trues ≤ length ts → (full_sizes lim).breaks ≤ length bs
          → (full_sizes lim).uncovered ≤ length us → (full_sizes lim).places ≤ length ps → CanCounts n ws ss ls os oc ts bs us ps
      unfolding full_sizes sizes word_count
      can-counts t ws ts bs us ps wr tr br ur pr =
          record {
            words-room = omega (arith, counts-fit.terms);
            clause-part = can-cut _ _ ss cuts ls (literals_room _ lr);
            clauses = literals-right;
            run-part = turned-can n.terms n.literals (clauses_in n.clauses ss ls) os oc runs-room occurrences-room t;
            run = turned-part n.terms n.literals (clauses_in n.clauses ss ls) os oc runs-room occurrences-room t;
            trues-room = omega (arith, counts-fit.clauses);
            breaks-room = omega (arith, counts-fit.terms);
            list-room = omega (arith, counts-fit.uncovered);
            places-room = omega (arith, counts-fit.clauses);
          }
