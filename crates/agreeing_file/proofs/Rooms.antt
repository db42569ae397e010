-- Counts within their limits and full tables: the clauses can be marked, and the occurrences passed. Assumes nothing.
use mathlib.Core.Path.{◌≡◌}
use mathlib.Core.Bool.{true}
use mathlib.Core.List.{List}
use Prim.Native.Nat.{ℕ, ◌*◌, ◌≤◌, ◌<◌}
use native.Mathlib.Omega.{arith}
use lib.ListN.{length}
use Rattle.written.specs.declared.Counts.{Counts}
use Rattle.written.specs.Limits.{Limits}
use Rattle.written.specs.Tables.{full_sizes}
use Rattle.written.specs.Agreement.{counts_fit}
use Rattle.laws.proofs.Sizes.{Fit}
use Rattle.machine.specs.Judging.{starts_right, file_right}
use Rattle.machine.proofs.Cuts.{right-cuts, can-cut}
use Rattle.machine.proofs.File.{counts-fit, starts-room, literals_room, literals-right, cuts, runs-room, occurrences-room}
use Rattle.agreeing_file.specs.Marks.{CanMark}
use Rattle.agreeing_file.specs.Matching.{CanMatch}

module _ (lim : Limits) (n : Counts) (h : counts_fit lim n ≡ true) where
  abbrev fit : Fit lim n
  fit = counts-fit lim n h

  -- with starts that are right
  pub can-mark : (top : ℕ) → lim.clauses < top → (ss ls : List ℕ) → (full_sizes lim).starts ≤ length ss → (full_sizes lim).literals ≤ length ls
      → starts_right n.clauses n.literals ss ≡ true → CanMark top lim.terms n.terms n.clauses ss ls
  can-mark top m ss ls a b r =
      record {
        parts = can-cut n.clauses n.literals ss (right-cuts _ _ ss (starts-room lim n h _ a) r) ls (literals_room lim n h _ b);
        terms = fit.terms;
        clauses = omega (arith, fit.clauses);
      }

  -- with a file that is right
  module _ (names ss ls : List ℕ) (sr : (full_sizes lim).starts ≤ length ss) (lr : (full_sizes lim).literals ≤ length ls) (r : file_right n names ss ls ≡ true) where
    module _ (os oc : List ℕ) (or : (full_sizes lim).occurrence_starts ≤ length os) (cr : (full_sizes lim).occurrences ≤ length oc) where
      pub can_match : (top : ℕ) → lim.clauses ≤ top → lim.literals < top → CanMatch top (2 * lim.terms) n.terms n.clauses n.literals ss ls os oc
      can_match top mc ml =
          record {
            cuts = cuts lim n h names ss ls sr lr r;
            right = literals-right lim n h names ss ls sr lr r;
            literals = literals_room lim n h _ lr;
            starts = runs-room lim n h names ss ls sr lr r os oc or cr;
            occurrences = occurrences-room lim n h names ss ls sr lr r os oc or cr;
            few-terms = omega (arith, fit.terms);
            few-clauses = omega (arith, fit.clauses);
            few-literals = omega (arith, fit.literals);
          }
