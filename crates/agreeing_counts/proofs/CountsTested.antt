-- The counts and the uncovered list tested one after another: what each way out says of all that is written. Assumes nothing.
use mathlib.Core.Path.{◌≡◌, ap, sym, ◌∙◌}
use mathlib.Core.Bool.{true, false}
use mathlib.Core.List.{List}
use Prim.Native.Nat.{ℕ}
use lib.ListN.{length, take}
use lib.Dec.{eqb}
use borrow.Author.Tests.{eqb-true}
use Rattle.written.specs.declared.Counts.{Counts}
use Rattle.written.specs.Lists.{all, below}
use Rattle.written.specs.Clauses.{uncovered_in}
use Rattle.machine.specs.Judging.{clauses_in, values_in, trues_right, breaks_right, counts_right}
use Rattle.machine.specs.Tested.{count_of, break_tested, place_tested, CanCounts}
use Rattle.machine.proofs.Tested.{clauses-size}
use Rattle.machine.proofs.Ones.{breaks-tested}
use Rattle.agreeing_counts.proofs.ListTested.{zeros-uncovered, list-tested}

module _ (n : Counts) (ws ss ls os oc ts bs us ps : List ℕ) (h : CanCounts n ws ss ls os oc ts bs us ps) where
  abbrev vs : List ℕ
  vs = values_in n.terms ws

  abbrev cs : List (List ℕ)
  cs = clauses_in n.clauses ss ls

  pub trues_wrong : trues_right n.clauses vs cs ts ≡ false → false ≡ counts_right n ws ss ls ts bs us ps
  unfolding counts_right
  trues_wrong e = rw e

  module _ (right : trues_right n.clauses vs cs ts ≡ true) where
    breaks_are : breaks_right n.terms vs cs bs ≡ all (break_tested ws os oc ts bs) (below n.terms)
    breaks_are = sym (breaks-tested n ws ss ls os oc ts bs us ps h right)

    pub breaks_wrong : all (break_tested ws os oc ts bs) (below n.terms) ≡ false → false ≡ counts_right n ws ss ls ts bs us ps
    unfolding counts_right
    breaks_wrong e = rw (right, breaks_are, e)

    number_is : eqb n.uncovered (length (uncovered_in vs cs)) ≡ eqb n.uncovered (count_of 0 (take n.clauses ts))
    number_is = ap (eqb n.uncovered) (sym (zeros-uncovered n.clauses vs cs ts right))

    module _ (breaks : all (break_tested ws os oc ts bs) (below n.terms) ≡ true) where
      pub number_wrong : eqb n.uncovered (count_of 0 (take n.clauses ts)) ≡ false → false ≡ counts_right n ws ss ls ts bs us ps
      unfolding counts_right
      number_wrong e = rw (right, breaks_are, breaks, number_is, e)

      pub list_decides : eqb n.uncovered (count_of 0 (take n.clauses ts)) ≡ true
          → all (place_tested n.uncovered ts us ps) (below n.clauses) ≡ counts_right n ws ss ls ts bs us ps
      unfolding counts_right
      list_decides e =
          rw (right, breaks_are, breaks, number_is, e)
          (list-tested n.clauses n.uncovered vs cs ts us ps (clauses-size n.clauses ss ls) h.list-room right (eqb-true _ _ (number_is ∙ e)))
