-- A draft finished, put together from what the calls gave. Assumes nothing.
use mathlib.Core.Path.{◌≡◌, ap, sym, ◌∙◌, subst}
use mathlib.Core.List.{List, flatten}
use Prim.Native.Nat.{ℕ, ◌≤◌}
use Rattle.written.specs.Limits.{Limits}
use Rattle.written.specs.Tables.{starts_from, over}
use Rattle.machine.specs.Tallies.{Tallies, tallies}
use Rattle.machine.specs.Moving.{Fixed, fixed, Moving, moving, view}
use Rattle.machine.specs.Passes.{zeroed, rewritten, rest_place, closed, CanClose, blank, counted, recounted, CanRecount}
use Rattle.machine.specs.Filling.{rounds_in, CanRound}
use Rattle.machine.proofs.Calls.{is-closed}
use Rattle.reading_lines.specs.declared.Place.{Place}
use Rattle.reading_end.specs.Clearing.{rest_zeroed}
use Rattle.reading_end.specs.Finishing.{finishing, tidy_clauses, tidy_moving, turned, laid_out, counted_out, counts_at, finished, CanFinish}

-- what was cleared
module _ (top : ℕ) (lim : Limits) (p : Place) (x : Fixed) (w : Moving) (h : CanFinish top lim p x w) {ls bs ps : List ℕ}
    (el : ls ≡ rest_zeroed lim.literals p.from x.literals) (eb : bs ≡ zeroed lim.terms w.tallies.breaks)
    (ep : ps ≡ zeroed lim.clauses w.tallies.uncovered.places) where
  pub can-turn : CanRound top p.terms p.clauses p.from x.starts ls x.occurrence_starts x.occurrences w.tallies.uncovered.list
  unfolding tidy_clauses
  can-turn = rw el h.rounds

  -- what was turned round
  module _ {os oc us : List ℕ}
      (e : (os ≡ over (starts_from 0 (rounds_in p.terms p.clauses x.starts ls)) x.occurrence_starts)
      × (oc ≡ over (flatten (rounds_in p.terms p.clauses x.starts ls)) x.occurrences) × (us ≡ w.tallies.uncovered.list)) where
    tidied : tallies w.tallies.trues bs us ps 0 ≡ (tidy_moving lim w).tallies
    unfolding tidy_moving
    tidied = rw (eb, ep, e.2)

    laid : fixed x.starts ls os oc ≡ laid_out lim p x
    unfolding laid_out turned tidy_clauses
    laid = rw (e.0, e.1, el)

    pub can_recount : CanRecount top p.clauses p.terms (view w.words x.starts ls) (tallies w.tallies.trues bs us ps 0)
    unfolding tidy_clauses
    can_recount = rw (tidied, el) h.recounts

    -- what was counted
    module _ {t : Tallies} (f : t ≡ counted p.clauses (view w.words x.starts ls) (blank p.clauses p.terms (tallies w.tallies.trues bs us ps 0))) where
      walking : moving w.words t ≡ counted_out lim p x w
      unfolding counted_out recounted laid_out turned tidy_clauses tidy_moving
      walking = rw (f, tidied, el)

      pub can_close : CanClose p.clauses t.trues t.uncovered.places
      can_close = subst (λ (m : Moving). CanClose p.clauses m.tallies.trues m.tallies.uncovered.places) (sym walking) h.closes

      pub number-low : t.uncovered.number ≤ lim.clauses
      number-low = subst (λ (m : Moving). m.tallies.uncovered.number ≤ lim.clauses) (sym walking) h.few-uncovered

      -- what was closed
      pub is-finished : {qs : List ℕ} → qs ≡ rewritten (rest_place t.trues) p.clauses t.uncovered.places
          → finishing (record { terms = p.terms; clauses = p.clauses; literals = p.from; uncovered = t.uncovered.number }) (fixed x.starts ls os oc)
          (moving w.words (tallies t.trues t.breaks t.uncovered.list qs t.uncovered.number))
          ≡ finished lim p x w
      unfolding finished counts_at
      is-finished q =
          let a = is-closed p.clauses (moving w.words t) q ∙ ap (closed p.clauses) walking in
          λ i. finishing (counts_at p (walking i).tallies.uncovered.number) (laid i) (a i)
