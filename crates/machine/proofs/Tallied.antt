-- Tallies that hold a valid state, over lent tables in which another was laid down, are those that are written for it. Assumes nothing.
use mathlib.Core.Path.{◌≡◌, ap, ◌∙◌, sym, subst}
use Prim.Native.Nat.{ℕ, ◌+◌, ◌*◌, ◌<◌}
use native.Mathlib.Omega.{arith}
use lib.ListN.{length}
use Rattle.written.specs.Limits.{Limits}
use Rattle.written.specs.Clauses.{File, State}
use Rattle.written.specs.Tables.{Tables, sizes, counts_of, holding}
use Rattle.laws.specs.Valid.{Proper, Valid}
use Rattle.laws.proofs.Each.Table.{Trues, Breaks, Uncovered, Places}
use Rattle.laws.proofs.Counted.{listed-few}
use Rattle.laws.proofs.Holding.{holding-sizes, holding-past}
use Rattle.machine.specs.Tallies.{Tallies, SameSizes}
use Rattle.machine.specs.Moving.{Fixed, Moving}
use Rattle.machine.specs.Passes.{closed}
use Rattle.machine.specs.Holds.{Resting, Walking, Kept}
use Rattle.machine.specs.Lent.{fixed_in, moving_in}
use Rattle.machine.proofs.Standings.{kept_trans}
use Rattle.machine.proofs.Sizes.{sizes_trans, closed-sizes}
use Rattle.machine.proofs.Opened.{closed-resting, closed-kept}
use Rattle.machine.proofs.Laid.{laid-resting, holding-laid}
use Rattle.machine.proofs.Held.{held-valid}
use Rattle.machine.proofs.Settled.{settled}

-- the tallies that are written for a state over the lent tables
abbrev pub tallies_for : Limits → Tables → State → Tallies
tallies_for lim t s = (moving_in (length s.uncovered) (holding lim s t)).tallies

-- those of two states with as many clauses and terms are as long, and the same past the entries in use
module _ (lim : Limits) (t : Tables) (s r : State) (vs : Valid lim s) (vr : Valid lim r) (ec : length r.file.clauses ≡ length s.file.clauses)
    (ev : length r.values ≡ length s.values) where
  same-sizes : SameSizes (tallies_for lim t s) (tallies_for lim t r)
  same-sizes =
      record {
        trues-size = holding-sizes lim s r t Trues vs vr;
        breaks-size = holding-sizes lim s r t Breaks vs vr;
        list-size = holding-sizes lim s r t Uncovered vs vr;
        places-size = holding-sizes lim s r t Places vs vr;
      }

  same-past : Kept (length s.file.clauses) (length s.values) (tallies_for lim t r) (tallies_for lim t s)
  unfolding sizes counts_of
  same-past =
      let a = vs.one_each in
      let b = vr.one_each in
      record {
        trues-kept = λ j l. holding-past lim s r t Trues vs vr j l (omega arith);
        breaks-kept = λ j l. holding-past lim s r t Breaks vs vr j (omega arith) (omega arith);
        list-kept = λ j l. holding-past lim s r t Uncovered vs vr j (omega (arith, listed-few s vs.listed)) (omega (arith, listed-few r vr.listed));
        places-kept = λ j l. holding-past lim s r t Places vs vr j l (omega arith);
      }

-- tallies that hold a state r of the same file, and come from those that are written for s, are those that are written for r
tallies-settled : (lim : Limits) (top : ℕ) → lim.clauses + 1 < top → 2 * lim.terms < top → lim.literals < top → (t : Tables) (s r : State)
    → Valid lim s → r.file ≡ s.file
    → length r.values ≡ length s.values → (x : Fixed) (w : Moving) → Resting top r x w → SameSizes w.tallies (tallies_for lim t s)
    → Kept (length s.file.clauses) (length s.values) (tallies_for lim t s) w.tallies → w.tallies ≡ tallies_for lim t r
tallies-settled lim top fc ft fl t s r vs ef ev x w g z k =
    let vr = held-valid (λ c. 0) top r x w g lim (subst (Proper lim) (sym ef) vs.proper) (ev ∙ vs.one_each ∙ ap (λ (f : File). length f.names) (sym ef)) in
    let ec = ap (λ (f : File). length f.clauses) ef in
    settled (λ c. 0) top r x (fixed_in (holding lim r t)) w (moving_in (length r.uncovered) (holding lim r t)) g
    (laid-resting lim top fc ft fl r (holding lim r t) vr (holding-laid lim r vr.proper.few-clauses t)) (sizes_trans z (same-sizes lim t s r vs vr ec ev))
    (rw (ec, ev) (kept_trans (same-past lim t s r vs vr ec ev) k))

-- so walking tables that come from those of s, once closed, are the tables that are written for the state they hold
pub closed-outcome : (lim : Limits) (top : ℕ) → lim.clauses + 1 < top → 2 * lim.terms < top → lim.literals < top → (t : Tables) (s r : State) → Valid lim s
    → r.file ≡ s.file → length r.values ≡ length s.values → (x : Fixed) (w : Moving) → Walking top r x w → SameSizes w.tallies (tallies_for lim t s)
    → Kept (length s.file.clauses) (length s.values) (tallies_for lim t s) w.tallies → w.words ≡ (holding lim r t).values
    → closed (length s.file.clauses) w ≡ moving_in (length r.uncovered) (holding lim r t)
unfolding closed
closed-outcome lim top fc ft fl t s r vs ef ev x w g z k e =
    let n = length s.file.clauses in
    let rests : Resting top r x (closed n w) =
    subst (λ (m : ℕ). Resting top r x (closed m w)) (ap (λ (f : File). length f.clauses) ef) (closed-resting top r x w _ g) in
    let tallied : (closed n w).tallies ≡ tallies_for lim t r =
    tallies-settled lim top fc ft fl t s r vs ef ev x (closed n w) rests (sizes_trans (closed-sizes n w) z) (kept_trans k (closed-kept n (length s.values) w)) in
    λ i. record { words = e i; tallies = tallied i }
