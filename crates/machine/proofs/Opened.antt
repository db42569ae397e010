-- Written tables opened are walking tables of the same state, and closed again they are written tables. Assumes nothing.
use mathlib.Core.Path.{◌≡◌, refl, ◌∙◌, sym}
use mathlib.Core.List.{List, []}
use Prim.Native.Nat.{ℕ, ◌*◌, ◌/◌, ◌<◌}
use native.Mathlib.Omega.{arith}
use lib.ListN.{length, get_or}
use lib.Dec.{ltb}
use borrow.Author.Tests.{eq-eqb, ne_eqb, ltb-true}
use Rattle.written.specs.Lists.{total}
use Rattle.written.specs.Clauses.{State, term_of, value_of, true_count}
use Rattle.laws.proofs.Sums.{total-by}
use Rattle.laws.proofs.All.{all_get_d}
use Rattle.machine.specs.Literals.{value_in, xor_true, Readable}
use Rattle.machine.specs.Moving.{Fixed, Moving, view, CanRead, count_at, xor_at}
use Rattle.machine.specs.Passes.{with_places, rewritten, walk_place, rest_place, CanClose, CanOpen, opened, closed}
use Rattle.machine.specs.Holds.{HoldsClauses, HoldsValues, HoldsAt, Resting, Walking, Kept}
use Rattle.machine.proofs.Clause.{xor_by}
use Rattle.machine.proofs.Placed.{placed_same}
use Rattle.machine.proofs.Flipped.{lits}
use Rattle.machine.proofs.Rewritten.{length-rewritten, rewritten-past, rewritten-at}

-- ---- a clause read from the tables is the clause that is written

module _ (top : ℕ) (cs : List (List ℕ)) (vs ws : List ℕ) (x : Fixed) (hd : HoldsClauses top (length vs) cs x) (v : HoldsValues vs ws) (c : ℕ) (lc : c < length cs) where
  lit-same : (l : ℕ) → l < 2 * length vs → value_in ws l ≡ value_of vs l
  unfolding value_in value_of term_of
  lit-same l h = rw (v.values (l / 2) (omega arith))

  low-at : (k : ℕ) → k < length (get_or cs c []) → get_or (get_or cs c []) k 0 < 2 * length vs
  low-at k l = ltb-true _ _ (all_get_d (λ l. ltb l (2 * length vs)) (get_or cs c []) k 0 l (lits top (length vs) cs x hd c lc))

  pub count_at_lem : count_at (view ws x.starts x.literals) c ≡ total (value_of vs) (get_or cs c [])
  unfolding count_at
  count_at_lem = rw (hd.clause c lc) (total-by (value_in ws) (value_of vs) (get_or cs c []) 0 (λ k l. lit-same _ (low-at k l)))

  pub xor_at_lem : xor_at (view ws x.starts x.literals) c ≡ xor_true (value_of vs) (get_or cs c [])
  unfolding xor_at
  xor_at_lem = rw (hd.clause c lc) (xor_by (value_in ws) (value_of vs) (get_or cs c []) (λ k l. lit-same _ (low-at k l)))

  pub can-read : CanRead (view ws x.starts x.literals) c
  unfolding Readable
  can-read =
      record {
        part = hd.clause-part c lc;
        words = rw (hd.clause c lc) (λ k l. omega (arith, low-at k l, v.room));
      }

-- ---- the two passes

module _ (top : ℕ) (s : State) (x : Fixed) (w : Moving) (ρ : ℕ → ℕ) (g : HoldsAt ρ top s x w) where
  abbrev n : ℕ
  n = length s.file.clauses

  abbrev κ : ℕ → ℕ
  κ c = true_count s.values (get_or s.file.clauses c [])

  abbrev ps : List ℕ
  ps = w.tallies.uncovered.places

  -- other places for the covered
  replaced : (ρ' : ℕ → ℕ) (h : ℕ → ℕ → ℕ) → ((c p : ℕ) → c < n → κ c ≡ 0 → h c p ≡ p) → ((c p : ℕ) → c < n → (κ c ≡ 0 → ⊥) → h c p ≡ ρ' c)
      → HoldsAt ρ' top s x (with_places (rewritten h n ps) w)
  replaced ρ' h same new =
      let room = g.places.places-room in
      record {
        holds = g.holds;
        words = g.words;
        trues-room = g.trues-room;
        trues = g.trues;
        breaks-room = g.breaks-room;
        breaks = g.breaks;
        number = g.number;
        places =
            placed_same n κ κ ρ ρ' w.tallies.uncovered (rewritten h n ps) g.places (λ d l z. z) (λ d l z. z) (rw (length-rewritten h n ps) room)
            (λ d l z. rewritten-at h n ps d l room ∙ same d (get_or ps d 0) l z)
            (λ d l z. rewritten-at h n ps d l room ∙ new d (get_or ps d 0) l z);
        list = g.list;
      }

  pub opened-walking : Walking top s x (opened n x w)
  unfolding opened walk_place
  opened-walking =
      replaced (λ c. xor_true (value_of s.values) (get_or s.file.clauses c [])) (walk_place (view w.words x.starts x.literals) w.tallies.trues)
      (λ c p l z. rw (eq-eqb _ 0 (g.trues c l ∙ z)))
      (λ c p l z. rw (ne_eqb _ 0 (λ q. z (sym (g.trues c l) ∙ q))) (xor_at_lem top s.file.clauses s.values w.words x g.holds g.words c l))

  pub closed-resting : Resting top s x (closed n w)
  unfolding closed rest_place
  closed-resting =
      replaced (λ c. 0) (rest_place w.tallies.trues)
      (λ c p l z. rw (eq-eqb _ 0 (g.trues c l ∙ z)))
      (λ c p l z. rw (ne_eqb _ 0 (λ q. z (sym (g.trues c l) ∙ q))))

  pub close_can : CanClose n w.tallies.trues ps
  close_can = record { counts = g.trues-room; places = g.places.places-room }

  pub open_can : CanOpen n (view w.words x.starts x.literals) w.tallies.trues ps
  open_can = record { rest = close_can; read = λ c l. can-read top s.file.clauses s.values w.words x g.holds g.words c l }

-- what is past the entries in use stays
pub opened-kept : (n T : ℕ) (x : Fixed) (w : Moving) → Kept n T w.tallies (opened n x w).tallies
unfolding opened
opened-kept n T x w =
    record { trues-kept = λ j l. refl; breaks-kept = λ j l. refl; list-kept = λ j l. refl; places-kept = λ j l. rewritten-past _ n w.tallies.uncovered.places j l }

pub closed-kept : (n T : ℕ) (w : Moving) → Kept n T w.tallies (closed n w).tallies
unfolding closed
closed-kept n T w =
    record { trues-kept = λ j l. refl; breaks-kept = λ j l. refl; list-kept = λ j l. refl; places-kept = λ j l. rewritten-past _ n w.tallies.uncovered.places j l }
