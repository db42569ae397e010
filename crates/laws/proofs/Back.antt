-- The state that lent tables hold is the one that was written. Assumes nothing.
use Prim.Native.Nat.{ℕ}
use mathlib.Core.Path.{◌≡◌, ap, ap₂, sym, ◌∙◌}
use mathlib.Core.List.{List, ◌++◌}
use lib.ListN.{length, take, drop, take-append-drop}
use lib.Seq.{take-append_seam}
use Rattle.words.specs.Words.{bit_at}
use Rattle.written.specs.Lists.{list_of}
use Rattle.written.specs.Limits.{Limits}
use Rattle.written.specs.Clauses.{State}
use Rattle.written.specs.Tables.{Lent, Tables, each, sizes, counts_of, in_use, tables_of, words_of, holding}
use Rattle.written.specs.Agreement.{file_in, state_in}
use Rattle.laws.specs.Valid.{Valid}
use Rattle.laws.proofs.Each.{at, by-each, each_at}
use Rattle.laws.proofs.Holding.{tables-used, holding-used}
use Rattle.laws.proofs.Parts.{parts-back}
use Rattle.laws.proofs.Values.{values-back}

-- tables are what is taken and what is left
split : (t : Tables) (n : Lent ℕ) → each ◌++◌ (each take n t) (each drop n t) ≡ t
split t n =
    by-each _ t
    (λ k. each_at ◌++◌ k (each take n t) (each drop n t) ∙ ap₂ {C = List ℕ} (λ a r. a ++ r) (each_at take k n t) (each_at drop k n t)
    ∙ take-append-drop (at k n) (at k t))

followed_back : (lim : Limits) (s : State) (rest : Tables) → Valid lim s → state_in (counts_of s) (each ◌++◌ (in_use s) rest) ≡ s
unfolding state_in file_in counts_of each in_use
followed_back lim s rest v =
    λ i. record {
      file = record { names = take-append_seam s.file.names rest.names i; clauses = parts-back s.file.clauses rest.starts rest.literals i };
      values = values i;
      uncovered = take-append_seam s.uncovered rest.uncovered i;
    }
  where
    values : list_of (length s.file.names) (bit_at (words_of s.values ++ rest.values)) ≡ s.values
    values = ap (λ n. list_of n (bit_at (words_of s.values ++ rest.values))) (sym v.one_each) ∙ values-back s.values rest.values v.bits

-- tables that begin with the entries in use hold the state, whatever follows
pub state-back : (lim : Limits) (s : State) (t : Tables) → Valid lim s → each take (sizes (counts_of s)) t ≡ in_use s → state_in (counts_of s) t ≡ s
state-back lim s t v e =
    ap (state_in (counts_of s)) (sym (split t (sizes (counts_of s))) ∙ ap (λ u. each ◌++◌ u (each drop (sizes (counts_of s)) t)) e)
    ∙ followed_back lim s (each drop (sizes (counts_of s)) t) v

pub tables-back : (lim : Limits) (s : State) → Valid lim s → state_in (counts_of s) (tables_of lim s) ≡ s
tables-back lim s v = state-back lim s (tables_of lim s) v (tables-used lim s v)

pub holding-back : (lim : Limits) (s : State) (t : Tables) → Valid lim s → state_in (counts_of s) (holding lim s t) ≡ s
holding-back lim s t v = state-back lim s (holding lim s t) v (holding-used lim s t v)
