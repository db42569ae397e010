-- What is printed by the tables that a walk leaves is what is written of its outcome. Assumes nothing.
use Prim.Native.Nat.{ℕ, zero, suc, ◌+◌, ◌-◌, ◌*◌, ◌%◌, ◌/◌, ◌≤◌}
use mathlib.Core.Path.{◌≡◌, refl, ap, ap₂, ◌∙◌}
use mathlib.Core.Bool.{true}
use mathlib.Core.List.{List, ◌++◌}
use native.Mathlib.Omega.{arith}
use lib.ListN.{length, drop, get_or-append}
use Rattle.words.specs.Words.{bit_of, bit_at, trues, word_count}
use Rattle.written.specs.Limits.{Limits}
use Rattle.written.specs.Clauses.{State}
use Rattle.written.specs.Tables.{Tables, sizes, full_sizes, are_full, in_use, counts_of, words_of, tables_of, holding}
use Rattle.written.specs.Agreement.{file_in, state_in}
use Rattle.written.specs.Walk.{Outcome}
use Rattle.written.specs.Outcomes.{walk_leaves}
use Rattle.written.specs.Printed.{answer, chosen, report}
use Rattle.laws.specs.Valid.{Valid}
use Rattle.laws.proofs.Basics.{by_cases}
use Rattle.laws.proofs.Each.{Values, Names}
use Rattle.laws.proofs.Holding.{full_at, tables-at, holding-at, tables-length, holding-full}
use Rattle.laws.proofs.Back.{holding-back}
use Rattle.laws.proofs.Values.{trues-stored}
use Rattle.running_report.specs.Reporting.{answer_in, found_lines, gave_up_lines, report_in, names_in}

-- the true terms among the first words, whatever follows these
trues-front : (ws rest : List ℕ) (n : ℕ) → n ≤ 32 * length ws → trues (ws ++ rest) n ≡ trues ws n
unfolding trues bit_at
trues-front ws rest zero h = refl
trues-front ws rest (suc n) h =
    ap₂ {C = ℕ} (λ a b. a + b) (trues-front ws rest n (omega arith))
    (ap (λ (w : ℕ). bit_of w (n % 32)) (get_or-append ws rest 0 (n / 32) (omega arith)))

-- ---- a valid state written into lent tables

module _ (lim : Limits) (s : State) (t : Tables) (v : Valid lim s) where
  -- the ones of the stored words up to the limit are the true terms
  chosen-left : trues (holding lim s t).values lim.terms ≡ chosen s
  unfolding full_sizes sizes in_use word_count chosen
  chosen-left =
      let stored : List ℕ = (tables_of lim s).values in
      let terms = v.proper.few-terms in
      let each = v.one_each in
      let size = tables-length lim s Values v in
      ap (λ (ws : List ℕ). trues ws lim.terms) (holding-at lim s t Values)
      ∙ trues-front stored (drop (length stored) t.values) lim.terms (omega arith)
      ∙ ap (λ (ws : List ℕ). trues ws lim.terms) (tables-at lim s Values)
      ∙ trues-stored s.values (word_count lim.terms - length (words_of s.values)) lim.terms v.bits (omega arith)

  answer-left : answer_in (counts_of s).terms (holding lim s t).names (holding lim s t).values ≡ answer s.file.names s.values
  unfolding answer_in state_in file_in
  answer-left = ap (λ (r : State). answer r.file.names r.values) (holding-back lim s t v)

  -- each term has a name
  names-left : are_full lim t ≡ true → (counts_of s).terms ≤ length (holding lim s t).names
  unfolding full_sizes sizes counts_of
  names-left f = omega (arith, v.proper.few-terms, full_at lim (holding lim s t) Names (holding-full lim s t v f))

-- ---- what a walk leaves

module _ (lim : Limits) (e : Outcome) (t : Tables) (ms : List ℕ) (v : Valid lim e.last.state) (f : are_full lim t ≡ true) where
  pub reported : report_in lim (walk_leaves lim t ms e).answer (walk_leaves lim t ms e).tables.names (walk_leaves lim t ms e).tables.values ≡ report e
  unfolding walk_leaves report_in found_lines gave_up_lines report
  reported =
      by_cases e.found
      (λ q. rw (q, chosen-left lim e.last.state t v, answer-left lim e.last.state t v))
      (λ q. rw q)

  pub report-named : names_in (walk_leaves lim t ms e).answer ≤ length (walk_leaves lim t ms e).tables.names
  unfolding walk_leaves
  report-named = by_cases e.found (λ q. rw q (names-left lim e.last.state t v f)) (λ q. rw q (omega arith))
