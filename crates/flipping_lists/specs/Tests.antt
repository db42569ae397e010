-- The tests of a flip list, in their order: "1, 14, 12, 13", then 20; and what is asked of a list that is flipped without them. Assumes nothing.
use Rattle.std.specs.Prelude.{ℕ, ◌≡◌, true, not, cond, List, length, ltb, Result, Ok, Err, ⊤}
use Rattle.written.specs.declared.Reason.{Reason}
use Rattle.written.specs.declared.Counts.{Counts}
use Rattle.written.specs.declared.Reason.TheVariants.{TableTooShort, TablesDisagree, UnknownTerm, ListTooLong, PinnedTerm}
use Rattle.written.specs.Lists.{all}
use Rattle.written.specs.Limits.{Limits}
use Rattle.written.specs.Tables.{Tables, are_full}
use Rattle.written.specs.Agreement.{agree}
use Rattle.written.specs.Marks.{is_free, full_marked, agree_marked}

-- what they come to
unfoldable pub tests_of : Limits → List ℕ → Counts → Tables → List ℕ → Result ⊤ Reason
tests_of lim ts n t ms =
    cond (not (full_marked lim t ms)) (Err TableTooShort)
    (cond (ltb lim.list (length ts)) (Err ListTooLong)
    (cond (not (agree_marked lim n t ms)) (Err TablesDisagree)
    (cond (not (all (λ v. ltb v n.terms) ts)) (Err UnknownTerm)
    (cond (not (all (is_free ms) ts)) (Err PinnedTerm) (Ok tt)))))

-- the last two, which look at the list's terms, of which so many are known
unfoldable pub terms_tested : ℕ → List ℕ → List ℕ → Result ⊤ Reason
terms_tested known ms ts = cond (not (all (λ v. ltb v known) ts)) (Err UnknownTerm) (cond (not (all (is_free ms) ts)) (Err PinnedTerm) (Ok tt))

-- full tables that agree, and a list of known terms
pub record CanFlipList (lim : Limits) (ts : List ℕ) (n : Counts) (t : Tables) : Type 0 where
  pub full : are_full lim t ≡ true
  pub agrees : agree lim n t ≡ true
  pub known : all (λ v. ltb v n.terms) ts ≡ true
