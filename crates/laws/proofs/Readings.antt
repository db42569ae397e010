-- What an accepted reading gives: a proper file, and a valid state at values of 0, which are words of 0. Assumes nothing.
use Prim.Native.Nat.{ℕ, zero, suc, ◌+◌, ◌-◌, ◌*◌, ◌≤◌}
use mathlib.Core.Path.{◌≡◌, refl, ap, sym, subst, ◌∙◌}
use mathlib.Core.List.{List}
use native.Mathlib.Omega.{arith}
use lib.ListN.{length, take, length-replicate, get_or-replicate, replicate-append-replicate}
use lib.Seq.{ext_get_or}
use lib.Dec.{ltb}
use Rattle.scan.specs.Scan.{scan, start, open_end}
use Rattle.words.specs.Words.{word_count}
use Rattle.written.specs.Lists.{zeros, padded}
use Rattle.written.specs.Limits.{Limits}
use Rattle.written.specs.Clauses.{File, as_read, afresh}
use Rattle.written.specs.Reading.{accepted, read_text, nothing}
use Rattle.written.specs.Tables.{sizes, full_sizes, word_of, words_of, in_use, counts_of}
use Rattle.laws.specs.Valid.{Proper, Valid}
use Rattle.laws.proofs.Basics.{by_test}
use Rattle.laws.proofs.All.{all-zeros}
use Rattle.laws.proofs.Padding.{drop-zeros}
use Rattle.laws.proofs.Values.{word_at, words-length}
use Rattle.laws.proofs.Each.Table.{Values}
use Rattle.laws.proofs.Sizes.{valid-fit, sizes-fit}
use Rattle.laws.proofs.Tokens.{scan_well}
use Rattle.laws.proofs.Turns.{read_by}
use Rattle.laws.proofs.Drafts.{Fits, Sound, nothing-fits, token-fits, end-sound}

pub reading-sound : (lim : Limits) (t : List ℕ) → Sound lim (read_text lim t)
unfolding read_text
reading-sound lim t =
    by_test (Sound lim) (ltb lim.text (length t)) (λ _. tt) (λ _.
    by_test (Sound lim) (open_end t) (λ _. tt) (λ _.
    read_by (λ c d. Fits lim d) (Sound lim) lim t
    (λ c d fits. end-sound lim d fits d.clauses refl)
    (λ c d fits. token-fits lim t (scan t c).next d fits (scan t c).token (scan_well t c))
    (suc (length t)) start nothing (nothing-fits lim)))

-- the file of an accepted reading is proper
pub reading-proper : (lim : Limits) (t : List ℕ) (f : File) → read_text lim t ≡ accepted f → Proper lim f
reading-proper lim t f e = subst (Sound lim) e (reading-sound lim t)

-- a proper file at values of 0 is a valid state
pub as_read-valid : (lim : Limits) (f : File) → Proper lim f → Valid lim (as_read f)
unfolding as_read afresh
as_read-valid lim f h =
    record {
      proper = h;
      one_each = length-replicate (length f.names) 0;
      bits = all-zeros (λ v. ltb v 2) refl (length f.names);
      listed = record { same-times = λ c. refl };
    }

-- an accepted reading's state is valid
pub reading-valid : (lim : Limits) (t : List ℕ) (f : File) → read_text lim t ≡ accepted f → Valid lim (as_read f)
reading-valid lim t f e = as_read-valid lim f (reading-proper lim t f e)

-- ---- values of 0

word-zeros : (j m : ℕ) → word_of (take j (zeros m)) ≡ 0
unfolding word_of
word-zeros zero m = refl
word-zeros (suc j) zero = refl
word-zeros (suc j) (suc m) = omega (arith, word-zeros j m)

words-zeros : (n : ℕ) → words_of (zeros n) ≡ zeros (word_count n)
words-zeros n =
    let e = words-length (zeros n) ∙ ap word_count (length-replicate n 0) in
    ext_get_or 0 (words_of (zeros n)) (zeros (word_count n)) (e ∙ sym (length-replicate (word_count n) 0))
    (λ k l.
    word_at (zeros n) k ∙ ap (λ (zs : List ℕ). word_of (take 32 zs)) (drop-zeros (32 * k) n) ∙ word-zeros 32 (n - 32 * k)
    ∙ sym (get_or-replicate (word_count n) k 0 0 (omega arith)))

padded-zeros : (m n : ℕ) → m ≤ n → padded n (zeros m) ≡ zeros n
padded-zeros m n h =
    let e : m + (n - length (zeros m)) ≡ n = omega (arith, length-replicate {A = ℕ} m 0) in
    replicate-append-replicate m (n - length (zeros m)) 0 ∙ ap zeros e

-- the words of a file as it is read, up to the full size
pub file-words : (lim : Limits) (f : File) → Valid lim (as_read f) → padded (full_sizes lim).values (in_use (as_read f)).values ≡ zeros (full_sizes lim).values
unfolding in_use as_read afresh sizes counts_of
file-words lim f v =
    let n = length f.names in
    ap (padded (full_sizes lim).values) (words-zeros n) ∙ padded-zeros (word_count n) (full_sizes lim).values (sizes-fit lim (counts_of (as_read f)) (valid-fit lim (as_read f) v) Values)
