-- Occurrence tables that are right cut the occurrences into runs, each the clauses in which a literal stands; tables that do so are right. Assumes nothing.
use mathlib.Core.Path.{◌≡◌, ap, sym, ◌∙◌}
use mathlib.Core.Bool.{true}
use mathlib.Core.List.{List, [], ◌++◌, flatten}
use Prim.Native.Nat.{ℕ, ◌+◌, ◌*◌, ◌≤◌, ◌<◌}
use native.Mathlib.Omega.{arith}
use lib.ListN.{length, get_or, take, drop, take-append-drop}
use lib.Seq.{length-take-le}
use Rattle.written.specs.Lists.{total, list_of, same}
use Rattle.written.specs.Clauses.{occurrences_of}
use Rattle.written.specs.Tables.{starts_from}
use Rattle.written.specs.Agreement.{part_of}
use Rattle.laws.proofs.Basics.{both, both_first, both-second, same-eq}
use Rattle.laws.proofs.All.{same_refl}
use Rattle.laws.proofs.Lists.{list_from-length, get_or-list_of, list_of-is}
use Rattle.laws.proofs.Parts.{flatten-length, starts-length, starts_first, starts-step, starts-last, parts-starts, parts-entries}
use Rattle.machine.specs.Moving.{CanPart}
use Rattle.machine.specs.Judging.{turned_right}
use Rattle.machine.specs.Cuts.{Cuts}
use Rattle.machine.specs.Lent.{Begins}
use Rattle.machine.proofs.Begins.{begins-at, part-can, part-is}

-- a list begins with what was taken of it
taken-begins : (k : ℕ) (xs ys : List ℕ) → take k xs ≡ ys → Begins ys xs
taken-begins k xs ys e = record { rest = drop k xs; is = sym (take-append-drop k xs) ∙ ap (λ zs. zs ++ drop k xs) e }

module _ (T L : ℕ) (cs : List (List ℕ)) (os oc : List ℕ) where
  abbrev runs : List (List ℕ)
  runs = list_of (2 * T) (occurrences_of cs)

  size : length runs ≡ 2 * T
  size = list_from-length 0 (2 * T) (occurrences_of cs)

  module _ (room : 2 * T < length os) (fits : L ≤ length oc) (h : turned_right T L cs os oc ≡ true) where
    starts_are : take (2 * T + 1) os ≡ starts_from 0 runs
    unfolding turned_right
    starts_are = same-eq _ _ (both_first (same (take (2 * T + 1) os) (starts_from 0 runs)) (same (take L oc) (flatten runs)) h)

    entries_are : take L oc ≡ flatten runs
    unfolding turned_right
    entries_are = same-eq _ _ (both-second (same (take (2 * T + 1) os) (starts_from 0 runs)) (same (take L oc) (flatten runs)) h)

    starts-begin : Begins (starts_from 0 runs) os
    starts-begin = taken-begins (2 * T + 1) os (starts_from 0 runs) starts_are

    entries-begin : Begins (flatten runs) oc
    entries-begin = taken-begins L oc (flatten runs) entries_are

    start-at : (k : ℕ) → k ≤ 2 * T → get_or os k 0 ≡ get_or (starts_from 0 runs) k 0
    start-at k l = begins-at starts-begin k (omega (arith, starts-length 0 runs, size))

    pub turned-cuts : Cuts (2 * T) L os
    turned-cuts =
        record {
          first = start-at 0 (omega arith) ∙ starts_first 0 runs;
          rise = λ k l. omega (arith, start-at k (omega arith), start-at (k + 1) (omega arith), starts-step 0 runs k (omega (arith, size)));
          last =
              start-at (2 * T) (omega arith) ∙ ap (λ k. get_or (starts_from 0 runs) k 0) (sym size) ∙ starts-last 0 runs
              ∙ (let all : 0 + total length runs ≡ L = omega (arith, flatten-length runs, ap length entries_are, length-take-le L oc fits) in all);
          size = room;
        }

    pub turned-can : (l : ℕ) → l < 2 * T → CanPart os oc l
    turned-can l b = part-can runs starts-begin entries-begin l (omega (arith, size))

    pub turned-part : (l : ℕ) → l < 2 * T → part_of os oc l ≡ occurrences_of cs l
    turned-part l b = part-is runs starts-begin entries-begin l (omega (arith, size)) ∙ get_or-list_of (2 * T) l (occurrences_of cs) [] b

  -- and back
  pub parts-turned : L ≤ length oc → Cuts (2 * T) L os → ((l : ℕ) → l < 2 * T → part_of os oc l ≡ occurrences_of cs l) → turned_right T L cs os oc ≡ true
  unfolding turned_right
  parts-turned fits c h =
      let parts = list_of (2 * T) (part_of os oc) in
      let are : parts ≡ runs = list_of-is (2 * T) (part_of os oc) runs [] size (λ l b. h l b ∙ sym (get_or-list_of (2 * T) l (occurrences_of cs) [] b)) in
      let starts = parts-starts os oc (2 * T) c.rise c.size (omega (arith, c.last)) c.first in
      let entries = parts-entries os oc (2 * T) c.rise c.size (omega (arith, c.last)) c.first in
      let one : take (2 * T + 1) os ≡ starts_from 0 runs = sym starts ∙ ap (starts_from 0) are in
      let two : take L oc ≡ flatten runs = ap (λ k. take k oc) (sym c.last) ∙ sym entries ∙ ap flatten are in
      both _ _ (ap (λ xs. same xs (starts_from 0 runs)) one ∙ same_refl (starts_from 0 runs)) (ap (λ xs. same xs (flatten runs)) two ∙ same_refl (flatten runs))
