-- The excess is never read: on tables that are the same up to their full sizes each call answers the same and leaves the same up to them.
-- Such tables are judged alike, whether or not they are full or agree. Assumes nothing.
use Prim.Native.Nat.{ℕ, zero, suc, ◌+◌, ◌-◌, ◌/◌, ◌%◌, ◌≤◌, ◌<◌}
use mathlib.Core.Path.{◌≡◌, refl, ap, ap₂, sym, subst₂, ◌∙◌}
use mathlib.Core.Bool.{Bool, true, false, not, cond, ◌&&◌, ◌||◌}
use mathlib.Core.List.{List, [], ◌∷◌}
use native.Mathlib.Omega.{arith}
use lib.ListN.{length, get_or, set, take, drop, length-take}
use lib.Seq.{length-take-le, take-take, get_or-take}
use lib.Dec.{eqb, ltb}
use borrow.Author.Tests.{not-false, lt-ltb, ltb-true, le-leb, leb-true}
use Rattle.std.specs.Prelude.{Result}
use Rattle.words.specs.Words.{bit_of, bit_at, word_count}
use Rattle.written.specs.declared.Refusal.{Refusal}
use Rattle.written.specs.declared.Counts.{Counts}
use Rattle.written.specs.declared.Order.{Order}
use Rattle.written.specs.Lists.{all, list_of}
use Rattle.written.specs.Limits.{Limits}
use Rattle.written.specs.Clauses.{State, as_read}
use Rattle.written.specs.Reading.{Reading, accepted, refused, read_text}
use Rattle.written.specs.Orders.{in_range}
use Rattle.written.specs.Flips.{flipped}
use Rattle.written.specs.Walk.{walk_over}
use Rattle.written.specs.Tables.{Tables, each, every, sizes, full_sizes, are_full, counts_of, holding, cleared}
use Rattle.written.specs.Agreement.{part_of, file_in, state_in, agree}
use Rattle.written.specs.Marks.{is_free, marks_full, full_marked, unmarked, marks_hold, marks_rest, agree_marked}
use Rattle.written.specs.Outcomes.{Leaves, unchanged, read_leaves, read_into, reading_of, walk_leaves, walk_of, flips_leave, flips_of, term_tested, value_asked, flips_for, pin_of, lift_of}
use Rattle.written.specs.Program.{Ran, course_of, report_size, tables_after, marks_after, ran_as, run_as, run_of}
use Rattle.laws.specs.Valid.{Valid}
use Rattle.laws.specs.Excess.{SameInFull, SameMarks, SameCall, with_tables, cut}
use Rattle.laws.specs.PinCalls.{state_pinned}
use Rattle.laws.proofs.Basics.{by_test, both_first, both-second, same_tests}
use Rattle.laws.proofs.Lists.{list_from-length, list_of-is, get_or-list_of, drop-take}
use Rattle.laws.proofs.Parts.{up-to-last}
use Rattle.laws.proofs.Kept.{flipped-valid}
use Rattle.laws.proofs.Each.{Table, at, by-each, each_at}
use Rattle.laws.proofs.Each.Table.{Names, Values, Starts, Literals, Uncovered}
use Rattle.laws.proofs.Sizes.{Fit, sizes-fit}
use Rattle.laws.proofs.Marks.{holds_by, unmarked-take, full-tables, full-marks, full-both, agree-tables, agree-hold, agree-rest, agree-all}
use Rattle.laws.proofs.Holding.{full_at, full-all, holding-take, cleared-take}
use Rattle.laws.proofs.Points.{Points, agree-points, points-agree}
use Rattle.laws.proofs.Agreeing.{agree-valid, agree-counts}
use Rattle.laws.proofs.Drafts.{Sound}
use Rattle.laws.proofs.Readings.{reading-sound, reading-proper, as_read-valid}
use Rattle.laws.proofs.Valids.{end-valid}
use Rattle.laws.proofs.Pins.{walk-by}
use Rattle.laws.proofs.Courses.{by-course}

-- ---- lists that are the same up to n entries

module _ (n : ℕ) (xs ys : List ℕ) (e : take n xs ≡ take n ys) where
  first-same : (m : ℕ) → m ≤ n → take m xs ≡ take m ys
  first-same m l = sym (take-take m n xs l) ∙ ap (take m) e ∙ take-take m n ys l

  entry-same : (k : ℕ) → k < n → get_or xs k 0 ≡ get_or ys k 0
  entry-same k l = sym (get_or-take n xs k 0 l) ∙ ap (λ (zs : List ℕ). get_or zs k 0) e ∙ get_or-take n ys k 0 l

  part_same : (a b : ℕ) → b ≤ n → take (b - a) (drop a xs) ≡ take (b - a) (drop a ys)
  part_same a b l = sym (drop-take a b xs) ∙ ap (drop a) (first-same b l) ∙ drop-take a b ys

  long_same : n ≤ length xs → n ≤ length ys
  long_same h = omega (arith, length-take-le n xs h, ap length e, length-take n ys)

-- two lists made of the same entries
made-same : {A : Type 0} (n : ℕ) (f g : ℕ → A) (d : A) → ((k : ℕ) → k < n → f k ≡ g k) → list_of n f ≡ list_of n g
made-same n f g d h = list_of-is n f (list_of n g) d (list_from-length 0 n g) (λ k l. h k l ∙ sym (get_or-list_of n k g d l))

-- ---- one way: what holds of tables holds of those that differ from them in the excess alone

module _ (lim : Limits) (t u : Tables) (same : SameInFull lim t u) where
  table_same : (k : Table) → take (at k (full_sizes lim)) (at k t) ≡ take (at k (full_sizes lim)) (at k u)
  table_same k = sym (each_at take k (full_sizes lim) t) ∙ ap (at k) same ∙ each_at take k (full_sizes lim) u

  full_too : are_full lim t ≡ true → are_full lim u ≡ true
  full_too h = full-all lim u (λ k. long_same (at k (full_sizes lim)) (at k t) (at k u) (table_same k) (full_at lim t k h))

  module _ (n : Counts) (fit : Fit lim n) where
    -- the entries in use
    used-at : (k : Table) → take (at k (sizes n)) (at k t) ≡ take (at k (sizes n)) (at k u)
    used-at k = first-same (at k (full_sizes lim)) (at k t) (at k u) (table_same k) (at k (sizes n)) (sizes-fit lim n fit k)

    used-same : each take (sizes n) t ≡ each take (sizes n) u
    used-same = by-each _ _ (λ k. each_at take k (sizes n) t ∙ used-at k ∙ sym (each_at take k (sizes n) u))

    start-same : (k : ℕ) → k ≤ n.clauses → get_or t.starts k 0 ≡ get_or u.starts k 0
    unfolding sizes full_sizes
    start-same k l = entry-same (lim.clauses + 1) t.starts u.starts (table_same Starts) k (omega (arith, fit.clauses))

    value_same : (k : ℕ) → k < n.terms → bit_at t.values k ≡ bit_at u.values k
    unfolding bit_at word_count sizes full_sizes
    value_same k l =
        ap (λ (w : ℕ). bit_of w (k % 32))
        (entry-same ((lim.terms + 31) / 32) t.values u.values (table_same Values) (k / 32) (omega (arith, fit.terms)))

  -- starts that rise to the literal count lie within the literals that are in use
  module _ (n : Counts) (p : Points lim n t (state_in n t) (each take (sizes n) t)) where
    clause-same : (k : ℕ) → k < n.clauses → part_of t.starts t.literals k ≡ part_of u.starts u.literals k
    unfolding part_of sizes full_sizes
    clause-same k l =
        let most = up-to-last t.starts n.clauses (λ k l. omega (arith, p.rise k l)) (k + 1) (n.clauses - (k + 1)) (omega arith) in
        let within : get_or t.starts (k + 1) 0 ≤ lim.literals = omega (arith, p.fit.literals, p.last) in
        part_same lim.literals t.literals u.literals (table_same Literals) (get_or t.starts k 0) (get_or t.starts (k + 1) 0) within
        ∙ ap₂ {C = List ℕ} (λ a b. take (b - a) (drop a u.literals)) (start-same n p.fit k (omega arith)) (start-same n p.fit (k + 1) (omega arith))

    file-same : file_in n t ≡ file_in n u
    unfolding file_in sizes
    file-same = λ i. record { names = used-at n p.fit Names i; clauses = made-same n.clauses _ _ [] clause-same i }

    state-same : state_in n t ≡ state_in n u
    unfolding state_in sizes
    state-same =
        λ i. record { file = file-same i; values = made-same n.terms _ _ 0 (value_same n p.fit) i; uncovered = used-at n p.fit Uncovered i }

    points_too : Points lim n u (state_in n t) (each take (sizes n) t)
    points_too =
        record {
          fit = p.fit;
          some = p.some;
          names-valid = p.names-valid;
          names-differ = p.names-differ;
          first = sym (start-same n p.fit 0 (omega arith)) ∙ p.first;
          rise = λ k l. omega (arith, p.rise k l, start-same n p.fit k (omega arith), start-same n p.fit (k + 1) (omega arith));
          last = sym (start-same n p.fit n.clauses (omega arith)) ∙ p.last;
          clauses-valid = p.clauses-valid;
          occurrence_starts = p.occurrence_starts;
          occurrences = p.occurrences;
          trues = p.trues;
          breaks = p.breaks;
          uncovered = p.uncovered;
          once = p.once;
          place = p.place;
          zero_rest = ap (λ (v : Tables). every (all (λ x. eqb x 0)) (each drop (sizes n) v)) (sym same) ∙ p.zero_rest;
          words = p.words;
          no_place = p.no_place;
        }

  agree_too : (n : Counts) → agree lim n t ≡ true → agree lim n u ≡ true
  agree_too n h =
      let p = agree-points lim n t h in
      points-agree lim n u (subst₂ (λ s w. Points lim n u s w) (state-same n p) (used-same n p.fit) (points_too n p))

-- an entry changed, and then cut
take-set : (n k m : ℕ) (xs : List ℕ) → take n (set xs k m) ≡ set (take n xs) k m
take-set zero k m xs = refl
take-set (suc n) k m [] = refl
take-set (suc n) zero m (x ∷ xs) = refl
take-set (suc n) (suc k) m (x ∷ xs) = ap (λ (ys : List ℕ). x ∷ ys) (take-set n k m xs)

-- ---- two calls, test by test

-- a test that comes out alike on both sides, and what follows it
by-same : {L : Type 0} (R : L → L → Type 0) (b c : Bool) {x y v w : L} → b ≡ c → R x y → (b ≡ false → R v w) → R (cond b x v) (cond c y w)
by-same R true c e r s = rw (sym e) r
by-same R false c e r s = rw (sym e) (s refl)

-- two runs that leave the same but for the tables and the marks, and there the same up to the full sizes
record Alike (lim : Limits) (r q : Ran) : Type 0 where
  others : with_tables r q.tables q.marks ≡ q
  tables : SameInFull lim r.tables q.tables
  marks : SameMarks lim r.marks q.marks

alike-cut : (lim : Limits) (r q : Ran) → Alike lim r q → cut lim r ≡ cut lim q
alike-cut lim r q h = ap₂ (with_tables r) h.tables h.marks ∙ ap (cut lim) h.others

module _ (lim : Limits) (t u : Tables) (same : SameInFull lim t u) where
  held : (s : State) → Valid lim s → SameInFull lim (holding lim s t) (holding lim s u)
  held s v = holding-take lim s t v ∙ sym (holding-take lim s u v)

  emptied : SameInFull lim (cleared lim t) (cleared lim u)
  unfolding each
  emptied = cleared-take lim t ∙ sym (cleared-take lim u)

  -- whether the tables are full
  pub full-same : are_full lim t ≡ are_full lim u
  full-same = same_tests _ _ (full_too lim t u same) (full_too lim u t (sym same))

  -- whether they agree with the counts
  pub agree_same : (n : Counts) → agree lim n t ≡ agree lim n u
  agree_same n = same_tests _ _ (agree_too lim t u same n) (agree_too lim u t (sym same) n)

-- the same of marks
module _ (lim : Limits) (ms ns : List ℕ) (same : SameMarks lim ms ns) where
  marks_too : marks_full lim ms ≡ true → marks_full lim ns ≡ true
  unfolding marks_full
  marks_too h = le-leb lim.terms (length ns) (long_same lim.terms ms ns same (leb-true lim.terms (length ms) h))

  pub mark-same : (k : ℕ) → k < lim.terms → get_or ms k 0 ≡ get_or ns k 0
  mark-same k l = entry-same lim.terms ms ns same k l

  rest-same : (n : Counts) → marks_rest lim n ms ≡ marks_rest lim n ns
  unfolding marks_rest
  rest-same n = ap (λ (xs : List ℕ). all (λ m. eqb m 0) (drop n.terms xs)) same

  free-same : (n : ℕ) (ts : List ℕ) → n ≤ lim.terms → all (λ v. ltb v n) ts ≡ true → all (is_free ms) ts ≡ all (is_free ns) ts
  unfolding is_free
  free-same n [] few known = refl
  free-same n (t ∷ ts) few known =
      let one = ltb-true t n (both_first (ltb t n) (all (λ v. ltb v n) ts) known) in
      ap₂ {C = Bool} (λ a b. a && b) (ap (λ m. eqb m 0) (mark-same t (omega arith))) (free-same n ts few (both-second (ltb t n) (all (λ v. ltb v n) ts) known))

  cleared-same : SameMarks lim (unmarked lim ms) (unmarked lim ns)
  cleared-same = unmarked-take lim ms ∙ sym (unmarked-take lim ns)

-- tables and marks together, the one way
module _ (lim : Limits) (t u : Tables) (ms ns : List ℕ) (same : SameInFull lim t u) (marks : SameMarks lim ms ns) where
  both_too : full_marked lim t ms ≡ true → full_marked lim u ns ≡ true
  both_too h = full-both lim u ns (full_too lim t u same (full-tables lim t ms h)) (marks_too lim ms ns marks (full-marks lim t ms h))

  all_too : (n : Counts) → agree_marked lim n t ms ≡ true → agree_marked lim n u ns ≡ true
  unfolding state_in
  all_too n h =
      let ok = agree-tables lim t ms n h in
      let p = agree-points lim n t ok in
      agree-all lim u ns n (agree_too lim t u same n ok)
      (ap (λ (s : State). marks_hold ns s.values) (sym (state-same lim t u same n p))
      ∙ holds_by ms ns lim.terms (mark-same lim ms ns marks) (state_in n t).values (omega (arith, p.fit.terms, list_from-length 0 n.terms (bit_at t.values)))
      (agree-hold lim t ms n h))
      (sym (rest-same lim ms ns marks n) ∙ agree-rest lim t ms n h)

module _ (lim : Limits) (t u : Tables) (ms ns : List ℕ) (same : SameInFull lim t u) (marks : SameMarks lim ms ns) where
  -- what a call leaves that is refused
  as_was : {A : Type 0} (a : A) → SameCall lim (unchanged t ms a) (unchanged u ns a)
  as_was a = record { answer = refl; tables = same; marks = marks }

  pub both-same : full_marked lim t ms ≡ full_marked lim u ns
  both-same = same_tests _ _ (both_too lim t u ms ns same marks) (both_too lim u t ns ms (sym same) (sym marks))

  pub all_same : (n : Counts) → agree_marked lim n t ms ≡ agree_marked lim n u ns
  all_same n = same_tests _ _ (all_too lim t u ms ns same marks n) (all_too lim u t ns ms (sym same) (sym marks) n)

  -- a reading, of a text of either form that comes to r
  pub into_same : (r : Reading) → Sound lim r → SameCall lim (read_into lim r t ms) (read_into lim r u ns)
  unfolding read_leaves
  into_same r sound = by-same (SameCall lim) _ _ (ap not both-same) (as_was _) (λ _. leaves r sound)
    where
      leaves : (r : Reading) → Sound lim r → SameCall lim (read_leaves lim t ms r) (read_leaves lim u ns r)
      leaves (accepted f) proper = record { answer = refl; tables = held lim t u same (as_read f) (as_read-valid lim f proper); marks = cleared-same lim ms ns marks }
      leaves (refused e) _ = record { answer = refl; tables = emptied lim t u same; marks = cleared-same lim ms ns marks }

  pub read_same : (text : List ℕ) → SameCall lim (reading_of lim text t ms) (reading_of lim text u ns)
  unfolding reading_of
  read_same text = into_same (read_text lim text) (reading-sound lim text)

  -- a walk
  pub walk_same : (o : Order) (n : Counts) → SameCall lim (walk_of lim o n t ms) (walk_of lim o n u ns)
  unfolding walk_of walk_leaves state_in
  walk_same o n =
      by-same (SameCall lim) _ _ (ap not both-same) (as_was _)
      (λ full. by-same (SameCall lim) (not (in_range o)) _ refl (as_was _)
      (λ _. by-same (SameCall lim) _ _ (ap not (all_same n)) (as_was _) (λ ok. leaves (not-false _ full) (not-false _ ok))))
    where
      leaves : full_marked lim t ms ≡ true → agree_marked lim n t ms ≡ true
          → SameCall lim (walk_leaves lim t ms (walk_over o ms (file_in n t))) (walk_leaves lim u ns (walk_over o ns (file_in n u)))
      leaves full ok =
          let ten = agree-tables lim t ms n ok in
          let proper = (agree-valid lim n t ten (full-tables lim t ms full)).proper in
          rw (sym (file-same lim t u same n (agree-points lim n t ten)), sym (walk-by lim o ms ns (file_in n t) proper (λ k l. mark-same lim ms ns marks k (omega (arith, proper.few-terms)))))
          (record { answer = refl; tables = held lim t u same _ (end-valid lim o ms (file_in n t) proper); marks = marks })

  -- a flip list
  pub flips-same : (ts : List ℕ) (n : Counts) → SameCall lim (flips_of lim ts n t ms) (flips_of lim ts n u ns)
  unfolding flips_of flips_leave counts_of
  flips-same ts n =
      by-same (SameCall lim) _ _ (ap not both-same) (as_was _)
      (λ full. by-same (SameCall lim) (ltb lim.list (length ts)) _ refl (as_was _)
      (λ _. by-same (SameCall lim) _ _ (ap not (all_same n)) (as_was _)
      (λ ok. by-same (SameCall lim) (not (all (λ v. ltb v n.terms) ts)) _ refl (as_was _)
      (λ known. by-same (SameCall lim) _ _ (ap not (free (not-false _ ok) (not-false _ known))) (as_was _)
      (λ _. leaves (not-false _ full) (not-false _ ok) (not-false _ known))))))
    where
      free : agree_marked lim n t ms ≡ true → all (λ v. ltb v n.terms) ts ≡ true → all (is_free ms) ts ≡ all (is_free ns) ts
      free ok known = free-same lim ms ns marks n.terms ts (agree-points lim n t (agree-tables lim t ms n ok)).fit.terms known

      leaves : full_marked lim t ms ≡ true → agree_marked lim n t ms ≡ true → all (λ v. ltb v n.terms) ts ≡ true
          → SameCall lim (flips_leave lim t ms (flipped ts (state_in n t))) (flips_leave lim u ns (flipped ts (state_in n u)))
      leaves full ok known =
          let ten = agree-tables lim t ms n ok in
          let long = full-tables lim t ms full in
          let names = ap (λ (m : Counts). all (λ v. ltb v m.terms) ts) (agree-counts lim n t ten long) ∙ known in
          rw (sym (state-same lim t u same n (agree-points lim n t ten)))
          (record { answer = refl; tables = held lim t u same _ (flipped-valid lim ts (state_in n t) (agree-valid lim n t ten long) names); marks = marks })

  -- a pin and a lift: what is left where the term is known is the same
  tested-same : (k : ℕ) (n : Counts) {l r : Leaves (Result Counts Refusal)} → (full_marked lim t ms ≡ true → agree_marked lim n t ms ≡ true → k < n.terms → SameCall lim l r)
      → SameCall lim (term_tested lim k n t ms l) (term_tested lim k n u ns r)
  unfolding term_tested
  tested-same k n same_left =
      by-same (SameCall lim) _ _ (ap not both-same) (as_was _)
      (λ full. by-same (SameCall lim) _ _ (ap not (all_same n)) (as_was _)
      (λ ok. by-same (SameCall lim) (not (ltb k n.terms)) _ refl (as_was _)
      (λ known. same_left (not-false _ full) (not-false _ ok) (ltb-true k n.terms (not-false _ known)))))

  module _ (k : ℕ) (n : Counts) (full : full_marked lim t ms ≡ true) (ok : agree_marked lim n t ms ≡ true) (known : k < n.terms) where
    ten-agree : agree lim n t ≡ true
    ten-agree = agree-tables lim t ms n ok

    ten-full : are_full lim t ≡ true
    ten-full = full-tables lim t ms full

    state-is : state_in n t ≡ state_in n u
    state-is = state-same lim t u same n (agree-points lim n t ten-agree)

    -- one mark changed
    one-mark : (m : ℕ) → SameMarks lim (set ms k m) (set ns k m)
    one-mark m =
        take-set lim.terms k m ms ∙ ap (λ (xs : List ℕ). set xs k m) marks ∙ sym (take-set lim.terms k m ns)

    names_are : length (state_in n t).file.names ≡ n.terms
    unfolding counts_of
    names_are = ap (λ (m : Counts). m.terms) (agree-counts lim n t ten-agree ten-full)

    pinned-valid : (v : ℕ) → Valid lim (state_pinned k v n t)
    unfolding flips_for
    pinned-valid v =
        flipped-valid lim (flips_for k (value_asked v) (state_in n t)) (state_in n t) (agree-valid lim n t ten-agree ten-full)
        (by_test (λ (ts : List ℕ). all (λ j. ltb j (length (state_in n t).file.names)) ts ≡ true) (eqb (get_or (state_in n t).values k 0) (value_asked v)) (λ _. refl)
        (λ _. rw (lt-ltb k (length (state_in n t).file.names) (omega (arith, names_are, known))) refl))

  pub pin-same : (k v : ℕ) (n : Counts) → SameCall lim (pin_of lim k v n t ms) (pin_of lim k v n u ns)
  unfolding pin_of flips_leave
  pin-same k v n =
      tested-same k n
      (λ full ok known.
      rw (sym (state-is k n full ok known))
      (record { answer = refl; tables = held lim t u same _ (pinned-valid k n full ok known v); marks = one-mark k n full ok known (1 + value_asked v) }))

  pub lift-same : (k : ℕ) (n : Counts) → SameCall lim (lift_of lim k n t ms) (lift_of lim k n u ns)
  unfolding lift_of
  lift-same k n = tested-same k n (λ full ok known. record { answer = refl; tables = same; marks = one-mark k n full ok known 0 })

  -- the program's run, on one buffer
  pub run-same : (input b : List ℕ) → cut lim (run_of lim input t ms b) ≡ cut lim (run_of lim input u ns b)
  unfolding run_as ran_as tables_after marks_after
  run-same input b = alike-cut lim (run_of lim input t ms b) (run_of lim input u ns b) alike
    where
      tables-same : SameInFull lim (tables_after lim t (course_of lim input)) (tables_after lim u (course_of lim input))
      tables-same =
          by-course lim input (λ c. SameInFull lim (tables_after lim t c) (tables_after lim u c)) (λ _. emptied lim t u same) (λ _ _ _. same) (λ _ _ _ _. emptied lim t u same)
          (λ s f _ q. held lim t u same _ (end-valid lim s.order [] f (reading-proper lim _ f q)))

      marks-same : SameMarks lim (marks_after lim ms (course_of lim input)) (marks_after lim ns (course_of lim input))
      marks-same =
          let none = cleared-same lim ms ns marks in
          by-course lim input (λ c. SameMarks lim (marks_after lim ms c) (marks_after lim ns c)) (λ _. none) (λ _ _ _. marks) (λ _ _ _ _. none) (λ _ _ _ _. none)

      alike : Alike lim (run_of lim input t ms b) (run_of lim input u ns b)
      alike =
          by-same (Alike lim) _ _ (ap (λ (f : Bool). not f || ltb (length b) (report_size lim)) both-same) (record { others = refl; tables = same; marks = marks })
          (λ _. record { others = refl; tables = tables-same; marks = marks-same })
