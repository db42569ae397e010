-- The points of agreement, each over the lists that it reads, and how the code goes about a test that marks as it goes. Assumes nothing.
use Rattle.std.specs.Prelude.{ℕ, ◌+◌, ◌*◌, ◌/◌, ◌%◌, ◌^◌, Bool, true, ◌&&◌, ◌||◌, length, get_or, take, drop, eqb, ltb}
use mathlib.Core.List.{List, [], ◌∷◌, map, flatten}
use Rattle.words.specs.Words.{bit_at, word_count}
use Rattle.written.specs.declared.Counts.{Counts}
use Rattle.written.specs.Lists.{all, list_of, below, has, place_of, times, differ, same}
use Rattle.written.specs.Clauses.{term_of, true_count, break_count, uncovered_in, occurrences_of}
use Rattle.written.specs.Limits.{Limits}
use Rattle.written.specs.Tables.{Tables, starts_from}
use Rattle.written.specs.Agreement.{part_of, is_name, counts_fit}

-- the clauses that starts and literals hold, and the values that the words hold
unfoldable pub clauses_in : ℕ → List ℕ → List ℕ → List (List ℕ)
clauses_in C ss ls = list_of C (part_of ss ls)

unfoldable pub values_in : ℕ → List ℕ → List ℕ
values_in T ws = list_of T (bit_at ws)

-- "starts begin at 0, rise strictly by clause and end at the literal count"
unfoldable pub starts_right : ℕ → ℕ → List ℕ → Bool
starts_right C L ss = eqb (get_or ss 0 0) 0 && all (λ c. ltb (get_or ss c 0) (get_or ss (c + 1) 0)) (below C) && eqb (get_or ss C 0) L

-- "literals are below twice the terms, each term at most once in a clause"
unfoldable pub clause_right : ℕ → List ℕ → Bool
clause_right T ls = all (λ l. ltb l (2 * T)) ls && differ (map term_of ls)

unfoldable pub literals_right : ℕ → List (List ℕ) → Bool
literals_right T cs = all (clause_right T) cs

-- "occurrence starts and occurrences are exactly the literals turned round"
unfoldable pub turned_right : ℕ → ℕ → List (List ℕ) → List ℕ → List ℕ → Bool
turned_right T L cs os oc =
    same (take (2 * T + 1) os) (starts_from 0 (list_of (2 * T) (occurrences_of cs))) && same (take L oc) (flatten (list_of (2 * T) (occurrences_of cs)))

-- "true, break and uncovered counts are those of the values"
unfoldable pub trues_right : ℕ → List ℕ → List (List ℕ) → List ℕ → Bool
trues_right C vs cs ts = same (take C ts) (map (true_count vs) cs)

unfoldable pub breaks_right : ℕ → List ℕ → List (List ℕ) → List ℕ → Bool
breaks_right T vs cs bs = same (take T bs) (list_of T (break_count vs cs))

-- "the list holds each uncovered clause once, with its place", and a covered clause has the place 0; us and ps: the entries in use
unfoldable pub list_right : List ℕ → List (List ℕ) → List ℕ → List ℕ → Bool
list_right vs cs us ps = all (λ c. eqb (times c us) 1 && eqb (get_or ps c 0) (place_of c us)) (uncovered_in vs cs)

unfoldable pub covered_right : ℕ → List ℕ → List ℕ → Bool
covered_right C us ps = all (λ c. has c us || eqb (get_or ps c 0) 0) (below C)

-- "the rest is 0": of a table of full size b, the entries from a on
unfoldable pub rest_right : ℕ → ℕ → List ℕ → Bool
rest_right a b xs = all (λ x. eqb x 0) (drop a (take b xs))

-- "spare value bits too": the word in which the terms end has no bit past the last of n terms
unfoldable pub spare_right : ℕ → List ℕ → Bool
spare_right n ws = eqb (get_or ws (n / 32) 0 / 2 ^ (n % 32)) 0

-- ---- the points, as the code takes them together

-- names, starts and literals
unfoldable pub file_right : Counts → List ℕ → List ℕ → List ℕ → Bool
file_right n names ss ls =
    (all is_name (take n.terms names) && differ (take n.terms names))
    && starts_right n.clauses n.literals ss && literals_right n.terms (clauses_in n.clauses ss ls)

-- the counts, the list and its places
unfoldable pub counts_right : Counts → List ℕ → List ℕ → List ℕ → List ℕ → List ℕ → List ℕ → List ℕ → Bool
counts_right n ws ss ls ts bs us ps =
    let vs : List ℕ = values_in n.terms ws in
    let cs : List (List ℕ) = clauses_in n.clauses ss ls in
    trues_right n.clauses vs cs ts && breaks_right n.terms vs cs bs && eqb n.uncovered (length (uncovered_in vs cs))
    && list_right vs cs (take n.uncovered us) (take n.clauses ps) && covered_right n.clauses (take n.uncovered us) (take n.clauses ps)

-- the rest of the tables that hold names, values, clauses and occurrences, and of those that hold counts
unfoldable pub clause_rests : Limits → Counts → List ℕ → List ℕ → List ℕ → List ℕ → List ℕ → List ℕ → Bool
clause_rests lim n names ws ss ls os oc =
    rest_right n.terms lim.terms names
    && rest_right (word_count n.terms) (word_count lim.terms) ws
    && rest_right (n.clauses + 1) (lim.clauses + 1) ss
    && rest_right n.literals lim.literals ls
    && rest_right (2 * n.terms + 1) (2 * lim.terms + 1) os
    && rest_right n.literals lim.literals oc

unfoldable pub count_rests : Limits → Counts → List ℕ → List ℕ → List ℕ → List ℕ → Bool
count_rests lim n ts bs us ps =
    rest_right n.clauses lim.clauses ts && rest_right n.terms lim.terms bs && rest_right n.uncovered lim.clauses us
    && rest_right n.clauses lim.clauses ps

-- all points, in the order in which they are tested
unfoldable pub judged : Limits → Counts → Tables → Bool
judged lim n t =
    counts_fit lim n
    && file_right n t.names t.starts t.literals
    && turned_right n.terms n.literals (clauses_in n.clauses t.starts t.literals) t.occurrence_starts t.occurrences
    && counts_right n t.values t.starts t.literals t.trues t.breaks t.uncovered t.places
    && clause_rests lim n t.names t.values t.starts t.literals t.occurrence_starts t.occurrences
    && count_rests lim n t.trues t.breaks t.uncovered t.places
    && spare_right n.terms (take (word_count n.terms) t.values)

-- ---- how the code goes about it

-- every entry of a run passes a test of the state, as the steps before it left the state
unfoldable pub passes : {S : Type 0} → (ℕ → S → Bool) → (ℕ → S → S) → List ℕ → S → Bool
passes p g [] s = true
passes p g (x ∷ xs) s = p x s && passes p g xs (g x s)
