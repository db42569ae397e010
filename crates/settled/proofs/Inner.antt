-- The statements of what one crate lends to another. Assumes nothing.
use Prim.Native.Nat.{ℕ}
use mathlib.Core.Path.{refl, ap}
use mathlib.Core.List.{List}
use base.Fml.{GName}
use Rattle.std.specs.Prelude.{Result, Ok, Err}
use mir.Syntax.{Dict}
use denote.RattleType.{RattleType}
use Rattle.std.specs.Borrow.{u8, u16, u32, u64}
use Rattle.std.specs.declared.clone.Clone.{Ghosts}
use Rattle.machine.specs.Uncovered.{Uncovered}
use Rattle.machine.specs.Tallies.{Tallies}
use Rattle.machine.specs.Moving.{Moving}
use Rattle.written.specs.declared.Refusal.{Refusal}
use Rattle.written.specs.declared.Fault.{Fault}
use Rattle.written.specs.declared.Counts.{Counts}
use Rattle.written.specs.declared.Walked.{Walked}
use Rattle.written.specs.declared.Walked.TheVariants.{GaveUp}
use Rattle.written.specs.Outcomes.{Ten, Leaves}
use Rattle.walking_choice.specs.declared.Picked.{Picked}
use Rattle.walking_choice.specs.Choosing.{Lowest}
use Rattle.walking_steps.specs.declared.At.{At}
use Rattle.walking_steps.specs.Stepping.{Stand, uncovered_number}
use Rattle.reading_literal.specs.Taking.{Placed}
use Rattle.reading_lines.specs.Drafting.{Desk}
use Rattle.reading_lines.specs.Turns.{LineEnd}
use Rattle.reading_end.specs.Clearing.{Others}
use Rattle.reading_end.specs.Finishing.{Finished}
use Rattle.pages.specs.Pages.{Page}
use Rattle.written.specs.Drawing.{Pick}
use Rattle.written.specs.Program.{Ran}
use Rattle.settled.specs.Outcomes.{Public, Inner, InnerSeen}
use Rattle.settled.proofs.Facts.{meet, same, both, all_three, each, held, one-page, past-asked, lent-long, ten, five}
use Rattle.tables.specs.contracts.true_count as true-count
use Rattle.tables.specs.contracts.xor_true as xor-true
use Rattle.tables.specs.contracts.one_for as one-for
use Rattle.tables.specs.contracts.clear as clear
use Rattle.tables.specs.contracts.raise as raise
use Rattle.tables.specs.contracts.enter as enter
use Rattle.occurrences.specs.contracts.turn_round as turn-round
use Rattle.recounts.specs.contracts.open_all as open-all
use Rattle.recounts.specs.contracts.close_all as close-all
use Rattle.recounts.specs.contracts.count_afresh as count-afresh
use Rattle.agreeing_file.specs.contracts.clauses_hold as clauses-hold
use Rattle.agreeing_counts.specs.contracts.counts_agree as counts-agree
use Rattle.agreeing_rest.specs.contracts.rests_agree as rests-agree
use Rattle.names.specs.contracts.add as add
use Rattle.reading_literal.specs.contracts.place as place
use Rattle.reading_lines.specs.contracts.fault_at as fault-at
use Rattle.reading_lines.specs.contracts.after_literal as after-literal
use Rattle.reading_lines.specs.contracts.at_line_end as at-line-end
use Rattle.reading_lines.specs.contracts.at_text_end as at-text-end
use Rattle.flipping.specs.contracts.flip_term as flip-term
use Rattle.flipping.specs.contracts.flip_all as flip-all
use Rattle.walking_choice.specs.contracts.chosen_from as chosen-from
use Rattle.walking_choice.specs.contracts.least_in as least-in
use Rattle.walking_choice.specs.contracts.literal_in as literal_in_lem
use Rattle.walking_steps.specs.contracts.one_walk as one-walk
use Rattle.walking.specs.contracts.walk_tested as walk-tested
use Rattle.reading_end.specs.contracts.verdict as verdict
use Rattle.flipping_lists.specs.contracts.flip_agreeing as flip-agreeing
use Rattle.reading.specs.contracts.read_full as read-full
use Rattle.reading_end.specs.contracts.clear_draft as clear-draft
use Rattle.reading_end.specs.contracts.clear_others as clear-others
use Rattle.reading_end.specs.contracts.finish as finish
use Rattle.pages.specs.contracts.Page.new as page-new
use Rattle.pages.specs.contracts.Page.len as page-len
use Rattle.pages.specs.contracts.Page.put_byte as put_byte
use Rattle.pages.specs.contracts.Page.put_all as put_all_lem
use Rattle.pages.specs.contracts.Page.put_number as put-number
use Rattle.pages.specs.contracts.Page.put_name as put-name
use Rattle.pages.specs.contracts.Page.put_term as put-term
use Rattle.pages.specs.contracts.Page.put_line as put-line
use Rattle.digits.specs.contracts.value as value
use Rattle.numerals.specs.contracts.past_comments as past-comments
use Rattle.numerals.specs.contracts.header_at as header_at
use Rattle.numerals.specs.contracts.number_at as number_at
use Rattle.running_report.specs.contracts.refusal as refusal
use Rattle.running_report.specs.contracts.report as report
use Rattle.running_values.specs.contracts.refusal as values-refusal
use Rattle.running_values.specs.contracts.report as values-report
use Rattle.running_forms.specs.contracts.refusal as form-refusal
use Rattle.running_forms.specs.contracts.report as form-report
use Rattle.running_text.specs.contracts.read_on as read-on
use Rattle.running_alone.specs.contracts.run_alone as run_alone
use Rattle.running_alone.specs.contracts.run_read as run-read

pub true-count-settled : Public true-count.ended (λ M 𝓤. true-count.clauses)
true-count-settled M 𝓤 𝓛 mem run κs a g = record { asks_nothing = refl; one-outcome = λ x y. both 𝓤 (λ p q. same (meet p q) refl) }

pub xor_true-settled : Public xor-true.ended (λ M 𝓤. xor-true.clauses)
xor_true-settled M 𝓤 𝓛 mem run κs a g = record { asks_nothing = refl; one-outcome = λ x y. both 𝓤 (λ p q. same (meet p q) refl) }

pub one-for-settled : Public one-for.ended (λ M 𝓤. one-for.clauses)
one-for-settled M 𝓤 𝓛 mem run κs a g = record { asks_nothing = refl; one-outcome = λ x y. both 𝓤 (λ p q. same (meet p q) refl) }

-- of a table of any type, of which it is asked that what the entries borrow outlives the table
pub clear-any-settled : (T : RattleType) (C : Ghosts T.Denot) (d : Dict) → Inner (clear.ended T C d) (λ M 𝓤. clear.clauses T C d)
clear-any-settled T C d M 𝓤 𝓛 mem run κs a g = record { one-outcome = λ x y. past-asked 𝓤 _ (λ p q. same refl (ap (λ xs. (xs, (tt, (tt, tt)))) (meet p q))) }

pub clear-settled : (C : Ghosts u16.Denot) (d : Dict) → Public (clear.ended u16 C d) (λ M 𝓤. clear.clauses u16 C d)
clear-settled C d M 𝓤 𝓛 mem run κs a g = record { asks_nothing = lent-long 𝓤 _; one-outcome = λ x y. both 𝓤 (λ p q. same refl (ap (λ xs. (xs, (tt, (tt, tt)))) (meet p q))) }

pub clear-words-settled : (C : Ghosts u32.Denot) (d : Dict) → Public (clear.ended u32 C d) (λ M 𝓤. clear.clauses u32 C d)
clear-words-settled C d M 𝓤 𝓛 mem run κs a g = record { asks_nothing = lent-long 𝓤 _; one-outcome = λ x y. both 𝓤 (λ p q. same refl (ap (λ xs. (xs, (tt, (tt, tt)))) (meet p q))) }

pub clear-names-settled : (C : Ghosts u64.Denot) (d : Dict) → Public (clear.ended u64 C d) (λ M 𝓤. clear.clauses u64 C d)
clear-names-settled C d M 𝓤 𝓛 mem run κs a g = record { asks_nothing = lent-long 𝓤 _; one-outcome = λ x y. both 𝓤 (λ p q. same refl (ap (λ xs. (xs, (tt, (tt, tt)))) (meet p q))) }

pub clear-bytes-settled : (C : Ghosts u8.Denot) (d : Dict) → Public (clear.ended u8 C d) (λ M 𝓤. clear.clauses u8 C d)
clear-bytes-settled C d M 𝓤 𝓛 mem run κs a g = record { asks_nothing = lent-long 𝓤 _; one-outcome = λ x y. both 𝓤 (λ p q. same refl (ap (λ xs. (xs, (tt, (tt, tt)))) (meet p q))) }

pub raise-settled : Inner raise.ended (λ M 𝓤. raise.clauses)
raise-settled M 𝓤 𝓛 mem run κs a g = record { one-outcome = λ x y. all_three 𝓤 (λ r p q. same refl (ap (λ xs. (xs, (tt, tt))) (meet p q))) }

pub enter-settled : Inner enter.ended (λ M 𝓤. enter.clauses)
enter-settled M 𝓤 𝓛 mem run κs a g = record { one-outcome = λ x y. all_three 𝓤 (λ r p q. let e = meet p q in same (ap (λ u. u.number) e) (ap (λ (u : Uncovered). (u.list, (u.places, (tt, (tt, tt))))) e)) }

pub turn-round-settled : Inner turn-round.ended (λ M 𝓤. turn-round.clauses)
turn-round-settled M 𝓤 𝓛 mem run κs a g = record { one-outcome = λ x y. all_three 𝓤 (λ r p q. same refl (λ i. (tt, (tt, (tt, (meet p.0 q.0 i, (meet p.1 q.1 i, (meet p.2 q.2 i, tt)))))))) }

pub open_all-settled : Inner open-all.ended (λ M 𝓤. open-all.clauses)
open_all-settled M 𝓤 𝓛 mem run κs a g = record { one-outcome = λ x y. all_three 𝓤 (λ r p q. same refl (ap (λ xs. (tt, (tt, (tt, (tt, (tt, (xs, tt))))))) (meet p q))) }

pub close_all-settled : Inner close-all.ended (λ M 𝓤. close-all.clauses)
close_all-settled M 𝓤 𝓛 mem run κs a g = record { one-outcome = λ x y. all_three 𝓤 (λ r p q. same refl (ap (λ xs. (tt, (tt, (xs, tt)))) (meet p q))) }

pub count-afresh-settled : Inner count-afresh.ended (λ M 𝓤. count-afresh.clauses)
count-afresh-settled M 𝓤 𝓛 mem run κs a g = record { one-outcome = λ x y. all_three 𝓤 (λ r p q. let e = meet p q in same (ap (λ t. t.uncovered.number) e) (ap (λ (t : Tallies). (tt, (tt, (tt, (tt, (tt, (t.trues, (t.breaks, (t.uncovered.list, (t.uncovered.places, tt)))))))))) e)) }

pub clauses-hold-settled : Inner clauses-hold.ended (λ M 𝓤. clauses-hold.clauses)
clauses-hold-settled M 𝓤 𝓛 mem run κs a g = record { one-outcome = λ x y. all_three 𝓤 (λ r p q. same (meet p q) refl) }

pub counts-agree-settled : Inner counts-agree.ended (λ M 𝓤. counts-agree.clauses)
counts-agree-settled M 𝓤 𝓛 mem run κs a g = record { one-outcome = λ x y. all_three 𝓤 (λ r p q. same (meet p q) refl) }

pub rests-agree-settled : Inner rests-agree.ended (λ M 𝓤. rests-agree.clauses)
rests-agree-settled M 𝓤 𝓛 mem run κs a g = record { one-outcome = λ x y. all_three 𝓤 (λ r p q. same (meet p q) refl) }

pub add-settled : Inner add.ended (λ M 𝓤. add.clauses)
add-settled M 𝓤 𝓛 mem run κs a g = record { one-outcome = λ x y. all_three 𝓤 (λ r p q. same refl (λ i. (meet p.0 q.0 i, (meet p.1 q.1 i, (tt, (tt, (tt, tt))))))) }

pub place-settled : Inner place.ended (λ M 𝓤. place.clauses)
place-settled M 𝓤 𝓛 mem run κs a g = record { one-outcome = λ x y. all_three 𝓤 (λ r p q. let e = meet p q in same (ap (λ (z : Placed). z.answer) e) (ap (λ (z : Placed). (z.literals, (z.stamps, (tt, (tt, (tt, (tt, tt))))))) e)) }

pub fault-at-settled : Inner fault-at.ended (λ M 𝓤. fault-at.clauses)
fault-at-settled M 𝓤 𝓛 mem run κs a g = record { one-outcome = λ x y. all_three 𝓤 (λ r p q. same (meet p q) refl) }

pub after-literal-settled : Inner after-literal.ended (λ M 𝓤. after-literal.clauses)
after-literal-settled M 𝓤 𝓛 mem run κs a g = record { one-outcome = λ x y. all_three 𝓤 (λ r p q. same (meet p q) refl) }

pub at-line-end-settled : Inner at-line-end.ended (λ M 𝓤. at-line-end.clauses)
at-line-end-settled M 𝓤 𝓛 mem run κs a g = record { one-outcome = λ x y. all_three 𝓤 (λ r p q. let e = meet p q in same (ap (λ (z : LineEnd). z.next) e) (ap (λ (z : LineEnd). (z.starts, (tt, (tt, tt)))) e)) }

pub at-text-end-settled : Public at-text-end.ended (λ M 𝓤. at-text-end.clauses)
at-text-end-settled M 𝓤 𝓛 mem run κs a g = record { asks_nothing = refl; one-outcome = λ x y. both 𝓤 (λ p q. same (meet p q) refl) }

-- what is left behind the tables of the counts, before what follows them
abbrev counted : {R : Type 0} → Moving → R → List ℕ × (List ℕ × (List ℕ × (List ℕ × R)))
counted m r = (m.tallies.trues, (m.tallies.breaks, (m.tallies.uncovered.list, (m.tallies.uncovered.places, r))))

pub flip-term-settled : Inner flip-term.ended (λ M 𝓤. flip-term.clauses)
flip-term-settled M 𝓤 𝓛 mem run κs a g = record { one-outcome = λ x y. all_three 𝓤 (λ r p q. let e = meet p q in same (ap (λ m. m.tallies.uncovered.number) e) (ap (λ (m : Moving). (m.words, (tt, (tt, counted m (tt, (tt, tt)))))) e)) }

pub flip-all-settled : Inner flip-all.ended (λ M 𝓤. flip-all.clauses)
flip-all-settled M 𝓤 𝓛 mem run κs a g = record { one-outcome = λ x y. all_three 𝓤 (λ r p q. let e = meet p q in same (ap (λ m. m.tallies.uncovered.number) e) (ap (λ (m : Moving). (tt, (m.words, (tt, (tt, counted m (tt, tt)))))) e)) }

-- the counts of an answer
abbrev counts_of : Result Counts Refusal → Counts
counts_of (Ok n) = n
counts_of (Err e) = e.counts

pub flip_agreeing_settled : Inner flip-agreeing.ended (λ M 𝓤. flip-agreeing.clauses)
flip_agreeing_settled M 𝓤 𝓛 mem run κs a g =
    record {
      one-outcome = λ x y. all_three 𝓤
          (λ r p q. let e = meet p q in same (ap (λ (l : Ten (Result Counts Refusal)). counts_of l.answer) e) (ap (λ (l : Ten (Result Counts Refusal)). (tt, (tt, five l.tables tt))) e));
    }

-- what was picked, and where a walk stands, as the code hands it back
abbrev handed : Pick → Picked
handed p = record { entry = p.picked; next = record { state = p.state } }

abbrev standing : Stand → At
standing v = record { number = uncovered_number v; generator = record { state = v.generator }; flips = v.flips }

pub chosen-from-settled : Inner chosen-from.ended (λ M 𝓤. chosen-from.clauses)
chosen-from-settled M 𝓤 𝓛 mem run κs a g = record { one-outcome = λ x y. all_three 𝓤 (λ r p q. same (ap handed (meet p q)) refl) }

pub least_in_settled : Inner least-in.ended (λ M 𝓤. least-in.clauses)
least_in_settled M 𝓤 𝓛 mem run κs a g = record { one-outcome = λ x y. all_three 𝓤 (λ r p q. same (ap (λ (s : Lowest). record { low = s.low; number = s.number; first = s.first }) (meet p q)) refl) }

pub literal_in_settled : Inner literal_in_lem.ended (λ M 𝓤. literal_in_lem.clauses)
literal_in_settled M 𝓤 𝓛 mem run κs a g = record { one-outcome = λ x y. all_three 𝓤 (λ r p q. same (ap handed (meet p q)) refl) }

pub one-walk-settled : Inner one-walk.ended (λ M 𝓤. one-walk.clauses)
one-walk-settled M 𝓤 𝓛 mem run κs a g = record { one-outcome = λ x y. all_three 𝓤 (λ r p q. let e = meet p q in same (ap standing e) (ap (λ (v : Stand). (tt, (tt, (v.tables.words, (tt, (tt, (tt, (tt, counted v.tables (tt, (tt, tt)))))))))) e)) }

-- how the walks of an answer end
abbrev ending : Result Walked Refusal → Walked
ending (Ok w) = w
ending (Err e) = GaveUp (record { walks = 0; flips = 0; counts = e.counts })

pub walk-tested-settled : Inner walk-tested.ended (λ M 𝓤. walk-tested.clauses)
walk-tested-settled M 𝓤 𝓛 mem run κs a g = record { one-outcome = λ x y. all_three 𝓤 (λ r p q. let e = meet p q in same (ap (λ (l : Leaves (Result Walked Refusal)). ending l.answer) e) (ap (λ l. (tt, (tt, five l.tables (tt, tt)))) e)) }

pub verdict-settled : Public verdict.ended (λ M 𝓤. verdict.clauses)
verdict-settled M 𝓤 𝓛 mem run κs a g = record { asks_nothing = refl; one-outcome = λ x y. both 𝓤 (λ p q. same (meet p q) refl) }

pub clear-draft-settled : Public clear-draft.ended (λ M 𝓤. clear-draft.clauses)
clear-draft-settled M 𝓤 𝓛 mem run κs a g = record { asks_nothing = refl; one-outcome = λ x y. both 𝓤 (λ p q. same refl (ap (λ (w : Desk). (w.names, (w.starts, (w.literals, (w.stamps, (w.slots, tt)))))) (meet p q))) }

pub clear-others-settled : Public clear-others.ended (λ M 𝓤. clear-others.clauses)
clear-others-settled M 𝓤 𝓛 mem run κs a g = record { asks_nothing = refl; one-outcome = λ x y. both 𝓤 (λ p q. same refl (ap (λ (w : Others). (w.values, (w.occurrence_starts, (w.occurrences, (w.trues, (w.uncovered, tt)))))) (meet p q))) }

pub finish-settled : Inner finish.ended (λ M 𝓤. finish.clauses)
finish-settled M 𝓤 𝓛 mem run κs a g =
    record {
      one-outcome = λ x y. all_three 𝓤
          (λ r p q. let e = meet p q in
          same (ap (λ (w : Finished). w.counts) e)
          (ap (λ (w : Finished). (tt, (tt, (tt, (w.clauses.literals, (w.clauses.occurrence_starts, (w.clauses.occurrences, counted w.moved tt))))))) e));
    }

-- a page: its place, what stands in its buffer and which loan that is, not where it keeps the reference
pub page-new-settled : InnerSeen page-new.ended (Page × GName) (λ κs a x. held x.result) (λ M 𝓤. page-new.clauses)
page-new-settled M 𝓤 𝓛 mem run κs a g = record { one_seen = λ x y. each 𝓤 _ (one-page x.result y.result) }

pub page-len-settled : Public page-len.ended (λ M 𝓤. page-len.clauses)
page-len-settled M 𝓤 𝓛 mem run κs a g = record { asks_nothing = refl; one-outcome = λ x y. both 𝓤 (λ p q. same (meet p q) refl) }

pub put-byte-settled : InnerSeen put_byte.ended (Page × GName) (λ κs a x. held x.left.0) (λ M 𝓤. put_byte.clauses)
put-byte-settled M 𝓤 𝓛 mem run κs a g = record { one_seen = λ x y. each 𝓤 _ (one-page x.left.0 y.left.0) }

pub put-all-settled : InnerSeen put_all_lem.ended (Page × GName) (λ κs a x. held x.left.0) (λ M 𝓤. put_all_lem.clauses)
put-all-settled M 𝓤 𝓛 mem run κs a g = record { one_seen = λ x y. each 𝓤 _ (one-page x.left.0 y.left.0) }

pub put-number-settled : InnerSeen put-number.ended (Page × GName) (λ κs a x. held x.left.0) (λ M 𝓤. put-number.clauses)
put-number-settled M 𝓤 𝓛 mem run κs a g = record { one_seen = λ x y. each 𝓤 _ (one-page x.left.0 y.left.0) }

pub put-name-settled : InnerSeen put-name.ended (Page × GName) (λ κs a x. held x.left.0) (λ M 𝓤. put-name.clauses)
put-name-settled M 𝓤 𝓛 mem run κs a g = record { one_seen = λ x y. each 𝓤 _ (one-page x.left.0 y.left.0) }

pub put-term-settled : InnerSeen put-term.ended (Page × GName) (λ κs a x. held x.left.0) (λ M 𝓤. put-term.clauses)
put-term-settled M 𝓤 𝓛 mem run κs a g = record { one_seen = λ x y. each 𝓤 _ (one-page x.left.0 y.left.0) }

pub put-line-settled : InnerSeen put-line.ended (Page × GName) (λ κs a x. held x.left.0) (λ M 𝓤. put-line.clauses)
put-line-settled M 𝓤 𝓛 mem run κs a g = record { one_seen = λ x y. each 𝓤 _ (one-page x.left.0 y.left.0) }

pub past-comments-settled : Inner past-comments.ended (λ M 𝓤. past-comments.clauses)
past-comments-settled M 𝓤 𝓛 mem run κs a g = record { one-outcome = λ x y. all_three 𝓤 (λ r p q. same (meet p q) refl) }

pub header-at-settled : Inner header_at.ended (λ M 𝓤. header_at.clauses)
header-at-settled M 𝓤 𝓛 mem run κs a g = record { one-outcome = λ x y. all_three 𝓤 (λ r p q. same (meet p q) refl) }

pub number-at-settled : Inner number_at.ended (λ M 𝓤. number_at.clauses)
number-at-settled M 𝓤 𝓛 mem run κs a g = record { one-outcome = λ x y. all_three 𝓤 (λ r p q. same (meet p q) refl) }

pub value-settled : Inner value.ended (λ M 𝓤. value.clauses)
value-settled M 𝓤 𝓛 mem run κs a g = record { one-outcome = λ x y. all_three 𝓤 (λ r p q. same (meet p q) refl) }

pub refusal-settled : Inner refusal.ended (λ M 𝓤. refusal.clauses)
refusal-settled M 𝓤 𝓛 mem run κs a g = record { one-outcome = λ x y. all_three 𝓤 (λ r p q. let e = meet p q in same (ap (λ s. s.at) e) (ap (λ (s : Page). (s.buffer, (tt, tt))) e)) }

pub report-settled : Inner report.ended (λ M 𝓤. report.clauses)
report-settled M 𝓤 𝓛 mem run κs a g = record { one-outcome = λ x y. all_three 𝓤 (λ r p q. let e = meet p q in same (ap (λ s. s.at) e) (ap (λ (s : Page). (s.buffer, (tt, (tt, (tt, tt))))) e)) }

pub values-refusal-settled : Inner values-refusal.ended (λ M 𝓤. values-refusal.clauses)
values-refusal-settled M 𝓤 𝓛 mem run κs a g = record { one-outcome = λ x y. all_three 𝓤 (λ r p q. let e = meet p q in same (ap (λ s. s.at) e) (ap (λ (s : Page). (s.buffer, (tt, tt))) e)) }

pub values-report-settled : Inner values-report.ended (λ M 𝓤. values-report.clauses)
values-report-settled M 𝓤 𝓛 mem run κs a g = record { one-outcome = λ x y. all_three 𝓤 (λ r p q. let e = meet p q in same (ap (λ s. s.at) e) (ap (λ (s : Page). (s.buffer, (tt, (tt, tt)))) e)) }

pub form-refusal-settled : Inner form-refusal.ended (λ M 𝓤. form-refusal.clauses)
form-refusal-settled M 𝓤 𝓛 mem run κs a g = record { one-outcome = λ x y. all_three 𝓤 (λ r p q. let e = meet p q in same (ap (λ s. s.at) e) (ap (λ (s : Page). (tt, (s.buffer, (tt, tt)))) e)) }

pub form-report-settled : Inner form-report.ended (λ M 𝓤. form-report.clauses)
form-report-settled M 𝓤 𝓛 mem run κs a g = record { one-outcome = λ x y. all_three 𝓤 (λ r p q. let e = meet p q in same (ap (λ s. s.at) e) (ap (λ (s : Page). (tt, (s.buffer, (tt, (tt, (tt, tt)))))) e)) }

pub read-full-settled : Inner read-full.ended (λ M 𝓤. read-full.clauses)
read-full-settled M 𝓤 𝓛 mem run κs a g =
    record { one-outcome = λ x y. all_three 𝓤 (λ r p q. let e = meet p q in same (ap (λ (l : Ten (Result Counts Fault)). l.answer) e) (ap (λ (l : Ten (Result Counts Fault)). (tt, (tt, ten l.tables tt))) e)) }

pub read-on-settled : Inner read-on.ended (λ M 𝓤. read-on.clauses)
read-on-settled M 𝓤 𝓛 mem run κs a g = record { one-outcome = λ x y. all_three 𝓤 (λ r p q. let e = meet p q in same (ap (λ (w : Ran). w.answer.length) e) (ap (λ (w : Ran). (tt, (tt, (tt, ten w.tables (tt, (w.buffer, tt)))))) e)) }

pub run-alone-settled : Inner run_alone.ended (λ M 𝓤. run_alone.clauses)
run-alone-settled M 𝓤 𝓛 mem run κs a g = record { one-outcome = λ x y. all_three 𝓤 (λ r p q. let e = meet p.0 q.0 in same (ap (λ s. s.at) e) (ap (λ (s : Page). (tt, (tt, (s.buffer, tt)))) e)) }

pub run-read-settled : Inner run-read.ended (λ M 𝓤. run-read.clauses)
run-read-settled M 𝓤 𝓛 mem run κs a g = record { one-outcome = λ x y. all_three 𝓤 (λ r p q. let e = meet p.0 q.0 in same (ap (λ s. s.at) e) (ap (λ (s : Page). (tt, (tt, (tt, (tt, (s.buffer, tt)))))) e)) }
