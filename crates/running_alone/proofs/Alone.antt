-- A run on a program's own tables: what is printed stands first in the buffer, also of an input that is longer than what was seen of it. Assumes nothing.
use Prim.Native.Nat.{ℕ, ◌≤◌, ◌<◌}
use mathlib.Core.Path.{◌≡◌, refl, ap, sym, ◌∙◌}
use mathlib.Core.Bool.{Bool, true, false}
use mathlib.Core.List.{List, []}
use native.Mathlib.Omega.{arith}
use lib.IntN.{ℤ, negsuc}
use lib.ListN.{length, take, drop, length-append}
use lib.Seq.{take_all, length-take-le}
use borrow.Author.Tests.{lt-ltb, le-ltb}
use Rattle.written.specs.declared.Form.{Form}
use Rattle.written.specs.declared.RunAnswer.{RunAnswer}
use Rattle.written.specs.Limits.{Limits, narrow}
use Rattle.written.specs.Tables.{Tables, are_full}
use Rattle.written.specs.Marks.{marks_full}
use Rattle.written.specs.Program.{course_as, printed_as, report_size, ran_as, run_as}
use Rattle.laws.proofs.Basics.{by-lt}
use Rattle.laws.proofs.Marks.{full-both}
use Rattle.laws.proofs.Forms.{form-ran}
use Rattle.pages.specs.Pages.{Page, page, put}
use Rattle.running_text.specs.Running.{answered}
use Rattle.running_text.proofs.Ends.{front}
use Rattle.running_alone.specs.Seeing.{CanSee, end_told, seen_whole, shown_as, Within}

-- on full tables
pub alone-ends : (form : Form) (lim : Limits) (input : List ℕ) (b : List ℕ) → report_size lim ≤ length b → (t : Tables) (ms : List ℕ) → are_full lim t ≡ true → marks_full lim ms ≡ true
    → {a : RunAnswer} {u : Tables} {us out : List ℕ} → answered a u us out ≡ run_as form lim input t ms b → page a.length out ≡ put (printed_as form lim input) (page 0 b)
unfolding ran_as printed_as
alone-ends form lim input b room t ms full marks e =
    let all = e ∙ form-ran form lim input t ms b (full-both lim t ms full marks) room in
    (λ i. page (all i).answer.length (all i).buffer) ∙ sym (front (printed_as form lim input) b)

-- what stands first in a buffer is within it
pub front-within : (bs b : List ℕ) {r : ℕ} {out : List ℕ} → page r out ≡ put bs (page 0 b) → Within r out
front-within bs b {r} {out} e =
    let all = e ∙ front bs b in
    let size = ap (λ (p : Page). p.at) all in
    let long = ap (λ (p : Page). length p.buffer) all in
    let low : r ≤ length out = omega (arith, length-append bs (drop (length bs) b)) in
    record { low = low; long = sym (length-take-le r out low) }

-- the first bytes of an input print what it prints, if they are all or too many
cut-prints : (form : Form) (lim : Limits) (k : ℕ) (input : List ℕ) → lim.text < k → printed_as form lim (take k input) ≡ printed_as form lim input
unfolding printed_as course_as
cut-prints form lim k input more =
    by-lt k (length input)
    (λ l. rw (lt-ltb lim.text (length input) (omega arith), lt-ltb lim.text (length (take k input)) (omega (arith, length-take-le k input (omega arith)))) refl)
    (λ s. ap (printed_as form lim) (take_all k input s))

-- so of every input whose first bytes were read, as far as the buffer goes, and that was seen whole, what it prints is shown
pub shows-whole : (form : Form) (lim : Limits) (n : ℕ) (last : ℤ) (buffer b : List ℕ) → CanSee lim n buffer b → seen_whole lim n last ≡ true
    → (input : List ℕ) → take (length buffer) input ≡ take n buffer → shown_as form lim n last buffer ≡ printed_as form lim input
shows-whole form lim n last buffer b can whole input first =
    rw whole (ap (printed_as form lim) (sym first) ∙ cut-prints form lim (length buffer) input can.more)

-- of one that was not, nothing
pub shows_nothing : (form : Form) (lim : Limits) (n : ℕ) (last : ℤ) (buffer : List ℕ) → seen_whole lim n last ≡ false → shown_as form lim n last buffer ≡ []
shows_nothing form lim n last buffer part = rw part refl

-- a call of `read` that failed, before one byte more than an input may have was there
pub failed-shows-nothing : (form : Form) (lim : Limits) (n k : ℕ) (buffer : List ℕ) → n ≤ lim.text → shown_as form lim n (negsuc k) buffer ≡ []
failed-shows-nothing form lim n k buffer few = rw (le-ltb lim.text n few) refl

-- ---- the three ways of a program that has read

module _ (form : Form) (lim : Limits) (n : ℕ) (last : ℤ) (buffer b : List ℕ) where
  abbrev Shown : ℕ → List ℕ → Type 0
  Shown r out = (page r out ≡ put (shown_as form lim n last buffer) (page 0 b)) × Within r out

  module _ {r : ℕ} {out : List ℕ} (e : page r out ≡ put (printed_as form lim (take n buffer)) (page 0 b)) (within : Within r out) where
    pub too_long : lim.text < n → Shown r out
    too_long more = (rw (lt-ltb lim.text n more) e, within)

    pub to_its_end : n ≤ lim.text → {told : Bool} → told ≡ end_told last → told ≡ true → Shown r out
    to_its_end few asked was-told = (rw (le-ltb lim.text n few, sym asked ∙ was-told) e, within)

  pub not-to_its_end : n ≤ lim.text → {told : Bool} → told ≡ end_told last → told ≡ false → Shown 0 b
  unfolding put
  not-to_its_end few asked not-told = (rw (le-ltb lim.text n few, sym asked ∙ not-told) refl, record { low = omega arith; long = refl })

-- 20,544 bytes are room for any report
pub report-room : {n : ℕ} → 20544 ≤ n → report_size narrow ≤ n
unfolding report_size
report-room h = omega arith
