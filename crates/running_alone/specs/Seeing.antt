-- A program sees its input through a buffer: what it must see, and what it then shows. Assumes nothing.
use Rattle.std.specs.Prelude.{ℕ, ◌≤◌, ◌<◌, ◌≡◌, Bool, false, cond, ◌||◌, List, [], ℤ, pos, negsuc, length, take, eqb, ltb}
use Rattle.written.specs.declared.Form.{Form}
use Rattle.written.specs.declared.Form.TheVariants.{Own}
use Rattle.written.specs.Limits.{Limits}
use Rattle.written.specs.Program.{printed_as, report_size}

-- n bytes of a buffer in which one more than an input may have has room, and room for any report
pub record CanSee (lim : Limits) (n : ℕ) (buffer out : List ℕ) : Type 0 where
  pub within : n ≤ length buffer
  pub more : lim.text < length buffer
  pub room : report_size lim ≤ length out

-- as many bytes as a buffer has, so that they can be lent as its first part
pub record Within (r : ℕ) (out : List ℕ) : Type 0 where
  pub low : r ≤ length out
  pub long : r ≡ length (take r out)

-- what `read` tells by its answer, asked to fill some room: more than 0 goes on, 0 is the end, less than 0 is a failure
abbrev pub end_told : ℤ → Bool
end_told (pos n) = eqb n 0
end_told (negsuc n) = false

-- n bytes are enough to go by: one more than an input may have, or all, since the last answer told the end
abbrev pub seen_whole : Limits → ℕ → ℤ → Bool
seen_whole lim n last = ltb lim.text n || end_told last

-- what is shown for n bytes of a buffer: nothing of an input that was not seen whole
abbrev pub shown_as : Form → Limits → ℕ → ℤ → List ℕ → List ℕ
shown_as form lim n last buffer = cond (seen_whole lim n last) (printed_as form lim (take n buffer)) []

-- of our own text
abbrev pub shown_of : Limits → ℕ → ℤ → List ℕ → List ℕ
shown_of lim n last buffer = shown_as Own lim n last buffer
