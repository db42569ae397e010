-- `reading_draft::draft` meets its contract: what is drawn of a text of either form is its reading, laid in the tables. Assumes nothing.
use mathlib.Core.Path.{refl}
use native.Mathlib.Omega.{arith}
use Rattle.written.specs.Limits.{narrow}
use Rattle.names.specs.Finding.{homes}
use Rattle.reading_end.proofs.Drawn.{drawn_laying}
use Rattle.reading_draft.proofs.Numbers.{numbers_laying}
use Rattle.reading_draft.proofs.draft.Goals as goal

pub returns-in-Own : goal.returns-in-Own
returns-in-Own c =
    rw c.in-Own.is
    (drawn_laying homes narrow (omega arith) _ _ c.requires _
    (record {
      names-long = c.draft.auto.names;
      starts-long = c.draft.auto.starts;
      literals-long = c.draft.auto.literals;
      stamps-long = c.draft.auto.stamps;
      slots-long = c.draft.auto.slots;
    })
    c.draft.result c.draft.ensures)

pub returns-in-Numbered : goal.returns-in-Numbered
returns-in-Numbered c =
    rw c.in-Numbered.is
    (numbers_laying narrow _ _ c.requires _ _
    (record {
      names-long = c.draft-in-Numbered.auto.names;
      starts-long = c.draft-in-Numbered.auto.starts;
      literals-long = c.draft-in-Numbered.auto.literals;
      stamps-long = c.draft-in-Numbered.auto.stamps;
      slots-long = refl;
    })
    c.draft-in-Numbered.result c.draft-in-Numbered.ensures)
