-- `scan::in_numbers` meets its contract: each number is its function's. Assumes nothing.
use Rattle.scan.specs.Scan.{told_of}
use Rattle.scan.proofs.in_numbers.Goals as goal

pub returns : goal.returns
unfolding told_of
returns c =
    rw (
      c.kind.ensures,
      c.reason.ensures,
      c.line.ensures,
      c.name.ensures,
      c.sign.ensures,
    )
