-- `pages::Page::put_all` meets its contract: the bytes that are left make the whole. Assumes nothing.
use mathlib.Core.Path.{refl, ◌∙◌}
use mathlib.Core.List.{[]}
use lib.ListN.{drop_of_length-le}
use Rattle.pages.proofs.Pieces.{begun, first_fits, onward, split, next-byte, over}
use Rattle.pages.proofs.Page.put_all.Goals as goal

pub loop-b-init : goal.loop-b-init
loop-b-init c = (begun _ [] _ c.requires, refl)

pub put_byte-requires : goal.put_byte-requires
put_byte-requires c = first_fits (split _ _ (next-byte _ _ c.loop-b-test.true) c.loop-b.invariant.0)

pub loop-b-preserved : goal.loop-b-preserved
loop-b-preserved c =
    let inv = c.loop-b.invariant in
    (onward (split _ _ (next-byte _ _ c.loop-b-test.true) inv.0) c.put_byte.ensures.bytes, c.put_byte.ensures.same_buffer ∙ inv.1)

pub returns-clause-bytes : goal.returns-clause-bytes
returns-clause-bytes c = over (drop_of_length-le _ c.loop-b-test.false) c.loop-b.invariant.0
