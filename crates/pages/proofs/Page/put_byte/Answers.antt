-- `pages::Page::put_byte` meets its contract: one byte stored is one byte put. Assumes nothing.
use Rattle.pages.proofs.Putting.{put_byte}
use Rattle.pages.proofs.Page.put_byte.Goals as goal

pub returns-clause-bytes : goal.returns-clause-bytes
returns-clause-bytes c = search put_byte
