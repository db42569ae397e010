-- `pages::Page::put_number`: the measure is the number.
use Rattle.pages.proofs.Page.+put_number.Given as goal

abbrev pub decreases-put_number : goal.decreases-put_number
decreases-put_number l = l.n
