-- Tests in one row, `a && b && ..`, as the code makes them: the next only where those before it hold. Assumes nothing.
use mathlib.Core.Path.{◌≡◌, refl, sym, ◌∙◌}
use mathlib.Core.Bool.{Bool, true, false, ◌&&◌}

-- how the test q was joined to the tests before it, which came to p; together they came to r
pub data Joined (p q r : Bool) : Type 0 where
  went-on : p ≡ true → r ≡ q → Joined p q r
  stopped : p ≡ false → r ≡ p → Joined p q r

pub next : {p row q r : Bool} → p ≡ row → Joined p q r → r ≡ (row && q)
next e (went-on h f) = rw (sym e ∙ h) f
next e (stopped h f) = f ∙ h ∙ rw (sym e ∙ h) refl
