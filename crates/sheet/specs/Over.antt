-- A text written over a page's bytes, which else stay as they were. Definitions only.
use Rattle.std.specs.Prelude.{ℕ, List}
use Rattle.refusal.specs.Outcomes.{Outcome, accepted, refused}
use Rattle.pages.specs.declared.Page.{Page}
use Rattle.pages.specs.Pages.{placed, put}

-- from position `at` on
abbrev pub over : List ℕ → ℕ → List ℕ → List ℕ
over page at text = placed page at text

-- where the text is refused, the page is left
abbrev pub over_or_left : List ℕ → ℕ → Outcome (List ℕ) → List ℕ
over_or_left page at (accepted text) = over page at text
over_or_left page at (refused number values) = page

-- on a page that grows piece by piece
abbrev pub put_or_left : Page → Outcome (List ℕ) → Page
put_or_left page (accepted text) = put page text
put_or_left page (refused number values) = page
