-- The rows passed are on the page.
use Rattle.std.proofs.Common.{◌≡◌}
use Rattle.pages.specs.Pages.{put}
use Rattle.sheet_text.specs.Lines.{row_lines}
use Rattle.sheet_text.proofs.sheet_lines.put_rows.Given as goal

abbrev pub invariant-loop-n : goal.invariant-loop-n
invariant-loop-n l = l.page ≡ put l.initial.page (row_lines l.site l.rows l.n)
