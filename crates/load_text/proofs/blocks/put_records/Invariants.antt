-- The records passed are on the page. Assumes nothing.
use Rattle.std.proofs.Common.{◌≡◌}
use Rattle.pages.specs.Pages.{put}
use Rattle.load_text.specs.Text.{records_text}
use Rattle.load_text.proofs.blocks.put_records.Given as goal

abbrev pub invariant-loop-i : goal.invariant-loop-i
invariant-loop-i l = l.page ≡ put l.initial.page (records_text l.first l.i)
