-- The lines of the words that are left complete the page. Assumes nothing.
use Rattle.std.proofs.Common.{◌≡◌}
use Rattle.pages.specs.Pages.{put}
use Rattle.park_text.specs.Words.{words_left}
use Rattle.park_text.specs.ParkText.{unit_lines}
use Rattle.park_text.proofs.put_unit_lines.Given as goal

abbrev pub invariant-loop-word : goal.invariant-loop-word
invariant-loop-word l = put l.page (unit_lines (words_left l.word-iterator)) ≡ put l.initial.page (unit_lines (words_left l.words))
