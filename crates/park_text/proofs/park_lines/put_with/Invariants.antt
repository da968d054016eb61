-- The bytes passed are on the page. Assumes nothing.
use Rattle.std.proofs.Common.{◌≡◌, take}
use Rattle.pages.specs.Pages.{put}
use Rattle.park_text.specs.ParkLines.{typed_with}
use Rattle.park_text.proofs.park_lines.put_with.Given as goal

abbrev pub invariant-loop-byte : goal.invariant-loop-byte
invariant-loop-byte l = l.page ≡ put l.initial.page (typed_with l.old l.new (take l.byte-index l.word))
