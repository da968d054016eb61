-- The digits of the bytes passed are on the page. Assumes nothing.
use Rattle.std.proofs.Common.{◌≡◌, take}
use Rattle.pages.specs.Characters.{hex}
use Rattle.pages.specs.Pages.{put}
use Rattle.pages.proofs.Page.put_hex.Given as goal

abbrev pub invariant-loop-byte : goal.invariant-loop-byte
invariant-loop-byte l = l.self ≡ put l.initial.self (hex (take l.byte-index l.bytes))
