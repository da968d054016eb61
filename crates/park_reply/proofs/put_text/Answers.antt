-- The page has room for every text. Assumes nothing.
use Rattle.arithmetic.proofs.Kit.{arith, rules}
use Rattle.pages.specs.Pages.{put}
use Rattle.pages.proofs.Growing.{holds}
use Rattle.park_text.specs.Words.{arguments}
use Rattle.park_text.proofs.Short.{has_room}
use Rattle.park_reply.proofs.put_text.Goals as goal

pub returns : goal.returns
unfolding put
returns c = holds {page = c.args.page.now} (search rules) (omega (arith, has_room (arguments c.args.text.now), c.requires))
