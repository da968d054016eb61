-- The page has room for the line. Assumes nothing.
use Rattle.arithmetic.proofs.Kit.{arith, rules}
use Rattle.pages.specs.Pages.{put}
use Rattle.pages.proofs.Growing.{holds}
use Rattle.park_reply.proofs.put_cut.Goals as goal

pub returns : goal.returns
unfolding put
returns c = holds {page = c.args.page.now} (search rules) (omega (arith, c.requires))
