-- What the page has room for is copied behind the text. Assumes nothing.
use Rattle.arithmetic.proofs.Kit.{arith}
use Rattle.pages.proofs.Growing.{full, put_part}
use Rattle.pages.proofs.Putting.{put_of}
use Rattle.pages.proofs.Page.put.Goals as goal

pub returns-then-self-clause-put : goal.returns-then-self-clause-put
returns-then-self-clause-put c = put_of c.args.self.now (full _ _ _ (omega arith))

pub returns-clause-put : goal.returns-clause-put
returns-clause-put c = let p = c.args.self.now in put_of p (put_part p.bytes.now p.at c.args.piece.now (omega arith) c.fitting-fitting.ensures c.copy_from_slice.ensures.after)
