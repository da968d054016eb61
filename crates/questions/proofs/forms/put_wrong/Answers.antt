-- The pieces one after the other. Assumes nothing.
use Rattle.arithmetic.specs.Ascii.{ascii}
use Rattle.questions.specs.Forms.{kind_texts, wrong_line}
use Rattle.questions.proofs.Shapes.{four}
use Rattle.questions.proofs.forms.put_wrong.Goals as goal

pub returns-clause-put : goal.returns-clause-put
unfolding wrong_line
returns-clause-put c =
    rw (c.put-3.ensures.put, c.put_kinds.ensures, c.put-2.ensures.put, c.put.ensures.put)
    (four c.args.page.now (ascii "wrong arguments: expected ") c.args.name.now (kind_texts c.args.shape.now) (ascii "\n"))
