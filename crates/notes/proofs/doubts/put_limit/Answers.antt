use Rattle.notes.proofs.Printed.{and_put}
use Rattle.notes.proofs.doubts.put_limit.Goals as goal

pub returns-then-are_alike : goal.returns-then-are_alike
returns-then-are_alike c =
    let e = c.in-Some.ensures in
    rw (← e.1, e.0, ← c.are_alike.ensures, c.if-are_alike.true)
    (and_put _ _ _ (and_put _ _ _ c.put_figured.ensures c.put_number.ensures) c.put.ensures.put)
