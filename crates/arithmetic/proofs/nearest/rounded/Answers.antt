use Rattle.arithmetic.proofs.Kit.{◌^◌, ◌≤◌, arith, pow_mono}
use Rattle.arithmetic.proofs.Closest.{closest_none}
use Rattle.arithmetic.proofs.nearest.rounded.Goals as goal

pub returns-then-d-gt64 : goal.returns-then-d-gt64
returns-then-d-gt64 c =
    let l : 2 ^ 65 ≤ 2 ^ c.args.d = pow_mono c.if-d-gt64.true in
    closest_none c.args.y (2 ^ c.args.d) (omega arith) (omega arith)
