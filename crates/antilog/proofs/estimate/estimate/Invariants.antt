-- the excess is that of the bits from digit j on
use Rattle.std.proofs.Common.{◌≡◌, ◌-◌}
use Rattle.antilog.specs.Estimate.{excess_from}
use Rattle.antilog.proofs.estimate.estimate.Given as goal

abbrev pub invariant-loop-j : goal.invariant-loop-j
invariant-loop-j l = l.more ≡ excess_from (8 - l.j) l.j l.part
