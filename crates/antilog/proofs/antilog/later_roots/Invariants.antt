-- y is what the bits below the place make of it, and the rest are the bits from there on
use Rattle.std.proofs.Common.{◌≡◌, ℕ, ◌-◌, ◌/◌, ◌%◌, ◌^◌, ◌<◌}
use Rattle.antilog.specs.Antilog.{later_roots}
use Rattle.antilog.proofs.antilog.later_roots.Given as goal

pub record Taken (start first bits y rest place : ℕ) : Type 0 where
  pub fits : y < 2 ^ 64
  pub left : rest ≡ bits / 2 ^ (place - first)
  pub so_far : y ≡ later_roots (place - first) start (bits % 2 ^ (place - first))

abbrev pub invariant-loop : goal.invariant-loop
invariant-loop l = Taken l.start l.first l.bits l.y l.rest l.counter
