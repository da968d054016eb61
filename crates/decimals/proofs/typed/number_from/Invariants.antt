-- The value with the digits that follow spells the number of all, counted up to the limit.
use Rattle.std.proofs.Common.{◌≡◌, ◌≤◌, min, drop}
use Rattle.decimals.specs.Typed.{number_from}
use Rattle.decimals.proofs.typed.number_from.Given as goal

abbrev pub invariant-loop-byte : goal.invariant-loop-byte
invariant-loop-byte l =
    (l.value ≤ 4294967296) × (min (number_from l.value (drop l.byte-index l.digits)) 4294967296 ≡ min (number_from l.number l.digits) 4294967296)
