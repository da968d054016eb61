-- the bits so far, followed by those of the mantissa's remaining places, are the bits of m, and the mantissa is one
use Rattle.std.proofs.Common.{◌≡◌, ℕ, ◌+◌, ◌-◌, ◌*◌, ◌^◌, ◌≤◌}
use Rattle.arithmetic.specs.Places.{places}
use Rattle.antilog.specs.Log.{log_bits}
use Rattle.antilog.proofs.Range.{Mantissa}
use Rattle.elementary.proofs.log.log_bits.Given as goal

pub record Found (m mantissa bits left : ℕ) : Type 0 where
  pub is_mantissa : Mantissa mantissa
  pub short : (bits + 1) * 2 ^ left ≤ 2 ^ places
  pub followed : bits * 2 ^ left + log_bits left mantissa ≡ log_bits places m

abbrev pub invariant-loop : goal.invariant-loop
invariant-loop l = Found l.m l.mantissa l.bits (places - l.counter)
