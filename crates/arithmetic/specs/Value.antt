-- The natural number that a pair of 64-bit words stands for. Definitions only.
use Rattle.std.specs.Prelude.{ℕ, ◌+◌, ◌*◌, ◌^◌}
use Rattle.arithmetic.specs.declared.wide.Wide.{Wide}

abbrev pub value : Wide → ℕ
value w = w.hi * 2 ^ 64 + w.lo
