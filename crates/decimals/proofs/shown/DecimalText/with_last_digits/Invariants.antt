-- The digits of the turns passed stand before the text.
use Rattle.std.proofs.Common.{◌≡◌, ◌/◌, ◌^◌}
use Rattle.decimals.specs.Decimal.{last_digits}
use Rattle.decimals.specs.Places.{Before}
use Rattle.decimals.proofs.shown.DecimalText.with_last_digits.Given as goal

abbrev pub invariant-loop : goal.invariant-loop
invariant-loop l = (l.rest ≡ l.n / 10 ^ l.counter) × Before l.initial.longer (last_digits l.counter l.n) l.longer
