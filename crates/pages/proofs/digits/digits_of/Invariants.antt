-- The places passed have their digits. Assumes nothing.
use Rattle.std.proofs.Common.{◌≡◌, ◌<◌, ℕ, ◌-◌, ◌*◌, ◌/◌, ◌%◌, ◌^◌, length, get_or}
use Rattle.pages.specs.Characters.{hex_digit}
use Rattle.pages.proofs.digits.digits_of.Given as goal

abbrev pub invariant-loop-i : goal.invariant-loop-i
invariant-loop-i l =
    record {
      sized : length l.digits ≡ 16;
      filled : (k : ℕ) → k < l.i → get_or l.digits k 0 ≡ hex_digit (l.n / 2 ^ (4 * (15 - k)) % 16);
    }
