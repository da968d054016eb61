-- Every count lies in its range: a low end and what is less than the number of counts from it on. Assumes nothing.
use Rattle.load_text.proofs.Kit.{◌≡◌, refl, Bool, true, false, cond, ℕ, suc, ◌+◌, ◌-◌, ◌*◌, ◌%◌, ◌≤◌, arith, ltb, le→leb, pos, negsuc, ◌+ℤ◌, output, counts_of, load_counts, CountBetween}
use Rattle.load_text.proofs.Stated.{InRanges}

-- r counts above the low end
below-zero : (a r high : ℕ) → r ≤ suc a + high → CountBetween (negsuc a) (pos high) (negsuc a +ℤ pos r)
below-zero a r high h = go (ltb r (suc a)) refl
  where
    go : (b : Bool) → ltb r (suc a) ≡ b → CountBetween (negsuc a) (pos high) (cond b (negsuc (suc a - suc r)) (pos (r - suc a)))
    go true e = record { from = record { le = le→leb (suc a - suc r) a (omega arith) }; to = record { le = tt } }
    go false e = record { from = record { le = tt }; to = record { le = le→leb (r - suc a) high (omega arith) } }

from_zero : (a r high : ℕ) → a + r ≤ high → CountBetween (pos a) (pos high) (pos a +ℤ pos r)
from_zero a r high h = record { from = record { le = le→leb a (a + r) (omega arith) }; to = record { le = le→leb (a + r) high h } }

pub in_ranges : (n : ℕ) → InRanges (load_counts n)
unfolding load_counts counts_of
in_ranges n =
    let altitude : output (5 * n) % 3_500_001 ≤ 500_000 + 3_000_000 = omega arith in
    let temperature : output (5 * n + 1) % 90_001 ≤ 40_000 + 50_000 = omega arith in
    let pressure : 600_000 + output (5 * n + 2) % 500_001 ≤ 1_100_000 = omega arith in
    let humidity : 0 + output (5 * n + 3) % 100_001 ≤ 100_000 = omega arith in
    record {
      altitude = below-zero 499_999 _ _ altitude;
      temperature = below-zero 39_999 _ _ temperature;
      pressure = from_zero 600_000 _ _ pressure;
      humidity = from_zero 0 _ _ humidity;
    }
