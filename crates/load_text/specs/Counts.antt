-- The counts of the load's records, document 02: "altitude −500 to 3,000 m, temperature −40 to 50 °C, measured pressure 600 to 1,100 hPa, humidity 0 to
-- 100, each the low end plus the output's remainder by the number of thousandths in the range, both ends counted. The fifth, if odd, leaves out humidity".
-- A count is one of thousandths. Definitions only.
use Rattle.std.specs.Prelude.{ℕ, ◌+◌, ◌*◌, ◌%◌, ℤ, pos, ◌+ℤ◌, neg_ℤ, ◌==◌}
use Rattle.load_text.specs.declared.counts.LoadCounts.{LoadCounts}
use Rattle.load_text.specs.declared.counts.Drawn.{Drawn}
use Rattle.load_text.specs.SplitMix.{advanced, mixed, output}

-- the low end plus the remainder of an output x by the number of counts in the range
abbrev pub count_in : ℤ → ℕ → ℕ → ℤ
count_in low range x = low +ℤ pos (x % range)

-- ---- of five outputs, as they serve the fields; the fifth, if odd, leaves out humidity
unfoldable pub counts_of : ℕ → ℕ → ℕ → ℕ → ℕ → LoadCounts
counts_of a t p h dry =
    record {
      altitude = count_in (neg_ℤ (pos 500_000)) 3_500_001 a;
      temperature = count_in (neg_ℤ (pos 40_000)) 90_001 t;
      pressure = count_in (pos 600_000) 500_001 p;
      humidity = count_in (pos 0) 100_001 h;
      humid = (dry % 2 == 0);
    }

-- ---- record n, counted from 0: five outputs make one record
unfoldable pub load_counts : ℕ → LoadCounts
load_counts n = counts_of (output (5 * n)) (output (5 * n + 1)) (output (5 * n + 2)) (output (5 * n + 3)) (output (5 * n + 4))

-- the next five outputs from a state, and the state after them
unfoldable pub drawn : ℕ → Drawn
drawn s =
    let a = advanced s in
    let t = advanced a in
    let p = advanced t in
    let h = advanced p in
    let dry = advanced h in
    record { counts = counts_of (mixed a) (mixed t) (mixed p) (mixed h) (mixed dry); state = dry }
