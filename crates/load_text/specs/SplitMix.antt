-- SplitMix64 from state 0, document 02: "the state grows by 9E3779B97F4A7C15 hex, modulo 2^64. Output: z, the grown state, becomes z xor z >> 30, times
-- BF58476D1CE4E5B9 hex; xor itself >> 27, times 94D049BB133111EB hex; xor itself >> 31, all modulo 2^64". Definitions only.
use Rattle.std.specs.Prelude.{ℕ, zero, suc, ◌+◌, ◌*◌, ◌/◌, ◌%◌, ◌^◌, bit_xor}

-- ---- the state, and that after n outputs
abbrev pub advanced : ℕ → ℕ
advanced s = (s + 0x9E3779B97F4A7C15) % 2 ^ 64

unfoldable pub state_after : ℕ → ℕ
state_after zero = 0
state_after (suc n) = advanced (state_after n)

-- ---- the output
-- z xor z >> k
abbrev pub xor_shifted : ℕ → ℕ → ℕ
xor_shifted k z = bit_xor z (z / 2 ^ k)

unfoldable pub mixed : ℕ → ℕ
mixed z =
    let first = xor_shifted 30 z * 0xBF58476D1CE4E5B9 % 2 ^ 64 in
    let second = xor_shifted 27 first * 0x94D049BB133111EB % 2 ^ 64 in
    xor_shifted 31 second

-- output n, counted from 0
abbrev pub output : ℕ → ℕ
output n = mixed (state_after (suc n))
