-- The speed of sound in moist air as an ideal gas in exact numbers, by the formula of src/atmosphere.rs, which names no document for it: c^2 = γ R T, with
-- γ = 1.4 (1 - 0.062 x_v) and R = R_d (1 + 0.378 x_v). Definitions only.
use Rattle.exact.specs.Exact.{Exact, ◌⊞◌, ◌⊟◌, ◌⊠◌, the}

-- c^2 in m² s^-2, T in K
unfoldable pub squared_speed : Exact → Exact → Exact
squared_speed T x = the "1.4" ⊠ (the "1" ⊟ x ⊠ the "0.062") ⊠ (the "287.0531" ⊠ (the "1" ⊞ the "0.378" ⊠ x)) ⊠ T
