-- The saturation pressure of water vapour over liquid water in exact numbers: IAPWS SR1-86(1992), "Revised Supplementary Release on Saturation Properties of
-- Ordinary Water Substance", equation (1), with the coefficients that stand below it:
--     ln(p / p_c) = (T_c / T) (a1 τ + a2 τ^1.5 + a3 τ^3 + a4 τ^3.5 + a5 τ^4 + a6 τ^7.5),  τ = 1 - T / T_c.
-- √τ, e and the power of e are no fractions: fractions stand for them, as near as one likes, and what is promised holds for all of them. Definitions only.
use Rattle.std.specs.Prelude.{◌<◌}
use Rattle.arithmetic.specs.Fractions.{Fraction, ◌is_at_most◌, ◌to_the◌}
use Rattle.exact.specs.FunctionsNear.{e_below, e_above}
use Rattle.exact.specs.Exact.{Exact, ◌⊞◌, ◌⊟◌, ◌⊠◌, ◌÷◌, the}
use Rattle.exact.specs.Powers.{of, IsRoot, IsPower}

-- τ, T in K
unfoldable pub reduced : Exact → Exact
reduced T = the "1" ⊟ T ÷ the "647.096"

-- ln(p / p_c), where k is the root of τ
unfoldable pub exact_log_ratio : Exact → Fraction → Exact
exact_log_ratio T k =
    the "647.096" ÷ T
    ⊠ (the "-7.85951783" ⊠ reduced T ⊞ the "1.84408259" ⊠ of (k to_the 3) ⊞ the "-11.7866497" ⊠ of (k to_the 6) ⊞ the "22.6807411" ⊠ of (k to_the 7) ⊞ the "-15.9618719" ⊠ of (k to_the 8) ⊞ the "1.80122502" ⊠ of (k to_the 15))

-- p / p_c at T, with the fractions that stand for √τ, e and the power of e
pub record Saturation (T : Exact) : Type 0 where
  pub root : Fraction
  pub is_root : IsRoot root (reduced T)
  pub e : Fraction
  pub e_proper : 0 < e.under
  pub e_least : e_below is_at_most e
  pub e_most : e is_at_most e_above
  pub ratio : Fraction
  pub is_ratio : IsPower e (exact_log_ratio T root) ratio

-- p in hPa, with p_c = 22.064 MPa
abbrev pub exact_saturation : {T : Exact} → Saturation T → Exact
exact_saturation s = the "220640" ⊠ of s.ratio
