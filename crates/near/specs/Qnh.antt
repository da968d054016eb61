-- The station pressure that a QNH is reduced to, in exact numbers. The relation is that of src/atmosphere.rs, `reduce_qnh_to_station_pressure`: the
-- troposphere of ICAO Doc 7488, in which the station's pressure altitude is the QNH's and the station's height. Definitions only.
use Rattle.arithmetic.specs.Fractions.{Fraction}
use Rattle.exact.specs.Exact.{Exact, ◌⊞◌, ◌⊠◌, ◌÷◌, the}
use Rattle.exact.specs.Powers.{of, positive_part, IsPower}
use Rattle.near.specs.Troposphere.{geopotential, exponent}

-- n = -L R / g
unfoldable pub setting_exponent : Exact
setting_exponent = the "0.0065" ⊠ the "287.0531" ÷ the "9.80665"

-- P0 / QNH, in hPa
unfoldable pub setting : Exact → Exact
setting qnh = the "1013.25" ÷ qnh

-- 1 + (L H / T0) s, at the geometric altitude h, where s stands for (P0 / QNH) ^ n
unfoldable pub reduced_ratio : Exact → Fraction → Exact
reduced_ratio h s = the "1" ⊞ the "-0.0065" ⊠ geopotential h ÷ the "288.15" ⊠ of s

-- fractions that stand for the two powers, (P0 / QNH) ^ n and (1 + (L H / T0) (P0 / QNH) ^ n) ^ (1 / n)
pub record Reduction (qnh h : Exact) : Type 0 where
  pub inner : Fraction
  pub is_inner : IsPower (positive_part (setting qnh)) setting_exponent inner
  pub outer : Fraction
  pub is_outer : IsPower (positive_part (reduced_ratio h inner)) exponent outer

-- station = QNH (1 + (L H / T0) (P0 / QNH) ^ n) ^ (1 / n), in hPa
abbrev pub station_hpa : {qnh h : Exact} → Reduction qnh h → Exact
station_hpa {qnh} r = qnh ⊠ of r.outer
