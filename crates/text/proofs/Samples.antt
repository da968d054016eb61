-- Document 01's samples, by computing the text of each answer. Assumes nothing.
use Rattle.arithmetic.proofs.Kit.{refl, of_bits, to_bits, le, is_nan}
use Rattle.elementary.specs.Power.{power_at}
use Rattle.elementary.specs.Exp.{exp}
use Rattle.antilog.specs.Sqrt.{sqrt}
use Rattle.arithmetic.specs.Doubles.{abs_double, is_finite}
use Rattle.humid_air.specs.Saturation.{saturation_pressure}
use Rattle.humid_air.specs.MoistAir.{mole_fraction, compressibility_factor, air_density_at}
use Rattle.humid_air.specs.Sound.{sound_speed}
use Rattle.atmosphere.specs.Layers.{standard_air}
use Rattle.atmosphere.specs.Altitudes.{pressure_altitude}
use Rattle.air.specs.Moist.{density_of}
use Rattle.air.specs.Station.{atmosphere}
use Rattle.air.specs.Matched.{height_of_density, density_matched_altitude, sea_level_density}
use Rattle.fields.specs.Bytes.{number_at}
use Rattle.fields.specs.Fields.{field, head_rows, heads_from}
use Rattle.station.specs.Resolved.{ordinary}
use Rattle.station.specs.Figures.{figures_with}
use Rattle.mast.specs.Judge.{judged, judge}
use Rattle.pages.specs.Characters.{refusal_line, hex_digits}
use Rattle.text.specs.Lines.{station_line, air_line}
use Rattle.text.proofs.Stated.{AnswerSamples}

pub samples : AnswerSamples
unfolding of_bits to_bits le is_nan is_finite abs_double power_at exp sqrt standard_air saturation_pressure mole_fraction compressibility_factor air_density_at sound_speed density_of atmosphere pressure_altitude height_of_density density_matched_altitude sea_level_density number_at field head_rows heads_from ordinary figures_with judged judge hex_digits station_line air_line refusal_line
samples = record { unknown_tag = refl; cut = refl; empty = refl; sea_level_lem = refl; sea_level-end = refl; hot = refl }
