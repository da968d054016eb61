-- The sample reports, by computing each. Assumes nothing.
use Rattle.arithmetic.proofs.Kit.{refl, of_bits, to_bits, of_int, neg, lt, le, is_nan}
use Rattle.elementary.specs.Power.{power_at}
use Rattle.elementary.specs.Exp.{exp}
use Rattle.antilog.specs.Sqrt.{sqrt}
use Rattle.decimals.specs.Decimal.{last_digits, digits_within, digits, nearest_count, count_text, decimal_text}
use Rattle.decimals.specs.Places.{in_sixteen}
use Rattle.arithmetic.specs.Doubles.{abs_double, is_finite}
use Rattle.humid_air.specs.Saturation.{saturation_pressure}
use Rattle.humid_air.specs.MoistAir.{mole_fraction, compressibility_factor, air_density_at}
use Rattle.humid_air.specs.Sound.{sound_speed}
use Rattle.atmosphere.specs.Layers.{standard_air}
use Rattle.atmosphere.specs.Altitudes.{pressure_altitude}
use Rattle.air.specs.Moist.{density_of}
use Rattle.air.specs.Station.{atmosphere}
use Rattle.air.specs.Matched.{height_of_density, density_matched_altitude, sea_level_density}
use Rattle.writer.specs.Records.{bytes, field_with, fields_from}
use Rattle.station.specs.Resolved.{ordinary}
use Rattle.station.specs.Figures.{figures_with}
use Rattle.mast.specs.Judge.{judged}
use Rattle.trim.specs.Classes.{class_densities, count_at_or_below, trim_class, class_of}
use Rattle.trim.specs.Changes.{tried}
use Rattle.trim.specs.InOrder.{changes_from, changes, first_of}
use Rattle.trim.specs.Search.{next_from, next_with, next_of}
use Rattle.pages.specs.Characters.{refusal_line, hex}
use Rattle.atmosphere.specs.Plausibility.{plausibility}
use Rattle.decimals.specs.Shown.{shown}
use Rattle.notes.specs.Given.{given_by, pressure_given}
use Rattle.notes.specs.Used.{is_temperature_default, is_pressure_default, temperature_default, pressure_default, absent_notes, used_notes}
use Rattle.notes.specs.Pressures.{is_plausible, reduced_given, meant_notes, resolved_as, unit_notes, notes_beside}
use Rattle.notes.specs.Ranges.{is_compared_temperature, is_compared_altitude, is_outside_temperatures, is_outside_altitudes, temperature_notes, altitude_notes, range_notes}
use Rattle.notes.specs.Doubts.{fraction, limit_of, are_alike, at_limit, doubt_notes}
use Rattle.notes.specs.Notes.{notes, note_lines}
use Rattle.report.specs.Fault.{first_not_finite, reading_about}
use Rattle.report.specs.Advice.{reading_line, cause_of, sender_advice, typed_advice, cause_lines, refused_lines}
use Rattle.report.specs.Columns.{column, figure_line}
use Rattle.report.specs.AirLines.{station_lines, air_lines}
use Rattle.report.specs.TrimLines.{trim_line, tenths_text, turn_line}
use Rattle.report.specs.Report.{accepted_lines, noted_lines, record_line, report_text}
use Rattle.report.proofs.Stated.{ReportSamples}

pub samples : ReportSamples
unfolding of_bits to_bits of_int neg lt le is_nan power_at exp sqrt last_digits digits_within digits nearest_count count_text decimal_text abs_double is_finite saturation_pressure mole_fraction compressibility_factor air_density_at sound_speed standard_air pressure_altitude density_of atmosphere height_of_density density_matched_altitude sea_level_density bytes field_with fields_from ordinary figures_with judged class_densities count_at_or_below trim_class class_of tried changes_from changes first_of next_from next_with next_of refusal_line hex first_not_finite reading_about reading_line cause_of sender_advice typed_advice cause_lines refused_lines column figure_line station_lines air_lines trim_line tenths_text turn_line accepted_lines shown given_by pressure_given is_temperature_default is_pressure_default temperature_default pressure_default absent_notes used_notes is_plausible reduced_given meant_notes resolved_as unit_notes notes_beside is_compared_temperature is_compared_altitude is_outside_temperatures is_outside_altitudes temperature_notes altitude_notes range_notes fraction limit_of in_sixteen are_alike at_limit doubt_notes notes note_lines plausibility noted_lines record_line report_text
samples = record { none = refl; none-typed = refl; no_pressure = refl; sea_level_lem = refl }
