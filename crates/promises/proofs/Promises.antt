-- The proof of the page: each promise by its proof below. Assumes nothing.
use Rattle.std.specs.Prelude.{Some}
use Rattle.arithmetic.proofs.Kit.{◌≡◌, refl, ap, ◌∙◌, T, lit≤, true, false, zero, suc, ◌≤ℤ◌, Float, nan, inf, fin, of_bits, fits, le, lt, positive}
use Rattle.antilog.specs.Log.{log_word}
use Rattle.arithmetic.specs.Places.{places}
use Rattle.atmosphere.specs.declared.given.Reading.{Reading}
use Rattle.atmosphere.specs.declared.given.Reading.TheVariants.{Given, FromLayer}
use Rattle.promises.specs.Promises.{IsDouble, IsRead, Asked, Warmed, Document01, Demand3, K1, K2, K4, K5, K6, K7, K8, K9, K10, K13, K14, Near, AltitudesNear, AtThePark, Promises, K3, K11, Reports, Arrays, Decimals}
use Rattle.notes.specs.Notes.{notes, note_lines}
use Rattle.notes.proofs.Exactly as exactly
use Rattle.density_altitude.specs.Inverse.{station}
use Rattle.density_order.specs.Order.{Demand₃}
use Rattle.density_order.specs.Warmer.{InBetween}
use Rattle.density_order.proofs.Spread.{ReadingFits}
use Rattle.proved_cases.proofs.Cases as cases
use Rattle.proved_cases.proofs.AcceptedAt as at
use Rattle.arithmetic.specs.Decimals.{decimal}
use Rattle.mast.proofs.Causes as mast
use Rattle.mast.proofs.Records as records
use Rattle.mast.proofs.Dry as dry
use Rattle.air.proofs.Overrides as overrides
use Rattle.mast.proofs.Humidity as humidity
use Rattle.density_order.proofs.Accepted as inverse
use Rattle.density_order.proofs.Demand as order
use Rattle.density_order.proofs.Warmer as warmth
use Rattle.density_order.proofs.Rejected as wrong
use Rattle.sheet.proofs.GoodSheet as good
use Rattle.sheet.proofs.RefusedSheet as refused
use Rattle.atmosphere.proofs.LayerNumber as layers
use Rattle.atmosphere.specs.Layers.{layer_at}
use Rattle.record_laws.proofs.Strict as strict
use Rattle.record_laws.proofs.Converted as converted
use Rattle.writer.proofs.ReadBack as writer
use Rattle.exports.proofs.ReadWritten as interface
use Rattle.writer.proofs.ComesBack as back
use Rattle.writer.proofs.OnlyToCounts as counts
use Rattle.thousandths.proofs.Laws as thousandths
use Rattle.thousandths.proofs.Words as words
use Rattle.load_text.proofs.Outputs as outputs
use Rattle.load_text.proofs.Stepping as stepping
use Rattle.load_text.proofs.Every as load
use Rattle.vote.proofs.Laws as vote
use Rattle.vote.specs.Vote.{by_no_mast, after_mast}
use Rattle.refusal.specs.Outcomes.{Outcome, accepted}
use Rattle.refusal.specs.declared.judge.Figures.{Figures}
use Rattle.antilog.specs.Sqrt.{sqrt}
use Rattle.vote.proofs.ByMeaning as middle
use Rattle.trim.proofs.Answer as trim
use Rattle.trim.proofs.Places as places
use Rattle.antilog.proofs.Ordered as ordered
use Rattle.elementary.proofs.Rises as rises
use Rattle.elementary.proofs.ExpRises as exps
use Rattle.roots.proofs.Entry as entry
use Rattle.antilog.proofs.HowNear as near
use Rattle.exact.proofs.FunctionsNear as functions
use Rattle.park_text.proofs.Tied as tied
use Rattle.park_text.proofs.Kept as kept
use Rattle.antilog.proofs.NearestRoot as root
use Rattle.text.proofs.Samples as text
use Rattle.decimals.proofs.Samples as rounded
use Rattle.report.proofs.Samples as report
use Rattle.promises.proofs.Computed as computed
use Rattle.arithmetic.proofs.Decimals as decimal-texts
use Rattle.sheet.proofs.OfRecord as of_record
use Rattle.record_laws.proofs.Pressures as pressures
use Rattle.record_laws.proofs.Moisture as moisture
use Rattle.record_laws.proofs.Named as named
use Rattle.record.specs.Entries.{entry_of}
use Rattle.fields.specs.Fields.{altitude}
use Rattle.writer.specs.Records.{record_of}
use Rattle.mast.proofs.Order as checks
use Rattle.sheet.proofs.Causes as sheets
use Rattle.writer.proofs.Causes as written
use Rattle.writer.proofs.ConversionCauses as conversions
use Rattle.arithmetic.proofs.OfThree as three
use Rattle.vote.proofs.Causes as votes
use Rattle.trim.proofs.Causes as classes
use Rattle.near.proofs.Density as densities
use Rattle.near.proofs.Sound as sound
use Rattle.near.proofs.Pressure as saturation
use Rattle.near.proofs.Exists as exists
use Rattle.near.proofs.Records as near-records
use Rattle.near.proofs.Paper as paper
use Rattle.near.proofs.Rises as sound-rises
use Rattle.near.proofs.StandardNear as standard
use Rattle.near.proofs.QnhNear as reduced
use Rattle.near.proofs.PressureAltitudeNear as of-pressure
use Rattle.near.proofs.DensityAltitudeNear as of-density
use Rattle.near.proofs.RecordNear as altitudes-of-records
use Rattle.near.proofs.Falls as falls
use Rattle.near.proofs.Sheets as near-sheets
use Rattle.antilog.proofs.NearestRoot.{NearestRoot}

nearest_root_lem : (x : Float) → IsDouble x → T (positive x) → NearestRoot x (sqrt x)
nearest_root_lem (fin false (suc m) e) f g = root.sqrt-nearest m e f
nearest_root_lem nan f g = absurd g
nearest_root_lem (inf s) f g = absurd g
nearest_root_lem (fin true m e) f g = absurd g
nearest_root_lem (fin false zero e) f g = absurd g

document_01 : Document01
document_01 = record {
  cases = cases.cases_hold;
  not_refused_always = cases.rejects_refusal_always;
  record_caused = mast.caused;
  inverse_caused = inverse.caused places;
  of_readings = strict.of-readings;
  field_order = (checks.order-of-checks).fields;
  order_without_06 = (checks.order-of-checks).without_06;
  order_with_06 = (checks.order-of-checks).with_06;
  first_bytes = records.first-bytes-judged;
  any_order = records.any_order;
  nothing_after = records.nothing-after-judged;
  cut_record = (text.samples).cut;
  empty_record = (text.samples).empty;
  sea_level = (text.samples).sea_level_lem;
  too_hot = (text.samples).hot;
  sqrt_nearest_below = λ x f g. (nearest_root_lem x f g).lower_is_farther;
  sqrt_nearest_above = λ x f g. (nearest_root_lem x f g).higher_is_farther;
  exponents_whole = computed.exponents-whole;
  same_air = overrides.same-air places;
  not_14_with_06 = dry.not_with_06;
}

read : (t : Reading) → IsRead t → ReadingFits t
read (Given t) f = f
read FromLayer f = tt

demand : (t : Reading) (d₁ d d₂ : Float) → Asked t d₁ d d₂ → Demand₃ t d₁ d₂ (station places d₁ t) (station places d t) (station places d₂ t)
demand t d₁ d d₂ a = order.demand places (lit≤ tt) (lit≤ tt) t (read t a.given) d₁ d₂ a.doubles.0 a.doubles.1.1 a.first a.last d a.doubles.1.0 a.from a.to

asked-of-one : Asked (Given (decimal "15")) (decimal "0") (decimal "0") (decimal "0")
unfolding of_bits fits le
asked-of-one = record { given = tt; doubles = (tt, (tt, tt)); from = tt; to = tt; first = at.sea_level-at_15; last = at.sea_level-at_15 }

asked_with_none : Asked FromLayer (decimal "-5e62") (decimal "0") (decimal "44283")
unfolding of_bits fits le
asked_with_none = record { given = tt; doubles = (tt, (tt, tt)); from = tt; to = tt; first = at.lowest; last = at.highest }

asked_with_one : Asked (Given (decimal "15")) (decimal "-6e62") (decimal "0") (decimal "54852")
unfolding of_bits fits le
asked_with_one = record { given = tt; doubles = (tt, (tt, tt)); from = tt; to = tt; first = at.lowest-at_15; last = at.highest-at_15 }

demand_3 : Demand3
demand_3 = record {
  asked_of_one = asked-of-one;
  asked_with_none = asked_with_none;
  asked_with_one = asked_with_one;
  accepted = λ t d₁ d d₂ a. (demand t d₁ d d₂ a).accepted;
  altitude_to_d = λ t d₁ d d₂ a. (demand t d₁ d d₂ a).lower.altitudes;
  altitude_from_d = λ t d₁ d d₂ a. (demand t d₁ d d₂ a).upper.altitudes;
  pressure_to_d = λ t d₁ d d₂ a. (demand t d₁ d d₂ a).lower.pressures;
  pressure_from_d = λ t d₁ d d₂ a. (demand t d₁ d d₂ a).upper.pressures;
  temperature_to_d = λ d₁ d d₂ a. (demand FromLayer d₁ d d₂ a).lower.temperatures tt;
  temperature_from_d = λ d₁ d d₂ a. (demand FromLayer d₁ d d₂ a).upper.temperatures tt;
  altitude_strictly = λ t d₁ d d₂ a r₁ r₂ metre mild. ((demand t d₁ d d₂ a).strictly r₁ r₂ metre mild).altitudes;
  pressure_strictly = λ t d₁ d d₂ a r₁ r₂ metre mild. ((demand t d₁ d d₂ a).strictly r₁ r₂ metre mild).pressures;
  rejects_wrong_inverses = wrong.rejected;
}

k1 : K1
k1 = record {
  whole = λ h p u room text e. ((good.good_sheet).rows_of h p u room text e).whole;
  first_rows = λ h p u room text e. ((good.good_sheet).rows_of h p u room text e).first;
  each_row = λ h p u room text e. ((good.good_sheet).rows_of h p u room text e).each;
  rising = (good.good_sheet).rising;
  halves_away = ((rounded.samples).half-of_an_even, (rounded.samples).half-below-zero);
  zero_unsigned = ((rounded.samples).minus-zero, (rounded.samples).nearly-zero);
  record_row = of_record.record_row;
  sea_level_row = of_record.sea_level-row;
  any_altitude = λ h k p u room finite also. of_record.any_altitude h k p u finite also room;
  sheet_caused = sheets.caused;
  sheet_order = sheets.order-of-checks;
  refusals = refused.refused_sheet_lem;
}

nan_in_0 : layer_at nan ≡ 0
unfolding layer_at lt le of_bits
nan_in_0 = refl

k2 : K2
k2 = record { nan_in_0 = nan_in_0; one_range = layers.one-range; unmoved = layers.former }

k3 : K3
k3 = record {
  shown = λ r p f is07 e. pressures.measured_shown r (entry_of r altitude) refl e p is07;
  used = λ r h p f at is07 e. pressures.measured_used r (Some h) at e p is07;
  banded = λ r h p f at is03 e. pressures.banded r (Some h) at e p is03;
}

k4 : K4
k4 = record {
  alike = (strict.strict).same_where_rising;
  or_19 = (strict.strict).same_or_falling;
  only_rising = λ s f. ((strict.strict).accepted_where_rising s f).only;
  written_again = (strict.strict).written-again;
  read_back = writer.read_back;
  writer_caused = λ r. written.caused (record_of r);
}

k5 : K5
k5 = record {
  count_gives = (thousandths.count_of-double).gives_the_double;
  count_found = (thousandths.count_of-double).is_found;
  word_of_count = λ n h. ((words.twos_complement_lem).word_in_range n h, (words.twos_complement_lem).count_of_word n h);
  greatest_count = computed.greatest-count;
  least_count = computed.least-count;
  minus_zero = computed.minus-zero;
  doubles_come_back = (back.come_back).wholly_in_doubles;
  counts_come_back = (back.come_back).wholly_in_counts;
  judged_alike = converted.judged-alike;
  never_20_to_doubles = counts.only-to-counts;
  conversion_caused = conversions.caused;
  conversion_order = conversions.order-of-checks;
}

k6 : K6
k6 = record {
  first_output = (outputs.published).first;
  third_output = (outputs.published).third;
  five_each = stepping.stepping;
  in_ranges = λ n. (load.every_record n).counts;
  judged_as_air = λ strict n. (load.every_record n).judged_as_air strict;
}

k7 : K7
k7 = record {
  middle = middle.voted-by-meaning;
  first_mast = λ a b c number values. (vote.masts_in_order a b c number values).mast_1;
  second_mast = λ a b c number values. (vote.masts_in_order a b c number values).mast_2;
  third_mast = λ a b c number values. (vote.masts_in_order a b c number values).mast_3;
  three_equal = λ s f e. vote.three_equal s ∙ ap (λ (o : Outcome Figures). after_mast 1 o (λ g. by_no_mast (accepted g))) e;
  two_equal = λ s t r q f e k same j. (vote.two_equal s t r q f e k same j).first;
  no_mast = votes.no_mast-named;
  first_mast_because = λ a b c number values. (votes.masts_named a b c number values).mast_1;
  second_mast_because = λ a b c number values. (votes.masts_named a b c number values).mast_2;
  third_mast_because = λ a b c number values. (votes.masts_named a b c number values).mast_3;
  vote_caused = votes.caused;
  by_21 = λ a b c m p q r one low high. (votes.field-missing a b c).refused_where p q r (m, (one, (low, high)));
  because_21 = λ a b c. (votes.field-missing a b c).refused_because;
  zeros_after_negative = (three.zeros-in_order).after-negative;
  zeros_before_positive = (three.zeros-in_order).before-positive;
  two_minus_zeros = (three.zeros-in_order).of-minus-zeros;
  two_plus_zeros = (three.zeros-in_order).of-plus-zeros;
  first_exchange = λ a b c f e. (vote.exchange-of_masts a b c f e).bac;
  last_exchange = λ a b c f e. (vote.exchange-of_masts a b c f e).acb;
}

warmed : (d t₁ t t₂ : Float) → Warmed d t₁ t t₂ → InBetween (station places d (Given t₁)) (station places d (Given t)) (station places d (Given t₂))
warmed d t₁ t t₂ a = warmth.warmer_means_lower places d t₁ t t₂ a.doubles.0 a.doubles.1.0 a.doubles.1.1 a.from a.to a.coldest a.warmest

warmed-to-itself : Warmed (decimal "0") (decimal "15") (decimal "15") (decimal "15")
unfolding of_bits fits le
warmed-to-itself = record { doubles = (tt, (tt, tt)); from = tt; to = tt; coldest = at.sea_level-at_15; warmest = at.sea_level-at_15 }

warmed-from-the-least : Warmed (decimal "0") (decimal "-273.1499999999999") (decimal "0") (decimal "1e55")
unfolding of_bits fits le
warmed-from-the-least = record { doubles = (tt, (tt, tt)); from = tt; to = tt; coldest = at.coldest; warmest = at.hottest }

k8 : K8
k8 = record {
  warmed_to_itself = warmed-to-itself;
  warmed_from_the_least = warmed-from-the-least;
  accepted = λ d t₁ t t₂ a. (warmed d t₁ t t₂ a).accepted;
  altitude_to_t = λ d t₁ t t₂ a. (warmed d t₁ t t₂ a).colder.altitudes;
  altitude_from_t = λ d t₁ t t₂ a. (warmed d t₁ t t₂ a).warmer.altitudes;
  pressure_to_t = λ d t₁ t t₂ a. (warmed d t₁ t t₂ a).colder.pressures;
  pressure_from_t = λ d t₁ t t₂ a. (warmed d t₁ t t₂ a).warmer.pressures;
  faa_never_falls = λ p t₁ t₂ f f₁ f₂. warmth.faa-in_order p t₁ t₂ f f₁ f₂ refl refl;
  rejects_wrong_answers = wrong.rejected-by-warmth;
}

k9 : K9
k9 = record {
  smallest = λ bytes s t a. (trim.smallest-change bytes s a).turns t;
  up_before_down = (places.in_their_order).up-before-down;
  temperature_first = (places.in_their_order).temperature-first;
  smaller_first = (places.in_their_order).smaller_first;
  none_because = λ bytes s a. (trim.smallest-change bytes s a).none-because;
  none_where = λ bytes s a. (trim.smallest-change bytes s a).none_where;
  own_refusal = λ bytes. (trim.refusals-first bytes).own;
  by_22 = λ bytes. (trim.refusals-first bytes).no_reading;
  trim_caused = classes.caused;
  answered = classes.never-refused;
  class_counts = classes.class-counts;
}

k13 : K13
k13 = record {
  entries = entry.root-at;
  alike = λ n l h. refl;
  served = entry.table_serves;
}

k14 : K14
k14 = record {
  word_at_most = λ n l h x f g. ((near.how_near n l h).logarithm x f g).never_too_great;
  word_near = λ n l h x f g. ((near.how_near n l h).logarithm x f g).less_than_two_too_small;
  antilog_at_most = λ n l h f g. ((near.how_near n l h).antilogarithm f g).never_too_great;
  antilog_near = λ n l h f g. ((near.how_near n l h).antilogarithm f g).less_than_four_too_small;
  word_needs_two = near.log_needs_two;
  antilog_needs_two = near.antilog_needs_two;
  power_near = (functions.functions_near_60).power;
  exp_near = (functions.functions_near_60).exponential;
  ln_near = (functions.functions_near_60).logarithm;
}

word-rises : (x y : Float) → IsDouble x → IsDouble y → T (positive x) → T (positive y) → T (le x y) → log_word 60 x ≤ℤ log_word 60 y
word-rises (fin false (suc m) e) (fin false (suc n) d) f g px py h = rises.log_word-rises 60 m n e d f g h
word-rises nan y f g px py h = absurd px
word-rises (inf s) y f g px py h = absurd px
word-rises (fin true m e) y f g px py h = absurd px
word-rises (fin false zero e) y f g px py h = absurd px
word-rises (fin false (suc m) e) nan f g px py h = absurd py
word-rises (fin false (suc m) e) (inf s) f g px py h = absurd py
word-rises (fin false (suc m) e) (fin true n d) f g px py h = absurd py
word-rises (fin false (suc m) e) (fin false zero d) f g px py h = absurd py

k10 : K10
unfolding of_bits
k10 = record {
  word_rises = word-rises;
  antilog_rises = λ P Q h. ordered.antilog_mono 60 h;
  exp_rises = exps.exp-rises 60;
  ln_rises = rises.ln-rises 60;
  power_rises = rises.power-rises 60;
  power_falls = rises.power-falls 60;
  cube_rises = rises.cube-rises 60;
}

k11 : K11
k11 = record {
  marked_because = moisture.marked-because;
  marked_where = λ r f e t₁ t₂ p₁ p₂. moisture.marked_where r f e (t₁, t₂, p₁, p₂);
  fraction_capped = moisture.fraction-capped;
  density_uses_it = moisture.density_of-fraction;
}

near_formulas : Near
near_formulas = record {
  density_near = densities.density-near;
  dry_density_near = densities.dry-density-near;
  fraction_near = densities.fraction-near;
  sound_near = sound.sound-near;
  saturation_near = saturation.saturation-near;
  saturation_nearly = saturation.saturation-nearly;
  saturation_exists = exists.saturation-exists;
  saturation_exists_celsius = exists.saturation-exists-celsius;
  speed_exists = sound.speed_exists;
  record_density = near-records.record_density-near;
  record_fraction = near-records.record_fraction-near;
  record_sound = near-records.record_sound-near;
  printed_near = paper.printed-near;
  class_near = paper.class-near;
  sqrt_rises = sound-rises.sqrt-rises;
  dry_sound_rises = sound-rises.dry-sound-rises;
  dry_density_falls = falls.dry-density-falls;
  dry_sheet_falls = near-sheets.dry_sheet_falls;
}

altitudes-near : AltitudesNear
altitudes-near = record {
  standard_temperature = λ h r. ((standard.standard_air-near).kelvins h r, (standard.standard_air-near).degrees h r);
  standard_pressure = λ h r p. ((standard.standard_air-near).pascals h r p, (standard.standard_air-near).shown_pressure_lem h r p);
  standard_in_scope = λ altitude h r s. record { temperature = (standard.standard_air-near).degrees-in_range altitude r; pressure = (standard.standard_air-near).pressure-in_range altitude r; humidity = s };
  qnh_near = (reduced.qnh-near).reduced;
  pressure_altitude_near = (of-pressure.pressure_altitude-near).metres;
  density_altitude_near = (of-density.density_altitude-near).metres;
  pressure_ratio_exists = (standard.standard_air-near).ratios;
  reduction_exists = (reduced.qnh-near).reductions;
  raised_pressure_exists = (of-pressure.pressure_altitude-near).powers;
  raised_density_exists = (of-density.density_altitude-near).powers;
  record_temperature = λ r f e. (altitudes-of-records.records-near r f e).layer_temperature_lem;
  record_pressure = λ r f e. (altitudes-of-records.records-near r f e).layer_pressure_lem;
  record_qnh = λ r f e. (altitudes-of-records.records-near r f e).qnh-pressure;
  record_pressure_altitude = λ r f e. (altitudes-of-records.records-near r f e).pressure_altitude_lem;
  record_density_altitude = λ r f e. (altitudes-of-records.records-near r f e).density_altitude_lem;
}

at-the_park : AtThePark
at-the_park = record {
  typed_decimals = computed.typed-decimals;
  typed_ends = computed.typed-ends;
  typed_badly = computed.typed_badly;
  report_at_sea_level = (report.samples).sea_level_lem;
  word_is_reading = λ ws r e. (tied.typed-is_judged ws r e).is_reading;
  no_other = λ ws r e. (tied.typed-is_judged ws r e).was_typed;
  record_judged = λ ws r e. (tied.typed-is_judged ws r e).is_judged;
  typed_count_kept = kept.count_kept;
  notes_are_lines = λ point r f. unfold note_lines in (exactly.exactly (notes point r f)).text;
  note_has_its_row = λ point r f. (exactly.exactly (notes point r f)).because;
  row_has_its_note = λ point r f. (exactly.exactly (notes point r f)).wherever;
}

reports : Reports
reports = record {
  named = named.named;
  named_alone = named.named-alone;
  named_11 = named.named_11;
  named_12 = named.named_12;
}

arrays : Arrays
arrays = record {
  written_of_read = interface.written_of-read;
  same_bytes = interface.same_bytes;
  read_of_written = interface.read_of-written;
  read_as = interface.read_as;
}

decimals : Decimals
decimals = record {
  reads = (refl, refl, refl, refl);
  nearest = decimal-texts.decimal_rounds;
  no_number = decimal-texts.no_decimal;
  none_of_these = decimal-texts.not_read;
}

pub promises : Promises
promises = record {
  document_01 = document_01;
  demand_3 = demand_3;
  k1 = k1;
  k2 = k2;
  k3 = k3;
  k4 = k4;
  k5 = k5;
  k6 = k6;
  k7 = k7;
  k8 = k8;
  k9 = k9;
  k10 = k10;
  k11 = k11;
  k12 = record { same_station = λ r q h f g e k. let same = humidity.humidity_leaves_the-station r q h f g e k in (same.altitudes, (same.temperatures, same.pressures)) };
  k13 = k13;
  k14 = k14;
  near = near_formulas;
  altitudes_near = altitudes-near;
  at_the_park = at-the_park;
  reports = reports;
  arrays = arrays;
  decimals = decimals;
}
