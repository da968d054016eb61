-- Dry air has no vapour: humidity 0 times and over anything is 0 or NaN, which is not above 1. So 14 is never answered with 06. Assumes nothing.
use Rattle.mast.proofs.Kit.{◌≡◌, refl, sym, ap, ◌∙◌, Bool, true, false, cond, true≢false, false≢true, List, [], ◌∷◌, ◌++◌, ℕ, zero, suc, ◌*◌, ◌<◌, zero-mul, arith, pos, eqb, Float, nan, inf, fin, binary64, up, down, round, neg, mul, div, lt, eq, of_bits, up_pos, down_pos, ne_eqb, places, one, Outcome, accepted, refused, Row, row, ◌then◌, then_append, then_same, station_rows, Option, None, Some, Readings, temperature, humidity, density_altitude, is_some, entry_of, Figures, Resolved, has, is_clash, humidity_rows, present, given_temperature, value_or_zero, shown_temperature, shown_pressure, figures_of, air_rows, way_rows, resolved_by, judged, resolved, reading_rows}
use lib.Ieee.{unlike}
use Rattle.arithmetic.specs.Operators.{◌⊗◌, ◌⊘◌}
use Rattle.arithmetic.proofs.Rounding.{round-opposite}
use Rattle.arithmetic.proofs.Scaled.{zero_bits}
use Rattle.humid_air.specs.MoistAir.{mole_fraction}
use Rattle.humid_air.specs.Humidity.{mole_fraction_celsius}
use Rattle.mast.specs.Laws.{without}
use Rattle.mast.proofs.Stated.{Dry}

-- ---- zero or NaN
data Null : Float → Type 0 where
  not_a-number : Null nan
  zeros : (s : Bool) → Null (fin s 0 (pos 0))

round_null : (s : Bool) (num den : ℕ) → num ≡ 0 → 0 < den → round binary64 s num den ≡ fin s 0 (pos 0)
unfolding of_bits neg
round_null false num den z D = sym (zero_bits num den z D)
round_null true num den z D = round-opposite binary64 num den ∙ ap neg (sym (zero_bits num den z D))

rounded : (s : Bool) (num den : ℕ) → num ≡ 0 → 0 < den → Null (round binary64 s num den)
rounded s num den z D = rw (round_null s num den z D) (zeros s)

mul_null : (x y : Float) → Null x → Null (x ⊗ y)
unfolding mul
mul_null x y not_a-number = not_a-number
mul_null x nan (zeros s) = not_a-number
mul_null x (inf t) (zeros s) = not_a-number
mul_null x (fin t n d) (zeros s) = rounded (unlike s t) (0 * (n * up d)) (1 * down d) (zero-mul (n * up d)) (omega (arith, down_pos d))

div_null : (x y : Float) → Null x → Null (x ⊘ y)
unfolding div
div_null x y not_a-number = not_a-number
div_null x nan (zeros s) = not_a-number
div_null x (inf t) (zeros s) = zeros (unlike s t)
div_null x (fin t zero d) (zeros s) = not_a-number
div_null x (fin t (suc n) d) (zeros s) = rw (ne_eqb (suc n) 0 (λ e. omega arith)) (rounded (unlike s t) (0 * down d) (suc n * up d * 1) (zero-mul (down d)) (omega (arith, up_pos d)))

not_above_lem : (x : Float) → Null x → lt one x ≡ false
unfolding lt of_bits
not_above_lem x not_a-number = refl
not_above_lem x (zeros true) = refl
not_above_lem x (zeros false) = refl

fraction : (s : Bool) (psv f p : Float) → lt one (mole_fraction psv f (fin s 0 (pos 0)) p) ≡ false
unfolding mole_fraction lt eq of_bits
fraction true psv f p = not_above_lem _ (div_null _ p (mul_null _ f (zeros true)))
fraction false psv f p = not_above_lem _ (div_null _ p (mul_null _ f (zeros false)))

pub dry : Dry
unfolding of_bits
dry = record { zero = λ t p. fraction false _ _ _; minus-zero = λ t p. fraction true _ _ _ }

-- ---- 14 is not answered with 06
pub absent : (e : Option Float) → is_some e ≡ false → e ≡ None
absent None h = refl
absent (Some x) h = absurd (true≢false h)

without-append : (n : ℕ) (xs ys : List Row) → without n (xs ++ ys) ≡ without n xs ++ without n ys
without-append n [] ys = refl
without-append n (r ∷ xs) ys = go (eqb r.number n) (without-append n xs ys)
  where
    go : (b : Bool) → without n (xs ++ ys) ≡ without n xs ++ without n ys
        → cond b (without n (xs ++ ys)) (r ∷ without n (xs ++ ys)) ≡ cond b (without n xs) (r ∷ without n xs) ++ without n ys
    go true e = e
    go false e = ap (λ (l : List Row). r ∷ l) e

-- neither the inverse nor a humidity has a row 14
way_rows_lem : (r : Readings) (d : Float) (t h : Option Float) → let rows = station_rows places d (given_temperature t) ++ present humidity_rows h in without 14 rows ≡ rows
way_rows_lem r d None None = refl
way_rows_lem r d None (Some h) = refl
way_rows_lem r d (Some t) None = refl
way_rows_lem r d (Some t) (Some h) = refl

air : (a : Resolved) (o : Outcome Figures) → a.humidity_percent ≡ value_or_zero None → (air_rows a then o) ≡ (without 14 (air_rows a) then o)
air a o none = ap (λ (b : Bool). cond b (refused 14 []) (without 14 (air_rows a) then o)) (ap (λ (h : Float). lt one (mole_fraction_celsius places (shown_temperature a) (shown_pressure a) h)) none ∙ dry.zero _ _)

by-entry : (r : Readings) (e : Option Float) → is_some e ≡ true → has r humidity ≡ false
    → let rows = way_rows r e ++ air_rows (resolved_by r e) in let o = accepted (figures_of (resolved_by r e)) in (rows then o) ≡ (without 14 rows then o)
by-entry r None h none = absurd (false≢true h)
by-entry r (Some d) h none =
    let rows = way_rows r (Some d) in
    let a = resolved_by r (Some d) in
    let o = accepted (figures_of a) in
    then_append rows (air_rows a) o
    ∙ then_same rows (λ _. air a o (ap value_or_zero (absent (entry_of r humidity) none)))
    ∙ sym (then_append rows (without 14 (air_rows a)) o)
    ∙ ap (λ (l : List Row). (l ++ without 14 (air_rows a)) then o) (sym (way_rows_lem r d (entry_of r temperature) (entry_of r humidity)))
    ∙ ap (λ (l : List Row). l then o) (sym (without-append 14 rows (air_rows a)))

-- with 06 and without 05 there is no 14
pub not_with_06 : (r : Readings) → has r density_altitude ≡ true → has r humidity ≡ false
    → judged r ≡ (without 14 (reading_rows r) then accepted (figures_of (resolved r)))
unfolding judged
not_with_06 r with06 dry-record = then_same (row (is_clash r) 9 [] ∷ []) (λ none. by-entry r (entry_of r density_altitude) with06 dry-record)
