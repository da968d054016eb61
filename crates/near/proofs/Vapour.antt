-- The mole fraction of water vapour tracks the exact one: once for both paths by which a temperature and a pressure come to it, that of the density and that of
-- the speed of sound. Assumes nothing.
use Rattle.near.proofs.Kit.{◌≡◌, refl, sym, ap, ◌∙◌, subst, Bool, true, false, cond, List, [], ◌∷◌, ℕ, zero, suc, ◌+◌, ◌*◌, ◌≤◌, ◌<◌, le_refl, mul-pos, arith, ℤ, pos, T, leb, eqb, leb→le, eqb→eq, eqb·suc-zero, Float, nan, inf, fin, binary64, up, down, span, climb, size, odd, round, mul, div, of_fields, of_bits, fits, lt, eq, and_l, up_pos, down_pos, positive, finite, round_same, decimal, nought, one, hundred, ◌⊗◌, ◌⊘◌, units_of, above, beneath, over, under, Small, le-of-sides, unlike_plus, exp, saturation_pressure, clamp_double, enhancement_factor, divisor, mole_fraction, mole_fraction_of, capped, Exact, ◌⊠◌, ◌÷◌, the, number, Between, of, Bounds, Tracks, Term, given, ◌plus◌, ◌times◌, ◌by◌, ◌at_least◌, as_double, as_exact, analysed, none, ◌also◌, tracks, ranged, tracks-between, times-assoc, all, item, test, not_taken, clamp_kept, is_above, positive-tested, Saturation, exact_saturation}
use Rattle.arithmetic.proofs.Strict.{not_le-of-less}
use Rattle.exact.proofs.Terms.{num}
use Rattle.near.specs.Density as Spec
use Rattle.near.proofs.Temperatures.{Part, Below}
use Rattle.near.proofs.Saturated.{checks, ratio-bounds, y, tracks-ratio, is-pressure}

-- ---- a humidity from 0 to 100 percent is kept, and so is a fraction up to 1
below_one : {b : Bounds} (x : Float) (X : Exact) → Tracks b x X → b.H ≤ over one → capped x ≡ x
unfolding above beneath of_bits fits
below_one {b} x X t most =
    not_taken one x (lt one x)
    (λ (l : T (lt one x)). not_le-of-less one x l (le-of-sides x one (itself x t.double t.is_finite) (itself one tt tt) (order (over x) (under x) (over one) b.H b.J most t.high)))
  where
    itself : (z : Float) → T (fits binary64 z) → T (finite z) → Small (units_of z) z
    itself z f k = record { is_finite = k; double = f; size = le_refl (units_of z) }

    order : (o u p H J : ℕ) → H ≤ p → o + J ≤ u + H → o + 0 ≤ p + u
    order o u p H J a c = omega (arith, a, c)

-- ---- no humidity, of either sign: with the saturation pressure or without, nothing comes of it
round-nought : (s : Bool) (a d : ℕ) → a ≡ 0 → 0 < d → round binary64 s a d ≡ fin s 0 (pos 0)
unfolding round span climb size odd
round-nought s a d A D = round_same binary64 s a d 0 1 D (omega arith) (omega arith)

nought-times : (s : Bool) (e : ℤ) (x : Float) → T (positive x) → fin s 0 e ⊗ x ≡ fin s 0 (pos 0)
unfolding mul
nought-times s e nan p = absurd p
nought-times s e (inf t) p = absurd p
nought-times s e (fin true n d) p = absurd p
nought-times s e (fin false n d) p =
    rw (unlike_plus s) (round-nought s (0 * up e * (n * up d)) (down e * down d) (omega arith) (mul-pos (down_pos e) (down_pos d)))

nought-by : (s : Bool) (e : ℤ) (x : Float) → T (positive x) → fin s 0 e ⊘ x ≡ fin s 0 (pos 0)
unfolding div
nought-by s e nan p = absurd p
nought-by s e (inf t) p = absurd p
nought-by s e (fin true n d) p = absurd p
nought-by s e (fin false zero d) p = absurd p
nought-by s e (fin false (suc n) d) p =
    rw (eqb·suc-zero n, unlike_plus s)
    (round-nought s (0 * up e * down d) (suc n * up d * down e) (omega arith) (mul-pos (mul-pos (omega arith) (up_pos d)) (down_pos e)))

module _ (psv f p : Float) (psv-positive : T (positive psv)) (f-positive : T (positive f)) (p-positive : T (positive p)) where
  alike : (h : Float) → T (finite h) → T (eq h nought) → h ⊗ f ⊘ p ≡ h ⊘ hundred ⊗ f ⊗ psv ⊗ hundred ⊘ p
  unfolding eq of_bits
  alike nan k z = absurd k
  alike (inf s) k z = absurd k
  alike (fin s (suc m) e) k z = absurd (omega (arith, eqb→eq (suc m * up e * 1) (0 * 1 * down e) (and_l (eqb (suc m * up e * 1) (0 * 1 * down e)) _ z), up_pos e))
  alike (fin s zero e) k z = left ∙ sym right
    where
      left : fin s 0 e ⊗ f ⊘ p ≡ fin s 0 (pos 0)
      left = rw (nought-times s e f f-positive) (nought-by s (pos 0) p p-positive)

      right : fin s 0 e ⊘ hundred ⊗ f ⊗ psv ⊗ hundred ⊘ p ≡ fin s 0 (pos 0)
      right = rw (nought-by s e hundred tt, nought-times s (pos 0) f f-positive, nought-times s (pos 0) psv psv-positive, nought-times s (pos 0) hundred tt) (nought-by s (pos 0) p p-positive)

  moist : (h : Float) → T (finite h) → Between (decimal "0") (decimal "100") h → mole_fraction psv f (clamp_double h nought hundred) p ≡ h ⊘ hundred ⊗ f ⊗ psv ⊗ hundred ⊘ p
  unfolding mole_fraction
  moist h k r =
      ap (λ (H : Float). mole_fraction psv f H p) (clamp_kept h nought hundred r.low r.high) ∙ ap (λ (H : Float). cond (eq H nought) (H ⊗ f ⊘ p) (H ⊘ hundred ⊗ f ⊗ psv ⊗ hundred ⊘ p)) (clamp_kept h nought hundred r.low r.high) ∙ go (eq h nought) refl
    where
      go : (c : Bool) → eq h nought ≡ c → cond c (h ⊗ f ⊘ p) (h ⊘ hundred ⊗ f ⊗ psv ⊗ hundred ⊘ p) ≡ h ⊘ hundred ⊗ f ⊗ psv ⊗ hundred ⊘ p
      go true e = alike h k (subst T (sym e) tt)
      go false e = refl

pub dry : (psv f p : Float) → T (positive f) → T (positive p) → capped (mole_fraction psv f (clamp_double nought nought hundred) p) ≡ nought
unfolding mole_fraction lt eq odd of_fields of_bits
dry psv f p f-positive p-positive = ap (λ (x : Float). capped (x ⊘ p)) (nought-times false (pos 0) f f-positive) ∙ ap capped (nought-by false (pos 0) p p-positive)

-- ---- the formula: of t in °C, p in Pa, the ratio of the saturation pressure to p_c, and h in percent
abbrev pub factor : Term
factor = num "1.00062" plus num "3.14e-8" times given 1 plus num "5.6e-7" times given 0 times given 0

abbrev pub by' : Term
by' = given 1 at_least "2.2250738585072014e-308"

abbrev saturation : Term
saturation = num "220640" times given 2

abbrev fraction : Term
fraction = given 3 by num "100" times factor times saturation times num "100" by by'

abbrev humidities : Bounds
humidities = ranged (decimal "0") (decimal "100") 0

-- ---- with the bounds of T, t and p
module _ (Tb tb pb : Bounds) (q : Part) where
  abbrev all-bounds : List Bounds
  all-bounds = tb ∷ pb ∷ ratio-bounds Tb q ∷ humidities ∷ []

  abbrev pub vapour-bounds : Bounds
  vapour-bounds = analysed all-bounds fraction

  abbrev pub vapour-tests : List Bool
  vapour-tests =
      all (checks Tb q) ∷ vapour-bounds.good ∷ leb vapour-bounds.H (over one) ∷ (analysed all-bounds factor).good ∷ is_above (analysed all-bounds factor) ∷ (analysed all-bounds saturation).good ∷ is_above (analysed all-bounds saturation)
      ∷ (analysed all-bounds by').good ∷ is_above (analysed all-bounds by') ∷ []

  module _ (tested : T (all vapour-tests)) (below : Below q) (T'' t'' p'' h : Float) (TX tX pX : Exact) (tracks-T : Tracks Tb T'' TX) (tracks-t : Tracks tb t'' tX) (tracks-p : Tracks pb p'' pX) (h-range : Between (decimal "0") (decimal "100") h) (s : Saturation TX) where
    passed : (n : ℕ) → T (item vapour-tests n)
    passed n = test vapour-tests n tested

    abbrev r : Float
    r = exp 60 (y Tb q (passed 0) below T'' TX tracks-T s)

    tracks-h : Tracks humidities h (number h)
    unfolding of_bits fits
    tracks-h = tracks-between (decimal "0") (decimal "100") h tt h-range

    tracked : (t : Term) → T (analysed all-bounds t).good → Tracks (analysed all-bounds t) (as_double (t'' ∷ p'' ∷ r ∷ h ∷ []) t) (as_exact (tX ∷ pX ∷ of s.ratio ∷ number h ∷ []) t)
    tracked = tracks (tracks-t also tracks-p also tracks-ratio Tb q (passed 0) below T'' TX tracks-T s also tracks-h also none)

    abbrev x : Float
    x = as_double (t'' ∷ p'' ∷ r ∷ h ∷ []) fraction

    tracks-x : Tracks vapour-bounds x (Spec.exact_mole_fraction (number h ÷ the "100") pX tX (exact_saturation s ⊠ the "100"))
    unfolding Spec.exact_mole_fraction
    tracks-x = subst (λ (X : Exact). Tracks vapour-bounds x (X ÷ pX)) (times-assoc _ (the "220640" ⊠ of s.ratio) (the "100")) (tracked fraction (passed 1))

    is-fraction : capped (mole_fraction_of (saturation_pressure 60 T'') t'' p'' (clamp_double h nought hundred)) ≡ x
    is-fraction =
        ap capped
        (ap (λ (z : Float). mole_fraction_of z t'' p'' (clamp_double h nought hundred)) (sym (is-pressure Tb q (passed 0) below T'' TX tracks-T s))
        ∙ moist (decimal "220640" ⊗ r) (enhancement_factor p'' t'') (divisor p'') (positive-tested _ _ (tracked saturation (passed 5)) (passed 6)) (positive-tested _ _ (tracked factor (passed 3)) (passed 4)) (positive-tested _ _ (tracked by' (passed 7)) (passed 8)) h tracks-h.is_finite h-range)
        ∙ below_one x _ tracks-x (leb→le vapour-bounds.H (over one) (passed 2))

    pub tracks-vapour : Tracks vapour-bounds (capped (mole_fraction_of (saturation_pressure 60 T'') t'' p'' (clamp_double h nought hundred))) (Spec.exact_mole_fraction (number h ÷ the "100") pX tX (exact_saturation s ⊠ the "100"))
    tracks-vapour = rw is-fraction tracks-x
