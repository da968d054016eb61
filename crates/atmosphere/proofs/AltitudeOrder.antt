-- The altitudes' order: the National Weather Service's altitude never rises with the pressure, and the FAA's density altitude never falls with a finite
-- temperature, which makes it a number. Assumes nothing.
use Rattle.arithmetic.proofs.Kit.{refl, subst, subst₂, Bool, true, false, ℕ, ◌*◌, ℤ, pos, negsuc, T, ≤ℤ_refl, Float, nan, inf, fin, binary64, up, down, of_bits, add, sub, mul, div, neg, fits, le, of_bits-fits, neg-fits, sub-fits, mul-fits, div-fits}
use Rattle.arithmetic.specs.Decimals.{nought, one}
use Rattle.arithmetic.specs.Operators.{◌⊕◌, ◌⊖◌, ◌⊗◌, ◌⊘◌}
use Rattle.elementary.specs.Exponents.{of_double, nws_exponent}
use Rattle.elementary.specs.Power.{power}
use Rattle.arithmetic.proofs.Order.{Rises, FallsFromZero, number, le-of-signed, numbers-of-le}
use Rattle.elementary.proofs.Rises.{power-rises, power-fits}
use Rattle.arithmetic.proofs.Sums.{add_comm_double, add-to-rises, sum-keeps, sub-falls}
use Rattle.arithmetic.proofs.Products.{mul-rises, mul-by-rises, div-rises}
use Rattle.arithmetic.specs.Doubles.{is_finite}
use Rattle.atmosphere.specs.Station.{standard_pressure}
use Rattle.atmosphere.specs.Altitudes.{nws_altitude, thousand, fahrenheit_per_thousand_feet, standard_fahrenheit, feet_per_degree, faa_density_altitude}

-- ---- of pressures from zero up
nws_falls : (p : ℕ) → FallsFromZero (nws_altitude p)
unfolding of_bits div fits
nws_falls p x y f g z h =
    let q = of_double nws_exponent in
    let a : Float = x ⊘ standard_pressure in
    let b : Float = y ⊘ standard_pressure in
    let low : T (le (fin false 0 (pos 0)) a) = div-rises 4052 (negsuc 1) (fin false 0 (pos 0)) x tt f z in
    let powers : T (le (power p q a) (power p q b)) = power-rises p q refl a b (div-fits binary64 x standard_pressure) (div-fits binary64 y standard_pressure) low (div-rises 4052 (negsuc 1) x y f g h) in
    mul-by-rises 2497376594742476 (negsuc 33) (one ⊖ power p q b) (one ⊖ power p q a) (sub-fits binary64 one (power p q b)) (sub-fits binary64 one (power p q a))
    (sub-falls false 1 (pos 0) tt (power p q a) (power p q b) (power-fits p q a) (power-fits p q b) powers)

-- ---- the standard temperature, of altitudes
abbrev pub Falls : (Float → Float) → Type 0
Falls f = (x y : Float) → T (fits binary64 x) → T (fits binary64 y) → T (le x y) → T (le (f y) (f x))

pub standard_falls : Falls standard_fahrenheit
unfolding of_bits fits
standard_falls h k f g l =
    let per-foot : Float → Float = λ x. x ⊘ thousand ⊗ fahrenheit_per_thousand_feet in
    sub-falls false 59 (pos 0) tt (per-foot h) (per-foot k) (mul-fits binary64 _ _) (mul-fits binary64 _ _)
    (mul-rises 8038925334856334 (negsuc 50) _ _ (div-fits binary64 _ _) (div-fits binary64 _ _) (div-rises 124 (pos 3) h k f g l))

-- ---- of temperatures, where the altitudes are numbers
of-sum : (x c : Float) → T (number (x ⊕ c)) → T (number x)
unfolding add
of-sum nan c u = u
of-sum (inf s) c u = tt
of-sum (fin s m e) c u = tt

of-product : (x : Float) → T (number (feet_per_degree ⊗ x)) → T (number x)
unfolding of_bits mul div
of-product nan u = u
of-product (inf s) u = tt
of-product (fin s m e) u = tt

standard_fits : (h : Float) → T (fits binary64 (standard_fahrenheit h))
standard_fits h = sub-fits binary64 _ _

feet-rises : Rises (λ x. feet_per_degree ⊗ x)
unfolding of_bits mul div
feet-rises = mul-by-rises 4691249611844266 (negsuc 45)

faa-rises : (places : ℕ) (p t u : Float) → T (fits binary64 t) → T (fits binary64 u) → T (le t u) → T (number (faa_density_altitude places p t)) → T (number (faa_density_altitude places p u))
    → T (le (faa_density_altitude places p t) (faa_density_altitude places p u))
unfolding sub
faa-rises places p t u f g h v w =
    let a : Float = nws_altitude places p in
    let s : Float = standard_fahrenheit a in
    let x : Float = feet_per_degree ⊗ (t ⊖ s) in
    let y : Float = feet_per_degree ⊗ (u ⊖ s) in
    let v' : T (number (x ⊕ a)) = subst (λ (z : Float). T (number z)) (add_comm_double a x) v in
    let w' : T (number (y ⊕ a)) = subst (λ (z : Float). T (number z)) (add_comm_double a y) w in
    let below : T (le (t ⊖ s) (u ⊖ s)) = sum-keeps t u (neg s) f g (neg-fits binary64 s (standard_fits a)) h (of-product (t ⊖ s) (of-sum x a v')) (of-product (u ⊖ s) (of-sum y a w')) in
    subst₂ (λ (z r : Float). T (le z r)) (add_comm_double x a) (add_comm_double y a)
    (sum-keeps x y a (mul-fits binary64 feet_per_degree (t ⊖ s)) (mul-fits binary64 feet_per_degree (u ⊖ s)) (mul-fits binary64 _ _) (feet-rises (t ⊖ s) (u ⊖ s) (sub-fits binary64 t s) (sub-fits binary64 u s) below) v' w')

-- ---- of finite temperatures, at a pressure from zero up
pub le_self : (x : Float) → T (number x) → T (le x x)
unfolding le
le_self nan u = u
le_self (inf true) u = tt
le_self (inf false) u = tt
le_self (fin s m e) u = le-of-signed s s (m * up e * down e) (m * up e * down e) (≤ℤ_refl _)

-- at an altitude that is a number, an infinite one too, the figure is a number
numbered : (a : Float) → T (fits binary64 a) → (s : Bool) (m : ℕ) (e : ℤ) → T (fits binary64 (fin s m e)) → T (number a) → T (number (a ⊕ feet_per_degree ⊗ (fin s m e ⊖ standard_fahrenheit a)))
unfolding of_bits add sub mul div neg
numbered nan g s m e f u = u
numbered (inf true) g s m e f u = tt
numbered (inf false) g s m e f u = tt
numbered (fin r n d) g s m e f u =
    let a : Float = fin r n d in
    let t : Float = fin s m e in
    let standard = standard_fahrenheit a in
    let x : Float = feet_per_degree ⊗ (t ⊖ standard) in
    let level = standard_falls a a g g (le_self a tt) in
    let excess = sub-falls s m e f standard standard (standard_fits a) (standard_fits a) level in
    let feet = feet-rises (t ⊖ standard) (t ⊖ standard) (sub-fits binary64 t standard) (sub-fits binary64 t standard) excess in
    let held = mul-fits binary64 feet_per_degree (t ⊖ standard) in
    (numbers-of-le (a ⊕ x) (a ⊕ x) (add-to-rises r n d g x x held held feet)).0

faa-number : (places : ℕ) (p t : Float) → T (fits binary64 p) → T (fits binary64 t) → T (le nought p) → T (is_finite t) → T (number (faa_density_altitude places p t))
unfolding is_finite of_bits
faa-number places p nan f g z u = absurd u
faa-number places p (inf s) f g z u = absurd u
faa-number places p (fin s m e) f g z u =
    numbered (nws_altitude places p) (mul-fits binary64 _ _) s m e g (numbers-of-le _ _ (nws_falls places nought p (of_bits-fits binary64 0) f (le_self nought tt) z)).0

pub faa-never-falls : (places : ℕ) (p t u : Float) → T (fits binary64 p) → T (fits binary64 t) → T (fits binary64 u) → T (le nought p) → T (is_finite t) → T (is_finite u) → T (le t u)
    → T (le (faa_density_altitude places p t) (faa_density_altitude places p u))
faa-never-falls places p t u f g h z v w l = faa-rises places p t u g h l (faa-number places p t f g z v) (faa-number places p u f h z w)
