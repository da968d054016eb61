-- Rust's test for NaN: only NaN differs from itself; and a finite double is not NaN. Assumes nothing.
use Rattle.arithmetic.proofs.Kit.{◌≡◌, refl, sym, ap, Bool, true, false, true≢false, not, ◌&&◌, ◌*◌, Float, nan, inf, fin, up, down, is_nan, ne, eq-eqb}
use Rattle.arithmetic.specs.Doubles.{is_finite}

pub ne_self : (x : Float) → ne x x ≡ is_nan x
unfolding ne is_nan
ne_self nan = refl
ne_self (inf true) = refl
ne_self (inf false) = refl
ne_self (fin true m e) = let a = m * up e * down e in ap (λ (t : Bool). not (t && true)) (eq-eqb a a refl)
ne_self (fin false m e) = let a = m * up e * down e in ap (λ (t : Bool). not (t && true)) (eq-eqb a a refl)

pub is_number : (x : Float) → is_finite x ≡ true → is_nan x ≡ false
unfolding is_finite is_nan
is_number nan h = absurd (true≢false (sym h))
is_number (inf s) h = refl
is_number (fin s m e) h = refl
