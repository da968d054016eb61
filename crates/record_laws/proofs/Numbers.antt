-- No value of accepted readings is NaN: each is finite. Assumes nothing.
use Rattle.std.specs.Prelude.{None, Some}
use Rattle.record_laws.proofs.Kit.{◌≡◌, refl, sym, ap, subst, ◌∙◌, Bool, true, false, ℕ, ◌≤◌, arith, ltb-true, ltb-false, ltb, is_nan, length, List·getD-eq-default, accepted, Readings, meanings, entry_for, stored_of, Figures, judged, accepted-is_finite}
use Rattle.arithmetic.proofs.NotANumber.{is_number}
use Rattle.fields.specs.declared.fields.Value.{Value}
use Rattle.fields.specs.declared.fields.Value.TheVariants.{Double, Count}
use Rattle.writer.proofs.Stated.{NoNan}
use Rattle.mast.proofs.Stated.{FiniteEntry}

never : {v : Value} → None ≡ Some v → ⊥
never e = let z : ◌≡◌ {A = ℕ} 0 1 = cc in omega arith

pub no_nan : (r : Readings) (f : Figures) → length r.slots ≡ meanings → judged r ≡ accepted f → NoNan r
no_nan r f all e m (Count word) h = tt
no_nan r f all e m (Double x) h = go (ltb m meanings) refl
  where
    go : (b : Bool) → ltb m meanings ≡ b → is_nan x ≡ false
    go true t = is_number x (subst FiniteEntry (ap entry_for h) (accepted-is_finite r f e m (ltb-true m meanings t)))
    go false t =
        let past : length r.slots ≤ m = omega (arith, ltb-false m meanings t) in
        let none : stored_of r m ≡ None = List·getD-eq-default r.slots None past in
        absurd (never (sym none ∙ h))
