-- The figures of an accepted record are those of the air that it resolves to, and so near the documents' formulas. Assumes nothing.
use Rattle.near.proofs.Kit.{◌≡◌, subst, T, binary64, fits, mul-fits, Fraction, accepted, Readings, Figures, air_density_at, density_of, atmosphere, figures_with, resolved, judged, IsNear, of, IsRoot, exact_density, Saturation, kelvin, pascal, vapour, InScope}
use Rattle.record_laws.proofs.Pressures.{of-accepted}
use Rattle.near.specs.Sound.{squared_speed}
use Rattle.near.proofs.Density.{fraction-near, density-near}
use Rattle.near.proofs.Sound.{sound-near}

pub record_density-fits : (r : Readings) (f : Figures) → judged r ≡ accepted f → T (fits binary64 f.density_kg_m3)
unfolding figures_with atmosphere density_of air_density_at
record_density-fits r f e = subst (λ (f : Figures). T (fits binary64 f.density_kg_m3)) (of-accepted r e).1 (mul-fits binary64 _ _)

pub record_density-near : (r : Readings) (f : Figures) → judged r ≡ accepted f → let t = f.temperature_c in let p = f.pressure_hpa in let h = (resolved r).humidity_percent in InScope t p h → (s : Saturation (kelvin t))
    → IsNear 45 f.density_kg_m3 (exact_density (pascal p) (kelvin t) (vapour t p h s))
unfolding figures_with
record_density-near r f e =
    let h = (resolved r).humidity_percent in
    subst (λ (f : Figures). let t = f.temperature_c in let p = f.pressure_hpa in InScope t p h → (s : Saturation (kelvin t)) → IsNear 45 f.density_kg_m3 (exact_density (pascal p) (kelvin t) (vapour t p h s)))
    (of-accepted r e).1 (density-near (resolved r).altitude_m (resolved r).temperature (resolved r).pressure h)

pub record_fraction-near : (r : Readings) (f : Figures) → judged r ≡ accepted f → let t = f.temperature_c in let p = f.pressure_hpa in let h = (resolved r).humidity_percent in InScope t p h → (s : Saturation (kelvin t))
    → IsNear 44 f.vapor_mole_fraction (vapour t p h s)
unfolding figures_with
record_fraction-near r f e =
    let h = (resolved r).humidity_percent in
    subst (λ (f : Figures). let t = f.temperature_c in let p = f.pressure_hpa in InScope t p h → (s : Saturation (kelvin t)) → IsNear 44 f.vapor_mole_fraction (vapour t p h s))
    (of-accepted r e).1 (fraction-near (resolved r).altitude_m (resolved r).temperature (resolved r).pressure h)

pub record_sound-near : (r : Readings) (f : Figures) → judged r ≡ accepted f → let t = f.temperature_c in let p = f.pressure_hpa in let h = (resolved r).humidity_percent in InScope t p h → (s : Saturation (kelvin t))
    → (c : Fraction) → IsRoot c (squared_speed (kelvin t) (vapour t p h s)) → IsNear 37 f.speed_of_sound_mps (of c)
unfolding figures_with
record_sound-near r f e =
    let h = (resolved r).humidity_percent in
    subst (λ (f : Figures). let t = f.temperature_c in let p = f.pressure_hpa in InScope t p h → (s : Saturation (kelvin t)) → (c : Fraction) → IsRoot c (squared_speed (kelvin t) (vapour t p h s)) → IsNear 37 f.speed_of_sound_mps (of c))
    (of-accepted r e).1 (sound-near (resolved r).altitude_m (resolved r).temperature (resolved r).pressure h)
