-- With both overrides given, the altitude does not matter. Assumes nothing.
use Rattle.arithmetic.proofs.Kit.{◌≡◌, refl, ℕ, Float}
use Rattle.atmosphere.specs.declared.given.Reading.TheVariants.{Given}
use Rattle.air.specs.Station.{atmosphere}

pub same-air : (places : ℕ) (altitude other t p h : Float) → atmosphere places altitude (Given t) (Given p) h ≡ atmosphere places other (Given t) (Given p) h
unfolding atmosphere
same-air places altitude other t p h = refl
