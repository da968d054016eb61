-- A double taken apart as the base of powers, with bits near those of its size's logarithm. Definitions only.
use Rattle.std.specs.Prelude.{ℕ, ◌*◌, ◌^◌, Float, Option, IfSome}
use Rattle.arithmetic.specs.declared.double.Parts.{Parts}
use Rattle.arithmetic.specs.declared.double.Parts.TheVariants.{NotANumber, Infinite, Zero, Finite}
use Rattle.elementary.specs.declared.power.Base.{Base}
use Rattle.arithmetic.specs.Parts.{TakenApart}
use Rattle.antilog.specs.Log.{mantissa_of}
use Rattle.antilog.specs.Among.{WithinTwo}

-- of q * 2 ^ k units of 2 ^ -1074, where the bits are known
abbrev pub Neared : (q k : ℕ) → Option ℕ → Type 0
Neared q k near = IfSome near (WithinTwo (mantissa_of (q * 2 ^ k)))

-- where the double is finite and not zero; else there are none
abbrev pub NearedParts : Option ℕ → Parts → Type 0
NearedParts near NotANumber = Unit {0}
NearedParts near (Infinite s) = Unit {0}
NearedParts near (Zero s) = Unit {0}
NearedParts near (Finite s q k) = Neared q k near

pub record IsBase (x : Float) (b : Base) : Type 0 where
  pub apart : TakenApart x b.parts
  pub neared : NearedParts b.near b.parts
