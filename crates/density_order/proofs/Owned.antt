-- What owning a double or a reading tells: the format holds it. Assumes nothing.
use Rattle.density_order.proofs.Kit.{◌≡◌, sym, subst, true, List, Val, T, Float, binary64, fits, Reading, Given, FromLayer}
use denote.Laws.{Is}
use denote.Enum.Declared.{row}
use denote.Enum.Laws.{owed}
use Rattle.atmosphere.specs.contracts.given.Reading.{the_type}
use Rattle.atmosphere.proofs.given.Reading.TheLaws.{the_laws}
use Rattle.density_order.proofs.Spread.{ReadingFits}

pub held : (x : Float) → fits binary64 x ≡ true → T (fits binary64 x)
held x e = subst T (sym e) tt

pub reading-held : (t : Reading) (vs : List Val) → Is (row the_type) t vs → ReadingFits t
reading-held (Given t) vs p = held t (owed the_type the_laws (Given t) vs p).0.1
reading-held FromLayer vs p = tt
