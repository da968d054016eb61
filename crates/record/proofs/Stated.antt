-- What every value of a record that is read is: a double. Assumes nothing.
use Rattle.std.specs.Prelude.{Some}
use Rattle.record.proofs.Kit.{◌≡◌, T, ℕ, Float, binary64, fits, Readings, entry_of}

abbrev pub HoldsDoubles : Readings → Type 0
HoldsDoubles r = (m : ℕ) (x : Float) → entry_of r m ≡ Some x → T (fits binary64 x)
