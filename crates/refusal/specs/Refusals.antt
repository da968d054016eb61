-- Document 01's table of refusals, and those of document 02, which hand out no value: the number of each cause, and the values that it hands out.
-- Definitions only.
use Rattle.std.specs.Prelude.{ℕ, List, [], ◌∷◌, Float}
use Rattle.refusal.specs.declared.Refusal.{Refusal}
use Rattle.refusal.specs.declared.Refusal.TheVariants.{DensityAltitudeNotFinite, TemperatureNotFinite, TemperatureTooLow, NoAir, Cut, UnknownTag, WrongLength, RepeatedTag, Clash, NoAltitude, NotFinite, PressureNotPositive, HumidityOutOfRange, TooMuchVapor, NotAir, PageTooShort, TooWide, BufferTooShort, TagFalls, NoCount, FieldNotInAll, NoReadingToChange}
use Rattle.refusal.specs.declared.Values.{Values}
use Rattle.refusal.specs.declared.Values.TheVariants as value

abbrev pub number_of : Refusal → ℕ
number_of (DensityAltitudeNotFinite d) = 1
number_of (TemperatureNotFinite t) = 2
number_of (TemperatureTooLow t) = 3
number_of (NoAir d altitude) = 4
number_of Cut = 5
number_of UnknownTag = 6
number_of WrongLength = 7
number_of RepeatedTag = 8
number_of Clash = 9
number_of NoAltitude = 10
number_of (NotFinite x) = 11
number_of (PressureNotPositive p) = 12
number_of (HumidityOutOfRange h) = 13
number_of TooMuchVapor = 14
number_of NotAir = 15
number_of PageTooShort = 16
number_of TooWide = 17
number_of BufferTooShort = 18
number_of TagFalls = 19
number_of NoCount = 20
number_of FieldNotInAll = 21
number_of NoReadingToChange = 22

abbrev pub values_of : Refusal → List Float
values_of (DensityAltitudeNotFinite d) = d ∷ []
values_of (TemperatureNotFinite t) = t ∷ []
values_of (TemperatureTooLow t) = t ∷ []
values_of (NoAir d altitude) = d ∷ altitude ∷ []
values_of Cut = []
values_of UnknownTag = []
values_of WrongLength = []
values_of RepeatedTag = []
values_of Clash = []
values_of NoAltitude = []
values_of (NotFinite x) = x ∷ []
values_of (PressureNotPositive p) = p ∷ []
values_of (HumidityOutOfRange h) = h ∷ []
values_of TooMuchVapor = []
values_of NotAir = []
values_of PageTooShort = []
values_of TooWide = []
values_of BufferTooShort = []
values_of TagFalls = []
values_of NoCount = []
values_of FieldNotInAll = []
values_of NoReadingToChange = []

-- the values of the code's
abbrev pub listed : Values → List Float
listed value.None = []
listed (value.One x) = x ∷ []
listed (value.Two x y) = x ∷ y ∷ []
