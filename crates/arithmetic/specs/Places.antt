-- The number of binary places of log words and antilogs, which contracts cite by this name. Definitions only.
use Rattle.std.specs.Prelude.{ℕ}

-- document 01, "Log word" and "Antilog", says fifty-two; document 02, K10: sixty
abbrev pub places : ℕ
places = 60
