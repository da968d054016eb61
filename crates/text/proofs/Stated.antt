-- What the page of promises spells out, in the words of the proofs: statements, and what only these cite. Definitions only.
use Rattle.arithmetic.proofs.Kit.{ℕ, ◌≤◌, List, [], ◌++◌, ◌≡◌, take, drop, length}
use Rattle.mast.specs.Judge.{judge}
use Rattle.text.specs.Text.{answer_text}
use Rattle.arithmetic.specs.Decimals.{decimal}
use Rattle.arithmetic.specs.Ascii.{ascii}
use Rattle.text.specs.Samples.{big_endian, double_field}
use Rattle.std.specs.Prelude.{Option}
use Rattle.text.specs.declared.Order.{Order}
use Rattle.text.specs.Asked.{asked_text}

-- ---- the samples
abbrev text_of : List ℕ → List ℕ
text_of s = answer_text (judge s)

pub record AnswerSamples : Type 0 where
  -- an unknown tag
  pub unknown_tag : text_of (big_endian 3 0x080008) ≡ ascii "refused 6\n"
  -- document 02: a measured pressure that is cut
  pub cut : text_of (big_endian 3 0x070008) ≡ ascii "refused 5\n"
  -- an empty record
  pub empty : text_of [] ≡ ascii "refused 10\n"
  -- the altitude 0 m: the first line
  pub sea_level_lem : take 59 (text_of (big_endian 11 0x0100080000000000000000)) ≡ ascii "station 0000000000000000 402E000000000000 408FAA0000000000\n"
  -- and how the second line ends: dry air, in the range of CIPM-2007
  pub sea_level-end : drop 131 (text_of (big_endian 11 0x0100080000000000000000)) ≡ ascii "0000000000000000 1\n"
  -- 0 m, 1,000 °C, 1013.5 hPa and 50 percent
  pub hot : text_of (double_field 1 (decimal "0") ++ double_field 2 (decimal "1000") ++ double_field 3 (decimal "1013.5") ++ double_field 5 (decimal "50")) ≡ ascii "refused 15\n"

-- the program's page has room for it
abbrev pub HasRoom : Type 0
HasRoom = (asked : Option Order) (s : List ℕ) → length (asked_text asked s) ≤ 150
