-- A figure as text, in ASCII, without blanks before it. Definitions only.
use Rattle.std.specs.Prelude.{ℕ, cond, List, ltb, Float, length}
use Rattle.arithmetic.specs.Ascii.{ascii}
use Rattle.decimals.specs.Decimal.{decimal_text}

-- x with k decimals; a text of more than sixteen bytes is not shown
unfoldable pub shown : ℕ → Float → List ℕ
shown k x = let t = decimal_text k x in cond (ltb 16 (length t)) (ascii "too wide") t
