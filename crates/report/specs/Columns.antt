-- A figure in a line of a report: its name, its decimal text at the right of sixteen places, its unit. A text of more than sixteen bytes is not cut: the
-- column says so, and the report's record keeps the reading. Definitions only.
use Rattle.std.specs.Prelude.{ℕ, ◌-◌, cond, List, ◌++◌, ltb, Float, length, replicate}
use Rattle.decimals.specs.Decimal.{decimal_text}
use Rattle.arithmetic.specs.Ascii.{ascii}

unfoldable pub column : List ℕ → List ℕ
column t = cond (ltb 16 (length t)) (ascii "        too wide") (replicate (16 - length t) 32 ++ t)

unfoldable pub figure_line : List ℕ → ℕ → Float → List ℕ → List ℕ
figure_line name decimals x unit = name ++ column (decimal_text decimals x) ++ unit
