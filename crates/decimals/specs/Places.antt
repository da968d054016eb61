-- How a text stands in the code's sixteen places: at their right end, blanks before it, with its length. Definitions only.
use Rattle.std.specs.Prelude.{ℕ, ◌-◌, ◌≡◌, cond, List, ◌++◌, ltb, length, replicate}
use Rattle.decimals.specs.declared.shown.DecimalText.{DecimalText}

-- seventeen stands for every length above sixteen, with blanks only
abbrev pub too_long : DecimalText
too_long = record { bytes = replicate 16 32; len = 17 }

abbrev pub standing : List ℕ → DecimalText
standing t = record { bytes = replicate (16 - length t) 32 ++ t; len = length t }

unfoldable pub in_sixteen : List ℕ → DecimalText
in_sixteen t = cond (ltb 16 (length t)) too_long (standing t)

-- r is the text with more bytes before it
pub record Before (text : DecimalText) (more : List ℕ) (r : DecimalText) : Type 0 where
  pub stands : (t : List ℕ) → text ≡ in_sixteen t → r ≡ in_sixteen (more ++ t)
