-- The lines that functions answer: values with a blank between, `true` or `false`, `some` and a value or `none`, and words. Definitions only.
use Rattle.std.specs.Prelude.{ℕ, Bool, cond, List, ◌++◌, Float}
use Rattle.arithmetic.specs.Ascii.{ascii}
use Rattle.atmosphere.specs.declared.given.Reading.{Reading}
use Rattle.atmosphere.specs.declared.given.Reading.TheVariants.{Given, FromLayer}
use Rattle.pages.specs.Characters.{hex_digits}
use Rattle.lines.specs.Values.{value_text}

unfoldable pub value_line : Float → List ℕ
value_line x = value_text x ++ ascii "\n"

unfoldable pub pair_line : Float → Float → List ℕ
pair_line x y = value_text x ++ (ascii " " ++ value_text y) ++ ascii "\n"

unfoldable pub three_line : Float → Float → Float → List ℕ
three_line x y z = value_text x ++ (ascii " " ++ value_text y) ++ (ascii " " ++ value_text z) ++ ascii "\n"

abbrev pub truth_line : Bool → List ℕ
truth_line b = cond b (ascii "true\n") (ascii "false\n")

unfoldable pub pair_truth_line : Float → Float → Bool → List ℕ
pair_truth_line x y b = value_text x ++ (ascii " " ++ value_text y) ++ ascii " " ++ truth_line b

unfoldable pub some_line : Float → List ℕ
some_line x = ascii "some " ++ value_line x

abbrev pub option_line : Reading → List ℕ
option_line (Given x) = some_line x
option_line FromLayer = ascii "none\n"

unfoldable pub hex_pair_line : ℕ → ℕ → List ℕ
hex_pair_line a b = hex_digits 16 a ++ ascii " " ++ hex_digits 16 b ++ ascii "\n"
