-- What the program's arguments ask for: none the first reader, `strict` alone the strict one; any other gets a line that says what there is. Definitions only.
use Rattle.std.specs.Prelude.{ℕ, ◌&&◌, cond, List, leb, eqb, take, Option, Some, None}
use Rattle.mast.specs.Judge.{judge, judge_strictly}
use Rattle.arithmetic.specs.Ascii.{ascii}
use Rattle.pages.specs.Characters.{same}
use Rattle.text.specs.declared.Order.{Order}
use Rattle.text.specs.declared.Order.TheVariants.{AnyOrder, RisingTags}
use Rattle.text.specs.Text.{answer_text}

-- by how many words the program was started with, its own name among them, and by the word after its name
abbrev pub asked_by : ℕ → List ℕ → Option Order
asked_by count word = cond (leb count 1) (Some AnyOrder) (cond (eqb count 2 && same word (ascii "strict")) (Some RisingTags) None)

abbrev pub asked_text : Option Order → List ℕ → List ℕ
asked_text (Some AnyOrder) s = answer_text (judge (take 256 s))
asked_text (Some RisingTags) s = answer_text (judge_strictly (take 256 s))
asked_text None s = ascii "usage: station_air [strict] <RECORD\n"
