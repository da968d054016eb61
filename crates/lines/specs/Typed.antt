-- The words of a line after the first as they are typed to `park`, each ended by a newline, 10; a tab, 9, stands for a blank in one. Definitions only.
use Rattle.std.specs.Prelude.{ℕ, ◌+◌, ◌-◌, min, cond, List, ltb, eqb, length, get_or}
use Rattle.pages.specs.Scan.{index_of}
use Rattle.pages.specs.Pages.{up_to}
use Rattle.park_text.specs.Words.{arguments}
use Rattle.park_text.specs.ParkText.{park_text}

abbrev pub typed_byte : ℕ → ℕ
typed_byte b = cond (eqb b 32) 10 (cond (eqb b 9) 32 b)

-- the byte of a line at a position, and past its end the newline of its last word
abbrev pub typed_at : List ℕ → ℕ → ℕ
typed_at s at = cond (ltb at (length s)) (typed_byte (get_or s at 0)) 10

-- from behind the first blank on, as much as there is room for; nothing where there is no blank
unfoldable pub typed_text : ℕ → List ℕ → List ℕ
typed_text room s = up_to (λ i. typed_at s (index_of 32 s + 1 + i)) (min (length s - index_of 32 s) room)

-- a line has room for no more words
unfoldable pub park_answer : List ℕ → List ℕ
park_answer s = park_text (arguments (typed_text 4096 s))
