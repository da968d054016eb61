-- How many records the program is asked for: without an argument the acceptance bench's ten thousand, with one as many as it says, a whole number from 0 on
-- typed as the setting sheet's numbers are. Definitions only.
use Rattle.std.specs.Prelude.{ℕ, ◌/◌, ◌%◌, cond, List, ℤ, pos, negsuc, ◌==◌, nat_le, Option, Some, None, Result, Ok, Err}
use Rattle.decimals.specs.declared.typed.NotACount.{NotACount}
use Rattle.decimals.specs.Typed.{typed}

-- a count of thousandths
abbrev pub whole_in : ℤ → Option ℕ
whole_in (pos n) = cond (n % 1000 == 0) (Some (n / 1000)) None
whole_in (negsuc n) = None

abbrev pub asked_in : Result ℤ NotACount → Option ℕ
asked_in (Ok z) = whole_in z
asked_in (Err why) = None

-- by how many words the program was started with, its own name among them, and by the word after its name
unfoldable pub load_asked_by : ℕ → List ℕ → Option ℕ
load_asked_by words word = cond (nat_le words 1) (Some 10_000) (cond (words == 2) (asked_in (typed 3 word)) None)
