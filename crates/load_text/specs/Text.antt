-- The text of the load, document 02: "each record's bytes on a line, two upper-case hex digits each and no blanks, then its two lines of figures".
-- Definitions only.
use Rattle.std.specs.Prelude.{◌≡◌, ℕ, zero, suc, ◌+◌, ◌/◌, ◌≤◌, min, List, [], ◌++◌, length}
use Rattle.refusal.specs.Outcomes.{Outcome, accepted, refused}
use Rattle.mast.specs.Judge.{judge}
use Rattle.arithmetic.specs.Ascii.{ascii}
use Rattle.pages.specs.Characters.{hex}
use Rattle.pages.specs.Pages.{Appended}
use Rattle.text.specs.Text.{answer_text}
use Rattle.load_text.specs.declared.blocks.Block.{Block}
use Rattle.load_text.specs.Records.{load_record}

-- a record's bytes, and what the judge says of it
unfoldable pub bytes_line : List ℕ → List ℕ
bytes_line s = hex s ++ ascii "\n"

unfoldable pub judged_text : List ℕ → List ℕ
judged_text s = bytes_line s ++ answer_text (judge s)

unfoldable pub load_record_text : ℕ → List ℕ
load_record_text n = judged_text (load_record n)

-- k records from record n on
unfoldable pub records_text : ℕ → ℕ → List ℕ
records_text n zero = []
records_text n (suc k) = records_text n k ++ load_record_text (n + k)

-- ---- on a page
-- no record's text has more than 207 bytes, so this many of k have room
abbrev pub records_in : ℕ → ℕ → ℕ
records_in k size = min k (size / 207)

-- k records from record n on are put on a page, and all their text has room
pub record Fills (n k : ℕ) (page last : List ℕ) (r : Block) : Type 0 where
  pub records : r.records ≡ k
  pub text : Appended page 0 (records_text n k) last r.length
  pub room : length (records_text n k) ≤ length page

-- the length that a writer answers
abbrev pub length_taken : Outcome ℕ → ℕ
length_taken (accepted n) = n
length_taken (refused number values) = 0
