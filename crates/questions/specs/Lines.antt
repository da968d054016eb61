-- Input as lines. A line ends with a newline, 10; a carriage return, 13, before it belongs to the line's end; the last line may lack its newline. Definitions
-- only.
use Rattle.std.specs.Prelude.{ℕ, ◌+◌, ◌-◌, min, Bool, ◌&&◌, ◌||◌, cond, List, ltb, eqb, length, get_or, take, Option, Some, None}
use Rattle.pages.specs.Scan.{index_of}
use Rattle.questions.specs.declared.line_ends.Line.{Line}

-- the end of a line whose newline, or the input's end, is at e
abbrev pub before_return : List ℕ → ℕ → ℕ
before_return s e = cond (eqb (get_or s (e - 1) 0) 13) (e - 1) e

-- ---- the line at the head of s
unfoldable pub line_end : List ℕ → ℕ
line_end s = before_return s (index_of 10 s)

abbrev pub first_line : List ℕ → List ℕ
first_line s = take (line_end s) s

-- where the next begins
abbrev pub next_line : List ℕ → ℕ
next_line s = min (index_of 10 s + 1) (length s)

-- whether it is whole: a newline ends it, or the input has ended and it is the last
abbrev pub has_line : Bool → List ℕ → Bool
has_line ended s = ltb (index_of 10 s) (length s) || (ended && ltb 0 (length s))

unfoldable pub found_line : Bool → List ℕ → Option Line
found_line ended s = cond (has_line ended s) (Some (record { end = line_end s; next = next_line s })) None
