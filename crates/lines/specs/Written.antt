-- The bytes of a record that is written or converted, as text: its length in decimal, a blank, two hex digits a byte, or `-` where it is empty; or its refusal.
-- Definitions only.
use Rattle.std.specs.Prelude.{ℕ, cond, List, [], ◌∷◌, ◌++◌, ltb, eqb, length, take}
use Rattle.refusal.specs.Outcomes.{Outcome, accepted, refused, ◌⟫◌, row, ◌then◌}
use Rattle.arithmetic.specs.Ascii.{ascii}
use Rattle.pages.specs.Characters.{refusal_line, hex}
use Rattle.lines.specs.Values.{whole}

unfoldable pub bytes_text : List ℕ → List ℕ
bytes_text t = cond (eqb (length t) 0) (ascii "-") (hex t)

unfoldable pub length_text : List ℕ → List ℕ
length_text t = whole (length t) ++ ascii " " ++ bytes_text t ++ ascii "\n"

-- 18: more than 154 bytes, twice what a record can have
abbrev pub in_room : Outcome (List ℕ) → Outcome (List ℕ)
in_room o = o ⟫ (λ t. row (ltb 154 (length t)) 18 [] ∷ [] then accepted t)

abbrev pub text_or : (List ℕ → List ℕ) → Outcome (List ℕ) → List ℕ
text_or text (accepted t) = text t
text_or text (refused number values) = refusal_line number

unfoldable pub written_text : Outcome (List ℕ) → List ℕ
written_text o = text_or length_text (in_room o)

-- by what a writer answers and leaves in its buffer
abbrev pub text_in : (List ℕ → List ℕ) → Outcome ℕ → List ℕ → List ℕ
text_in text (accepted n) buffer = text (take n buffer)
text_in text (refused number values) buffer = refusal_line number
