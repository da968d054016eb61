-- What the page of promises spells out, in the words of the proofs: statements, and what only these cite. Definitions only.
use Rattle.arithmetic.proofs.Kit.{ℕ, ◌≤◌, List, length}
use Rattle.lines.specs.Answers.{answer_line}

-- an answer is begun where it has room, with 4,096 bytes free
abbrev pub HasRoom : Type 0
HasRoom = (line : List ℕ) → length (answer_line line) ≤ 4096
