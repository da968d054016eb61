-- The trim class as text, and the smallest change that gives another, in tenths of a degree or of a hectopascal. Definitions only.
use Rattle.std.specs.Prelude.{ℕ, List, ◌++◌, None, Option, Some}
use Rattle.refusal.specs.Outcomes.{Outcome, accepted, refused}
use Rattle.trim.specs.declared.changes.Quantity.{Quantity}
use Rattle.trim.specs.declared.changes.Quantity.TheVariants.{Temperature, MeasuredPressure}
use Rattle.trim.specs.declared.changes.Direction.{Direction}
use Rattle.trim.specs.declared.changes.Direction.TheVariants.{Up, Down}
use Rattle.trim.specs.declared.changes.Turn.{Turn}
use Rattle.trim.specs.declared.search.Next.{Next}
use Rattle.arithmetic.specs.Ascii.{ascii}
use Rattle.pages.specs.Characters.{refusal_line}
use Rattle.lines.specs.Values.{whole}

abbrev pub quantity_text : Quantity → List ℕ
quantity_text Temperature = ascii " temperature"
quantity_text MeasuredPressure = ascii " pressure"

abbrev pub direction_text : Direction → List ℕ
direction_text Up = ascii " up "
direction_text Down = ascii " down "

unfoldable pub turn_text : Turn → List ℕ
turn_text t =
    quantity_text t.change.quantity ++ direction_text t.change.direction ++ whole t.change.tenths ++ ascii " class " ++ whole t.class ++ ascii "\n"

abbrev pub found_text : (Option Turn) → List ℕ
found_text (Some t) = turn_text t
found_text None = ascii " none\n"

abbrev pub class_text : Outcome Next → List ℕ
class_text (accepted n) = ascii "class " ++ whole n.class ++ found_text n.turn
class_text (refused number values) = refusal_line number
