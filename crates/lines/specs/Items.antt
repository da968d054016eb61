-- Readings as items, `TAG=DATA`, in hex digits: a tag's two, and as many as its form has for the data. Definitions only.
use Rattle.std.specs.Prelude.{ℕ, ◌+◌, ◌*◌, ◌%◌, ◌^◌, Bool, not, ◌&&◌, cond, List, [], ◌∷◌, leb, eqb, length, get_or, take, drop, Option, Some, None, is_some, option_and_then}
use Rattle.std.specs.Float.{binary64}
use Rattle.std.specs.Float.Ieee.{of_bits}
use Rattle.refusal.specs.Outcomes.{accepted}
use Rattle.fields.specs.declared.fields.Value.{Value}
use Rattle.fields.specs.declared.fields.Value.TheVariants.{Double, Count}
use Rattle.fields.specs.Fields.{is_count_tag, is_tag, meaning_of, data_size}
use Rattle.record.specs.declared.entries.Readings.{Readings}
use Rattle.record.specs.Entries.{no_readings, with_value, entry_of}
use Rattle.writer.specs.Records.{record_of}
use Rattle.arithmetic.specs.Ascii.{ascii}
use Rattle.questions.specs.Digits.{are_hex, hex_number}
use Rattle.lines.specs.Written.{written_text}

-- ---- one item; `=` is 61
unfoldable pub item_tag : List ℕ → ℕ
item_tag w = hex_number (take 2 w) % 256

unfoldable pub is_item : List ℕ → Bool
is_item w =
    leb 3 (length w)
    && (are_hex (take 2 w) && (eqb (get_or w 2 0) 61 && (is_tag (item_tag w) && (eqb (length w) (3 + 2 * data_size (item_tag w)) && are_hex (drop 3 w)))))

unfoldable pub value_in : List ℕ → Value
value_in w = cond (is_count_tag (item_tag w)) (Count (hex_number (drop 3 w) % 2 ^ 32)) (Double (of_bits binary64 (hex_number (drop 3 w))))

-- ---- all items: the readings, or none where one is not understood or comes twice
unfoldable pub with_item : Readings → List ℕ → Option Readings
with_item r w = cond (is_item w && not (is_some (entry_of r (meaning_of (item_tag w))))) (Some (with_value r (meaning_of (item_tag w)) (value_in w))) None

unfoldable pub read_from : Readings → List (List ℕ) → Option Readings
read_from r [] = Some r
read_from r (w ∷ ws) = option_and_then (λ q. read_from q ws) (with_item r w)

-- the words of a line after the first
abbrev pub items_in : List (List ℕ) → Option Readings
items_in ws = read_from no_readings (drop 1 ws)

-- ---- the record that is written
abbrev pub items_text : Option Readings → List ℕ
items_text (Some r) = written_text (accepted (record_of r))
items_text None = ascii "wrong arguments: expected write TAG=DATA .., 01 to 07 with 16 hex digits or 11 to 17 with 8, no reading twice\n"

unfoldable pub write_answer : List (List ℕ) → List ℕ
write_answer ws = items_text (items_in ws)
