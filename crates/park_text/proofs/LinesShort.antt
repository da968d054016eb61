-- How long the lines are at most. Assumes nothing.
use Rattle.arithmetic.proofs.Kit.{◌||◌, List, [], ◌∷◌, ◌++◌, ℕ, zero, suc, ◌+◌, ◌*◌, ◌≤◌, zero-le, arith, ltb, eqb, lit≤, Float, length, get_or, take, drop, length-append, length-take, length-drop}
use Rattle.pages.specs.Scan.{index_of}
use Rattle.decimals.proofs.Places.{shown-short}
use Rattle.arithmetic.specs.Ascii.{ascii}
use Rattle.fields.specs.Fields.{temperature, humidity}
use Rattle.pages.specs.Characters.{hex}
use Rattle.pages.proofs.Short.{Within, whole, both, either}
use Rattle.park_text.specs.declared.typed_word.Problem.{Problem}
use Rattle.park_text.specs.declared.typed_word.Problem.TheVariants.{RecordBeside, NotARecord, RecordTooLong, NameAlone, UnknownWord, Blank, Comma, MinusSign, NotANumber, UnknownUnit, TooManyDecimals, OutOfRange, RepeatedWord}
use Rattle.park_text.specs.declared.typed_word.TypedReading.{TypedReading}
use Rattle.std.specs.Prelude.{Result, Ok, Err}
use Rattle.park_text.specs.Units.{is_length, by_quantity}
use Rattle.park_text.specs.Word.{name_in}
use Rattle.park_text.specs.ParkLines.{byte_with, typed_with, quoted, examples, example_of, alone_message, unit_message, blank_message, comma_message, minus_message, message_of, problem_line, reading_line, unit_line}

-- ---- a word on a page has four bytes for each of its own at most
byte_short : (old : ℕ) (new : List ℕ) (b : ℕ) → length new ≤ 4 → length (byte_with old new b) ≤ 4
unfolding hex
byte_short old new b few =
    either (eqb b old) new _ few (either (ltb b 32 || ltb 126 b) (ascii "\\x" ++ hex (b ∷ [])) (b ∷ []) (lit≤ tt) (lit≤ tt))

with_short : (old : ℕ) (new : List ℕ) → length new ≤ 4 → (w : List ℕ) → length (typed_with old new w) ≤ 4 * length w
unfolding typed_with
with_short old new few [] = zero-le
with_short old new few (b ∷ w) = omega (arith, length-append (byte_with old new b) (typed_with old new w), byte_short old new b few, with_short old new few w)

part-short : (old : ℕ) (new : List ℕ) → length new ≤ 4 → (w : List ℕ) → length w ≤ 64 → Within (typed_with old new w) 256
part-short old new few w h = record { bound = omega (arith, with_short old new few w) }

pub quoted-short : (w : List ℕ) → Within (quoted w) 258
unfolding quoted
quoted-short w = both (both (whole (ascii "\"")) (part-short 34 (ascii "\"") (lit≤ tt) (take 64 w) (omega (arith, length-take 64 w)))) (whole (ascii "\""))

-- ---- what is wrong with a word
by_quantity-short : (n m : ℕ) (l t h p : List ℕ) → length l ≤ n → length t ≤ n → length h ≤ n → length p ≤ n → length (by_quantity m l t h p) ≤ n
by_quantity-short n m l t h p a b c d = either (is_length m) l _ a (either (eqb m temperature) t _ b (either (eqb m humidity) h p c d))

example_short : (m : ℕ) → Within (example_of m) 30
unfolding example_of
example_short m = record { bound = go m }
  where
    go : (m : ℕ) → length (get_or examples m []) ≤ 30
    go zero = lit≤ tt
    go (suc zero) = lit≤ tt
    go (suc (suc zero)) = lit≤ tt
    go (suc (suc (suc zero))) = lit≤ tt
    go (suc (suc (suc (suc zero)))) = lit≤ tt
    go (suc (suc (suc (suc (suc zero))))) = lit≤ tt
    go (suc (suc (suc (suc (suc (suc zero)))))) = lit≤ tt
    go (suc (suc (suc (suc (suc (suc (suc zero))))))) = lit≤ tt
    go (suc (suc (suc (suc (suc (suc (suc (suc m)))))))) = zero-le

module _ (w : List ℕ) (few : length w ≤ 64) where
  comma_short : Within (comma_message w) 560
  unfolding comma_message
  comma_short = record {
    bound = omega (
      arith,
      (both (both (both (both (whole (ascii ": a comma, type ")) (part-short 44 (ascii ".") (lit≤ tt) w few))
          (whole (ascii " for decimals, "))) (part-short 44 [] (lit≤ tt) w few)) (whole (ascii " for thousands\n"))).bound,
    );
  }

  minus-short : Within (minus_message w) 560
  unfolding minus_message
  minus-short =
      let name : length (name_in w) ≤ 64 = omega (arith, length-take (index_of 61 w) w) in
      let number : length (drop (index_of 61 w + 4) w) ≤ 64 = omega (arith, length-drop (index_of 61 w + 4) w) in
      record {
        bound = omega (
          arith,
          (both (both (both (both (whole (ascii ": a minus sign that is no hyphen, type ")) (part-short 34 (ascii "\"") (lit≤ tt) (name_in w) name))
              (whole (ascii "=-"))) (part-short 34 (ascii "\"") (lit≤ tt) (drop (index_of 61 w + 4) w) number)) (whole (ascii "\n"))).bound,
        );
      }

  blank-short : Within (blank_message w) 560
  unfolding blank_message
  blank-short = record { bound = omega (arith, (both (both (whole (ascii ": a blank, type ")) (part-short 32 [] (lit≤ tt) w few)) (whole (ascii "\n"))).bound) }

  message_short : (p : Problem) → length (message_of w p) ≤ 560
  unfolding message_of alone_message unit_message
  message_short RecordBeside = lit≤ tt
  message_short NotARecord = lit≤ tt
  message_short RecordTooLong = lit≤ tt
  message_short (NameAlone m) = omega (arith, (both (whole (ascii ": a name without =, type ")) (example_short m)).bound)
  message_short UnknownWord = lit≤ tt
  message_short Blank = blank-short.bound
  message_short Comma = comma_short.bound
  message_short MinusSign = minus-short.bound
  message_short NotANumber = lit≤ tt
  message_short (UnknownUnit m) =
      let units = by_quantity-short 20 m (ascii "m or ft\n") (ascii "C, F or K\n") (ascii "percent or %\n") (ascii "hPa, kPa or inHg\n") (lit≤ tt) (lit≤ tt) (lit≤ tt) (lit≤ tt) in
      let after : Within (by_quantity m (ascii "m or ft\n") (ascii "C, F or K\n") (ascii "percent or %\n") (ascii "hPa, kPa or inHg\n")) 20 = record { bound = units } in
      omega (arith, (both (whole (ascii ": unknown unit, expected ")) after).bound)
  message_short (TooManyDecimals k) = either (eqb k 4) _ _ (lit≤ tt) (lit≤ tt)
  message_short (OutOfRange k) = either (eqb k 4) _ _ (lit≤ tt) (lit≤ tt)
  message_short RepeatedWord = lit≤ tt

pub problem-short : (w : List ℕ) (p : Problem) → Within (problem_line w p) 818
unfolding problem_line
problem-short w p = both (quoted-short w) record { bound = message_short (take 64 w) (omega (arith, length-take 64 w)) p }

-- ---- the reading of a word whose unit was written
reading_line-short : (w : List ℕ) (m : ℕ) (x : Float) → Within (reading_line w m x) 93
unfolding reading_line
reading_line-short w m x =
    let quoted-part : Within (take 64 w) 64 = record { bound = omega (arith, length-take 64 w) } in
    let unit = by_quantity-short 9 m (ascii " m\n") (ascii " C\n") (ascii " percent\n") (ascii " hPa\n") (lit≤ tt) (lit≤ tt) (lit≤ tt) (lit≤ tt) in
    both (both (both quoted-part (whole (ascii " is "))) record { bound = shown-short 3 x }) record { bound = unit }

pub unit_line-short : (w : List ℕ) (o : Result TypedReading Problem) → length (unit_line w o) ≤ 93
unit_line-short w (Ok t) = either t.unit_written (reading_line w t.meaning t.reading) [] (reading_line-short w t.meaning t.reading).bound zero-le
unit_line-short w (Err p) = zero-le
