-- The readings that words give, one word after the other, or the first problem with the number of its word, counted from 0. Definitions only.
use Rattle.std.specs.Prelude.{ℕ, ℤ, ◌+◌, cond, List, [], ◌∷◌, Float, Option, Some, None, is_some, Result, Ok, Err}
use Rattle.thousandths.specs.Thousandths.{twos_complement, count_for}
use Rattle.fields.specs.declared.fields.Value.{Value}
use Rattle.fields.specs.declared.fields.Value.TheVariants.{Double, Count}
use Rattle.record.specs.declared.entries.Readings.{Readings}
use Rattle.record.specs.Entries.{no_readings, entry_of, with_value}
use Rattle.park_text.specs.declared.typed_word.Problem.{Problem}
use Rattle.park_text.specs.declared.typed_word.Problem.TheVariants.{RepeatedWord}
use Rattle.park_text.specs.declared.typed_word.TypedReading.{TypedReading}
use Rattle.park_text.specs.declared.typed_readings.WrongWord.{WrongWord}
use Rattle.park_text.specs.Word.{read_word}

-- the problem of word i
abbrev pub problem : Problem → ℕ → Result Readings WrongWord
problem p i = Err (record { problem = p; number = i })

-- what comes after: a problem is the last word
infixr 20 ◌⟫◌
abbrev pub ◌⟫◌ : Result Readings WrongWord → (Readings → Result Readings WrongWord) → Result Readings WrongWord
Ok r ⟫ next = next r
Err e ⟫ next = Err e

-- a reading as it is kept: the count of thousandths whose double it is, where there is one
abbrev pub kept_as : Float → Option ℤ → Value
kept_as x (Some n) = Count (twos_complement n)
kept_as x None = Double x

unfoldable pub value_of : Float → Value
value_of x = kept_as x (count_for x)

-- word i after those that gave r
abbrev pub with_typed : Readings → ℕ → Result TypedReading Problem → Result Readings WrongWord
with_typed r i (Ok t) = cond (is_some (entry_of r t.meaning)) (problem RepeatedWord i) (Ok (with_value r t.meaning (value_of t.reading)))
with_typed r i (Err p) = problem p i

unfoldable pub understand_from : ℕ → Readings → List (List ℕ) → Result Readings WrongWord
understand_from i r [] = Ok r
understand_from i r (w ∷ ws) = with_typed r i (read_word w) ⟫ (λ q. understand_from (i + 1) q ws)

abbrev pub understand : List (List ℕ) → Result Readings WrongWord
understand ws = understand_from 0 no_readings ws
