-- The digits from the position on, behind the value so far, spell the word.
use Rattle.arithmetic.proofs.Kit.{◌≡◌, ◌<◌, ◌^◌, drop}
use Rattle.questions.specs.Digits.{hex_from}
use Rattle.questions.proofs.digits.word_in.Given as goal

abbrev pub invariant-loop-b : goal.invariant-loop-b
invariant-loop-b l = (l.value < 16 ^ l.b-index) × (hex_from 0 l.text ≡ hex_from l.value (drop l.b-index l.text))
