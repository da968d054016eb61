-- The digits from the position on, behind the value so far, spell the number.
use Rattle.arithmetic.proofs.Kit.{◌≡◌, drop}
use Rattle.questions.specs.Digits.{decimal_from}
use Rattle.questions.proofs.digits.number_in.Given as goal

abbrev pub invariant-loop-b : goal.invariant-loop-b
invariant-loop-b l = decimal_from 0 l.text ≡ decimal_from l.value (drop l.b-index l.text)
