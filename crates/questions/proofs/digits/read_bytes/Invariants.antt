-- The places passed are filled from the text.
use Rattle.questions.specs.Digits.{byte_at}
use Rattle.pages.proofs.Filled.{Filled}
use Rattle.questions.proofs.digits.read_bytes.Given as goal

abbrev pub invariant-loop-i : goal.invariant-loop-i
invariant-loop-i l = Filled (byte_at l.text) l.initial.out l.i l.out
