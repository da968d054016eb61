-- The words that are left, after the readings so far, give what all words give. Assumes nothing.
use Rattle.std.proofs.Common.{◌≡◌}
use Rattle.park_text.specs.Words.{words_left}
use Rattle.park_text.specs.Understood.{understand_from, understand}
use Rattle.park_text.proofs.typed_readings.read_words.Given as goal

abbrev pub invariant-loop-number : goal.invariant-loop-number
invariant-loop-number l = understand_from l.number-iterator.count l.readings (words_left l.number-iterator.iter) ≡ understand (words_left l.words)
