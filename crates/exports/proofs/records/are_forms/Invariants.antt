-- The forms below the next meaning are tested.
use Rattle.std.proofs.Common.{◌≡◌}
use Rattle.exports.specs.Records.{are_forms}
use Rattle.exports.proofs.records.are_forms.Given as goal

abbrev pub invariant-loop-meaning : goal.invariant-loop-meaning
invariant-loop-meaning l = l.all ≡ are_forms l.meaning l.forms
