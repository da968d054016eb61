-- The definition at no form, and at one more.
use Rattle.std.proofs.Common.{add-one, rules}
use Rattle.exports.specs.Records.{are_forms}
use Rattle.exports.proofs.records.are_forms.Goals as goal

pub loop-meaning-init : goal.loop-meaning-init
unfolding are_forms
loop-meaning-init c = search rules

pub loop-meaning-preserved : goal.loop-meaning-preserved
unfolding are_forms
loop-meaning-preserved c = rw add-one (search rules)
