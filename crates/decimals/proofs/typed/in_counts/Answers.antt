-- The count, if it is in range.
use Rattle.std.proofs.Common.{◌≡◌, ℤ, refl, ap, ◌∙◌, Option, Some, None, ok_or}
use Rattle.decimals.specs.declared.typed.NotACount.TheVariants.{OutOfRange}
use Rattle.decimals.specs.Typed.{answer, in_counts}
use Rattle.decimals.proofs.typed.in_counts.Goals as goal

answer_is : (o : Option ℤ) → ok_or o OutOfRange ≡ answer o
answer_is (Some n) = refl
answer_is None = refl

pub returns : goal.returns
unfolding in_counts
returns c = c.ok_or.ensures.value ∙ answer_is c.signed_count.result ∙ ap answer c.signed_count.ensures
