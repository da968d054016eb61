-- The generator's first outputs are the published ones, as computed. Assumes nothing.
use Rattle.load_text.proofs.Kit.{refl, state_after, mixed}
use Rattle.load_text.proofs.Stated.{PublishedOutputs}

pub published : PublishedOutputs
unfolding state_after mixed
published = record { first = refl; second = refl; third = refl }
