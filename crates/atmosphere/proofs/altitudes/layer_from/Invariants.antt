-- The loop's invariant: the search from `first` on ends where the one from `number` on does.
use Rattle.std.proofs.Common.{◌≡◌, ◌-◌, get_or}
use Rattle.std.specs.Float.{nan}
use Rattle.atmosphere.specs.Altitudes.{layer_from}
use Rattle.atmosphere.proofs.altitudes.layer_from.Given as goal

abbrev pub invariant-loop-number : goal.invariant-loop-number
invariant-loop-number l = layer_from (λ i. get_or l.at_bases i nan) (6 - l.first) l.first l.value ≡ layer_from (λ i. get_or l.at_bases i nan) (6 - l.number) l.number l.value
