-- The root lies between the two ends. Assumes nothing.
use Rattle.arithmetic.proofs.Kit.{◌≡◌, ap, ◌∙◌, arith, rules, w64, to_z, of_z}
use Rattle.std.proofs.lemmas.Option.{IfSome_then}
use Rattle.arithmetic.specs.Nearest.{nearest_scaled}
use Rattle.antilog.specs.Antilog.{antilog_root}
use Rattle.arithmetic.specs.Places.{places}
use Rattle.antilog.proofs.Range.{antilog_root-mantissa}
use Rattle.antilog.proofs.Window.{of-all, either}
use Rattle.antilog.proofs.antilog.ScaledRoot.nearest.Goals as goal

pub overflow_sub-least : goal.overflow_sub-least
overflow_sub-least c =
    let s = c.args.self in
    omega (arith, (of-all s.fraction c.estimate-half.result s.below_one c.estimate-half.ensures).high, (antilog_root-mantissa places s.fraction s.below_one).low)

pub returns : goal.returns
returns c =
    let s = c.args.self in
    let within = of-all s.fraction _ s.below_one c.estimate-half.ensures in
    let scale : to_z w64 (of_z w64 s.scale) ≡ s.scale = search rules in
    let known = IfSome_then c.alike.result {Q = λ double. double ≡ nearest_scaled (antilog_root places s.fraction) s.scale} c.alike.ensures (λ double same. same _ (omega (arith, within.low)) (omega (arith, within.high)) ∙ ap (nearest_scaled (antilog_root places s.fraction)) scale) in
    either c.alike.result c.unwrap_or_else.ensures known (λ h. search rules)
