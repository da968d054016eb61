-- A number between two that round alike rounds as they do. Assumes nothing.
use Rattle.arithmetic.proofs.Kit.{◌≡◌, subst, sym, ℕ, ◌≤◌, Float, ap, ◌∙◌, w64}
use Rattle.std.proofs.lemmas.Int.{to_z-of_z}
use Rattle.arithmetic.specs.Nearest.{nearest_scaled}
use Rattle.std.proofs.Common.{IfSome}
use Rattle.antilog.proofs.Window.{alike, if_true}
use Rattle.antilog.proofs.antilog.alike.Goals as goal

pub returns : goal.returns
returns c =
    let P : Float → Type 0 = λ double. (y : ℕ) → c.args.least ≤ y → y ≤ c.args.most → double ≡ nearest_scaled y c.args.scale in
    let scale = to_z-of_z w64 c.args.scale c.ranges.scale in
    let low = c.nearest_scaled-low.ensures ∙ ap (nearest_scaled c.args.least) scale in
    let high = c.nearest_scaled-high.ensures ∙ ap (nearest_scaled c.args.most) scale in
    subst (λ r. IfSome r P) (sym c.then_some.ensures) (if_true P _ _ (λ e y from to. alike c.args.scale y low high e from to))
