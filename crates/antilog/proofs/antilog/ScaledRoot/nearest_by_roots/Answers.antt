-- The root lies between what its last six roots make of both ends. Assumes nothing.
use Rattle.arithmetic.proofs.Kit.{◌≡◌, refl, sym, ap, ap₂, ◌∙◌, ℕ, ◌*◌, ◌/◌, ◌%◌, ◌^◌, le_trans, le_of_eq, mod-lt, arith, rules, pow_pos, w64, to_z, of_z}
use Rattle.arithmetic.specs.Nearest.{nearest_scaled}
use Rattle.arithmetic.specs.Places.{places}
use Rattle.antilog.specs.Antilog.{antilog_root}
use Rattle.antilog.specs.Estimate.{estimate}
use Rattle.antilog.proofs.Range.{antilog_root-mantissa}
use Rattle.antilog.proofs.LaterRoots.{from_first, not_below, not_above_lem}
use Rattle.antilog.proofs.Window.{Window, window}
use Rattle.antilog.proofs.antilog.ScaledRoot.nearest_by_roots.Goals as goal

-- where the root for the first 54 places lies
early : (f A : ℕ) → A ≡ estimate (f % 2 ^ 54 * 2 ^ 6 % 2 ^ 60) → Window (A / 2) (antilog_root 54 (f % 2 ^ 54))
early f A made = window 54 6 (f % 2 ^ 54) A refl (mod-lt f (pow_pos 54)) made

pub overflow_sub-early : goal.overflow_sub-early
overflow_sub-early c =
    let f : ℕ = c.args.self.fraction in
    omega (arith, (early f _ c.estimate-early.ensures).high, (antilog_root-mantissa 54 (f % 2 ^ 54) (mod-lt f (pow_pos 54))).low)

pub returns-in-Some : goal.returns-in-Some
returns-in-Some c =
    let s = c.args.self in
    let within = early s.fraction _ c.estimate-early.ensures in
    let scale : to_z w64 (of_z w64 s.scale) ≡ s.scale = search rules in
    c.in-Some.ensures _
    (le_trans (le_of_eq c.later_roots-least.ensures) (not_below 54 6 s.fraction _ s.below_one (omega (arith, within.low))))
    (le_trans (not_above_lem 54 6 s.fraction _ s.below_one (omega (arith, within.high))) (le_of_eq (sym c.later_roots-most.ensures)))
    ∙ ap (nearest_scaled (antilog_root places s.fraction)) scale

pub returns : goal.returns
returns c =
    let s = c.args.self in
    let scale : to_z w64 (of_z w64 s.scale) ≡ s.scale = search rules in
    c.nearest_scaled.ensures ∙ ap₂ nearest_scaled (c.later_roots-y.ensures ∙ from_first places s.fraction) scale
