-- The roots lie between the two ends. Assumes nothing.
use Rattle.arithmetic.proofs.Kit.{◌≡◌, sym, ap, ◌∙◌, subst, ℕ, ◌+◌, ◌%◌, ◌^◌, ◌<◌, mod-eq_of_lt, arith, rules, w64, to_z, of_z}
use Rattle.arithmetic.specs.Nearest.{nearest_scaled}
use Rattle.antilog.specs.Antilog.{antilog_root}
use Rattle.std.proofs.lemmas.Option.{IfSome_then}
use Rattle.arithmetic.specs.Places.{places}
use Rattle.antilog.specs.Estimate.{estimate, moved}
use Rattle.antilog.proofs.Range.{antilog_root-mantissa}
use Rattle.antilog.proofs.Near.{Estimates, estimate-near}
use Rattle.antilog.proofs.Bracket.{moved-fits}
use Rattle.antilog.proofs.Window.{of-all, among}
use Rattle.antilog.proofs.antilog.ScaledRoot.nearest_among.Goals as goal

fits : (f n A : ℕ) → f + n < 2 ^ 60 → n < 2 ^ 28 → A ≡ estimate (f % 2 ^ 60) → moved A n < 2 ^ 64
fits f n A short few made =
    let small : f < 2 ^ 60 = omega arith in
    moved-fits f n A few (subst (Estimates f) (sym (made ∙ ap estimate (mod-eq_of_lt small))) (estimate-near f small)) short

pub overflow_sub-from : goal.overflow_sub-from
overflow_sub-from c =
    let s = c.args.self in
    omega (arith, (of-all s.fraction c.estimate-a.result s.below_one c.estimate-a.ensures).high, (antilog_root-mantissa places s.fraction s.below_one).low)

pub moved-requires : goal.moved-requires
moved-requires c = (omega arith, fits c.args.self.fraction c.args.n c.estimate-a.result (omega arith) (omega arith) c.estimate-a.ensures)

pub returns : goal.returns
returns c =
    let s = c.args.self in
    let f : ℕ = s.fraction in
    let n : ℕ = c.args.n in
    let short : f + n < 2 ^ places = omega arith in
    let few : n < 2 ^ 28 = omega arith in
    let scale : to_z w64 (of_z w64 s.scale) ≡ s.scale = search rules in
    IfSome_then c.alike.result c.alike.ensures
    (λ value same. (
      short,
      λ i some.
          let ends = among f n i c.estimate-a.result short few some c.estimate-a.ensures in
          same _ (omega (arith, ends.0)) (omega (arith, ends.1, c.moved.ensures)) ∙ ap (nearest_scaled (antilog_root places (f + i))) scale,
    ))
