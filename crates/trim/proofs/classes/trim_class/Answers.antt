-- Each density is counted where it is at or below. Assumes nothing.
use Rattle.trim.proofs.Kit.{◌≡◌, sym, ap, ◌∙◌, Bool, true, false, cond, List, ℕ, ◌+◌, ◌<◌, add-zero, zero-add, add-one, arith, Float, nan, le, length, get_or, drop, drop-cons, class_densities, count_at_or_below, trim_class}
use Rattle.trim.proofs.classes.trim_class.Goals as goal
use Rattle.trim.proofs.classes.trim_class.Goals.{then-i-density_kg_m3, else-i-density_kg_m3}

-- the densities from the i-th on, by the test of the i-th
by_test : (l : List Float) (i : ℕ) (d : Float) (b : Bool) → i < length l → le (get_or l i nan) d ≡ b
    → count_at_or_below (drop i l) d ≡ cond b 1 0 + count_at_or_below (drop (i + 1) l) d
unfolding count_at_or_below
by_test l i d b h e = rw (add-one, drop-cons l i nan) (simp e)

pub loop-i-init : goal.loop-i-init
unfolding trim_class
loop-i-init c = (omega arith, sym (zero-add _))

pub loop-i-preserved : goal.loop-i-preserved
unfolding class_densities
loop-i-preserved c =
    let turn = c.loop-i in
    let d = c.args.density_kg_m3 in
    elim c.if-i-density_kg_m3.branch [
      | then-i-density_kg_m3 w ↦ (omega (arith, w.class-is), omega (arith, w.class-is, by_test class_densities turn.i d true (omega arith) w.if-i-density_kg_m3.true))
      | else-i-density_kg_m3 w ↦ (omega (arith, w.class-is), omega (arith, w.class-is, by_test class_densities turn.i d false (omega arith) w.if-i-density_kg_m3.false))
    ]

pub returns : goal.returns
unfolding count_at_or_below class_densities
returns c =
    let at = c.loop-i in
    let last : at.i ≡ 6 = omega arith in
    let d = c.args.density_kg_m3 in
    sym (at.invariant.1 ∙ ap (λ (i : ℕ). at.class + count_at_or_below (drop i class_densities) d) last ∙ add-zero at.class)
