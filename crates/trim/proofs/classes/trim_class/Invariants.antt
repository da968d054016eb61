-- The count so far and that of the densities left are the class.
use Rattle.trim.proofs.Kit.{◌≡◌, ◌+◌, ◌≤◌, drop, class_densities, count_at_or_below, trim_class}
use Rattle.trim.proofs.classes.trim_class.Given as goal

abbrev pub invariant-loop-i : goal.invariant-loop-i
invariant-loop-i l = (l.class ≤ l.i) × (trim_class l.density_kg_m3 ≡ l.class + count_at_or_below (drop l.i class_densities) l.density_kg_m3)
