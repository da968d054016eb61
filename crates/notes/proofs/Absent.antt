-- A test for what is absent, as the code answers it. Assumes nothing.
use Rattle.arithmetic.proofs.Kit.{◌≡◌, refl, sym, ap, ◌∙◌, Bool, true, false, not, ◌&&◌}
use Rattle.std.specs.Prelude.{Option, is_some, is_none}

not_not : (b : Bool) → not (not b) ≡ b
not_not true = refl
not_not false = refl

pub absent : {A : Type 0} (o : Option A) {b : Bool} → is_some o ≡ not b → b ≡ is_none o
absent o {b} e = sym (ap not e ∙ not_not b)

pub and_true : (b : Bool) → (b && true) ≡ b
and_true true = refl
and_true false = refl

pub and_false : (b : Bool) → (b && false) ≡ false
and_false true = refl
and_false false = refl
