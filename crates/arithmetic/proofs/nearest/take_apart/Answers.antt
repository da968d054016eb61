-- The tests go by the fields of x's pattern, and proofs/Parts has what each case is.
use Rattle.arithmetic.proofs.Kit.{sym, ◌∙◌, subst, T}
use Rattle.arithmetic.proofs.Parts.{in_one_way, is_not_a_number, is_a_number, infinite-apart, zero-apart, subnormal_apart, normal-apart}
use Rattle.arithmetic.proofs.nearest.take_apart.Goals as goal

pub returns-then-is_nan : goal.returns-then-is_nan
returns-then-is_nan c = let r = in_one_way _ (is_not_a_number c.args.x (sym c.is_nan.ensures.value ∙ c.if-is_nan.true)) in record { value = r.0; apart = r.1 }

pub returns-then-field-eq2047 : goal.returns-then-field-eq2047
returns-then-field-eq2047 c =
    let r = in_one_way _ (infinite-apart c.args.x (subst T (sym c.well_formed.0.1) tt) c.if-field-eq2047.true (is_a_number c.args.x (sym c.is_nan.ensures.value ∙ c.if-is_nan.false))) in
    record { value = r.0; apart = r.1 }

pub returns-then-fraction-eq0 : goal.returns-then-fraction-eq0
returns-then-fraction-eq0 c =
    let r = in_one_way _ (zero-apart c.args.x (subst T (sym c.well_formed.0.1) tt) c.if-field-eq0.true c.if-fraction-eq0.true) in
    record { value = r.0; apart = r.1 }

pub returns-then-field-eq0 : goal.returns-then-field-eq0
returns-then-field-eq0 c =
    let r = in_one_way _ (subnormal_apart c.args.x (subst T (sym c.well_formed.0.1) tt) c.if-field-eq0.true c.if-fraction-eq0.false) in
    record { value = r.0; apart = r.1 }

pub returns : goal.returns
returns c =
    let r = in_one_way _ (normal-apart c.args.x (subst T (sym c.well_formed.0.1) tt) c.if-field-eq2047.false c.if-field-eq0.false) in
    record { value = r.0; apart = r.1 }
