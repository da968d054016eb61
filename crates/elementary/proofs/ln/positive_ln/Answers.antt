-- The nearest double of the log word times ln 2. Assumes nothing.
use Rattle.arithmetic.proofs.Kit.{false, sym, ap, ◌∙◌, ◌^◌, ℤ, pos, ◌*ℤ◌}
use Rattle.arithmetic.specs.declared.word.Word.{Word}
use Rattle.arithmetic.specs.Whole.{floor_div, word_value}
use Rattle.arithmetic.specs.Nearest.{nearest_ratio}
use Rattle.antilog.specs.Log.{word_of_units}
use Rattle.elementary.specs.Ln.{ln2}
use Rattle.arithmetic.specs.Places.{places}
use Rattle.arithmetic.proofs.Parts.{units_of-parts}
use Rattle.arithmetic.proofs.Times.{word_value_lem}
use Rattle.elementary.proofs.ln.positive_ln.Goals as goal

pub returns : goal.returns
returns c =
    let u = c.args.units in
    c.nearest_to_word.ensures
    ∙ ap (λ (v : Word). nearest_ratio (word_value places v) (2 ^ places)) c.times.ensures
    ∙ ap (λ (z : ℤ). nearest_ratio z (2 ^ places)) (word_value_lem places (floor_div (word_value places c.log.result *ℤ pos ln2) (2 ^ 62)))
    ∙ ap (λ (z : ℤ). nearest_ratio (floor_div (z *ℤ pos ln2) (2 ^ 62)) (2 ^ places))
    (ap (word_value places) c.log.ensures.0 ∙ word_value_lem places _ ∙ ap (word_of_units places) (sym (units_of-parts false u.q u.k)))
