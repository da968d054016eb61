-- The log word, with the exponent's sign, times its magnitude. Assumes nothing.
use Rattle.arithmetic.proofs.Kit.{◌≡◌, sym, ap, ap₂, ◌∙◌, subst, Bool, false, cond, ℕ, ◌*◌, ◌^◌, ◌<◌, lt_of_lt_of_le, lt_of_le_of_lt, lit<, lit≤, ℤ, pos, neg_ℤ, ◌*ℤ◌}
use Rattle.arithmetic.specs.declared.word.Word.{Word}
use Rattle.arithmetic.specs.Whole.{signed, floor_div, word_value, as_word}
use Rattle.antilog.specs.Log.{word_of_units}
use Rattle.antilog.specs.Antilog.{antilog}
use Rattle.elementary.specs.declared.log.Units.{Units}
use Rattle.elementary.specs.Exponents.{exponent_at}
use Rattle.arithmetic.specs.Places.{places}
use Rattle.elementary.proofs.Exponents.{magnitude_pos}
use Rattle.arithmetic.proofs.Parts.{units_of-parts}
use Rattle.arithmetic.proofs.Times.{word_value_lem, word-short, opposite-small, times-sign}
use Rattle.elementary.proofs.power.squared_power.Goals as goal
use Rattle.elementary.proofs.power.squared_power.Goals.{then-is_negative, else-is_negative}

-- the log word, and the same with the exponent's sign
abbrev log : Units → ℤ
log u = word_of_units places (u.q * 2 ^ u.k)

abbrev signed_log : Units → ℕ → ℤ
signed_log u number = cond (exponent_at number).negative (neg_ℤ (log u)) (log u)

record Signed (w : Word) (z : ℤ) : Type 0 where
  is : w ≡ as_word places z
  small : w.whole < 2 ^ 12

signed_word : (c : goal.After-magnitude) → Signed c.if-is_negative.word (signed_log c.args.units c.args.number)
signed_word c =
    let z = log c.args.units in
    let sign : Bool → Word = λ s. as_word places (cond s (neg_ℤ z) z) in
    elim c.if-is_negative.branch [
      | then-is_negative w ↦ record {
        is = w.word-is ∙ w.opposite-word.ensures ∙ ap (λ (a : ℤ). as_word places (neg_ℤ a)) (ap (word_value places) c.log-log.ensures.0 ∙ word_value_lem places z) ∙ ap sign (sym w.if-is_negative.true ∙ c.is_negative.ensures);
        small = subst (λ (v : Word). v.whole < 2 ^ 12) (sym (w.word-is ∙ w.opposite-word.ensures)) (lt_of_le_of_lt (opposite-small places 11 c.log-log.result c.log-log.ensures.1 (word-short places z c.log-log.ensures.0)) (lit< {m = 2 ^ 11} tt));
      }
      | else-is_negative w ↦ record {
        is = w.word-is ∙ c.log-log.ensures.0 ∙ ap sign (sym w.if-is_negative.false ∙ c.is_negative.ensures);
        small = subst (λ (v : Word). v.whole < 2 ^ 12) (sym w.word-is) (lt_of_lt_of_le c.log-log.ensures.1 (lit≤ tt));
      }
    ]

pub times-requires : goal.times-requires
times-requires c =
    let w = signed_word c in
    (w.small, word-short places (signed_log c.args.units c.args.number) w.is, subst (λ (n : ℕ). 0 < n) (sym c.magnitude.ensures) (magnitude_pos c.args.number c.requires), lit≤ tt, lit≤ tt)

pub returns : goal.returns
returns c =
    let u = c.args.units in
    let q = exponent_at c.args.number in
    let w = signed_word c.before.before in
    c.antilog.ensures
    ∙ ap (λ (v : Word). antilog places (word_value places v)) c.times.ensures
    ∙ ap (antilog places) (word_value_lem places (floor_div (word_value places c.if-is_negative.word *ℤ pos c.magnitude.result) (2 ^ 58)))
    ∙ ap₂ (λ (z : ℤ) (n : ℕ). antilog places (floor_div (z *ℤ pos n) (2 ^ 58))) (ap (word_value places) w.is ∙ word_value_lem places (signed_log u c.args.number)) c.magnitude.ensures
    ∙ ap (λ (z : ℤ). antilog places (floor_div z (2 ^ 58))) (times-sign q.negative (log u) q.magnitude)
    ∙ ap (λ (n : ℕ). antilog places (floor_div (word_of_units places n *ℤ signed q.negative q.magnitude) (2 ^ 58))) (sym (units_of-parts false u.q u.k))
