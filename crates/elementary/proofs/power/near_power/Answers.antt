-- The word is one of those that the antilog is the same of. Assumes nothing.
use Rattle.arithmetic.proofs.Kit.{◌≡◌, sym, ap, ap₂, ◌∙◌, subst, Bool, false, cond, ℕ, ◌+◌, ◌*◌, ◌/◌, ◌^◌, ◌≤◌, ◌<◌, lt_of_lt_of_le, lt_of_le_of_lt, lit<, lit≤, ℤ, pos, neg_ℤ, ◌+ℤ◌, ◌*ℤ◌}
use Rattle.std.proofs.lemmas.Option.{IfSome_then}
use Rattle.arithmetic.specs.declared.word.Word.{Word}
use Rattle.arithmetic.specs.Whole.{signed, floor_div, word_value, as_word}
use Rattle.antilog.specs.Log.{word_with, word_of_units}
use Rattle.antilog.specs.Antilog.{antilog}
use Rattle.elementary.specs.declared.log.Units.{Units}
use Rattle.elementary.specs.Exponents.{exponent_at}
use Rattle.arithmetic.specs.Places.{places}
use Rattle.elementary.proofs.Exponents.{magnitude_pos}
use Rattle.arithmetic.proofs.Parts.{units_of-parts}
use Rattle.arithmetic.proofs.Times.{word_value_lem, word-short, opposite-small, times-sign}
use Rattle.elementary.proofs.NearWords.{near-multiple}
use Rattle.elementary.proofs.power.near_power.Goals as goal
use Rattle.elementary.proofs.power.near_power.Goals.{then-is_negative, else-is_negative}

-- the least word, by the exponent's sign
abbrev by_sign : Units → ℕ → Bool → ℤ
by_sign u bits s = let n = u.q * 2 ^ u.k in cond s (neg_ℤ (word_with places n (bits + 2))) (word_with places n bits)

abbrev least : Units → ℕ → ℕ → ℤ
least u bits number = by_sign u bits (exponent_at number).negative

record Signed (w : Word) (z : ℤ) : Type 0 where
  is : w ≡ as_word places z
  small : w.whole < 2 ^ 12

least_word : (c : goal.After-magnitude-factor) → Signed c.if-is_negative.least (least c.args.units c.args.bits c.args.number)
least_word c =
    let u = c.args.units in
    let sign : Bool → ℤ = by_sign u c.args.bits in
    elim c.if-is_negative.branch [
      | then-is_negative w ↦
          let z = word_with places (u.q * 2 ^ u.k) (c.args.bits + 2) in
          record {
            is = w.least-is ∙ w.opposite-least.ensures ∙ ap (λ (a : ℤ). as_word places (neg_ℤ a)) (ap (word_value places) w.word_with.ensures.0 ∙ word_value_lem places z) ∙ ap (λ (s : Bool). as_word places (sign s)) (sym w.if-is_negative.true ∙ c.is_negative.ensures);
            small = subst (λ (v : Word). v.whole < 2 ^ 12) (sym (w.least-is ∙ w.opposite-least.ensures)) (lt_of_le_of_lt (opposite-small places 11 w.word_with.result w.word_with.ensures.1 (word-short places z w.word_with.ensures.0)) (lit< {m = 2 ^ 11} tt));
          }
      | else-is_negative w ↦ record {
        is = w.least-is ∙ w.word_with-least.ensures.0 ∙ ap (λ (s : Bool). as_word places (sign s)) (sym w.if-is_negative.false ∙ c.is_negative.ensures);
        small = subst (λ (v : Word). v.whole < 2 ^ 12) (sym w.least-is) (lt_of_lt_of_le w.word_with-least.ensures.1 (lit≤ tt));
      }
    ]

pub times-requires : goal.times-requires
times-requires c =
    let w = least_word c in
    (w.small, word-short places (least c.args.units c.args.bits c.args.number) w.is, subst (λ (n : ℕ). 0 < n) (sym c.magnitude-factor.ensures) (magnitude_pos c.args.number c.requires.number_bound), lit≤ tt, lit≤ tt)

pub returns : goal.returns
returns c =
    let u = c.args.units in
    let n : ℕ = u.q * 2 ^ u.k in
    let q = exponent_at c.args.number in
    let z = least u c.args.bits c.args.number in
    let w = least_word c.before.before in
    let moved = near-multiple q.negative n c.args.bits q.magnitude c.requires.bits in
    let word : word_value places c.times.result ≡ floor_div (z *ℤ pos q.magnitude) (2 ^ 58) =
    ap (word_value places) c.times.ensures
    ∙ word_value_lem places (floor_div (word_value places c.if-is_negative.least *ℤ pos c.magnitude-factor.result) (2 ^ 58))
    ∙ ap₂ (λ (a : ℤ) (m : ℕ). floor_div (a *ℤ pos m) (2 ^ 58)) (ap (word_value places) w.is ∙ word_value_lem places z) c.magnitude-factor.ensures in
    IfSome_then c.antilog_among.result c.antilog_among.ensures
    (λ value same.
    same moved.by (subst (λ (m : ℕ). moved.by ≤ m / 2 ^ 57 + 1) (sym c.magnitude-factor.ensures) moved.few)
    ∙ ap (λ (a : ℤ). antilog places (a +ℤ pos moved.by)) word
    ∙ ap (antilog places) moved.is
    ∙ ap (λ (a : ℤ). antilog places (floor_div a (2 ^ 58))) (times-sign q.negative (word_of_units places n) q.magnitude)
    ∙ ap (λ (m : ℕ). antilog places (floor_div (word_of_units places m *ℤ signed q.negative q.magnitude) (2 ^ 58))) (sym (units_of-parts false u.q u.k)))
