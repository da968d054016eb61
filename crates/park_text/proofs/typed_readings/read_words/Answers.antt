-- Each word leaves what the words after it give of the readings with it. Assumes nothing.
use Rattle.arithmetic.proofs.Kit.{◌≡◌, refl, sym, ap, ◌∙◌, List, [], ◌∷◌, ℕ, ◌+◌, inl, arith, rules, length}
use Rattle.std.proofs.Common.{Result, Ok, Err}
use Rattle.record.specs.declared.entries.Readings.{Readings}
use Rattle.park_text.specs.declared.typed_readings.WrongWord.{WrongWord}
use Rattle.park_text.specs.declared.words.Words.{Words}
use Rattle.park_text.specs.Words.{words_left}
use Rattle.park_text.specs.Word.{read_word}
use Rattle.park_text.specs.Understood.{with_typed, ◌⟫◌, understand_from, understand}
use Rattle.park_text.proofs.Split.{arguments_short}
use Rattle.park_text.proofs.typed_readings.read_words.Goals.{In-Some}
use Rattle.park_text.proofs.typed_readings.read_words.Goals as goal

no_word : (i : ℕ) (r : Readings) → Ok r ≡ understand_from i r []
unfolding understand_from
no_word i r = refl

a_word : (i : ℕ) (r : Readings) (w : List ℕ) (ws : List (List ℕ)) → understand_from i r (w ∷ ws) ≡ (with_typed r i (read_word w) ⟫ (λ q. understand_from (i + 1) q ws))
unfolding understand_from
a_word i r w ws = refl

-- the numbers of the words fit, as the text's length does
pub loop-number-init-derived : goal.loop-number-init-derived
loop-number-init-derived c =
    let is : c.into_iter-number-iterator.result.iter ≡ c.args.words = ap (λ x. x.iter) c.into_iter-number-iterator.ensures.into_iter_gives ∙ c.enumerate-number-items.ensures.source in
    let none : c.into_iter-number-iterator.result.count ≡ 0 = ap (λ x. x.count) c.into_iter-number-iterator.ensures.into_iter_gives ∙ c.enumerate-number-items.ensures.count in
    let words : length (words_left c.into_iter-number-iterator.result.iter) ≡ length (words_left c.args.words) = ap (λ (x : Words). length (words_left x)) is in
    ((tt, tt, inl (omega (arith, none, words, arguments_short c.args.words.rest.now, c.ranges.words))), tt)

-- what the words from this one on give
turned : (c : In-Some) → understand (words_left c.args.words)
    ≡ (with_typed c.loop-number.readings c.in-Some.number (read_word c.in-Some.word.now) ⟫ (λ q. understand_from c.next.new.self.count q (words_left c.next.new.self.iter)))
turned c =
    let steps = c.in-Some.ensures.steps in
    let i : ℕ = c.loop-number.number-iterator.count in
    let r : Readings = c.loop-number.readings in
    let w : List ℕ = c.in-Some.word.now in
    let ws : List (List ℕ) = words_left c.next.new.self.iter in
    sym c.loop-number.invariant
    ∙ ap (understand_from i r) steps.0
    ∙ a_word i r w ws
    ∙ ap (λ (k : ℕ). with_typed r i (read_word w) ⟫ (λ q. understand_from k q ws)) (sym steps.2)
    ∙ ap (λ (k : ℕ). with_typed r k (read_word w) ⟫ (λ q. understand_from c.next.new.self.count q ws)) (sym steps.1)

pub returns-in_err-readings : goal.returns-in_err-readings
returns-in_err-readings c =
    let all = turned (goal.at.returns-in_err-readings c).In-Some in
    let e : c.from_residual.result ≡ Err c.in_err-readings.field-0.0 = search rules in
    let refused : Err c.in_err-readings.field-0.0 ≡ with_typed c.loop-number.readings c.in-Some.number (read_word c.in-Some.word.now) = c.in_err-readings.ensures in
    e ∙ ap (λ (o : Result Readings WrongWord). o ⟫ (λ q. understand_from c.next.new.self.count q (words_left c.next.new.self.iter))) refused ∙ sym all

pub loop-number-preserved : goal.loop-number-preserved
loop-number-preserved c =
    let all = turned (goal.at.loop-number-preserved c).In-Some in
    let read : Ok c.in_ok-readings.readings ≡ with_typed c.loop-number.readings c.in-Some.number (read_word c.in-Some.word.now) = c.in_ok-readings.ensures in
    ap (λ (o : Result Readings WrongWord). o ⟫ (λ q. understand_from c.next.new.self.count q (words_left c.next.new.self.iter))) read ∙ sym all

pub returns : goal.returns
returns c =
    let steps = c.in-None.ensures.steps in
    no_word c.loop-number.number-iterator.count c.loop-number.readings
    ∙ ap (understand_from c.loop-number.number-iterator.count c.loop-number.readings) (sym steps.0.0)
    ∙ c.loop-number.invariant
