-- The name ends at the first `=`, and a name that has no meaning is unknown. Assumes nothing.
use Rattle.arithmetic.proofs.Kit.{◌≡◌, sym, ap, ◌∙◌, List, ℕ, ◌+◌, ◌-◌, ◌<◌, arith, rules, lt-ltb, le-ltb, length, take, drop, length-drop, take_all}
use Rattle.std.proofs.Common.{Option, Some, None, Result, Ok, Err, ok_or}
use Rattle.std.proofs.lemmas.Iterator.{YieldsList-from_slice}
use Rattle.std.proofs.lemmas.Iterator.Search.{position_from_yields_List}
use borrow.Author.Tests.{tests}
use lib.Dec.{eqb}
use Rattle.pages.specs.Scan.{index_of}
use Rattle.pages.proofs.Sought.{at_some, at_none}
use Rattle.park_text.specs.declared.typed_word.Problem.{Problem}
use Rattle.park_text.specs.declared.typed_word.Problem.TheVariants.{UnknownWord}
use Rattle.park_text.specs.Word.{name_in, value_in, meaning_named, read_value, named, alone, read_named}
use Rattle.park_text.proofs.Numbers.{before_end}
use Rattle.park_text.proofs.typed_word.read_named.Goals.{In-Some}
use Rattle.park_text.proofs.typed_word.read_named.Goals as goal

without_mark : (w : List ℕ) → index_of 61 w ≡ length w → Err (alone (meaning_named w)) ≡ read_named w
unfolding read_named
without_mark w is = rw (le-ltb (index_of 61 w) (length w) (omega (arith, is)))

with_mark : (w : List ℕ) → index_of 61 w < length w → named (meaning_named (name_in w)) (value_in w) ≡ read_named w
unfolding read_named
with_mark w is = rw (lt-ltb (index_of 61 w) (length w) is)

-- a name without a meaning, and one that has it
refused : (o : Option ℕ) (s : List ℕ) {p : Problem} → ◌≡◌ {A = Result ℕ Problem} (ok_or o UnknownWord) (Err p) → Err p ≡ named o s
refused None s h = cc
refused (Some m) s h = absurd cc

accepted : (o : Option ℕ) (s : List ℕ) {m : ℕ} → ◌≡◌ {A = Result ℕ Problem} (ok_or o UnknownWord) (Ok m) → read_value m s ≡ named o s
accepted None s h = absurd cc
accepted (Some k) s {m} h = let same : m ≡ k = cc in ap (λ (j : ℕ). read_value j s) same

-- where the mark stands, and the name before it
is_mark : (c : In-Some) → (c.in-Some.at ≡ index_of 61 c.args.word.now) × (c.in-Some.at < length c.args.word.now)
is_mark c =
    let w = c.args.word.now in
    let sought = position_from_yields_List (λ b. eqb b 61) _ _ c.position.result c.position.ensures.ran (YieldsList-from_slice w cc) (λ x b q k. search (rules, tests)) in
    (at_some 61 w sought c.in-Some.is, before_end 61 w sought c.in-Some.is)

pub returns-in_default : goal.returns-in_default
returns-in_default c =
    let w = c.args.word.now in
    let sought = position_from_yields_List (λ b. eqb b 61) _ _ c.position.result c.position.ensures.ran (YieldsList-from_slice w cc) (λ x b q k. search (rules, tests)) in
    ap Err (c.alone.ensures ∙ ap alone c.meaning_named.ensures) ∙ without_mark w (at_none 61 w sought c.in_default.is)

pub returns-in_err-meaning : goal.returns-in_err-meaning
returns-in_err-meaning c =
    let w = c.args.word.now in
    let at = is_mark (goal.at.returns-in_err-meaning c).In-Some in
    let e : c.from_residual.result ≡ Err c.in_err-meaning.field-0.0 = search rules in
    let name : c.meaning_named-2.result ≡ meaning_named (name_in w) = c.meaning_named-2.ensures ∙ ap (λ (n : ℕ). meaning_named (take n w)) at.0 in
    e ∙ refused (meaning_named (name_in w)) (value_in w) (ap (λ (o : Option ℕ). ok_or o UnknownWord) (sym name) ∙ sym c.ok_or.ensures.value ∙ c.in_err-meaning.was)
    ∙ with_mark w (omega (arith, at.0, at.1))

pub returns : goal.returns
returns c =
    let w = c.args.word.now in
    let n : ℕ = c.in-Some.at in
    let at = is_mark (goal.at.returns c).In-Some in
    let name : c.meaning_named-2.result ≡ meaning_named (name_in w) = c.meaning_named-2.ensures ∙ ap (λ (n : ℕ). meaning_named (take n w)) at.0 in
    let rest : take (length w - (n + 1)) (drop (n + 1) w) ≡ drop (n + 1) w = take_all (length w - (n + 1)) (drop (n + 1) w) (rw length-drop (omega arith)) in
    c.read_value.ensures
    ∙ ap (read_value c.in_ok-meaning.meaning) (rest ∙ ap (λ (k : ℕ). drop (k + 1) w) at.0)
    ∙ accepted (meaning_named (name_in w)) (value_in w) (ap (λ (o : Option ℕ). ok_or o UnknownWord) (sym name) ∙ sym c.ok_or.ensures.value ∙ c.in_ok-meaning.was)
    ∙ with_mark w (omega (arith, at.0, at.1))
