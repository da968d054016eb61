-- `decimals::shown::DecimalText::with_digits` meets its contract. The loop's invariant: the digits that stand before the text are the last ones of n, and those of the
-- rest are the others. Assumes nothing.
use Rattle.arithmetic.proofs.Kit.{◌≡◌, sym, ap, ◌∙◌, List, [], ◌∷◌, ◌++◌, append-nil, append_assoc, ℕ, ◌+◌, ◌/◌, ◌%◌, arith, rules}
use Rattle.decimals.specs.Decimal.{digits}
use Rattle.decimals.specs.Places.{Before}
use Rattle.decimals.proofs.Digits.{one-digit, more-digits}
use Rattle.decimals.proofs.Standing.{no_more, and_before, same_more}
use Rattle.decimals.proofs.shown.DecimalText.with_digits.Statement.{statement}
use Rattle.decimals.proofs.shown.DecimalText.with_digits.Tie as tie

abbrev invariant_loop : tie.invariant-loop-rest
invariant_loop n longer₀ rest₀ longer rest = (last : List ℕ) × (digits rest ++ last ≡ digits n) × Before longer₀ last longer

abbrev decreases_loop : tie.decreases-loop-rest
decreases_loop n longer₀ rest₀ longer rest = rest

loop_again : tie.Need-loop-rest-preserved invariant_loop decreases_loop
loop_again c =
    let turn = c.before.before in
    let rest = turn.loop-rest.rest in
    let last = turn.loop-rest.invariant.0 in
    let one : List ℕ = (48 + rest % 10) ∷ [] in (
      one ++ last,
      sym (append_assoc (digits (rest / 10)) one last) ∙ ap (λ (l : List ℕ). l ++ last) (sym (more-digits rest (omega arith))) ∙ turn.loop-rest.invariant.1,
      and_before turn.loop-rest.invariant.2 c.with_byte-longer.ensures,
    )

returns : tie.Need-returns invariant_loop decreases_loop
returns c =
    let turn = c.before.before in
    let last = turn.loop-rest.invariant.0 in
    same_more (ap (λ (l : List ℕ). l ++ last) (sym (one-digit turn.loop-rest.rest (omega arith))) ∙ turn.loop-rest.invariant.1)
    (and_before turn.loop-rest.invariant.2 c.with_byte.ensures)

pub with_digits_spec : {M : Type 1} → statement M
with_digits_spec =
    tie.close (tie.spec invariant_loop
    decreases_loop
    (λ c. ([], append-nil (digits c.args.n), no_more c.args.self))
    (λ c. omega arith)
    (λ c. omega arith)
    (λ c κs. search rules)
    (λ c. omega arith)
    loop_again
    (λ c. omega arith)
    (λ c. omega arith)
    (λ c κs. search rules)
    returns)
