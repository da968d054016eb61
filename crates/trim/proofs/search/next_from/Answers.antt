-- The changes by one count after those by another.
use Rattle.trim.proofs.Kit.{◌≡◌, refl, sym, ap, ◌∙◌, arith, accepted, Option, Turn, changes, changes_from, first_of, next_from}
use Rattle.trim.proofs.First.{from, by_count, found_first, found_later}
use Rattle.trim.proofs.search.next_from.Goals as goal

pub loop-tenths-init : goal.loop-tenths-init
unfolding changes
loop-tenths-init c = refl

pub returns-then-is_some : goal.returns-then-is_some
unfolding next_from
returns-then-is_some c =
    let s = c.args.start in
    let f = c.first_by-turn.result in
    let e : first_of s changes ≡ f = c.loop-tenths.invariant ∙ by_count s c.loop-tenths.tenths (omega arith) (sym c.first_by-turn.ensures) ∙ found_first f _ (sym c.is_some.ensures ∙ c.if-is_some.true) in
    ap (λ (f : Option Turn). accepted (record { class = s.class; turn = f })) (sym e)

pub loop-tenths-preserved : goal.loop-tenths-preserved
loop-tenths-preserved c =
    let s = c.args.start in
    c.loop-tenths.invariant ∙ by_count s c.loop-tenths.tenths (omega arith) (sym c.first_by-turn.ensures) ∙ found_later c.first_by-turn.result _ (sym c.is_some.ensures ∙ c.if-is_some.false)

pub returns : goal.returns
unfolding next_from first_of changes_from
returns c =
    let s = c.args.start in
    let last : c.loop-tenths.tenths ≡ 201 = omega (arith, c.loop-tenths-test.false, c.loop-tenths.auto.tenths-end) in
    ap (λ (f : Option Turn). accepted (record { class = s.class; turn = f })) (sym (c.loop-tenths.invariant ∙ ap (from s) last))
