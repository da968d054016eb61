-- The decimals are digits, one at least, and not too many.
use Rattle.std.proofs.Common.{◌∙◌, sym, length}
use Rattle.arithmetic.proofs.Kit.{le-leb, lt-leb, eq-eqb, ne_eqb}
use Rattle.decimals.specs.Typed.{digits_in, with_decimals}
use Rattle.decimals.proofs.typed.Precision.with_decimals.Goals as goal
use Rattle.decimals.proofs.typed.Precision.with_decimals.Goals.{then-n-eq0-via-then-n-eq0, then-n-eq0-via-else-n-eq0+then-digits_in-n}

pub returns-then-n-eq0 : goal.returns-then-n-eq0
unfolding with_decimals
returns-then-n-eq0 c =
    let d = c.args.decimals.now in
    elim c.then-n-eq0.branch [
      | then-n-eq0-via-then-n-eq0 w ↦ rw (eq-eqb (length d) 0 w.if-n-eq0.true)
      | then-n-eq0-via-else-n-eq0+then-digits_in-n w ↦ rw (
        ne_eqb (length d) 0 w.if-n-eq0.false,
        ne_eqb (digits_in d) (length d) (λ same. w.if-digits_in-n.true (w.digits_in.ensures ∙ same)),
      )
    ]

pub returns-then-n-self : goal.returns-then-n-self
unfolding with_decimals
returns-then-n-self c =
    let d = c.args.decimals.now in
    rw (
      ne_eqb (length d) 0 c.if-n-eq0.false,
      eq-eqb (digits_in d) (length d) (sym c.digits_in.ensures ∙ c.if-digits_in-n.false),
      lt-leb (length d) _ c.if-n-self.true,
    )

pub returns : goal.returns
unfolding with_decimals
returns c =
    let d = c.args.decimals.now in
    rw (
      ne_eqb (length d) 0 c.if-n-eq0.false,
      eq-eqb (digits_in d) (length d) (sym c.digits_in.ensures ∙ c.if-digits_in-n.false),
      le-leb (length d) _ c.if-n-self.false,
    )
    c.from_digits.ensures
