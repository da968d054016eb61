-- The tests are those of `served`.
use Rattle.std.proofs.Common.{◌∙◌, ap, sym, subst, arith}
use Rattle.std.specs.Option.{is_some}
use Rattle.roots.proofs.Entry.{Serves, is_near_enough, is_too_far, entry_is}
use Rattle.roots.proofs.quick.Start.of.Goals as goal

pub returns-in_err-place-clause-served : goal.returns-in_err-place-clause-served
returns-in_err-place-clause-served c = ap is_some c.from_residual.ensures ∙ is_too_far c.args.tables.roots.now c.args.n (λ s. c.in_err-place.ensures s.from)

pub returns-in_err-entry-clause-served : goal.returns-in_err-entry-clause-served
returns-in_err-entry-clause-served c = ap is_some c.from_residual-in_err-entry.ensures ∙ is_too_far c.args.tables.roots.now c.args.n (λ s. omega (arith, s.to, c.in_ok-place.ensures, c.in_err-entry.ensures.lookup.3))

pub returns-then-entry-ge32768-clause-served : goal.returns-then-entry-ge32768-clause-served
returns-then-entry-ge32768-clause-served c =
    let table = c.args.tables.roots.now in
    let is = entry_is table c.args.n c.in_ok-place.ensures.1 (c.in_ok-entry.ensures.lookup.3.1 0) in
    is_too_far table c.args.n (λ s. omega (arith, s.low, is, c.if-entry-ge32768.true))

pub returns-in_err-rest-clause-served : goal.returns-in_err-rest-clause-served
returns-in_err-rest-clause-served c =
    let table = c.args.tables.roots.now in
    let is = entry_is table c.args.n c.in_ok-place.ensures.1 (c.in_ok-entry.ensures.lookup.3.1 0) in
    ap is_some c.from_residual-in_err-rest.ensures ∙ is_too_far table c.args.n (λ s. c.in_err-rest.ensures (subst (Serves c.args.n) (sym is) s).square)

pub returns-then-rest-ge27021597764222976-clause-served : goal.returns-then-rest-ge27021597764222976-clause-served
returns-then-rest-ge27021597764222976-clause-served c =
    let table = c.args.tables.roots.now in
    let is = entry_is table c.args.n c.in_ok-place.ensures.1 (c.in_ok-entry.ensures.lookup.3.1 0) in
    is_too_far table c.args.n (λ s. omega (arith, (subst (Serves c.args.n) (sym is) s).rest, c.in_ok-rest.ensures, c.if-rest-ge27021597764222976.true))

pub returns-clause-served : goal.returns-clause-served
returns-clause-served c =
    let table = c.args.tables.roots.now in
    let is = entry_is table c.args.n c.in_ok-place.ensures.1 (c.in_ok-entry.ensures.lookup.3.1 0) in
    is_near_enough table c.args.n
    (subst (Serves c.args.n) is
    (record {
      from = c.in_ok-place.ensures.0;
      to = omega (arith, c.in_ok-place.ensures, c.in_ok-entry.ensures.lookup.3.0);
      low = c.if-entry-ge32768.false;
      square = c.in_ok-rest.ensures.0;
      rest = omega (arith, c.in_ok-rest.ensures, c.if-rest-ge27021597764222976.false);
    }))
