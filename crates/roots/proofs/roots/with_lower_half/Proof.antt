-- `roots::roots::with_lower_half` meets its contract: it is the step of `Halves.antt` to the base 2 ^ 31. Assumes nothing.
use Rattle.arithmetic.proofs.Kit.{◌≡◌, ap, ◌∙◌, ℕ, ◌+◌, ◌-◌, ◌*◌, ◌/◌, ◌%◌, ◌^◌, ◌≤◌, ◌<◌, suc-le-suc, mul-le-mul, arith}
use Rattle.roots.specs.Root.{root}
use Rattle.roots.proofs.Root.{IsRoot, of-root, is-root, roots-le}
use Rattle.roots.proofs.roots.Halves.{left_over, number, Halved, halved}
use Rattle.roots.proofs.roots.with_lower_half.Statement.{statement}
use Rattle.roots.proofs.roots.with_lower_half.Tie as tie

-- what is known of the root s of a top word n
record Upper (n s : ℕ) : Type 0 where
  low : 2 ^ 31 ≤ s
  high : s < 2 ^ 32
  square : s * s ≤ n
  rest : n - s * s ≤ 2 * s

upper : (n s : ℕ) → 2 ^ 62 ≤ n → n < 2 ^ 64 → IsRoot n s → Upper n s
upper n s l h r = record { low = roots-le n (2 ^ 31) s l r.1; high = suc-le-suc (roots-le n s (2 ^ 32 - 1) r.0 h); square = r.0; rest = left_over n s r }

module _ (c : tie.Start) where
  abbrev top : ℕ
  top = c.args.top

  abbrev s : ℕ
  s = c.args.s

  abbrev lo : ℕ
  lo = c.args.lo

  known : Upper top s
  known = upper top s c.requires.0 c.ranges.top.fits (of-root top s c.requires.1)

  step : Halved (2 ^ 31) s (top - s * s) (lo / 2 ^ 31 % 2 ^ 31) (lo % 2 ^ 31)
  step = halved (2 ^ 31) s (top - s * s) (lo / 2 ^ 31 % 2 ^ 31) (lo % 2 ^ 31) known.rest (omega arith) (omega arith) known.low

  whole : number (2 ^ 31) s (top - s * s) (lo / 2 ^ 31 % 2 ^ 31) (lo % 2 ^ 31) ≡ top * 2 ^ 62 + lo % 2 ^ 62
  whole = omega (arith, known)

pub with_lower_half_spec : {M : Type 1} → statement M
with_lower_half_spec =
    tie.close (tie.spec (λ c. omega (arith, known c))
    (λ c. (known c).square)
    (λ c. omega (arith, known c))
    (λ c. omega (arith, known c))
    (λ c. omega (arith, known c))
    (λ c. omega (arith, known c))
    (λ c. omega (arith, known c))
    (λ c. omega (arith, known c))
    (λ c. omega (arith, known c))
    (λ c. omega (arith, known c, (step c).digit))
    (λ c. omega (arith, mul-le-mul (step c).digit (step c).digit))
    (λ c. omega (arith, known c, (step c).rest))
    (λ c. omega (arith, known c, (step c).rest))
    (λ c. omega (arith, known c.before))
    (λ c. is-root _ _ ((step c.before).exact c.if-q-u.true) ∙ ap root (whole c.before))
    (λ c. is-root _ _ ((step c.before).less c.if-q-u.false) ∙ ap root (whole c.before)))
