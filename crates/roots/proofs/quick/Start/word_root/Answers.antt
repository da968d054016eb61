-- Two steps of Newton's iteration from the table's entry lead to the root or one more.
use Rattle.arithmetic.proofs.Kit.{◌≡◌, ◌∙◌, subst, ℕ, zero, suc, ◌+◌, ◌-◌, ◌*◌, ◌^◌, ◌≤◌, ◌<◌, suc-le-suc, le_trans, mul-mul-mul_comm, mul-le-mul, mul-le-mul_right, add-one, arith}
use Rattle.roots.proofs.Root.{is-root, roots-le}
use Rattle.roots.proofs.roots.Newton.{step, step-above, step-near, quotient-lt}
use Rattle.roots.proofs.roots.Halves.{next-square}
use Rattle.roots.specs.declared.quick.Start.{Start}
use Rattle.roots.proofs.quick.Start.word_root.Goals as goal

-- a guess r for the root of a top word n: its square is within d of n
record Guess (n r d : ℕ) : Type 0 where
  low : 2 ^ 30 ≤ r
  high : r < 2 ^ 34
  above : r * r ≤ n + d
  below : n ≤ r * r + d

start : (n e : ℕ) → 2 ^ 62 ≤ n → e < 2 ^ 15 → e * e * 2 ^ 34 ≤ n → n < e * e * 2 ^ 34 + 3 * 2 ^ 53 → Guess n (e * 2 ^ 17) (3 * 2 ^ 53)
start n e l h low high =
    let square : e * 2 ^ 17 * (e * 2 ^ 17) ≡ e * e * 2 ^ 34 = mul-mul-mul_comm e (2 ^ 17) e (2 ^ 17) in
    let large : 2 ^ 13 ≤ e = roots-le (e * e) (2 ^ 13) e (omega arith) (omega (arith, next-square e)) in
    record { low = omega arith; high = omega arith; above = omega arith; below = omega arith }

-- a step from within d leads to no less than the root, and to at most m above n, in squares; b is a bound below the guess
record Step (n r m : ℕ) : Type 0 where
  low : 2 ^ 31 ≤ r
  high : r < 2 ^ 34
  above : r * r ≤ n + m
  next : n < suc r * suc r

stepped : (n r d m b : ℕ) → 2 ^ 62 ≤ n → n < 2 ^ 64 → Guess n r d → b ≤ r → d * d ≤ 4 * (b * b) * m → Step n (step n r) m
stepped n r d m b l h g under room =
    let pos : zero < r = omega (arith, g.low) in
    let up : n < suc (step n r) * suc (step n r) = step-above n r pos in
    let square : b * b ≤ r * r = mul-le-mul under under in
    record {
      low = roots-le n (2 ^ 31) (step n r) l up;
      high = omega (arith, g.high, quotient-lt n r h g.low);
      above = step-near n r d m pos g.above g.below (le_trans room (mul-le-mul_right m (omega arith)));
      next = up;
    }

again : (n r : ℕ) → Step n r (9 * 2 ^ 44) → Guess n r (9 * 2 ^ 44)
again n r s = record { low = omega (arith, s.low); high = s.high; above = s.above; below = omega (arith, s, next-square r) }

-- one less than where the second step ends: the root, or one less
record Less (n r : ℕ) : Type 0 where
  low : 2 ^ 30 ≤ r
  high : r < 2 ^ 32
  square : r * r ≤ n
  next : n < suc (suc r) * suc (suc r)

less_of : (n s : ℕ) → n < 2 ^ 64 → Step n s (81 * 2 ^ 24) → Less n (s - 1)
less_of n zero h g = absurd (omega (arith, g.low))
less_of n (suc r) h g =
    let square : r * r ≤ n = omega (arith, g, next-square r) in
    let known : Less n r = record { low = omega (arith, g.low); high = suc-le-suc (roots-le n r (2 ^ 32 - 1) square h); square = square; next = g.next } in
    subst (Less n) (omega arith) known

module _ (from : Start) (fits : from.top < 2 ^ 64) where
  abbrev near : ℕ
  near = step from.top (from.entry * 2 ^ 17)

  known : Guess from.top (from.entry * 2 ^ 17) (3 * 2 ^ 53)
  known = start from.top from.entry from.full from.short from.below from.near

  first : Step from.top near (9 * 2 ^ 44)
  first = stepped from.top (from.entry * 2 ^ 17) (3 * 2 ^ 53) (9 * 2 ^ 44) (2 ^ 30) from.full fits known known.low (omega arith)

  second : Step from.top (step from.top near) (81 * 2 ^ 24)
  second = stepped from.top near (9 * 2 ^ 44) (81 * 2 ^ 24) (2 ^ 31) from.full fits (again from.top near first) first.low (omega arith)

  less : Less from.top (step from.top near - 1)
  less = less_of from.top (step from.top near) fits second

pub overflow_mul-less-2 : goal.overflow_mul-less-2
overflow_mul-less-2 c = omega (arith, less c.args.self (omega arith), mul-le-mul (less c.args.self (omega arith)).high (less c.args.self (omega arith)).high)

pub overflow_sub-top : goal.overflow_sub-top
overflow_sub-top c = (less c.args.self (omega arith)).square

pub returns-then-less-top : goal.returns-then-less-top
returns-then-less-top c =
    let n = c.args.self.top in
    let r = step n (near c.args.self (omega arith)) - 1 in
    add-one r ∙ is-root n (suc r) (omega (arith, less c.args.self (omega arith), next-square r), (less c.args.self (omega arith)).next)

pub returns-else-less-top : goal.returns-else-less-top
returns-else-less-top c =
    let n = c.args.self.top in
    let r = step n (near c.args.self (omega arith)) - 1 in
    is-root n r ((less c.args.self (omega arith)).square, omega (arith, less c.args.self (omega arith), next-square r))
