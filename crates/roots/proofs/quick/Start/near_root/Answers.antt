-- Each of the numbers has a bound, and the product of two bounds is below 2 ^ 64.
use Rattle.arithmetic.proofs.Kit.{ℕ, ◌+◌, ◌-◌, ◌*◌, ◌/◌, ◌%◌, ◌^◌, ◌≤◌, ◌<◌, le_trans, lt_of_le_of_lt, mul-le-mul, arith, T, leb, ltb, lit≤, lit<}
use Rattle.std.proofs.Common.{lt_trans, add-le-add}
use native.Mathlib.Nat.{div-le_of_le-mul}
use Rattle.roots.specs.declared.quick.Start.{Start}
use Rattle.roots.proofs.quick.Start.near_root.Goals as goal

-- a product of two numbers with the bounds a and b fits, and a part of it has a bound too
product_fits : {x y : ℕ} (a b : ℕ) → x ≤ a → y ≤ b → T (ltb (a * b) (2 ^ 64)) → x * y < 2 ^ 64
product_fits a b h g t = lt_of_le_of_lt (mul-le-mul h g) (lit< t)

part_le : {x y : ℕ} (a b k m : ℕ) → x ≤ a → y ≤ b → T (leb (a * b) (k * m)) → x * y / k ≤ m
part_le a b k m h g t = div-le_of_le-mul k (le_trans (mul-le-mul h g) (lit≤ t))

upper_part : (n x : ℕ) → n < x + 3 * 2 ^ 53 → (n - x) / 2 ^ 24 ≤ 3 * 2 ^ 29
upper_part n x h = omega arith

low_bits : (x : ℕ) → x % 2 ^ 31 ≤ 2 ^ 31 - 1
low_bits x = omega arith

module _ (start : Start) (i : ℕ) (i-lt : i < 2 ^ 32) where
  abbrev e : ℕ
  e = start.entry

  abbrev rest : ℕ
  rest = (start.top - e * e * 2 ^ 34) / 2 ^ 24

  abbrev d : ℕ
  d = rest * i / 2 ^ 32

  abbrev u : ℕ
  u = rest * (i * i / 2 ^ 32) / 2 ^ 39

  abbrev cube : ℕ
  cube = u * 5 / 2 ^ 18

  abbrev more_p : ℕ
  more_p = u * u * (2 ^ 16 - cube) / 2 ^ 49

  abbrev more_q : ℕ
  more_q = u * u * (49152 - cube) / 2 ^ 47

  abbrev q : ℕ
  q = 2 ^ 32 - u + more_q

  abbrev half : ℕ
  half = i * (q / 2) / 2 ^ 31

  abbrev s : ℕ
  s = e * 2 ^ 29 + d * (2 ^ 32 - u / 2 + more_p) / 2 ^ 28

  i_le : i ≤ 2 ^ 32 - 1
  i_le = omega (arith, i-lt)

  rest_le : rest ≤ 3 * 2 ^ 29
  rest_le = upper_part start.top (e * e * 2 ^ 34) start.near

  d_le : d ≤ 2 ^ 31
  d_le = part_le (3 * 2 ^ 29) (2 ^ 32 - 1) (2 ^ 32) (2 ^ 31) rest_le i_le tt

  square_le : i * i / 2 ^ 32 ≤ 2 ^ 32 - 1
  square_le = part_le (2 ^ 32 - 1) (2 ^ 32 - 1) (2 ^ 32) (2 ^ 32 - 1) i_le i_le tt

  u_le : u ≤ 3 * 2 ^ 22
  u_le = part_le (3 * 2 ^ 29) (2 ^ 32 - 1) (2 ^ 39) (3 * 2 ^ 22) rest_le square_le tt

  uu_le : u * u ≤ 9 * 2 ^ 44
  uu_le = mul-le-mul u_le u_le

  cube_le : cube ≤ 240
  cube_le = part_le (3 * 2 ^ 22) 5 (2 ^ 18) 240 u_le (lit≤ tt) tt

  more_p_le : more_p ≤ 2 ^ 15
  more_p_le = part_le (9 * 2 ^ 44) (2 ^ 16) (2 ^ 49) (2 ^ 15) uu_le (omega arith) tt

  more_q_le : more_q ≤ 2 ^ 16
  more_q_le = part_le (9 * 2 ^ 44) 49152 (2 ^ 47) (2 ^ 16) uu_le (omega arith) tt

  p_le : 2 ^ 32 - u / 2 + more_p ≤ 2 ^ 32 + 2 ^ 15
  p_le = omega (arith, more_p_le)

  q_le : q / 2 ≤ 2 ^ 31 + 2 ^ 15
  q_le = omega (arith, more_q_le)

  half_le : half ≤ 2 ^ 32 + 2 ^ 16
  half_le = part_le (2 ^ 32 - 1) (2 ^ 31 + 2 ^ 15) (2 ^ 31) (2 ^ 32 + 2 ^ 16) i_le q_le tt

  s_le : s ≤ 2 ^ 44 + 2 ^ 36
  s_le = omega (arith, start.short, part_le (2 ^ 31) (2 ^ 32 + 2 ^ 15) (2 ^ 28) (2 ^ 36) d_le p_le tt)

  result-lt : (x : ℕ) → x ≤ 2 ^ 31 - 1 → s * 2 ^ 19 + x * half / 2 ^ 38 < 2 ^ 64 - 1
  result-lt x x-le =
      lt_of_le_of_lt
      (add-le-add (mul-le-mul s_le (lit≤ {m = 2 ^ 19} {n = 2 ^ 19} tt)) (part_le (2 ^ 31 - 1) (2 ^ 32 + 2 ^ 16) (2 ^ 38) (2 ^ 26) x-le half_le tt))
      (lit< tt)

pub overflow_mul-p : goal.overflow_mul-p
overflow_mul-p c = record { fits = product_fits (9 * 2 ^ 44) (2 ^ 16) (uu_le c.args.self c.from-i.result (omega (arith, c.from-i.ensures))) (omega arith) tt }

pub overflow_add-p : goal.overflow_add-p
overflow_add-p c = record { fits = lt_of_le_of_lt (p_le c.args.self c.from-i.result (omega (arith, c.from-i.ensures))) (lit< tt) }

pub overflow_mul-q : goal.overflow_mul-q
overflow_mul-q c = record { fits = product_fits (9 * 2 ^ 44) 49152 (uu_le c.args.self c.from-i.result (omega (arith, c.from-i.ensures))) (omega arith) tt }

pub overflow_add-q : goal.overflow_add-q
overflow_add-q c = record { fits = omega (arith, more_q_le c.args.self c.from-i.result (omega (arith, c.from-i.ensures))) }

pub overflow_mul-s-2 : goal.overflow_mul-s-2
overflow_mul-s-2 c = record { fits = product_fits (2 ^ 31) (2 ^ 32 + 2 ^ 15) (d_le c.args.self c.from-i.result (omega (arith, c.from-i.ensures))) (p_le c.args.self c.from-i.result (omega (arith, c.from-i.ensures))) tt }

pub overflow_add-s : goal.overflow_add-s
overflow_add-s c = record { fits = lt_of_le_of_lt (s_le c.args.self c.from-i.result (omega (arith, c.from-i.ensures))) (lit< tt) }

pub overflow_mul-result : goal.overflow_mul-result
overflow_mul-result c = record { fits = product_fits (2 ^ 44 + 2 ^ 36) (2 ^ 19) (s_le c.args.self c.from-i.result (omega (arith, c.from-i.ensures))) (lit≤ tt) tt }

pub overflow_mul-result-2 : goal.overflow_mul-result-2
overflow_mul-result-2 c = record { fits = product_fits (2 ^ 31 - 1) (2 ^ 32 + 2 ^ 16) (low_bits _) (half_le c.args.self c.from-i.result (omega (arith, c.from-i.ensures))) tt }

pub overflow_add-result : goal.overflow_add-result
overflow_add-result c = record { fits = lt_trans (result-lt c.args.self c.from-i.result (omega (arith, c.from-i.ensures)) _ (low_bits _)) (lit< tt) }

pub returns : goal.returns
returns c = result-lt c.args.self c.from-i.result (omega (arith, c.from-i.ensures)) _ (low_bits _)
