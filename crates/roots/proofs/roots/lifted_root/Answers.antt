-- Shifted left by twice j the number has 125 or 126 bits, and its root has j bits more.
use Rattle.arithmetic.proofs.Kit.{◌≡◌, sym, ap, ◌∙◌, subst, ℕ, suc, ◌+◌, ◌-◌, ◌*◌, ◌/◌, ◌%◌, ◌^◌, ◌≤◌, ◌<◌, le_trans, lt_of_not-le, lt_of_lt_of_le, not-le_of_lt, mod-eq_of_lt, arith, lit<, pow_mono, count_leading_zeros, leading_top}
use Rattle.std.proofs.Common.{lt_trans}
use Rattle.roots.specs.Root.{root}
use Rattle.roots.proofs.Root.{root-shifted}
use Rattle.roots.proofs.roots.Places.{Top, shifted-top, between}
use Rattle.roots.proofs.roots.lifted_root.Goals as goal

-- half of the shift
abbrev half : ℕ → ℕ
half n = (count_leading_zeros 128 n - 2) / 2

-- the place of the highest digit
record Place (n : ℕ) : Type 0 where
  place : ℕ
  zeros : count_leading_zeros 128 n + suc place ≡ 128
  top : Top n place
  low : place < 126

place_of : (n : ℕ) → 2 ^ 64 ≤ n → n < 2 ^ 126 → Place n
place_of n h g =
    let t = leading_top 128 n (lt_of_lt_of_le (lit< tt) h) (lt_trans g (lit< tt)) in
    record { place = t.0; zeros = t.1; top = (t.2, t.3); low = lt_of_not-le (λ (k : 126 ≤ t.0). not-le_of_lt g (le_trans (pow_mono k) t.2)) }

module _ (n : ℕ) (h : 2 ^ 64 ≤ n) (g : n < 2 ^ 126) where
  known : Place n
  known = place_of n h g

  bounds : (2 ^ 124 ≤ n * 2 ^ (2 * half n)) × (n * 2 ^ (2 * half n) < 2 ^ 126)
  bounds = between (n * 2 ^ (2 * half n)) (known.place + 2 * half n) 124 126 (shifted-top n known.place (2 * half n) known.top) (omega (arith, known)) (omega (arith, known))

  shifted : n * 2 ^ (2 * half n) % 2 ^ 128 ≡ n * 2 ^ (2 * half n)
  shifted = mod-eq_of_lt (lt_trans bounds.1 (lit< tt))

pub overflow_sub-j : goal.overflow_sub-j
overflow_sub-j c = omega (arith, known c.args.n c.requires.0 c.requires.1)

pub normal_root-requires : goal.normal_root-requires
normal_root-requires c = subst (λ (x : ℕ). (2 ^ 124 ≤ x) × (x < 2 ^ 126)) (sym (shifted c.args.n c.requires.0 c.requires.1)) (bounds c.args.n c.requires.0 c.requires.1)

pub returns : goal.returns
returns c =
    ap (λ (r : ℕ). r / 2 ^ half c.args.n) (c.normal_root.ensures ∙ ap root (shifted c.args.n c.requires.0 c.requires.1))
    ∙ root-shifted c.args.n (half c.args.n)
