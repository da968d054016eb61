-- The loop of `antilog::later_roots`: a turn takes one bit. Assumes nothing.
use Rattle.arithmetic.proofs.Kit.{◌≡◌, refl, sym, ap, ap₂, ◌∙◌, ℕ, suc, ◌+◌, ◌-◌, ◌*◌, ◌/◌, ◌%◌, ◌^◌, ◌≤◌, ◌<◌, div-one, lt_of_lt_of_le, mod-eq_of_lt, add-one, arith, pow_mono, shl_lt}
use native.Mathlib.Numerals.{one-add}
use lib.Pow.{shr-shr, field, mod-mod-pow}
use Rattle.roots.specs.Root.{root}
use Rattle.antilog.specs.Antilog.{later_roots}
use Rattle.arithmetic.specs.Places.{places}
use Rattle.antilog.proofs.antilog.later_roots.Goals as goal

-- the radicand loses nothing
radicand : (y bit : ℕ) → y < 2 ^ 64 → bit ≤ 2 → y * 2 ^ (62 + bit) % 2 ^ 128 ≡ y * 2 ^ (62 + bit)
radicand y bit fits h = mod-eq_of_lt (lt_of_lt_of_le (shl_lt 64 (62 + bit) fits) (pow_mono {i = 64 + (62 + bit)} {j = 128} (omega arith)))

none_taken : (bits : ℕ) {n : ℕ} → n ≡ 0 → bits ≡ bits / 2 ^ n
none_taken bits none = rw none (sym (div-one bits))

no_bits : (start bits : ℕ) {n : ℕ} → n ≡ 0 → start ≡ later_roots n start (bits % 2 ^ n)
unfolding later_roots
no_bits start bits none = rw none refl

one_bit : (start bits n : ℕ) → root (later_roots n start (bits % 2 ^ n) * 2 ^ (62 + bits / 2 ^ n % 2)) ≡ later_roots (suc n) start (bits % 2 ^ suc n)
unfolding later_roots
one_bit start bits n =
    let more : bits % 2 ^ suc n ≡ bits % 2 ^ (1 + n) = ap (λ (k : ℕ). bits % 2 ^ k) (sym (one-add n)) in
    let lower : bits % 2 ^ n ≡ bits % 2 ^ suc n % 2 ^ n = sym (ap (λ (k : ℕ). k % 2 ^ n) more ∙ mod-mod-pow bits 1 n) in
    let top : bits / 2 ^ n % 2 ≡ bits % 2 ^ suc n / 2 ^ n = sym (ap (λ (k : ℕ). k / 2 ^ n) more ∙ field bits 1 n) in
    ap₂ (λ (g t : ℕ). root (later_roots n start g * 2 ^ (62 + t))) lower top

pub loop-init : goal.loop-init
loop-init c = record { fits = c.ranges.start.fits; left = none_taken _ (omega arith); so_far = no_bits _ _ (omega arith) }

pub loop-preserved : goal.loop-preserved
loop-preserved c =
    let a = c.args in
    let was = c.loop.invariant in
    let rest : ℕ = c.loop.rest in
    let n : ℕ = c.loop.counter - a.first in
    let next : suc n ≡ c.loop.counter + 1 - a.first = omega arith in
    record {
      fits = c.quick_root-y.type_inv;
      left = ap (λ (k : ℕ). k / 2) was.left ∙ shr-shr a.bits n 1 ∙ ap (λ (k : ℕ). a.bits / 2 ^ k) (add-one n ∙ next);
      so_far =
          c.quick_root-y.ensures ∙ ap root (ap (λ (n : ℕ). n * 2 ^ (62 + rest % 2) % 2 ^ 128) c.from.ensures ∙ radicand c.loop.y (rest % 2) was.fits (omega arith)) ∙ ap₂ (λ (y b : ℕ). root (y * 2 ^ (62 + b % 2))) was.so_far was.left
          ∙ one_bit a.start a.bits n ∙ ap (λ (k : ℕ). later_roots k a.start (a.bits % 2 ^ k)) next;
    }

pub returns : goal.returns
returns c =
    let a = c.args in
    let last : c.loop.counter ≡ places = omega (arith, c.requires.0) in
    c.loop.invariant.so_far ∙ ap (λ (k : ℕ). later_roots (k - a.first) a.start (a.bits % 2 ^ (k - a.first))) last
    ∙ ap (later_roots (places - a.first) a.start) (mod-eq_of_lt c.requires.1)
