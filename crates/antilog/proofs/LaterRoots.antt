-- An antilog's last roots, from what the first ones make: they keep the order, so that from both ends they enclose the root. Assumes nothing.
use Rattle.arithmetic.proofs.Kit.{◌≡◌, refl, sym, ap, ap₂, ◌∙◌, subst, ℕ, zero, suc, ◌+◌, ◌*◌, ◌/◌, ◌%◌, ◌^◌, ◌≤◌, ◌<◌, zero-add, mod-eq_of_lt, mod-lt, mul-le-mul_right, arith, pow_pos}
use lib.Pow.{shr-shr, field, mod-mod-pow}
use Rattle.roots.specs.Root.{root}
use Rattle.roots.proofs.Root.{root_mono}
use Rattle.antilog.specs.Antilog.{antilog_root, later_roots}

pub later_mono : (n g : ℕ) {y z : ℕ} → y ≤ z → later_roots n y g ≤ later_roots n z g
unfolding later_roots
later_mono zero g h = h
later_mono (suc n) g h = root_mono (mul-le-mul_right (2 ^ (62 + g / 2 ^ n)) (later_mono n (g % 2 ^ n) h))

-- from the first
pub from_first : (n f : ℕ) → later_roots n (2 ^ 62) f ≡ antilog_root n f
unfolding later_roots antilog_root
from_first zero f = refl
from_first (suc n) f = ap (λ (y : ℕ). root (y * 2 ^ (62 + f / 2 ^ n))) (from_first n (f % 2 ^ n))

-- and from the p-th
pub from_place : (p n f : ℕ) → f < 2 ^ (n + p) → later_roots n (antilog_root p (f % 2 ^ p)) (f / 2 ^ p) ≡ antilog_root (n + p) f
unfolding later_roots antilog_root
from_place p zero f short = rw (zero-add p) (ap (antilog_root p) (mod-eq_of_lt (subst (λ (n : ℕ). f < 2 ^ n) (zero-add p) short)))
from_place p (suc n) f short =
    let rest : ℕ = f % 2 ^ (n + p) in
    let y : ℕ = antilog_root p (f % 2 ^ p) in
    let before : later_roots n y (f / 2 ^ p % 2 ^ n) ≡ antilog_root (n + p) rest =
    ap₂ (λ (g h : ℕ). later_roots n (antilog_root p g) h) (sym (mod-mod-pow f n p)) (sym (field f n p)) ∙ from_place p n rest (mod-lt f (pow_pos (n + p))) in
    let top : f / 2 ^ p / 2 ^ n ≡ f / 2 ^ (n + p) = shr-shr f p n ∙ ap (λ (k : ℕ). f / 2 ^ k) (omega arith) in
    let one_more : suc (n + p) ≡ suc n + p = omega arith in
    ap₂ (λ (z t : ℕ). root (z * 2 ^ (62 + t))) before top ∙ ap (λ (k : ℕ). antilog_root k f) one_more

-- between what two ends make
module _ (p n f end : ℕ) (short : f < 2 ^ (n + p)) where
  pub not_below : end ≤ antilog_root p (f % 2 ^ p) → later_roots n end (f / 2 ^ p) ≤ antilog_root (n + p) f
  not_below h = rw (sym (from_place p n f short)) (later_mono n (f / 2 ^ p) h)

  pub not_above_lem : antilog_root p (f % 2 ^ p) ≤ end → antilog_root (n + p) f ≤ later_roots n end (f / 2 ^ p)
  not_above_lem h = rw (sym (from_place p n f short)) (later_mono n (f / 2 ^ p) h)
