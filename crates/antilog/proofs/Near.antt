-- The estimate is never too great, and at most 3 too small. In units of its place an excess is at most 5 too small, and more by what the last bits' is. Assumes
-- nothing.
use Rattle.arithmetic.proofs.Kit.{◌≡◌, refl, sym, ap, ap₂, ◌∙◌, subst, subst₂, ℕ, zero, suc, ◌+◌, ◌-◌, ◌*◌, ◌/◌, ◌%◌, ◌^◌, ◌≤◌, ◌<◌, le_trans, le_of_eq, le_of_lt, add_assoc, mul_assoc, mul-add, add-mul, one-mul, mul_comm, mul_right_comm, mul-le-mul_right, div-add-mod', div-mul-le_self, mod-lt, mod-eq_of_lt, pow-le-pow_left, arith, lit<, lit≤, pow_pos, pow-add, pow_mono}
use lib.Pow.{field, mod-mod-pow}
use Rattle.antilog.specs.Estimate.{entry_of, joined, excess_from, estimate}
use Rattle.antilog.proofs.Tested.{Excess}
use Rattle.antilog.proofs.Entries.{table_excesses, last, last-is, last_excess_lem}
use Rattle.antilog.proofs.Nearly.{AtMost, AtLeast, times-at_most, times-at_least, more-at_most, more-at_least, multiples_at_most, multiples_at_least, half_at_most, half-at_least, below_64, excess-fits}

-- X is what 2 to the power x / 2^60 exceeds 1 by, in units of 2 ^ -s, and at most e too small
record Within (s e x X : ℕ) : Type 0 where
  low : AtMost s 60 x (2 ^ s + X)
  high : AtLeast s 60 x (2 ^ s + X + e)

-- ---- two excesses joined

-- what is left of an error, from units of 1 / H on
in_units : (K H U W d e : ℕ) → U ≡ K * H → W ≡ 16 * U → K * d + d + 2 + 48 * K ≤ 16 * K * e → U * d + H * d + 2 * H + 3 * W ≤ e * W
in_units K H U W d e is-U is-W room =
    let all : (K * d + d + 2 + 48 * K) * H ≤ 16 * K * e * H = mul-le-mul_right H room in
    let left : (K * d + d + 2 + 48 * K) * H ≡ K * d * H + d * H + 2 * H + 48 * K * H = simp add-mul in
    let first : U * d ≡ K * d * H = ap (λ (n : ℕ). n * d) is-U ∙ mul_right_comm K H d in
    let right : e * W ≡ 16 * K * e * H = ap (λ (n : ℕ). e * n) (is-W ∙ ap (λ (n : ℕ). 16 * n) is-U ∙ sym (mul_assoc 16 K H)) ∙ sym (mul_assoc e (16 * K) H) ∙ ap (λ (n : ℕ). n * H) (mul_comm e (16 * K)) in
    omega (arith, all, left, first, right, mul_comm H d, mul_assoc 48 K H)

-- of what the two divisions cut off each is less than a unit
made_good : (K H U W X Y q r d e : ℕ) → U ≡ K * H → W ≡ 16 * U → X ≤ H → Y ≤ H → d ≤ H → Y ≤ q * 16 + 16 → X * Y ≤ r * W + W
    → K * d + d + 2 + 48 * K ≤ 16 * K * e → (U + X + 1) * (W + Y + d) ≤ (U + (X + q + r) + e) * W
made_good K H U W X Y q r d e is-U is-W hX hY hd next both room =
    let sixteenth : (q * 16 + 16) * U ≡ q * W + W = add-mul (q * 16) 16 U ∙ ap₂ (λ (m n : ℕ). m + n) (mul_assoc q 16 U ∙ ap (λ (n : ℕ). q * n) (sym is-W)) (sym is-W) in
    let digit : U * Y ≤ q * W + W = le_trans (le_of_eq (mul_comm U Y)) (le_trans (mul-le-mul_right U next) (le_of_eq sixteenth)) in
    let far : X * d ≤ H * d = mul-le-mul_right d hX in
    let left : (U + X + 1) * (W + Y + d) ≡ U * W + X * W + W + (U * Y + X * Y + Y) + (U * d + X * d + d) =
    mul-add (U + X + 1) (W + Y) d ∙ ap₂ (λ (m n : ℕ). m + n) (mul-add (U + X + 1) W Y ∙ ap₂ (λ (m n : ℕ). m + n) (three W) (three Y)) (three d) in
    let right : (U + (X + q + r) + e) * W ≡ U * W + (X * W + q * W + r * W) + e * W = simp add-mul in
    rw (left, right) (omega (arith, digit, both, far, in_units K H U W d e is-U is-W room))
  where
    three : (n : ℕ) → (U + X + 1) * n ≡ U * n + X * n + n
    three n = add-mul (U + X) 1 n ∙ ap₂ (λ (m o : ℕ). m + o) (add-mul U X n) (one-mul n)

module _ (k X Y d e : ℕ) (hX : X < 2 ^ 64) (hY : Y < 2 ^ 64) (hd : d < 2 ^ 64) where
  abbrev U : ℕ
  U = 2 ^ (64 + k)

  abbrev W : ℕ
  W = 2 ^ (68 + k)

  sixteen : W ≡ 16 * U
  sixteen = omega (arith, pow-add 2 68 k, pow-add 2 64 k)

  not_above_lem : (U + joined X Y k) * W ≤ (U + X) * (W + Y)
  not_above_lem =
      let digit : Y / 16 * W ≤ Y * U = le_trans (le_of_eq (ap (λ (n : ℕ). Y / 16 * n) sixteen ∙ sym (mul_assoc (Y / 16) 16 U))) (mul-le-mul_right U (div-mul-le_self Y 16)) in
      rw (add-mul U (joined X Y k) W, add-mul (X + Y / 16) (X * Y / W) W, add-mul X (Y / 16) W, mul-add (U + X) W Y, add-mul U X W, add-mul U X Y)
      (omega (arith, div-mul-le_self (X * Y) W, mul_comm Y U))

  not_below : 2 ^ k * d + d + 2 + 48 * 2 ^ k ≤ 16 * 2 ^ k * e → (U + X + 1) * (W + Y + d) ≤ (U + joined X Y k + e) * W
  not_below =
      let next : Y ≤ Y / 16 * 16 + 16 = omega arith in
      let both : X * Y ≤ X * Y / W * W + W = omega (arith, div-add-mod' (X * Y) W, mod-lt (X * Y) (pow_pos (68 + k))) in
      made_good (2 ^ k) (2 ^ 64) U W X Y (Y / 16) (X * Y / W) d e (pow-add 2 64 k ∙ mul_comm (2 ^ 64) (2 ^ k)) sixteen (le_of_lt hX) (le_of_lt hY) (le_of_lt hd) next both

  join : (x y : ℕ) → 2 ^ k * d + d + 2 + 48 * 2 ^ k ≤ 16 * 2 ^ k * e → Within (64 + k) 1 x X → Within (68 + k) d y Y → Within (64 + k) e (x + y) (joined X Y k)
  join x y room first second =
      record {
        low = times-at_most 60 (64 + k) (68 + k) x y (U + X) (W + Y) (U + joined X Y k) (omega (arith, pow_pos (68 + k))) not_above_lem first.low second.low;
        high = times-at_least 60 (64 + k) (68 + k) x y (U + X + 1) (W + Y + d) (U + joined X Y k + e) (omega (arith, pow_pos (68 + k))) (not_below room) first.high second.high;
      }

-- ---- digit by digit

-- how much too small the excess from digit j on may be
abbrev too_small : ℕ → ℕ
too_small zero = 5
too_small (suc i) = 5 + 9 * 2 ^ (4 * i)

room : (j : ℕ) → let K = 2 ^ (4 * j) in K * too_small (suc j) + too_small (suc j) + 2 + 48 * K ≤ 16 * K * too_small j
room zero = lit≤ tt
room (suc i) =
    let K : ℕ = 2 ^ (4 * suc i) in
    let n : ℕ = 2 ^ (4 * i) in
    let four : 4 * suc i ≡ 4 + 4 * i = omega arith in
    let sixteenth : K ≡ 16 * n = ap (λ (m : ℕ). 2 ^ m) four ∙ pow-add 2 4 (4 * i) in
    let squares : K * (9 * K) ≡ 16 * K * (9 * n) = ap (λ (m : ℕ). K * (9 * m)) sixteenth ∙ omega (arith, mul_comm K n, mul_assoc K 9 (16 * n), mul_assoc K 16 n) in
    rw (mul-add K 5 (9 * K), mul-add (16 * K) 5 (9 * n)) (omega (arith, squares, pow_pos (4 * suc i)))

few-too_small : (j : ℕ) → j < 8 → too_small (suc j) < 2 ^ 64
few-too_small j few = omega (arith, pow_mono {i = 4 * j} {j = 28} (omega arith))

-- the digit and what is below it
digit_and_rest : (f q : ℕ) → f / 2 ^ q % 16 * 2 ^ q + f % 2 ^ q ≡ f % 2 ^ (4 + q)
digit_and_rest f q = ap₂ (λ (m n : ℕ). m * 2 ^ q + n) (sym (field f 4 q)) (sym (mod-mod-pow f 4 q)) ∙ div-add-mod' (f % 2 ^ (4 + q)) (2 ^ q)

module _ (f j : ℕ) (few : j < 8) where
  abbrev digit : ℕ
  digit = f / 2 ^ (56 - 4 * j) % 16

  small : digit < 16
  small = mod-lt (f / 2 ^ (56 - 4 * j)) (lit< tt)

  in_table : 16 * j + digit < 128
  in_table = omega (arith, small)

  entry-fits : entry_of j f < 2 ^ 64
  entry-fits = table_excesses.word (16 * j + digit) in_table

  entry-within : Within (64 + 4 * j) 1 (digit * 2 ^ (56 - 4 * j)) (entry_of j f)
  entry-within =
      let s : ℕ = 64 + 4 * j in
      let q : ℕ = 56 - 4 * j in
      let X : ℕ = entry_of j f in
      let row : (16 * j + digit) / 16 ≡ j = omega (arith, small) in
      let column : (16 * j + digit) % 16 ≡ digit = omega (arith, small) in
      let places : 4 * j + 4 + q ≡ 60 = omega arith in
      let entry : Excess s (4 * j + 4) digit X = subst₂ (λ (i k : ℕ). Excess (64 + 4 * i) (4 * i + 4) k X) row column (table_excesses.entry (16 * j + digit) in_table) in
      record {
        low = subst (λ (n : ℕ). AtMost s n (digit * 2 ^ q) (2 ^ s + X)) places (more-at_most s (4 * j + 4) q digit (2 ^ s + X) entry.not_above);
        high = subst (λ (n : ℕ). AtLeast s n (digit * 2 ^ q) (2 ^ s + X + 1)) places (more-at_least s (4 * j + 4) q digit (2 ^ s + X + 1) entry.next_not_below);
      }

-- r times the excess of the last bit
module _ (r : ℕ) (few : r ≤ 2 ^ 28) where
  pub last-at_most : AtMost 96 60 r (2 ^ 96 + r * last)
  last-at_most = multiples_at_most 96 60 last last_excess_lem.not_above r

  pub last-at_least : AtLeast 96 60 r (2 ^ 96 + r * last + 9 * r)
  last-at_least =
      let once : AtLeast 96 60 1 (2 ^ 96 + (last + 1)) = subst (λ (n : ℕ). AtLeast 96 60 1 n) (add_assoc (2 ^ 96) last 1) last_excess_lem.next_not_below in
      let above : 2 ^ 96 + r * (last + 1 + 8) ≡ 2 ^ 96 + r * last + 9 * r = omega arith in
      subst (λ (n : ℕ). AtLeast 96 60 r n) above (multiples_at_least 96 60 (last + 1) (2 ^ 28) 8 (lit≤ tt) once r few)

more-too_small : (s x A d e : ℕ) → d ≤ e → AtLeast s 60 x (A + d) → AtLeast s 60 x (A + e)
unfolding AtLeast
more-too_small s x A d e h least = le_trans least (pow-le-pow_left (omega arith) (2 ^ 60))

within-fits : (f j e X : ℕ) → j ≤ 8 → Within (64 + 4 * j) e (f % 2 ^ (60 - 4 * j)) X → X < 2 ^ 64
within-fits f j e X few is =
    let q : ℕ = 60 - 4 * j in
    let places : 60 ≡ 4 * j + q = omega arith in
    excess-fits (4 * j) q (f % 2 ^ q) X (mod-lt f (pow_pos q)) (subst (λ (p : ℕ). AtMost (64 + 4 * j) p (f % 2 ^ q) (2 ^ (64 + 4 * j) + X)) places is.low)

from-within : (f n j : ℕ) → n + j ≡ 8 → Within (64 + 4 * j) (too_small j) (f % 2 ^ (60 - 4 * j)) (excess_from n j f)
unfolding excess_from
from-within f zero j all =
    let eight : 8 ≡ j = omega arith in
    let r : ℕ = f % 2 ^ 28 in
    let few : r < 2 ^ 28 = mod-lt f (pow_pos 28) in
    let is : Within 96 (too_small 8) r (r * last) = record { low = last-at_most r (le_of_lt few); high = more-too_small 96 r (2 ^ 96 + r * last) (9 * r) (too_small 8) (omega arith) (last-at_least r (le_of_lt few)) } in
    rw last-is (subst (λ (i : ℕ). Within (64 + 4 * i) (too_small i) (f % 2 ^ (60 - 4 * i)) (r * last)) eight is)
from-within f (suc n) j all =
    let few : j < 8 = omega arith in
    let q : ℕ = 56 - 4 * j in
    let below : Within (64 + 4 * suc j) (too_small (suc j)) (f % 2 ^ (60 - 4 * suc j)) (excess_from n (suc j) f) = from-within f n (suc j) (omega arith) in
    let units : 64 + 4 * suc j ≡ 68 + 4 * j = omega arith in
    let places : 60 - 4 * suc j ≡ q = omega arith in
    let upper : 4 + q ≡ 60 - 4 * j = omega arith in
    subst (λ (x : ℕ). Within (64 + 4 * j) (too_small j) x (joined (entry_of j f) (excess_from n (suc j) f) (4 * j))) (digit_and_rest f q ∙ ap (λ (p : ℕ). f % 2 ^ p) upper)
    (join (4 * j) (entry_of j f) (excess_from n (suc j) f) (too_small (suc j)) (too_small j) (entry-fits f j few) (within-fits f (suc j) (too_small (suc j)) (excess_from n (suc j) f) few below) (few-too_small j few)
    (digit f j few * 2 ^ q) (f % 2 ^ q) (room j) (entry-within f j few)
    (subst₂ (λ (s p : ℕ). Within s (too_small (suc j)) (f % 2 ^ p) (excess_from n (suc j) f)) units places below))

pub from-fits : (f n j : ℕ) → n + j ≡ 8 → excess_from n j f < 2 ^ 64
from-fits f n j all = within-fits f j (too_small j) (excess_from n j f) (omega arith) (from-within f n j all)

-- ---- the estimate

-- A is 2^63 times 2 to the power f / 2^60, never too great and at most 3 too small
pub record Estimates (f A : ℕ) : Type 0 where
  pub never_too_great : AtMost 63 60 f A
  pub at_most_three_too_small : AtLeast 63 60 f (A + 3)

pub estimate-near : (f : ℕ) → f < 2 ^ 60 → Estimates f (estimate f)
unfolding estimate
estimate-near f short =
    let X : ℕ = excess_from 8 0 f in
    let is : Within 64 5 f X = subst (λ (x : ℕ). Within 64 5 x X) (mod-eq_of_lt short) (from-within f 8 0 refl) in
    record {
      never_too_great = half_at_most 60 f (2 ^ 64 + X) (estimate f) (omega arith) is.low;
      at_most_three_too_small = half-at_least 60 f (2 ^ 64 + X + 5) (estimate f + 3) (omega arith) is.high;
    }

pub estimate-fits : (f : ℕ) → f < 2 ^ 60 → estimate f < 2 ^ 64
estimate-fits f short = below_64 60 f (estimate f) short (estimate-near f short).never_too_great
