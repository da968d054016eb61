-- Where the estimate puts the antilog's root, and that a number between two that round to one double rounds to it too. Assumes nothing.
use Rattle.arithmetic.proofs.Kit.{◌≡◌, refl, sym, ap, ◌∙◌, subst, subst₂, Bool, true, false, ℕ, ◌+◌, ◌*◌, ◌/◌, ◌%◌, ◌^◌, ◌≤◌, ◌<◌, le_trans, le_of_eq, lt_of_le_of_lt, le-add_right, mul-le-mul_right, mul-lt-mul_of_pos_right, mod-eq_of_lt, mul-one, arith, ℤ, T, Float, pow_pos, pow-add, binary64, up, down, fits, le, round-fits}
use Rattle.std.proofs.Common.{MatchOption, IfSome, Some, None}
use Rattle.std.specs.Bool.{then_some}
use Rattle.antilog.specs.Estimate.{estimate, moved}
use Rattle.antilog.proofs.Near.{estimate-near, Estimates}
use Rattle.arithmetic.proofs.Powers.{pow-scaled, lt-of-powers, le-of-powers}
use Rattle.arithmetic.specs.Nearest.{nearest_scaled}
use Rattle.antilog.specs.Antilog.{antilog_root}
use Rattle.arithmetic.specs.Places.{places}
use Rattle.arithmetic.proofs.Compared.{at_most_lem, below, turned, more-places}
use Rattle.arithmetic.proofs.Order.{unsigned, antisymmetric, le-trans-double}
use Rattle.arithmetic.proofs.Rounding.{round-unsigned, scaled_mono}
use Rattle.antilog.proofs.Distance.{antilog_root-below, antilog_root-above}
use Rattle.antilog.proofs.Monotone.{antilog_root_mono}
use Rattle.antilog.proofs.Bracket.{moved-at_least}
use Rattle.antilog.proofs.Nearly.{AtMost, AtLeast}

-- ---- the root by the estimate

-- twice a number of 2^62 is one of 2^63
twice : (p Y : ℕ) → (Y * 2 ^ 1) ^ 2 ^ p ≡ Y ^ 2 ^ p * 2 ^ (1 * 2 ^ p)
twice p Y = pow-scaled Y 1 (2 ^ p)

one-scale-up : (p x : ℕ) → 2 ^ (62 * 2 ^ p + x) * 2 ^ (1 * 2 ^ p) ≡ 2 ^ (63 * 2 ^ p + x)
one-scale-up p x =
    let sums : 62 * 2 ^ p + x + 1 * 2 ^ p ≡ 63 * 2 ^ p + x = omega arith in
    sym (pow-add 2 (62 * 2 ^ p + x) (1 * 2 ^ p)) ∙ ap (λ (n : ℕ). 2 ^ n) sums

module _ (p f Y A : ℕ) where
  not_far_above : 2 ^ (62 * 2 ^ p + f) < (Y + 4) ^ 2 ^ p → AtMost 63 p f A → A < (Y + 4) * 2 ^ 1
  unfolding AtMost
  not_far_above near low =
      lt-of-powers A ((Y + 4) * 2 ^ 1) (2 ^ p)
      (lt_of_le_of_lt (le_trans low (le_of_eq (sym (one-scale-up p f)))) (subst (λ (n : ℕ). 2 ^ (62 * 2 ^ p + f) * 2 ^ (1 * 2 ^ p) < n) (sym (twice p (Y + 4))) (mul-lt-mul_of_pos_right near (pow_pos (1 * 2 ^ p)))))

  not_far_below : Y ^ 2 ^ p ≤ 2 ^ (62 * 2 ^ p + f) → AtLeast 63 p f A → Y * 2 ^ 1 ≤ A
  unfolding AtLeast
  not_far_below near high =
      le-of-powers (Y * 2 ^ 1) A (2 ^ p) (pow_pos p)
      (le_trans (le_of_eq (twice p Y)) (le_trans (mul-le-mul_right (2 ^ (1 * 2 ^ p)) near) (le_trans (le_of_eq (one-scale-up p f)) high)))

-- half the estimate is at most 3 above the root, and at most 2 below it
pub record Window (half Y : ℕ) : Type 0 where
  pub low : half ≤ Y + 3
  pub high : Y ≤ half + 2

-- of the estimate for f as a number of 60 places, of which it has p
pub window : (p q f A : ℕ) → p + q ≡ 60 → f < 2 ^ p → A ≡ estimate (f * 2 ^ q % 2 ^ 60) → Window (A / 2) (antilog_root p f)
window p q f A all short made =
    let g : ℕ = f * 2 ^ q in
    let fits : g < 2 ^ 60 = subst (λ (n : ℕ). g < n) (sym (pow-add 2 p q) ∙ ap (λ (n : ℕ). 2 ^ n) all) (mul-lt-mul_of_pos_right short (pow_pos q)) in
    let is : Estimates g A = subst (λ (n : ℕ). Estimates g n) (sym (made ∙ ap estimate (mod-eq_of_lt fits))) (estimate-near g fits) in
    let Y : ℕ = antilog_root p f in
    let over : 2 ^ (62 * 2 ^ 60 + g) < (Y + 4) ^ 2 ^ 60 =
    subst (λ (n : ℕ). 2 ^ (62 * 2 ^ n + g) < (Y + 4) ^ 2 ^ n) all (more-places (turned below) 62 p q f (Y + 4) (antilog_root-above p f short)) in
    let under : Y ^ 2 ^ 60 ≤ 2 ^ (62 * 2 ^ 60 + g) =
    subst (λ (n : ℕ). Y ^ 2 ^ n ≤ 2 ^ (62 * 2 ^ n + g)) all (more-places at_most_lem 62 p q f Y (antilog_root-below p f short)) in
    let above : A < (Y + 4) * 2 ^ 1 = not_far_above 60 g Y A over is.never_too_great in
    let not_above_lem : Y * 2 ^ 1 ≤ A + 3 = not_far_below 60 g Y (A + 3) under is.at_most_three_too_small in
    record { low = omega arith; high = omega arith }

-- of all places
pub of-all : (f A : ℕ) → f < 2 ^ places → A ≡ estimate (f % 2 ^ 60) → Window (A / 2) (antilog_root places f)
of-all f A short made = window 60 0 f A refl short (made ∙ ap (λ (n : ℕ). estimate (n % 2 ^ 60)) (sym (mul-one f)))

-- the roots for f to n more: half the estimate for f is at most 3 above them, and half of it moved by n at most 3 below them
pub among : (f n i A : ℕ) → f + n < 2 ^ places → n < 2 ^ 28 → i ≤ n → A ≡ estimate (f % 2 ^ 60) → (A / 2 ≤ antilog_root places (f + i) + 3) × (antilog_root places (f + i) ≤ moved A n / 2 + 3)
among f n i A short few some made =
    let fits : f < 2 ^ 60 = omega arith in
    let is : Estimates f A = subst (λ (m : ℕ). Estimates f m) (sym (made ∙ ap estimate (mod-eq_of_lt fits))) (estimate-near f fits) in
    let first : antilog_root places f ≤ antilog_root places (f + i) = antilog_root_mono places (le-add_right f i) in
    let last : antilog_root places (f + i) ≤ antilog_root places (f + n) = antilog_root_mono places (omega arith) in
    let above : antilog_root places (f + n) * 2 ^ 1 ≤ moved A n + 5 =
    not_far_below 60 (f + n) (antilog_root places (f + n)) (moved A n + 5) (antilog_root-below 60 (f + n) short) (moved-at_least f n A few is fits) in
    (omega (arith, (of-all f A fits made).low), omega arith)

-- ---- a number between two that round alike

rounds_alike : (e : ℤ) (low m high : ℕ) → low ≤ m → m ≤ high → T (le (nearest_scaled high e) (nearest_scaled low e)) → nearest_scaled low e ≡ nearest_scaled m e
rounds_alike e low m high h k ends =
    let double : (n : ℕ) → T (fits binary64 (nearest_scaled n e)) = λ n. round-fits binary64 false (n * up e) (down e) in
    let plus : (n : ℕ) → T (unsigned (nearest_scaled n e)) = λ n. round-unsigned binary64 (n * up e) (down e) in
    antisymmetric (nearest_scaled low e) (nearest_scaled m e) (plus low) (plus m) (double low) (double m) (scaled_mono e h)
    (le-trans-double (nearest_scaled m e) (nearest_scaled high e) (nearest_scaled low e) (double m) (double high) (double low) (scaled_mono e k) ends)

-- what is answered where the ends round alike
pub alike : (e : ℤ) (Y : ℕ) {from to : ℕ} {low high : Float} → low ≡ nearest_scaled from e → high ≡ nearest_scaled to e → le high low ≡ true
    → from ≤ Y → Y ≤ to → low ≡ nearest_scaled Y e
alike e Y {from} {to} is-low is-high test below above =
    let ends : T (le (nearest_scaled to e) (nearest_scaled from e)) = subst₂ (λ (x y : Float). T (le x y)) is-high is-low (subst T (sym test) tt) in
    is-low ∙ rounds_alike e from Y to below above ends

-- what `unwrap_or_else` answers, where the value is v, and so is what is computed where there is none
pub either : {A : Type 0} (o : _) {r v : Float} → MatchOption o A (λ x. r ≡ x) → IfSome o (λ x. x ≡ v) → (A → r ≡ v) → r ≡ v
either None h g f = f h
either (Some x) h g f = h ∙ g

-- what holds of a value that is answered where a test holds
pub if_true : {X : Type 0} (P : X → Type 0) (b : Bool) (x : X) → (b ≡ true → P x) → IfSome (then_some b x) P
if_true P true x holds = holds refl
if_true P false x holds = tt
