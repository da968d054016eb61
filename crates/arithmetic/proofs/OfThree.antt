-- The middle of three: at most one of them before it and at most one after it, which no other value has, and so it is the same in every order. Assumes nothing.
use Rattle.arithmetic.proofs.Kit.{◌≡◌, refl, sym, ap, ap₂, subst, ◌∙◌, ◌⊎◌, inl, inr, Bool, true, false, ◌||◌, cond, ℕ, zero, suc, ◌+◌, ◌*◌, ◌≤◌, ◌<◌, zero-mul, le_of_lt, le_of_eq, le_antisymm, le_of_suc-le-suc, lt_of_le_of_lt, lt_of_not-le, arith, ltb-true, ltb-false, lt-ltb, le-ltb, T, ltb, Float, nan, inf, fin, up, down, lt, of_bits, is_true}
use mathlib.Core.Bool.{or-false}
use Rattle.arithmetic.specs.Decimals.{decimal}
use Rattle.arithmetic.specs.Middle.{is_minus_zero, is_plus_zero, precedes, earlier, later, middle, one_if}
use Rattle.arithmetic.proofs.ThreeInOrder.{place, precedes-is, same_place, IsNumber}

pub record IsMiddle (x y z m : Float) : Type 0 where
  pub one_of_them : (m ≡ x) ⊎ ((m ≡ y) ⊎ (m ≡ z))
  pub one-before : one_if (precedes x m) + one_if (precedes y m) + one_if (precedes z m) ≤ 1
  pub one-after : one_if (precedes m x) + one_if (precedes m y) + one_if (precedes m z) ≤ 1

-- ---- tests and places
module _ (x y : Float) (p : IsNumber x) (q : IsNumber y) where
  before : precedes x y ≡ true → place x < place y
  before h = ltb-true (place x) (place y) (sym (precedes-is x y p q) ∙ h)

  not_before : precedes x y ≡ false → place y ≤ place x
  not_before h = ltb-false (place x) (place y) (sym (precedes-is x y p q) ∙ h)

  is-before : place x < place y → precedes x y ≡ true
  is-before h = precedes-is x y p q ∙ lt-ltb (place x) (place y) h

  is_not_before : place y ≤ place x → precedes x y ≡ false
  is_not_before h = precedes-is x y p q ∙ le-ltb (place x) (place y) h

at_most_one : (b : Bool) → one_if b ≤ 1
at_most_one true = le_of_eq refl
at_most_one false = omega arith

-- ---- the three may change places
module _ {x y z m : Float} (is : IsMiddle x y z m) where
  first_two : IsMiddle y x z m
  first_two =
      record {
        one_of_them = elim is.one_of_them [ inl a ↦ inr (inl a) | inr r ↦ elim r [ inl b ↦ inl b | inr c ↦ inr (inr c) ] ];
        one-before = let h = is.one-before in omega arith;
        one-after = let h = is.one-after in omega arith;
      }

  last-two : IsMiddle x z y m
  last-two =
      record {
        one_of_them = elim is.one_of_them [ inl a ↦ inl a | inr r ↦ elim r [ inl b ↦ inr (inr b) | inr c ↦ inr (inl c) ] ];
        one-before = let h = is.one-before in omega arith;
        one-after = let h = is.one-after in omega arith;
      }

-- ---- the second of three in order
between : (x y z : Float) → IsNumber x → IsNumber y → IsNumber z → place x ≤ place y → place y ≤ place z → IsMiddle x y z y
between x y z p q r h k =
    record {
      one_of_them = inr (inl refl);
      one-before = rw (is_not_before y y q q (le_of_eq refl), is_not_before z y r q k) (omega (arith, at_most_one (precedes x y)));
      one-after = rw (is_not_before y y q q (le_of_eq refl), is_not_before y x q p h) (omega (arith, at_most_one (precedes y z)));
    }

-- the middle of a low, a high and a third
of-ordered : (low high z : Float) → IsNumber low → IsNumber high → IsNumber z → place low ≤ place high → IsMiddle low high z (later low (earlier high z))
of-ordered low high z p q r h = go (precedes z high) refl (precedes z low) refl
  where
    go : (s : Bool) → precedes z high ≡ s → (t : Bool) → precedes z low ≡ t → IsMiddle low high z (later low (earlier high z))
    go false e t f = rw (e, is_not_before high low q p h) (between low high z p q r h (not_before z high r q e))
    go true e true f = rw (e, f) (last-two (first_two (between z low high r p q (le_of_lt (before z low r p f)) h)))
    go true e false f = rw (e, f) (last-two (between low z high p r q (not_before z low r p f) (le_of_lt (before z high r q e))))

is-middle : (x y z : Float) → IsNumber x → IsNumber y → IsNumber z → IsMiddle x y z (middle x y z)
unfolding middle
is-middle x y z p q r = go (precedes y x) refl
  where
    go : (s : Bool) → precedes y x ≡ s → IsMiddle x y z (later (earlier x y) (earlier (later x y) z))
    go false e = rw e (of-ordered x y z p q r (not_before y x q p e))
    go true e = rw e (first_two (of-ordered y x z q p r (le_of_lt (before y x q p e))))

-- ---- no other: where m comes before n, each of the three comes after m or before n, which is one too many
module _ (m n : Float) (p : IsNumber m) (q : IsNumber n) (h : place m < place n) where
  on-a-side : (v : Float) → IsNumber v → 1 ≤ one_if (precedes m v) + one_if (precedes v n)
  on-a-side v r = go (precedes m v) refl
    where
      go : (s : Bool) → precedes m v ≡ s → 1 ≤ one_if s + one_if (precedes v n)
      go true e = omega arith
      go false e = rw (is-before v n r q (lt_of_le_of_lt (not_before m v p r e) h)) (le_of_eq refl)

  too_many : (x y z : Float) → IsNumber x → IsNumber y → IsNumber z → IsMiddle x y z m → IsMiddle x y z n → ⊥
  too_many x y z a b c is is' =
      let after = is.one-after in
      let ahead = is'.one-before in
      omega (arith, on-a-side x a, on-a-side y b, on-a-side z c)

number_of : {x y z m : Float} → IsNumber x → IsNumber y → IsNumber z → (m ≡ x) ⊎ ((m ≡ y) ⊎ (m ≡ z)) → IsNumber m
number_of p q r (inl e) = subst IsNumber (sym e) p
number_of p q r (inr (inl e)) = subst IsNumber (sym e) q
number_of p q r (inr (inr e)) = subst IsNumber (sym e) r

no_other : (x y z m n : Float) → IsNumber x → IsNumber y → IsNumber z → IsMiddle x y z m → IsMiddle x y z n → m ≡ n
no_other x y z m n p q r is is' =
    let pm = number_of p q r is.one_of_them in
    let pn = number_of p q r is'.one_of_them in
    let ups : place n ≤ place m = not_below (λ h. too_many m n pm pn h x y z p q r is is') in
    let downs : place m ≤ place n = not_below (λ h. too_many n m pn pm h x y z p q r is' is) in
    same_place m n pm pn (le_antisymm downs ups)
  where
    not_below : {a b : ℕ} → (a < b → ⊥) → b ≤ a
    not_below f = le_of_suc-le-suc (lt_of_not-le f)

-- the middle of three such doubles is one, and there is no other
record Characterised (x y z : Float) : Type 0 where
  pub is-middle : IsMiddle x y z (middle x y z)
  pub no_other : (m : Float) → IsMiddle x y z m → m ≡ middle x y z

middle-of-three : (x y z : Float) → IsNumber x → IsNumber y → IsNumber z → Characterised x y z
middle-of-three x y z p q r = record { is-middle = is-middle x y z p q r; no_other = λ m is. no_other x y z m (middle x y z) p q r is (is-middle x y z p q r) }

-- so it is the same in every order of the three; the exchange of the first two and that of the last two give all six
pub record SameInEveryOrder (x y z : Float) : Type 0 where
  pub first_two : middle y x z ≡ middle x y z
  pub last-two : middle x z y ≡ middle x y z

pub middle_in_every-order : (x y z : Float) → IsNumber x → IsNumber y → IsNumber z → SameInEveryOrder x y z
middle_in_every-order x y z p q r =
    record {
      first_two = (middle-of-three x y z p q r).no_other (middle y x z) (first_two (is-middle y x z q p r));
      last-two = (middle-of-three x y z p q r).no_other (middle x z y) (last-two (is-middle x z y p r q));
    }

-- ---- two equal ones outvote the third, whatever it is
same-either_way : (b : Bool) (x : Float) → cond b x x ≡ x
same-either_way true x = refl
same-either_way false x = refl

pub two_equal : (x z : Float) → middle x x z ≡ x
unfolding middle
two_equal x z =
    let one = same-either_way (precedes x x) x in
    ap₂ (λ (low high : Float). later low (earlier high z)) one one ∙ go (precedes z x) refl
  where
    go : (t : Bool) → precedes z x ≡ t → later x (earlier x z) ≡ x
    go true f = rw (f, f)
    go false f = rw f (same-either_way (precedes x x) x)

-- ---- the zeros
-- x comes before both of them, or after both
zeros-after : (x : Float) → precedes (decimal "0") x ≡ false → precedes (decimal "-0") x ≡ false → middle x (decimal "0") (decimal "-0") ≡ decimal "-0"
unfolding middle precedes is_minus_zero is_plus_zero lt of_bits
zeros-after x p q = rw (p, q)

zeros-before : (x : Float) → precedes (decimal "0") x ≡ true → precedes (decimal "-0") x ≡ true → middle x (decimal "0") (decimal "-0") ≡ decimal "0"
unfolding middle precedes is_minus_zero is_plus_zero lt of_bits
zeros-before x p q = rw (p, q)

after-negative : (x : Float) → T (lt x (decimal "0")) → middle x (decimal "0") (decimal "-0") ≡ decimal "-0"
unfolding precedes is_minus_zero is_plus_zero lt of_bits
after-negative nan h = absurd h
after-negative (inf true) h = zeros-after (inf true) refl refl
after-negative (inf false) h = absurd h
after-negative (fin true zero e) h = zeros-after (fin true zero e) refl (rw (zero-mul (up e), zero-mul (down e)))
after-negative (fin true (suc m) e) h = zeros-after (fin true (suc m) e) refl (or-false (ltb (suc m * up e * 1) (0 * down e)) ∙ le-ltb (suc m * up e * 1) (0 * down e) (omega (arith, zero-mul (down e))))
after-negative (fin false m e) h = let less = ltb-true (m * up e * 1) (0 * down e) (is_true (ltb (m * up e * 1) (0 * down e)) h) in absurd (omega (arith, zero-mul (down e)))

before-positive : (x : Float) → T (lt (decimal "0") x) → middle x (decimal "0") (decimal "-0") ≡ decimal "0"
unfolding precedes is_minus_zero is_plus_zero lt of_bits
before-positive nan h = absurd h
before-positive (inf true) h = absurd h
before-positive (inf false) h = zeros-before (inf false) refl refl
before-positive (fin true m e) h = absurd h
before-positive (fin false m e) h =
    let above = m * up e * 1 in
    let less = ltb-true (0 * down e) above (is_true (ltb (0 * down e) above) h) in
    zeros-before (fin false m e) (or-false (ltb (0 * down e) above) ∙ is_true (ltb (0 * down e) above) h)
    (ap (λ (b : Bool). b || is_plus_zero (fin false m e)) (lt-ltb 0 (0 * down e + above) (omega arith)))

-- "minus zero before plus zero": with both zeros the third of the values decides, a zero by its sign
pub record ZerosInOrder : Type 0 where
  pub after-negative : (x : Float) → T (lt x (decimal "0")) → middle x (decimal "0") (decimal "-0") ≡ decimal "-0"
  pub before-positive : (x : Float) → T (lt (decimal "0") x) → middle x (decimal "0") (decimal "-0") ≡ decimal "0"
  pub of-minus-zeros : middle (decimal "-0") (decimal "0") (decimal "-0") ≡ decimal "-0"
  pub of-plus-zeros : middle (decimal "0") (decimal "0") (decimal "-0") ≡ decimal "0"

pub zeros-in_order : ZerosInOrder
unfolding middle precedes is_minus_zero is_plus_zero lt of_bits
zeros-in_order = record { after-negative = after-negative; before-positive = before-positive; of-minus-zeros = refl; of-plus-zeros = refl }
