-- A count's double finds its count, so that what is found is all there is. Assumes nothing.
use Rattle.arithmetic.proofs.Kit.{◌≡◌, refl, sym, ap, ◌∙◌, subst, Bool, true, false, cond, true≢false, ℕ, suc, le_trans, arith, eq-eqb, ne_eqb, ℤ, pos, negsuc, T, leb→le, eqb, eqb→eq, lit≤, Float, nan, inf, fin, binary64, neg, fits, to_bits, is_true, round-fits, finite}
use lib.IntN.{pos-ne-negsuc}
use Rattle.arithmetic.specs.Whole.{signed}
use Rattle.arithmetic.proofs.Rounding.{round-opposite}
use Rattle.arithmetic.proofs.Pattern.{one-pattern}
use Rattle.std.specs.Prelude.{Some, None}
use Rattle.thousandths.specs.Thousandths.{in_range, thousandths, nearest_thousandth, counted, if_exact, count_for}
use Rattle.thousandths.proofs.Sizes.{of_size, InRange}

pub record DoubleOfCount : Type 0 where
  pub is_finite : (n : ℤ) → InRange n → T (finite (thousandths n))
  pub never_minus_zero : (n : ℤ) → InRange n → thousandths n ≡ fin true 0 (pos 0) → ⊥
  pub distinct : (m n : ℤ) → InRange m → InRange n → thousandths m ≡ thousandths n → m ≡ n
  pub finds_its_count : (n : ℤ) → InRange n → count_for (thousandths n) ≡ Some n

pub record CountOfDouble : Type 0 where
  pub gives_the_double : (x : Float) (n : ℤ) → T (fits binary64 x) → count_for x ≡ Some n → InRange n × (thousandths n ≡ x)
  pub is_found : (x : Float) (n : ℤ) → InRange n → thousandths n ≡ x → count_for x ≡ Some n

-- ---- a count's double
pub thousandths-fits : (n : ℤ) → T (fits binary64 (thousandths n))
unfolding thousandths
thousandths-fits (pos n) = round-fits binary64 false n 1000
thousandths-fits (negsuc n) = round-fits binary64 true (suc n) 1000

-- any property of a finite double whose nearest count is n
module _ (P : ℤ → Float → Type 0) (plus : (n m : ℕ) (e : ℤ) → nearest_thousandth (fin false m e) ≡ pos n → P (pos n) (fin false m e))
    (minus : (n m : ℕ) (e : ℤ) → nearest_thousandth (fin true m e) ≡ negsuc n → P (negsuc n) (fin true m e)) where
  pub by_sign : (n : ℤ) → InRange n → P n (thousandths n)
  unfolding thousandths nearest_thousandth neg
  by_sign (pos n) h =
      let z = of_size n (le_trans (leb→le n 2147483647 h) (lit≤ tt)) in
      rw z.is (plus n z.digits z.exponent (ap pos z.nearest))
  by_sign (negsuc n) h =
      let z = of_size (suc n) (leb→le (suc n) 2147483648 h) in
      rw (round-opposite binary64 (suc n) 1000, z.is) (minus n z.digits z.exponent (ap (signed true) z.nearest))

nearest_count_lem : (n : ℤ) → InRange n → nearest_thousandth (thousandths n) ≡ n
nearest_count_lem = by_sign (λ n x. nearest_thousandth x ≡ n) (λ n m e is. is) (λ n m e is. is)

is_finite_lem : (n : ℤ) → InRange n → T (finite (thousandths n))
is_finite_lem = by_sign (λ n x. T (finite x)) (λ n m e is. tt) (λ n m e is. tt)

-- minus zero is nearest to the count 0, whose double is plus zero
never_minus_zero_lem : (n : ℤ) → InRange n → thousandths n ≡ fin true 0 (pos 0) → ⊥
unfolding nearest_thousandth
never_minus_zero_lem =
    by_sign (λ n x. x ≡ fin true 0 (pos 0) → ⊥)
    (λ n m e is same. true≢false (sym (ap negative same)))
    (λ n m e is same. pos-ne-negsuc 0 n (sym (ap nearest_thousandth same) ∙ is))
  where
    negative : Float → Bool
    negative nan = false
    negative (inf s) = s
    negative (fin s m e) = s

distinct : (m n : ℤ) → InRange m → InRange n → thousandths m ≡ thousandths n → m ≡ n
distinct m n g h same = sym (nearest_count_lem m g) ∙ ap nearest_thousandth same ∙ nearest_count_lem n h

-- ---- what is found
pub in_range-counted : (n : ℤ) → InRange n → counted n ≡ Some n
unfolding counted
in_range-counted n h = rw (is_true (in_range n) h)

pub not_counted : (n : ℤ) → in_range n ≡ false → counted n ≡ None
unfolding counted
not_counted n outside = rw outside

pub same-pattern : (n : ℤ) (b : ℕ) → to_bits binary64 (thousandths n) ≡ b → if_exact b (Some n) ≡ Some n
unfolding if_exact
same-pattern n b same = rw (eq-eqb (to_bits binary64 (thousandths n)) b same)

pub other-pattern : (n : ℤ) (b : ℕ) → (to_bits binary64 (thousandths n) ≡ b → ⊥) → if_exact b (Some n) ≡ None
unfolding if_exact
other-pattern n b other = rw (ne_eqb (to_bits binary64 (thousandths n)) b other)

is-passed : (c n : ℤ) (b : ℕ) → if_exact b (counted c) ≡ Some n → (c ≡ n) × (InRange n × (to_bits binary64 (thousandths n) ≡ b))
unfolding if_exact counted
is-passed c n b = go (in_range c) (λ t. t)
  where
    passed : (u : Bool) → InRange c → (T u → to_bits binary64 (thousandths c) ≡ b) → cond u (Some c) None ≡ Some n
        → (c ≡ n) × (InRange n × (to_bits binary64 (thousandths n) ≡ b))
    passed true range same h = let e : c ≡ n = cc in (e, (subst InRange e range, rw e at (same tt)))
    passed false range same h = let z : ◌≡◌ {A = ℕ} 0 1 = cc in absurd (omega arith)

    go : (t : Bool) → (T t → InRange c) → if_exact b (cond t (Some c) None) ≡ Some n → (c ≡ n) × (InRange n × (to_bits binary64 (thousandths n) ≡ b))
    go true range h = passed (eqb (to_bits binary64 (thousandths c)) b) (range tt) (eqb→eq (to_bits binary64 (thousandths c)) b) h
    go false range h = let z : ◌≡◌ {A = ℕ} 0 1 = cc in absurd (omega arith)

gives_the_double_lem : (x : Float) (n : ℤ) → T (fits binary64 x) → count_for x ≡ Some n → InRange n × (thousandths n ≡ x)
unfolding count_for
gives_the_double_lem x n f h =
    let p = is-passed (nearest_thousandth x) n (to_bits binary64 x) h in
    (p.1.0, one-pattern (thousandths n) x (thousandths-fits n) f p.1.1)

is_found : (x : Float) (n : ℤ) → InRange n → thousandths n ≡ x → count_for x ≡ Some n
unfolding count_for
is_found x n h same =
    let b : ℕ = to_bits binary64 x in
    ap (λ (c : ℤ). if_exact b (counted c)) (sym (ap nearest_thousandth same) ∙ nearest_count_lem n h) ∙ ap (if_exact b) (in_range-counted n h) ∙ same-pattern n b (ap (to_bits binary64) same)

pub count_of-double : CountOfDouble
count_of-double = record { gives_the_double = gives_the_double_lem; is_found = is_found }

pub double_of-count : DoubleOfCount
double_of-count = record { is_finite = is_finite_lem; never_minus_zero = never_minus_zero_lem; distinct = distinct; finds_its_count = λ n h. is_found (thousandths n) n h refl }
