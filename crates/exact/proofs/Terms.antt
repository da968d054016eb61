-- A formula, what it is over doubles and what over exact numbers, and how far apart these are: one analysis, and one law that it is right. Assumes nothing.
use Rattle.exact.proofs.Kit.{◌≡◌, refl, sym, subst, Bool, true, false, ◌&&◌, cond, List, [], ◌∷◌, ℕ, zero, suc, ◌+◌, ◌-◌, ◌*◌, ◌/◌, ◌≤◌, ◌<◌, le_refl, lt-div-mul-add, arith, T, eqb, leb, ltb, leb→le, ltb→lt, Float, nan, inf, fin, binary64, neg, sub, fits, lt, is_nan, of_bits-fits, cond-fits, and_i, and_l, and_r, finite, units_of, over, under, Small, le-of-sides, not_le-of-less, Exact, ◌⊞◌, ◌⊟◌, ◌⊠◌, ◌÷◌, the}
use Prim.Native.String.{String}
use Rattle.arithmetic.specs.Decimals.{fraction, decimal}
use Rattle.arithmetic.specs.Operators.{◌⊕◌, ◌⊖◌, ◌⊗◌, ◌⊘◌}
use Rattle.arithmetic.specs.Doubles.{max_double}
use Rattle.exact.proofs.Rounded.{N}
use Rattle.exact.proofs.Tracks.{Bounds, Tracks, opposed, summed, sum_size, multiplied, product_size, divided, quotient_size, small, tracks-neg, tracks-add, tracks-mul, tracks-div}

infixl 60 ◌plus◌ ◌minus◌
infixl 70 ◌times◌ ◌by◌
infix 50 ◌at_least◌
-- the i-th of what is given, a decimal, an operation, or the greater of a term and a decimal that it is never below
pub data Term : Type 0 where
  given : ℕ → Term
  num : String → Term
  ◌plus◌ : Term → Term → Term
  ◌minus◌ : Term → Term → Term
  ◌times◌ : Term → Term → Term
  ◌by◌ : Term → Term → Term
  ◌at_least◌ : Term → String → Term

-- the values of what is given, by its number from 0 on; there are no others
abbrev item : {A : Type 0} → A → List A → ℕ → A
item none [] n = none
item none (a ∷ l) zero = a
item none (a ∷ l) (suc n) = item none l n

abbrev pub as_double : List Float → Term → Float
as_double v (given i) = item nan v i
as_double v (num t) = decimal t
as_double v (a plus b) = as_double v a ⊕ as_double v b
as_double v (a minus b) = as_double v a ⊖ as_double v b
as_double v (a times b) = as_double v a ⊗ as_double v b
as_double v (a by b) = as_double v a ⊘ as_double v b
as_double v (a at_least t) = max_double (as_double v a) (decimal t)

abbrev pub as_exact : List Exact → Term → Exact
as_exact v (given i) = item (record { plus = 0; minus = 0; under = 0 }) v i
as_exact v (num t) = the t
as_exact v (a plus b) = as_exact v a ⊞ as_exact v b
as_exact v (a minus b) = as_exact v a ⊟ as_exact v b
as_exact v (a times b) = as_exact v a ⊠ as_exact v b
as_exact v (a by b) = as_exact v a ÷ as_exact v b
as_exact v (a at_least t) = as_exact v a

-- ---- constants
decimal-fits : (t : String) → T (fits binary64 (decimal t))
unfolding fits
decimal-fits t = cond-fits binary64 (fraction t).is_number _ nan (of_bits-fits binary64 _) tt

abbrev gap : Float → Exact → ℕ
gap c X = let a = over c * X.under + X.minus * N in let b = under c * X.under + X.plus * N in (a - b) + (b - a)

abbrev constant : Float → Exact → Bounds
constant c X = record { L = over c; M = under c; H = over c; J = under c; E = gap c X / X.under + 1; good = finite c && ltb 0 X.under }

tracks-constant : (c : Float) (X : Exact) → T (fits binary64 c) → T (constant c X).good → Tracks (constant c X) c X
tracks-constant c X f h =
    let some : 0 < X.under = ltb→lt 0 X.under (and_r (finite c) (ltb 0 X.under) h) in
    let g : gap c X ≤ (gap c X / X.under + 1) * X.under = omega (arith, lt-div-mul-add {a = gap c X} some) in
    record {
      some = some;
      is_finite = and_l (finite c) (ltb 0 X.under) h;
      double = f;
      low = omega arith;
      high = omega arith;
      not_above = (within (over c * X.under + X.minus * N) (under c * X.under + X.plus * N) ((gap c X / X.under + 1) * X.under) g).0;
      not_below = (within (over c * X.under + X.minus * N) (under c * X.under + X.plus * N) ((gap c X / X.under + 1) * X.under) g).1;
    }
  where
    within : (a b g : ℕ) → (a - b) + (b - a) ≤ g → (a ≤ b + g) × (b ≤ a + g)
    within a b g h = (omega (arith, h), omega (arith, h))

-- ---- the greater of a double and a constant that it is not below
max-is : (x c : Float) → T (finite x) → (T (lt x c) → ⊥) → max_double x c ≡ x
unfolding is_nan
max-is nan c f h = absurd f
max-is (inf s) c f h = absurd f
max-is (fin s m e) c f h = go (lt (fin s m e) c) h
  where
    go : (b : Bool) → (T b → ⊥) → cond b c (fin s m e) ≡ fin s m e
    go true h = absurd (h tt)
    go false h = refl

abbrev raised : Bounds → Float → Bounds
raised b c = record { L = b.L; M = b.M; H = b.H; J = b.J; E = b.E; good = b.good && finite c && leb (over c + b.M) (b.L + under c) }

tracks-raised : (b : Bounds) (x c : Float) (X : Exact) → T (fits binary64 c) → Tracks b x X → T (finite c && leb (over c + b.M) (b.L + under c)) → Tracks (raised b c) (max_double x c) X
unfolding is_nan
tracks-raised b x c X f t h =
    let ordered : over c + under x ≤ over x + under c = omega (arith, t.low, leb→le (over c + b.M) (b.L + under c) (and_r (finite c) (leb (over c + b.M) (b.L + under c)) h)) in
    let not-less : T (lt x c) → ⊥ = λ l. not_le-of-less x c l (le-of-sides c x (itself c f (and_l (finite c) (leb (over c + b.M) (b.L + under c)) h)) (itself x t.double t.is_finite) ordered) in
    subst (λ (z : Float). Tracks (raised b c) z X) (sym (max-is x c t.is_finite not-less))
    record { some = t.some; is_finite = t.is_finite; double = t.double; low = t.low; high = t.high; not_above = t.not_above; not_below = t.not_below }
  where
    itself : (z : Float) → T (fits binary64 z) → T (finite z) → Small (units_of z) z
    itself z f k = record { is_finite = k; double = f; size = le_refl (units_of z) }

-- ---- the analysis
abbrev pub analysed : List Bounds → Term → Bounds
analysed b (given i) = item (record { L = 0; M = 0; H = 0; J = 0; E = 0; good = false }) b i
analysed b (num t) = constant (decimal t) (the t)
analysed b (s plus t) = summed (analysed b s) (analysed b t)
analysed b (s minus t) = summed (analysed b s) (opposed (analysed b t))
analysed b (s times t) = multiplied (analysed b s) (analysed b t)
analysed b (s by t) = divided (analysed b s) (analysed b t)
analysed b (s at_least t) = raised (analysed b s) (decimal t)

-- each double of a list tracks the number at its place, between the bounds there
infixr 5 ◌also◌
pub data Tracked : List Bounds → List Float → List Exact → Type 0 where
  none : Tracked [] [] []
  ◌also◌ : {b : Bounds} {x : Float} {X : Exact} {bs : List Bounds} {xs : List Float} {Xs : List Exact} → Tracks b x X → Tracked bs xs Xs → Tracked (b ∷ bs) (x ∷ xs) (X ∷ Xs)

tracks-item : {bs : List Bounds} {xs : List Float} {Xs : List Exact} → Tracked bs xs Xs → (i : ℕ) → T (analysed bs (given i)).good → Tracks (analysed bs (given i)) (as_double xs (given i)) (as_exact Xs (given i))
tracks-item none i h = absurd h
tracks-item (t also l) zero h = t
tracks-item (t also l) (suc i) h = tracks-item l i h

module _ {b : List Bounds} {v : List Float} {e : List Exact} (g : Tracked b v e) where
  pub tracks : (t : Term) → T (analysed b t).good → Tracks (analysed b t) (as_double v t) (as_exact e t)
  unfolding sub
  tracks (given i) h = tracks-item g i h
  tracks (num t) h = tracks-constant (decimal t) (the t) (decimal-fits t) h
  tracks (s plus t) h =
      let A = analysed b s in
      let B = analysed b t in
      let h₁ = and_l (A.good && B.good) (small (sum_size A B)) h in
      tracks-add A B (as_double v s) (as_double v t) (as_exact e s) (as_exact e t) (tracks s (and_l A.good B.good h₁)) (tracks t (and_r A.good B.good h₁)) (and_r (A.good && B.good) (small (sum_size A B)) h)
  tracks (s minus t) h =
      let A = analysed b s in
      let B = opposed (analysed b t) in
      let h₁ = and_l (A.good && B.good) (small (sum_size A B)) h in
      tracks-add A B (as_double v s) (neg (as_double v t)) (as_exact e s) _ (tracks s (and_l A.good B.good h₁)) (tracks-neg (as_double v t) (as_exact e t) (tracks t (and_r A.good B.good h₁))) (and_r (A.good && B.good) (small (sum_size A B)) h)
  tracks (s times t) h =
      let A = analysed b s in
      let B = analysed b t in
      let h₁ = and_l (A.good && B.good) (small (product_size A B)) h in
      tracks-mul A B (as_double v s) (as_double v t) (as_exact e s) (as_exact e t) (tracks s (and_l A.good B.good h₁)) (tracks t (and_r A.good B.good h₁)) (and_r (A.good && B.good) (small (product_size A B)) h)
  tracks (s by t) h =
      let A = analysed b s in
      let B = analysed b t in
      let small-enough = small (quotient_size A B) in
      let none = eqb B.M 0 in
      let clear = ltb B.E B.L in
      let h₃ = and_l (A.good && B.good && small-enough && none) clear h in
      let h₂ = and_l (A.good && B.good && small-enough) none h₃ in
      let h₁ = and_l (A.good && B.good) small-enough h₂ in
      tracks-div A B (as_double v s) (as_double v t) (as_exact e s) (as_exact e t) (tracks s (and_l A.good B.good h₁)) (tracks t (and_r A.good B.good h₁))
      (and_r (A.good && B.good) small-enough h₂) (and_r (A.good && B.good && small-enough) none h₃) (and_r (A.good && B.good && small-enough && none) clear h)
  tracks (s at_least t) h =
      let A = analysed b s in
      let c = decimal t in
      let h₁ = and_l (A.good && finite c) (leb (over c + A.M) (A.L + under c)) h in
      tracks-raised A (as_double v s) c (as_exact e s) (decimal-fits t) (tracks s (and_l A.good (finite c) h₁))
      (and_i (finite c) (leb (over c + A.M) (A.L + under c)) (and_r A.good (finite c) h₁) (and_r (A.good && finite c) (leb (over c + A.M) (A.L + under c)) h))
