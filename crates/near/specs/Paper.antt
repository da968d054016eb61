-- What is printed of a figure, and the trim class of a density, against the exact number behind them. Definitions only.
use Rattle.std.specs.Prelude.{ℕ, ◌+◌, ◌*◌, ◌^◌, ◌≤◌, ◌≡◌, Bool, cond, List, [], ◌∷◌, Float}
use Rattle.decimals.specs.Decimal.{count_text}
use Rattle.exact.specs.Exact.{Exact, ◌⊟◌, number, is_not_above}
use Rattle.exact.specs.Near.{IsFar}

-- ---- paper
-- n units of the j-th decimal, with a sign
abbrev pub units : ℕ → Bool → ℕ → Exact
units j negative n = record { plus = cond negative 0 n; minus = cond negative n 0; under = 10 ^ j }

-- the text is that of n units of the j-th decimal, which are no further from the number than half a unit and 2 ^ -k
pub record IsPrinted (j k : ℕ) (text : List ℕ) (X : Exact) : Type 0 where
  pub negative : Bool
  pub n : ℕ
  pub is_text : text ≡ count_text j negative n
  pub not_above : let d = units j negative n ⊟ X in d.plus * (2 * 10 ^ j * 2 ^ k) ≤ d.minus * (2 * 10 ^ j * 2 ^ k) + d.under * (2 ^ k + 2 * 10 ^ j)
  pub not_below : let d = units j negative n ⊟ X in d.minus * (2 * 10 ^ j * 2 ^ k) ≤ d.plus * (2 * 10 ^ j * 2 ^ k) + d.under * (2 ^ k + 2 * 10 ^ j)

-- ---- the trim class: the count of the limits, each as its double, that are at or below the exact density
abbrev pub exact_count : List Float → Exact → ℕ
exact_count [] X = 0
exact_count (c ∷ l) X = cond (is_not_above (number c) X) 1 0 + exact_count l X

abbrev pub FarFromEach : ℕ → Exact → List Float → Type 0
FarFromEach k X [] = Unit {0}
FarFromEach k X (c ∷ l) = IsFar k X c × FarFromEach k X l
