-- The densities of a dry sheet fall from row to row: its temperatures are whole degrees, each computed. Assumes nothing.
use Rattle.near.proofs.Kit.{Bool, List, [], ◌∷◌, ℕ, ◌<◌, arith, T, binary64, span, climb, size, odd, units, round, of_fields, of_bits, of_int, fits, lt, eq, le, Float, decimal, nought, figures_with, figures_of, ◌⊞◌, the, number, is_not_above, all, test, InScope, Between}
use Rattle.sheet.specs.Sheet.{celsius_of_row}
use Rattle.arithmetic.proofs.Every.{every, at}
use Rattle.near.proofs.Falls.{dry-density-falls}
use Rattle.sheet.specs.Row.{station_of_row}

abbrev warmer : ℕ → Bool
warmer n = every n (λ m. is_not_above (number (celsius_of_row m) ⊞ the "1") (number (celsius_of_row n)))

all-warmer : T (every 51 warmer)
unfolding celsius_of_row of_int number ◌⊞◌ the round units span climb size odd
all-warmer = tt

abbrev scope : ℕ → List Bool
scope n = fits binary64 (celsius_of_row n) ∷ le (decimal "-40") (celsius_of_row n) ∷ le (celsius_of_row n) (decimal "50") ∷ []

all-in_scope : T (every 51 (λ n. all (scope n)))
unfolding celsius_of_row of_int round units span climb size odd of_fields of_bits fits lt eq le
all-in_scope = tt

pub dry_sheet_falls : (altitude p : Float) → Between (decimal "500") (decimal "1100") p → (m n : ℕ) → m < n → n < 51
    → T (lt (figures_of (station_of_row altitude p nought (celsius_of_row n))).density_kg_m3 (figures_of (station_of_row altitude p nought (celsius_of_row m))).density_kg_m3)
unfolding figures_with of_bits fits le lt eq
dry_sheet_falls altitude p range m n less most =
    dry-density-falls altitude altitude (celsius_of_row m) (celsius_of_row n) p (in_scope m (omega arith)) (in_scope n most) (at n (λ k. is_not_above (number (celsius_of_row k) ⊞ the "1") (number (celsius_of_row n))) (at 51 warmer all-warmer n most) m less)
  where
    in_scope : (n : ℕ) → n < 51 → InScope (celsius_of_row n) p nought
    in_scope n most =
        let h = at 51 (λ n. all (scope n)) all-in_scope n most in
        record {
          temperature = record { double = test (scope n) 0 h; low = test (scope n) 1 h; high = test (scope n) 2 h };
          pressure = range;
          humidity = record { double = tt; low = tt; high = tt };
        }
