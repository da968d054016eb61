-- The definition's excesses, which come from roots that are cut, are those of the true powers of 2, each cut once: antt computes the test at every entry.
-- Assumes nothing.
use Rattle.arithmetic.proofs.Kit.{◌≡◌, refl, subst, Bool, ◌&&◌, List, flat_map, ℕ, ◌+◌, ◌*◌, ◌/◌, ◌%◌, ◌^◌, ◌<◌, zero-add, arith, T, ltb, ltb→lt, size, length, get_or, and_l, and_r}
use Rattle.roots.specs.Root.{root, root_in}
use Rattle.antilog.specs.Estimate.{root_of_two, excess_of, excess_row, excess_table, last_excess}
use Rattle.antilog.proofs.Tested.{test_at_most, test_at_least, Excess, is_excess, excess, every, every-at}

-- entry n, in row n / 16
pub record ExcessTable (table : List ℕ) : Type 0 where
  pub entry : (n : ℕ) → n < 128 → Excess (64 + 4 * (n / 16)) (4 * (n / 16) + 4) (n % 16) (get_or table n 0)
  pub word : (n : ℕ) → n < 128 → get_or table n 0 < 2 ^ 64

right : ℕ → ℕ → Bool
right n X = is_excess (64 + 4 * (n / 16)) (4 * (n / 16) + 4) (n % 16) X && ltb X (2 ^ 64)

tested : (xs : List ℕ) → length xs ≡ 128 → T (every right 0 xs) → ExcessTable xs
unfolding right
tested xs all h =
    let at : (n : ℕ) → n < 128 → T (right n (get_or xs n 0)) = λ n few. subst (λ (k : ℕ). T (right k (get_or xs n 0))) (zero-add n) (every-at right 0 xs h n (omega arith)) in
    let is : ℕ → Bool = λ n. is_excess (64 + 4 * (n / 16)) (4 * (n / 16) + 4) (n % 16) (get_or xs n 0) in
    let fits : ℕ → Bool = λ n. ltb (get_or xs n 0) (2 ^ 64) in
    record {
      entry = λ n few. excess (64 + 4 * (n / 16)) (4 * (n / 16) + 4) (n % 16) (get_or xs n 0) (and_l (is n) (fits n) (at n few));
      word = λ n few. ltb→lt (get_or xs n 0) (2 ^ 64) (and_r (is n) (fits n) (at n few));
    }

pub table_excesses : ExcessTable excess_table
unfolding right every test_at_most test_at_least excess_table flat_map excess_row excess_of root_of_two root root_in size
table_excesses = tested _ refl tt

-- ---- the last bits' excess

abbrev pub last : ℕ
last = 0xB17217F7D

pub last-is : last_excess ≡ last
unfolding last_excess excess_of root_of_two root root_in size
last-is = refl

pub last_excess_lem : Excess 96 60 1 last
unfolding test_at_most test_at_least
last_excess_lem = excess 96 60 1 last tt
