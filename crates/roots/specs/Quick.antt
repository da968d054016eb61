-- Document 02, "Quicker roots": which numbers are served from the table, and what the two roots are. Definitions only.
use Rattle.std.specs.Prelude.{ℕ, ◌+◌, ◌-◌, ◌*◌, ◌/◌, ◌^◌, Bool, cond, ◌&&◌, List, nat_le, nat_lt, slice_index, Option, Some, None}
use Rattle.roots.specs.Root.{root}
use Rattle.roots.specs.declared.quick.Both.{Both}

-- the entry e, times 2^17, is at most the root of n / 2^62, and its square less than 3 * 2^53 below n / 2^62: near enough for two steps of Newton's iteration
abbrev pub is_near : ℕ → ℕ → Bool
is_near n e = nat_lt e (2 ^ 15) && (nat_le (e * e * 2 ^ 34) (n / 2 ^ 62) && nat_lt (n / 2 ^ 62) (e * e * 2 ^ 34 + 3 * 2 ^ 53))

-- n is served if its number, "the radicand divided by 2^116, rounded down", has an entry, and the entry is near
unfoldable pub served : List ℕ → ℕ → Bool
served table n = let number = n / 2 ^ 116 in nat_le 256 number && (nat_lt number 1024 && is_near n (slice_index table (number - 256)))

-- the root of a number that is served, without the first root
unfoldable pub table_root : List ℕ → ℕ → Option ℕ
unfolding served root
table_root table n = cond (served table n) (Some (root n)) None

-- the first root and the quick one: "the two give the same number"
abbrev pub both_roots : ℕ → Both
both_roots n = record { first = root n; quick = root n }
