-- Digits: hex digits of either case, the bytes and the words that they spell, and decimal numbers. Definitions only.
use Rattle.std.specs.Prelude.{ℕ, ◌+◌, ◌-◌, ◌*◌, ◌/◌, ◌%◌, ◌^◌, min, Bool, true, ◌&&◌, cond, List, [], ◌∷◌, leb, ltb, length, get_or, Option, Some, None}
use Rattle.pages.specs.Pages.{up_to}

-- ---- hex digits
-- the value of a digit, and 16 for any other byte: `0` to `9` are 48 to 57, `A` to `F` 65 to 70, `a` to `f` 97 to 102
abbrev pub digit_of : ℕ → ℕ
digit_of b =
    cond (ltb b 48) 16
    (cond (leb b 57) (b - 48)
    (cond (ltb b 65) 16
    (cond (leb b 70) (b - 55)
    (cond (ltb b 97) 16
    (cond (leb b 102) (b - 87) 16)))))

unfoldable pub are_hex : List ℕ → Bool
are_hex [] = true
are_hex (b ∷ s) = ltb (digit_of b) 16 && are_hex s

-- ---- the number that sixteen digits at most spell, and 0 where there are more
unfoldable pub hex_from : ℕ → List ℕ → ℕ
hex_from v [] = v
hex_from v (b ∷ s) = hex_from (v * 16 + digit_of b % 16) s

unfoldable pub hex_number : List ℕ → ℕ
hex_number s = cond (leb (length s) 16) (hex_from 0 s) 0

-- ---- bytes, two digits each
abbrev pub byte_at : List ℕ → ℕ → ℕ
byte_at s i = digit_of (get_or s (2 * i) 0) % 16 * 16 + digit_of (get_or s (2 * i + 1) 0) % 16

-- those that there is room for
unfoldable pub bytes_in : ℕ → List ℕ → List ℕ
bytes_in room s = up_to (byte_at s) (min (length s / 2) room)

-- ---- decimal numbers below 2 ^ 64
infixr 20 ◌⟫◌
abbrev pub ◌⟫◌ : Option ℕ → (ℕ → Option ℕ) → Option ℕ
Some v ⟫ next = next v
None ⟫ next = None

abbrev pub with_digit : ℕ → ℕ → Option ℕ
with_digit v b = cond (leb 48 b && leb b 57 && ltb (v * 10 + (b - 48)) (2 ^ 64)) (Some (v * 10 + (b - 48))) None

unfoldable pub decimal_from : ℕ → List ℕ → Option ℕ
decimal_from v [] = Some v
decimal_from v (b ∷ s) = with_digit v b ⟫ (λ w. decimal_from w s)

-- one digit at least
unfoldable pub number_in : List ℕ → Option ℕ
number_in [] = None
number_in (b ∷ s) = decimal_from 0 (b ∷ s)
