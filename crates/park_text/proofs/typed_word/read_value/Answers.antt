-- The number is what stands before the first byte that ends it. Assumes nothing.
use Rattle.arithmetic.proofs.Kit.{◌≡◌, sym, ap, ap₂, ◌∙◌, false, List, ℕ, take, drop}
use Rattle.park_text.specs.Word.{has, is_minus_sign, number_length, read_number, read_value}
use Rattle.park_text.proofs.Numbers.{has_is}
use Rattle.park_text.proofs.typed_word.read_value.Goals as goal

with_number : (m : ℕ) (s : List ℕ) → has 32 s ≡ false → has 44 s ≡ false → is_minus_sign s ≡ false
    → read_number m (take (number_length s) s) (drop (number_length s) s) ≡ read_value m s
unfolding read_value
with_number m s blanks commas minus = rw (blanks, commas, minus)

pub returns : goal.returns
returns c =
    let m : ℕ = c.args.meaning in
    let s = c.args.text.now in
    c.read_number.ensures
    ∙ ap₂ (read_number m) (c.split_at.ensures.front ∙ ap (λ (n : ℕ). take n s) c.number_length.ensures) (c.split_at.ensures.back ∙ ap (λ (n : ℕ). drop n s) c.number_length.ensures)
    ∙ with_number m s (has_is 32 s ∙ sym c.contains.ensures.value ∙ c.if-contains.false) (has_is 44 s ∙ sym c.contains-2.ensures.value ∙ c.if-contains-2.false)
    (sym c.is_minus_sign.ensures ∙ c.if-is_minus_sign.false)
