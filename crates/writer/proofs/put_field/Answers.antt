-- Tag, length and data, one number after the other: three runs of stores are one.
use Rattle.writer.proofs.Kit.{◌≡◌, sym, ap, ap₂, ◌∙◌, List, ◌++◌, ℕ, ◌+◌, arith, length, sets, Value, data_size, at_most_lem, bytes, data_of, field_with}
use Rattle.writer.proofs.Bytes.{sets_append}
use Rattle.writer.proofs.Fields.{length-field}
use Rattle.writer.proofs.put_field.Goals as goal

pub put_number-requires : goal.put_number-requires
put_number-requires c = omega (arith, c.requires, length-field c.args.tag c.args.value)

pub put_number-requires-2 : goal.put_number-requires-2
put_number-requires-2 c = omega (arith, c.requires, c.put_number.auto.out, length-field c.args.tag c.args.value)

pub put_number-requires-3 : goal.put_number-requires-3
put_number-requires-3 c = omega (arith, c.requires, c.put_number.auto.out, c.put_number-2.auto.out, length-field c.args.tag c.args.value, c.data_size-data.ensures, at_most_lem c.args.tag)

pub returns-clause-value : goal.returns-clause-value
returns-clause-value c = omega (arith, c.data_size-data.ensures, length-field c.args.tag c.args.value)

three : (l : List ℕ) (at : ℕ) (a b d : List ℕ) → sets l at (a ++ b ++ d) ≡ sets (sets (sets l at a) (at + length a) b) (at + length (a ++ b)) d
three l at a b d = sets_append l at (a ++ b) d ∙ ap (λ (m : List ℕ). sets m (at + length (a ++ b)) d) (sets_append l at a b)

stored : (l : List ℕ) (at tag t n w : ℕ) (v : Value) {l₁ l₂ l₃ : List ℕ} → t ≡ tag → n ≡ data_size tag → w ≡ data_of v → l₁ ≡ sets l at (bytes 1 t) → l₂ ≡ sets l₁ (at + 1) (bytes 2 n)
    → l₃ ≡ sets l₂ (at + 3) (bytes n w) → l₃ ≡ sets l at (field_with tag v)
unfolding bytes field_with
stored l at tag t n w v is size word e f g =
    g
    ∙ ap (λ (m : List ℕ). sets m (at + 3) (bytes n w)) (f ∙ ap (λ (m : List ℕ). sets m (at + 1) (bytes 2 n)) (e ∙ ap (λ (u : ℕ). sets l at (bytes 1 u)) is))
    ∙ ap₂ (λ (m u : ℕ). sets (sets (sets l at (bytes 1 tag)) (at + 1) (bytes 2 m)) (at + 3) (bytes m u)) size word
    ∙ sym (three l at (bytes 1 tag) (bytes 2 (data_size tag)) (bytes (data_size tag) (data_of v)))

pub returns-clause-out_after : goal.returns-clause-out_after
returns-clause-out_after c =
    let a = c.args in
    stored a.out.now a.at a.tag c.from.result c.data_size-data.result c.data_of.result a.value c.from.ensures c.data_size-data.ensures c.data_of.ensures c.put_number.ensures c.put_number-2.ensures c.put_number-3.ensures
