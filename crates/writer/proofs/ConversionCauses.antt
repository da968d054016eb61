-- Each number of a conversion has exactly its cause, in the order of the checks. Assumes nothing.
use Rattle.writer.proofs.Kit.{◌≡◌, refl, ap, ap₂, ◌∙◌, Bool, false, List, [], ◌∷◌, ◌++◌, flat_map, ℕ, length, numbers, numbers-append, then-rows, exactly-by, read_rows, room_rows, length_written, fields_of, record_in, count_rows, converted}
use Rattle.record.proofs.Numbers.{fields_in-order}
use Rattle.writer.proofs.ConversionStated.{conversion_rows, Caused, OrderOfChecks}

pub caused : (counts : Bool) (s buffer : List ℕ) → Caused counts s buffer
unfolding converted
caused counts s buffer =
    let t = record_in counts s in
    let fields = read_rows false s ++ count_rows counts (fields_of s) in
    exactly-by (length t) (conversion_rows counts s buffer) (then-rows fields (room_rows t buffer) t (length t) (λ r. length_written r buffer) refl)

counts-in_order : (counts : Bool) (fs : List (List ℕ)) → numbers (count_rows counts fs) ≡ flat_map (λ _. 20 ∷ []) fs
unfolding flat_map
counts-in_order counts [] = refl
counts-in_order counts (f ∷ fs) = ap (λ (ns : List ℕ). 20 ∷ ns) (counts-in_order counts fs)

pub order-of-checks : (counts : Bool) (s buffer : List ℕ) → OrderOfChecks counts s buffer
order-of-checks counts s buffer =
    let fields = read_rows false s in
    let counted = count_rows counts (fields_of s) in
    numbers-append (fields ++ counted) (room_rows (record_in counts s) buffer)
    ∙ ap (λ (ns : List ℕ). ns ++ 18 ∷ [])
    (numbers-append fields counted ∙ ap₂ (λ (ns ms : List ℕ). ns ++ ms) (fields_in-order false s) (counts-in_order counts (fields_of s)))
