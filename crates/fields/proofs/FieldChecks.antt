-- A field by the outcomes of its checks. Assumes nothing.
use Rattle.fields.proofs.Kit.{◌≡◌, Bool, not, cond, List, [], ℕ, ltb, eqb, length, accepted, refused, is_tag, data_size, tag_of, length_of, size_of, field, head_rows, field_of}

pub by-checks : (s : List ℕ) {a b c d : Bool} → ltb (length s) 3 ≡ a → not (is_tag (tag_of s)) ≡ b → not (eqb (length_of s) (data_size (tag_of s))) ≡ c → ltb (length s) (size_of s) ≡ d
    → cond a (refused 5 []) (cond b (refused 6 []) (cond c (refused 7 []) (cond d (refused 5 []) (accepted (field s))))) ≡ field_of s
unfolding head_rows
by-checks s e f g h = simp (e, f, g, h)
