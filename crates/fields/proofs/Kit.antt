-- The names that most proofs here use, of the kit, of the crates below and of the definitions, from one place. Nothing is defined here.
pub use Rattle.std.specs.Prelude.{Result}
unfoldable pub use Rattle.arithmetic.proofs.Kit.{div, is_nan, of_bits, to_bits}
pub use Rattle.arithmetic.proofs.Kit.{Bool, Float, List, T, Val, [], ◌&&◌, ◌+◌, ◌-◌, ◌<◌, ◌^◌, ◌||◌, ◌∙◌, ◌∷◌, ◌≡◌, ◌≤◌, add-one, ap, ap₂, arith, binary64, cond, differs_from_itself, digits_lt, drop, drop-drop, eq-eqb, eqb, false, fin, get_or, get_or-drop, inf, le-leb, le-ltb, leb, leb-true, length, length-drop, lit<, lit≤, lt-leb, lt-ltb, ltb, named, nan, ne_eqb, rules, not, pow-le-pow_right, pow-suc, refl, subst, suc, sym, take_all, true, true≢false, w64, zero, ℕ}
pub use Rattle.refusal.specs.Outcomes.{Outcome, ◌⟫◌, accepted, refused, outcome}
unfoldable pub use Rattle.fields.specs.Fields.{field, head_rows, heads_from, next_at}
pub use Rattle.fields.specs.Fields.{data_size, double_of, field_of, heads, is_count_tag, is_tag, length_of, meaning_of, meanings, size_of, step_at, tag_in, tag_of, value_of}
pub use Rattle.fields.specs.declared.reader.Reader.{Reader}
