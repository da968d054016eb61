-- `fields::fields::head_field` meets its contract: each answer is that of the checks that led to it. Assumes nothing.
use Rattle.fields.proofs.Kit.{◌≡◌, refl, sym, ap, ◌∙◌, false, not, ℕ, ltb, eqb, length, List, arith, rules, lt-ltb, le-ltb, eq-eqb, ne_eqb, accepted, is_tag, meaning_of, data_size, tag_of, length_of, size_of, value_of, field}
use Rattle.fields.specs.declared.fields.Value.{Value}
use Rattle.fields.proofs.Forms.{at_most_lem}
use Rattle.fields.proofs.FieldChecks.{by-checks}
use Rattle.fields.proofs.fields.head_field.Statement.{statement}
use Rattle.fields.proofs.fields.head_field.Tie as tie

made : (s : List ℕ) {m : ℕ} {v : Value} → m ≡ meaning_of (tag_of s) → v ≡ value_of s → accepted (record { tag = tag_of s; meaning = m; value = v }) ≡ accepted (field s)
unfolding field
made s e f = λ i. accepted (record { tag = tag_of s; meaning = e i; value = f i })

returns_2 : tie.Need-returns-then-not-is_tag
returns_2 c =
    let read = c.before in
    by-checks read.args.bytes.now (le-ltb _ _ read.if-bytes-lt-HEADER.false) (ap not (sym read.is_tag.ensures ∙ c.if-not-is_tag.true)) refl refl

-- past the checks of header and tag
tagged : (c : tie.Else-not-is_tag) → let s = c.args.bytes.now in (ltb (length s) 3 ≡ false) × (not (is_tag (tag_of s)) ≡ false)
tagged c = (le-ltb _ _ c.if-bytes-lt-HEADER.false, ap not (sym c.is_tag.ensures ∙ c.if-not-is_tag.false))

returns_3 : tie.Need-returns-then-word_at-data
returns_3 c =
    let read = c.before in
    let known = tagged read.before.before in
    let s = read.args.bytes.now in
    by-checks s known.0 known.1 (ap not (ne_eqb _ _ (λ e. c.if-word_at-data.true (read.word_at.ensures.0 ∙ e ∙ sym read.data_size-data.ensures)))) refl

-- past the check of the length too
measured : (c : tie.Else-word_at-data) → let s = c.args.bytes.now in not (eqb (length_of s) (data_size (tag_of s))) ≡ false
measured c = ap not (eq-eqb _ _ (sym c.word_at.ensures.0 ∙ c.if-word_at-data.false ∙ c.data_size-data.ensures))

add_if4 : tie.Need-overflow_add-data
add_if4 c = omega (arith, c.data_size-data.ensures, at_most_lem (tag_of c.args.bytes.now))

returns_4 : tie.Need-returns-then-bytes-data
returns_4 c =
    let at = c.before in
    let known = tagged at.before.before.before in
    let s = at.args.bytes.now in
    by-checks s known.0 known.1 (measured at) (lt-ltb (length s) (size_of s) (omega (arith, at.data_size-data.ensures)))

returns_5 : tie.Need-returns
returns_5 c =
    let at = c.before.before.before in
    let known = tagged at.before.before.before in
    let s = at.args.bytes.now in
    let size = at.data_size-data.ensures in
    made s c.meaning_of.ensures c.value_of.ensures ∙ by-checks s known.0 known.1 (measured at) (le-ltb (length s) (size_of s) (omega (arith, size)))

pub head_field_spec : {M : Type 1} → statement M
head_field_spec =
    tie.close (tie.spec (λ c. by-checks c.args.bytes.now (lt-ltb _ _ c.if-bytes-lt-HEADER.true) refl refl refl)
    (λ c. search rules)
    (λ c κs. search rules)
    returns_2
    (λ c κs. search rules)
    (λ c κs. search rules)
    returns_3
    add_if4
    returns_4
    (λ c κs. search rules)
    (λ c κs. search rules)
    returns_5)
