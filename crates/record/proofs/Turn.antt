-- A turn of the reading: what the field at a position, and the check of its order, tell of the rest of the record. Assumes nothing.
use Rattle.std.specs.Prelude.{Result}
use Rattle.refusal.specs.declared.Refusal.{Refusal}
use Rattle.record.proofs.Kit.{◌≡◌, refl, sym, ap, ◌∙◌, subst, Bool, List, ℕ, ◌≤◌, ◌<◌, arith, Float, length, drop, length-drop, Outcome, accepted, refused, ◌⟫◌, ◌then◌, outcome, passed, NoneHolds, then_append, then_next, then-none, then_to, then-accepted, none_both, after_check, exactly, Readings, meanings, tag_of, field, head_rows, size_of, field_of, next_at, order_rows, noted, after_is}
use Rattle.fields.specs.declared.fields.Field.{Field}
use Rattle.record.proofs.Walk.{field_rows, read, read_step}
use Rattle.record.proofs.EntryLaws.{head-whole, head-meaning}

never : {x : Readings} {n : ℕ} {vs : List Float} → accepted x ≡ refused n vs → ⊥
never e = let z : ◌≡◌ {A = ℕ} 0 1 = cc in omega arith

module _ (strict : Bool) (s : List ℕ) (at : ℕ) (r : Readings) (last : ℕ) (more : at < length s) where
  abbrev left : List ℕ
  left = drop at s

  some : 0 < length left
  some = omega (arith, length-drop at s)

  -- a field that is whole, by its order
  abbrev ordered : Field → Outcome Readings
  ordered f = order_rows strict r last f then accepted (noted r f)

  refuses : {n : ℕ} {vs : List Float} → (field_of left ⟫ ordered) ≡ refused n vs → read strict r last left ≡ refused n vs
  refuses e =
      read_step strict r last left some
      ∙ then_to (field_rows strict r last left) (λ none g. absurd (never g))
      (then_append (head_rows left) (order_rows strict r last (field left)) (accepted (noted r (field left))) ∙ sym (then_next (head_rows left) (accepted (field left)) ordered) ∙ e)

  -- a field that is not whole
  pub field-refuses : {n : ℕ} {vs : List Float} → field_of left ≡ refused n vs → read strict r last left ≡ refused n vs
  field-refuses e = refuses (ap (λ (o : Outcome Field). o ⟫ ordered) e)

  -- a field that is
  module _ {f : Field} (e : field_of left ≡ accepted f) where
    known : NoneHolds (head_rows left) × (field left ≡ f)
    known = (exactly (field left) (head_rows left)).accepted_because e

    pub whole : size_of left ≤ length left
    whole = head-whole left known.0

    pub in_place : f.meaning < meanings
    in_place = subst (λ (g : Field). g.meaning < meanings) known.1 (head-meaning left known.0)

    module _ (k : (Result (Unit {0}) Refusal)) (g : outcome k ≡ passed (order_rows strict r last f)) where
      pub order-refuses : {n : ℕ} {vs : List Float} → outcome k ≡ refused n vs → read strict r last left ≡ refused n vs
      order-refuses h =
          refuses
          (ap (λ (o : Outcome Field). o ⟫ ordered) e
          ∙ sym (after_check (order_rows strict r last f) (accepted (noted r f)) {k = k} refl g)
          ∙ ap (λ (o : Outcome (Unit {0})). o ⟫ (λ _. accepted (noted r f))) h)

      pub moves_on : outcome k ≡ accepted tt → (next : ℕ) → next ≡ next_at s at → read strict r last left ≡ read strict (noted r f) f.tag (drop next s)
      unfolding field
      moves_on h next to =
          subst (λ (p : Field). NoneHolds (order_rows strict r last p) → read strict r last left ≡ read strict (noted r p) p.tag (drop next s)) known.1 on
          (then-accepted (order_rows strict r last f) (sym g ∙ h)).0
        where
          on : NoneHolds (order_rows strict r last (field left)) → read strict r last left ≡ read strict (noted r (field left)) (field left).tag (drop next s)
          on none =
              read_step strict r last left some
              ∙ then-none (field_rows strict r last left) (none_both (head_rows left) (order_rows strict r last (field left)) known.0 none)
              ∙ ap (read strict (noted r (field left)) (tag_of left)) (after_is s at next to whole)
