-- The field of the tag, and those after it.
use Rattle.writer.proofs.Kit.{◌≡◌, refl, sym, ap, ◌∙◌, Option, Value, List, ◌++◌, ℕ, ◌+◌, arith, length, length-append, sets, meanings, stored_of, stored_field, fields_from}
use Rattle.writer.proofs.Bytes.{sets_append}
use Rattle.writer.proofs.Fields.{rest, all-fields, next_field, no_field}
use Rattle.writer.proofs.put_fields.Goals.{After-stored_of}
use Rattle.writer.proofs.put_fields.Goals as goal

pub loop-tag-init : goal.loop-tag-init
loop-tag-init c =
    let all = all-fields c.args.first c.args.readings in
    record { room = refl; position = ap (λ (f : List ℕ). c.args.start + length f) all; left = ap (sets c.args.out.now c.args.start) all }

split : (c : After-stored_of) → rest (c.args.first + meanings) c.loop-tag.tag c.args.readings ≡ stored_field c.loop-tag.tag c.stored_of.result ++ rest (c.args.first + meanings) (c.loop-tag.tag + 1) c.args.readings
split c =
    let r = c.args.readings in
    let end = c.args.first + meanings in
    let tag = c.loop-tag.tag in
    next_field end tag r c.loop-tag-test.true
    ∙ ap (λ (e : Option Value). stored_field tag e ++ rest end (tag + 1) r) (sym (c.stored_of.ensures ∙ ap (stored_of r) c.meaning_of.ensures))

room : (c : After-stored_of) → c.loop-tag.at + length (stored_field c.loop-tag.tag c.stored_of.result) + length (rest (c.args.first + meanings) (c.loop-tag.tag + 1) c.args.readings)
    ≡ c.args.start + length (fields_from meanings c.args.first c.args.readings)
room c =
    omega (arith, c.loop-tag.invariant.position, ap length (split c), length-append (stored_field c.loop-tag.tag c.stored_of.result) (rest (c.args.first + meanings) (c.loop-tag.tag + 1) c.args.readings))

pub put_stored-at-requires : goal.put_stored-at-requires
put_stored-at-requires c = omega (arith, c.requires, c.loop-tag.invariant.room, room c)

pub loop-tag-preserved : goal.loop-tag-preserved
loop-tag-preserved c =
    let looked = (goal.at.loop-tag-preserved c).After-stored_of in
    let now = c.loop-tag in
    let e = stored_field now.tag c.stored_of.result in
    let after = c.put_stored-at.new.out in
    let left = rest (c.args.first + meanings) (now.tag + 1) c.args.readings in
    record {
      room = c.put_stored-at.auto.out ∙ now.invariant.room;
      position = omega (arith, room looked, c.put_stored-at.ensures.value);
      left =
          ap (λ (i : ℕ). sets after i left) c.put_stored-at.ensures.value
          ∙ ap (λ (l : List ℕ). sets l (now.at + length e) left) c.put_stored-at.ensures.out_after
          ∙ sym (sets_append now.out now.at e left)
          ∙ ap (sets now.out now.at) (sym (split looked))
          ∙ now.invariant.left;
    }

pub returns-clause-value : goal.returns-clause-value
returns-clause-value c = omega (arith, c.loop-tag.invariant.position, ap length (no_field (c.args.first + meanings) c.loop-tag.tag c.args.readings c.loop-tag-test.false))

pub returns-clause-out_after : goal.returns-clause-out_after
returns-clause-out_after c =
    sym (ap (sets c.loop-tag.out c.loop-tag.at) (no_field (c.args.first + meanings) c.loop-tag.tag c.args.readings c.loop-tag-test.false)) ∙ c.loop-tag.invariant.left
