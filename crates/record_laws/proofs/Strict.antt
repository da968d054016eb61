-- The strict judge beside the first, by the two readers, and beside the writer. Assumes nothing.
use Rattle.record_laws.proofs.Kit.{◌≡◌, refl, sym, ap, ◌∙◌, Bool, true, List, inl, inr, ⊎_elim, ℕ, arith, Outcome, accepted, refused, ◌⟫◌, exactly, Readings, Figures, judged, judge_by, judge, judge_strictly}
use Rattle.record.specs.Readings.{read_rows, readings, read_record}
use Rattle.fields.specs.Tags.{tags, Rising}
use Rattle.record.proofs.Walk.{all_slots}
use Rattle.record.proofs.Strict as reader
use Rattle.writer.proofs.WrittenAgain as writer
use Rattle.record_laws.proofs.Stated.{SameWhereRising, SameOrFalling, AcceptedWhereRising, WrittenAgain, Strict}
use Rattle.record_laws.proofs.Numbers.{no_nan}

same_where_rising : SameWhereRising
unfolding judge judge_strictly
same_where_rising s h = ap (λ (o : Outcome Readings). o ⟫ judged) (reader.same_where_rising s h)

same_or_falling : SameOrFalling
unfolding judge judge_strictly
same_or_falling s =
    ⊎_elim (λ e. inl (ap (λ (o : Outcome Readings). o ⟫ judged) e)) (λ e. inr (ap (λ (o : Outcome Readings). o ⟫ judged) e)) (reader.same_or_falling s)

-- ---- a record with figures is read
pub record ReadOf (o : Outcome Readings) (f : Figures) : Type 0 where
  pub readings : Readings
  pub taken : o ≡ accepted readings
  pub gives : judged readings ≡ accepted f

pub read_of : (o : Outcome Readings) {f : Figures} → (o ⟫ judged) ≡ accepted f → ReadOf o f
read_of (accepted r) e = record { readings = r; taken = refl; gives = e }
read_of (refused n vs) e = let z : ◌≡◌ {A = ℕ} 0 1 = cc in absurd (omega arith)

-- and its figures are those of its readings, to either judge
pub of-readings : (strict : Bool) (s : List ℕ) (f : Figures) → judge_by strict s ≡ accepted f → judged (readings s) ≡ accepted f
of-readings strict s f e = let read = read_of (read_record strict s) e in ap judged ((exactly (readings s) (read_rows strict s)).accepted_because read.taken).1 ∙ read.gives

rising : (s : List ℕ) {f : Figures} → judge_strictly s ≡ accepted f → Rising (tags s)
unfolding judge_strictly
rising s e = reader.accepted-rising s (read_of (read_record true s) e).taken

accepted_where_rising : (s : List ℕ) (f : Figures) → AcceptedWhereRising s f
accepted_where_rising s f = record {
  only = λ e. let up = rising s e in (sym (same_where_rising s up) ∙ e, up);
  all = λ e up. same_where_rising s up ∙ e;
}

-- ---- and the writer
written-again : WrittenAgain
unfolding judge_strictly
written-again s f all e =
    let read = read_of (read_record true s) e in
    let same : readings s ≡ read.readings = ((exactly (readings s) (read_rows true s)).accepted_because read.taken).1 in
    writer.written-again s (readings s) all (no_nan (readings s) f (all_slots s) (of-readings true s f e)) (read.taken ∙ ap accepted (sym same))

pub strict : Strict
strict = record { same_where_rising = same_where_rising; same_or_falling = same_or_falling; accepted_where_rising = accepted_where_rising; written-again = written-again }
