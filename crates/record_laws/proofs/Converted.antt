-- A record and what it converts to are judged alike: the reader gives them the same entries. Assumes nothing.
use Rattle.record_laws.proofs.Kit.{sym, ap, ◌∙◌, Outcome, ◌⟫◌, Readings, judged, judge, judged-by_entries, ℕ, ◌≡◌, Bool, List, accepted}
use Rattle.writer.proofs.ReadAlike.{same_entries}
use Rattle.writer.specs.Laws.{AreBytes}
use Rattle.writer.specs.Conversion.{converted}

-- to counts or to doubles, values that a refusal hands out included
pub judged-alike : (counts : Bool) (s t : List ℕ) → AreBytes s → converted counts s ≡ accepted t → judge t ≡ judge s
unfolding judge
judged-alike counts s t all e =
    let alike = same_entries counts s t all e in
    ap (λ (o : Outcome Readings). o ⟫ judged) alike.reads-after
    ∙ sym (judged-by_entries alike.before alike.after (λ m less. alike.same m))
    ∙ sym (ap (λ (o : Outcome Readings). o ⟫ judged) alike.reads_before)
