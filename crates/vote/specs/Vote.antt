-- The vote of three masts, document 02: the first mast whose record is not accepted by itself gives its refusal and its number; then a field that is not in
-- all three records is refused; then the voted readings are judged. Definitions only.
use Rattle.std.specs.Prelude.{ℕ, false, List, Err, Ok, Result}
use Rattle.refusal.specs.Outcomes.{Outcome, accepted, refused, refusal, ◌then◌, ◌⟫◌}
use Rattle.record.specs.declared.entries.Readings.{Readings}
use Rattle.record.specs.Readings.{read_record}
use Rattle.refusal.specs.declared.judge.Figures.{Figures}
use Rattle.mast.specs.Judge.{judged}
use Rattle.vote.specs.declared.answer.VoteRefusal.{VoteRefusal}
use Rattle.vote.specs.declared.answer.VoteRefusal.TheVariants.{Mast, Together}
use Rattle.vote.specs.Fields.{shared_rows, voted}

-- ---- an outcome with the mast whose record is refused, 1 to 3, and 0 where there is none
pub record VoteOutcome : Type 0 where
  pub mast : ℕ
  pub outcome : Outcome Figures

abbrev pub by_mast : ℕ → Outcome Figures → VoteOutcome
by_mast n o = record { mast = n; outcome = o }

abbrev pub by_no_mast : Outcome Figures → VoteOutcome
by_no_mast o = by_mast 0 o

-- what each case of the code's answer stands for
abbrev pub vote_outcome : Result Figures VoteRefusal → VoteOutcome
vote_outcome (Ok f) = by_no_mast (accepted f)
vote_outcome (Err (Mast n c)) = by_mast n (refusal c)
vote_outcome (Err (Together c)) = by_no_mast (refusal c)

-- ---- the vote
-- the readings of a record that the judge accepts
unfoldable pub accepted_readings : List ℕ → Outcome Readings
accepted_readings s = read_record false s ⟫ (λ r. judged r ⟫ (λ _. accepted r))

-- what comes after the n-th mast: its refusal is the last word
abbrev pub after_mast : {A : Type 0} → ℕ → Outcome A → (A → VoteOutcome) → VoteOutcome
after_mast n (accepted x) next = next x
after_mast n (refused number values) next = by_mast n (refused number values)

-- the readings that the three records share are judged as any record's are
unfoldable pub voted_outcome : Readings → Readings → Readings → Outcome Figures
voted_outcome a b c = shared_rows a b c then judged (voted a b c)

unfoldable pub vote : List ℕ → List ℕ → List ℕ → VoteOutcome
vote a b c =
    after_mast 1 (accepted_readings a) (λ r.
    after_mast 2 (accepted_readings b) (λ q.
    after_mast 3 (accepted_readings c) (λ p.
    by_no_mast (voted_outcome r q p))))
