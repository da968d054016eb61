-- Document 02's strict judge beside the first, "otherwise both judge a record alike, clashes and values included", and beside the writer; and records before and after a conversion. The page of promises says it in full. Assumes nothing.
use Rattle.record_laws.proofs.Kit.{ℕ, ◌≡◌, List, [], ◌⊎◌, accepted, refused, judge, judge_strictly, Figures}
use Rattle.writer.specs.Laws.{AreBytes}
use Rattle.record.specs.Readings.{readings}
use Rattle.fields.specs.Tags.{tags, Rising}
use Rattle.writer.specs.Records.{record_of}

-- a record whose tags rise has the same outcome, refusals and their values included
abbrev pub SameWhereRising : Type 0
SameWhereRising = (s : List ℕ) → Rising (tags s) → judge_strictly s ≡ judge s

-- any record has the same outcome, or is refused by 19
abbrev pub SameOrFalling : Type 0
SameOrFalling = (s : List ℕ) → (judge_strictly s ≡ judge s) ⊎ (judge_strictly s ≡ refused 19 [])

-- what is accepted are the records that the first judge accepts, with the same figures, and whose tags rise
pub record AcceptedWhereRising (s : List ℕ) (f : Figures) : Type 0 where
  pub only : judge_strictly s ≡ accepted f → (judge s ≡ accepted f) × Rising (tags s)
  pub all : judge s ≡ accepted f → Rising (tags s) → judge_strictly s ≡ accepted f

-- "every record that the strict reader accepts is byte for byte what the writer makes of its fields"
abbrev pub WrittenAgain : Type 0
WrittenAgain = (s : List ℕ) (f : Figures) → AreBytes s → judge_strictly s ≡ accepted f → s ≡ record_of (readings s)

pub record Strict : Type 0 where
  pub same_where_rising : SameWhereRising
  pub same_or_falling : SameOrFalling
  pub accepted_where_rising : (s : List ℕ) (f : Figures) → AcceptedWhereRising s f
  pub written-again : WrittenAgain
