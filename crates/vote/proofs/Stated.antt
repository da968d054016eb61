-- What is proved of the vote of three masts beyond its contracts, as types. The page of promises says it in full. Assumes nothing.
use Rattle.vote.proofs.Kit.{ℕ, ◌≤◌, ◌<◌, ◌≡◌, false, List, [], ◌++◌, Float, accepted, refused, Row, Readings, meanings, Figures, readings, resolved, reading_rows, record_rows, judge, shared_rows, voted, by_mast, by_no_mast, vote, Accepts, in_how_many}
use Rattle.refusal.specs.Causes.{ExactlyCaused}
use Rattle.station.specs.Figures.{figures_of}

-- ---- "exchanging the masts changes no accepted figures": a vote that is accepted is accepted in every order, with the same figures
abbrev pub Votes : List ℕ → List ℕ → List ℕ → Figures → Type 0
Votes a b c f = vote a b c ≡ by_no_mast (accepted f)

pub record FirstRefused (a b c : List ℕ) (number : ℕ) (values : List Float) : Type 0 where
  pub mast_1 : judge a ≡ refused number values → vote a b c ≡ by_mast 1 (refused number values)
  pub mast_2 : Accepts a → judge b ≡ refused number values → vote a b c ≡ by_mast 2 (refused number values)
  pub mast_3 : Accepts a → Accepts b → judge c ≡ refused number values → vote a b c ≡ by_mast 3 (refused number values)

-- and a mast is named only so
pub record NamedBecause (a b c : List ℕ) (number : ℕ) (values : List Float) : Type 0 where
  pub mast_1 : vote a b c ≡ by_mast 1 (refused number values) → judge a ≡ refused number values
  pub mast_2 : vote a b c ≡ by_mast 2 (refused number values) → Accepts a × (judge b ≡ refused number values)
  pub mast_3 : vote a b c ≡ by_mast 3 (refused number values) → Accepts a × (Accepts b × (judge c ≡ refused number values))

-- ---- each number has exactly its cause: those of the three records, one after the other, then 21, then those of the voted readings
abbrev pub voted_readings : List ℕ → List ℕ → List ℕ → Readings
voted_readings a b c = voted (readings a) (readings b) (readings c)

abbrev pub vote_rows : List ℕ → List ℕ → List ℕ → List Row
vote_rows a b c =
    record_rows false a ++ (record_rows false b ++ (record_rows false c ++ (shared_rows (readings a) (readings b) (readings c) ++ reading_rows (voted_readings a b c))))

abbrev pub Caused : List ℕ → List ℕ → List ℕ → Type 0
Caused a b c = ExactlyCaused (vote_rows a b c) (figures_of (resolved (voted_readings a b c))) (vote a b c).outcome

abbrev pub InOneOrTwo : List ℕ → List ℕ → List ℕ → Type 0
InOneOrTwo a b c = (m : ℕ) × ((m < meanings) × ((1 ≤ in_how_many a b c m) × (in_how_many a b c m ≤ 2)))

pub record FieldMissing (a b c : List ℕ) : Type 0 where
  pub refused_because : (values : List Float) → (vote a b c).outcome ≡ refused 21 values → (Accepts a × (Accepts b × Accepts c)) × InOneOrTwo a b c
  pub refused_where : Accepts a → Accepts b → Accepts c → InOneOrTwo a b c → vote a b c ≡ by_no_mast (refused 21 [])

pub record VotesInEveryOrder (a b c : List ℕ) (f : Figures) : Type 0 where
  pub acb : Votes a c b f
  pub bac : Votes b a c f
  pub bca : Votes b c a f
  pub cab : Votes c a b f
  pub cba : Votes c b a f

pub record Outvoted (s t : List ℕ) (f : Figures) : Type 0 where
  pub first : Votes t s s f
  pub second : Votes s t s f
  pub third : Votes s s t f
