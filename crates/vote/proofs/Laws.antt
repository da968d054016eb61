-- The laws of a vote: the first mast that is refused is named, the masts may change places, three equal records vote as the one, and two equal ones outvote the third. Assumes nothing.
use Rattle.vote.proofs.Kit.{◌≡◌, refl, sym, ap, ◌∙◌, List, ℕ, arith, Float, Outcome, accepted, refused, ◌⟫◌, Readings, Figures, judged, judge, VoteOutcome, by_no_mast, accepted_readings, after_mast, vote, voted_outcome, Accepts, SameFields}
use Rattle.vote.proofs.Stated.{Votes, FirstRefused, VotesInEveryOrder, Outvoted}
use Rattle.vote.proofs.Readings.{after, is_accepted_lem, by-the-judge, numbers, exchange-first, exchange-last, outvoted}

-- ---- an accepted vote: three accepted records, and what their readings give together
record Voted (a b c : List ℕ) (f : Figures) : Type 0 where
  first : Readings
  second : Readings
  third : Readings
  of-first : accepted_readings a ≡ accepted first
  of-second : accepted_readings b ≡ accepted second
  of-third : accepted_readings c ≡ accepted third
  together : voted_outcome first second third ≡ accepted f

after_mast_lem : {A : Type 0} (n : ℕ) (o : Outcome A) (next : A → VoteOutcome) {f : Figures} → after_mast n o next ≡ by_no_mast (accepted f) → (x : A) × (o ≡ accepted x) × (next x ≡ by_no_mast (accepted f))
after_mast_lem n (accepted x) next e = (x, refl, e)
after_mast_lem n (refused k vs) next {f} e =
    let same : refused k vs ≡ accepted f = ap (λ (v : VoteOutcome). v.outcome) e in
    let z : ◌≡◌ {A = ℕ} 0 1 = cc in
    absurd (omega arith)

taken-apart : (a b c : List ℕ) (f : Figures) → Votes a b c f → Voted a b c f
unfolding vote
taken-apart a b c f e =
    let one = after_mast_lem 1 (accepted_readings a) (λ r. after_mast 2 (accepted_readings b) (λ q. after_mast 3 (accepted_readings c) (λ p. by_no_mast (voted_outcome r q p)))) e in
    let two = after_mast_lem 2 (accepted_readings b) (λ q. after_mast 3 (accepted_readings c) (λ p. by_no_mast (voted_outcome one.0 q p))) one.2 in
    let three = after_mast_lem 3 (accepted_readings c) (λ p. by_no_mast (voted_outcome one.0 two.0 p)) two.2 in
    record { first = one.0; second = two.0; third = three.0; of-first = one.1; of-second = two.1; of-third = three.1; together = ap (λ (v : VoteOutcome). v.outcome) three.2 }

put_together : (a b c : List ℕ) (f : Figures) {p q r : Readings} → accepted_readings a ≡ accepted p → accepted_readings b ≡ accepted q → accepted_readings c ≡ accepted r
    → voted_outcome p q r ≡ accepted f → Votes a b c f
unfolding vote
put_together a b c f of-first of-second of-third together = rw (of-first, of-second, of-third) (ap by_no_mast together)

-- ---- the masts one after the other
refused-so : (s : List ℕ) {n : ℕ} {vs : List Float} → judge s ≡ refused n vs → accepted_readings s ≡ refused n vs
refused-so s {n} {vs} e = go (accepted_readings s) refl (sym (by-the-judge s) ∙ e)
  where
    go : (o : Outcome Readings) → accepted_readings s ≡ o → (o ⟫ judged) ≡ refused n vs → o ≡ refused n vs
    go (refused k ws) told h = let p : k ≡ n = cc in let q : ws ≡ vs = cc in cc
    go (accepted r) told h = let z : ◌≡◌ {A = ℕ} 0 1 = cc (is_accepted_lem s r told).judged-so in absurd (omega arith)

readings_of_lem : (s : List ℕ) → Accepts s → (r : Readings) × (accepted_readings s ≡ accepted r)
readings_of_lem s (f, e) = let a = after (accepted_readings s) judged (sym (by-the-judge s) ∙ e) in (a.0, a.1)

pub masts_in_order : (a b c : List ℕ) (number : ℕ) (values : List Float) → FirstRefused a b c number values
unfolding vote
masts_in_order a b c n vs =
    record {
      mast_1 = λ e. rw (refused-so a e);
      mast_2 = λ p e. rw ((readings_of_lem a p).1, refused-so b e);
      mast_3 = λ p q e. rw ((readings_of_lem a p).1, (readings_of_lem b q).1, refused-so c e);
    }

-- ---- the masts change places
exchanged-first : (a b c : List ℕ) (f : Figures) → Votes a b c f → Votes b a c f
exchanged-first a b c f e =
    let v = taken-apart a b c f e in
    put_together b a c f v.of-second v.of-first v.of-third
    (exchange-first v.first v.second v.third (numbers a v.first v.of-first) (numbers b v.second v.of-second) (numbers c v.third v.of-third) ∙ v.together)

exchanged-last : (a b c : List ℕ) (f : Figures) → Votes a b c f → Votes a c b f
exchanged-last a b c f e =
    let v = taken-apart a b c f e in
    put_together a c b f v.of-first v.of-third v.of-second
    (exchange-last v.first v.second v.third (numbers a v.first v.of-first) (numbers b v.second v.of-second) (numbers c v.third v.of-third) ∙ v.together)

pub exchange-of_masts : (a b c : List ℕ) (f : Figures) → Votes a b c f → VotesInEveryOrder a b c f
exchange-of_masts a b c f e =
    let acb = exchanged-last a b c f e in
    let bac = exchanged-first a b c f e in
    let bca = exchanged-last b a c f bac in
    let cab = exchanged-first a c b f acb in
    record { acb = acb; bac = bac; bca = bca; cab = cab; cba = exchanged-first b c a f bca }

-- ---- two equal records
pub two_equal : (s t : List ℕ) (r q : Readings) (f : Figures) → accepted_readings s ≡ accepted r → accepted_readings t ≡ accepted q → SameFields r q
    → judge s ≡ accepted f → Outvoted s t f
two_equal s t r q f one other same e =
    let figures : judged r ≡ accepted f = sym (ap (λ (o : Outcome Readings). o ⟫ judged) one) ∙ sym (by-the-judge s) ∙ e in
    let third = put_together s s t f one one other (outvoted r q same ∙ figures) in
    let second = exchanged-last s s t f third in
    record { first = exchanged-first s t s f second; second = second; third = third }

-- ---- three equal records vote as the one
pub three_equal : (s : List ℕ) → vote s s s ≡ after_mast 1 (judge s) (λ f. by_no_mast (accepted f))
unfolding vote
three_equal s = rw by-the-judge (go (accepted_readings s) refl)
  where
    go : (o : Outcome Readings) → accepted_readings s ≡ o
        → after_mast 1 o (λ r. after_mast 2 o (λ q. after_mast 3 o (λ p. by_no_mast (voted_outcome r q p)))) ≡ after_mast 1 (o ⟫ judged) (λ f. by_no_mast (accepted f))
    go (refused n vs) e = refl
    go (accepted r) e =
        let figures = (is_accepted_lem s r e).judged-so in
        ap by_no_mast (outvoted r r (λ m h. refl) ∙ figures) ∙ sym (ap (λ (o : Outcome Figures). after_mast 1 o (λ f. by_no_mast (accepted f))) figures)
