-- What is known of the readings of accepted records: each value is a double that is not NaN. So the vote on them is the same in every order. Assumes nothing.
use Rattle.vote.proofs.Kit.{◌≡◌, refl, sym, ap, ap₂, Float, ◌∙◌, Bool, true, false, not, ◌&&◌, ◌||◌, cond, false≢true, List, [], ℕ, zero, suc, ◌≤◌, ◌<◌, arith, Outcome, accepted, refused, ◌⟫◌, Option, None, Some, Readings, meanings, read_record, entry_of, with_entry, is_some, Figures, judged, judge, is_not_in_all, not_in_all_of, with_middle, voted_of, voted, accepted_readings, voted_outcome, middle_entry, SameFields}
use Rattle.record.proofs.ByMeaning.{reads-doubles}
use Rattle.mast.proofs.Stated.{FiniteEntry}
use Rattle.mast.proofs.Entries.{judged-by_entries, accepted-is_finite}
use Rattle.arithmetic.proofs.NotANumber.{is_number}
use Rattle.arithmetic.proofs.OfThree.{middle_in_every-order, two_equal}
use Rattle.vote.proofs.ByMeaning.{voted-by-meaning}
use Rattle.arithmetic.proofs.ThreeInOrder.{IsNumber}

-- ---- an accepted record
pub after : {A B : Type 0} (o : Outcome A) (next : A → Outcome B) {y : B} → (o ⟫ next) ≡ accepted y → (x : A) × (o ≡ accepted x) × (next x ≡ accepted y)
after (accepted x) next e = (x, refl, e)
after (refused n vs) next e = let z : ◌≡◌ {A = ℕ} 0 1 = cc in absurd (omega arith)

pub record Accepted (s : List ℕ) (r : Readings) : Type 0 where
  pub read : read_record false s ≡ accepted r
  pub figures : Figures
  pub judged-so : judged r ≡ accepted figures

pub is_accepted_lem : (s : List ℕ) (r : Readings) → accepted_readings s ≡ accepted r → Accepted s r
unfolding accepted_readings
is_accepted_lem s r e =
    let one = after (read_record false s) (λ q. judged q ⟫ (λ _. accepted q)) e in
    let two = after (judged one.0) (λ _. accepted one.0) one.2 in
    let same : one.0 ≡ r = cc in
    record { read = one.1 ∙ ap accepted same; figures = two.0; judged-so = ap judged (sym same) ∙ two.1 }

-- a mast's record is accepted and refused as the judge does it
pub by-the-judge : (s : List ℕ) → judge s ≡ (accepted_readings s ⟫ judged)
unfolding judge accepted_readings
by-the-judge s = go (read_record false s)
  where
    further : (r : Readings) (o : Outcome Figures) → judged r ≡ o → o ≡ ((o ⟫ (λ _. accepted r)) ⟫ judged)
    further r (accepted f) e = sym e
    further r (refused n vs) e = refl

    go : (o : Outcome Readings) → (o ⟫ judged) ≡ ((o ⟫ (λ r. judged r ⟫ (λ _. accepted r))) ⟫ judged)
    go (accepted r) = further r (judged r) refl
    go (refused n vs) = refl

-- ---- its values
abbrev Number : Option Float → Type 0
Number None = Unit {0}
Number (Some x) = IsNumber x

abbrev pub Numbers : Readings → Type 0
Numbers r = (m : ℕ) → m < meanings → Number (entry_of r m)

pub numbers : (s : List ℕ) (r : Readings) → accepted_readings s ≡ accepted r → Numbers r
numbers s r e m h = let a = is_accepted_lem s r e in go a.read (entry_of r m) refl (accepted-is_finite r a.figures a.judged-so m h)
  where
    go : read_record false s ≡ accepted r → (e : Option Float) → entry_of r m ≡ e → FiniteEntry e → Number e
    go read None told f = tt
    go read (Some x) told f = record { double = reads-doubles s r read m x told; number = is_number x f }

-- ---- a field's vote, with the first two or the last two exchanged
exchanged-first : (r : Readings) (m : ℕ) (e f g : Option Float) → Number e → Number f → Number g → with_middle r m f e g ≡ with_middle r m e f g
exchanged-first r m (Some x) (Some y) (Some z) p q s = ap (with_entry r m) (middle_in_every-order x y z p q s).first_two
exchanged-first r m (Some x) (Some y) None p q s = refl
exchanged-first r m (Some x) None g p q s = refl
exchanged-first r m None (Some y) g p q s = refl
exchanged-first r m None None g p q s = refl

exchanged-last : (r : Readings) (m : ℕ) (e f g : Option Float) → Number e → Number f → Number g → with_middle r m e g f ≡ with_middle r m e f g
exchanged-last r m (Some x) (Some y) (Some z) p q s = ap (with_entry r m) (middle_in_every-order x y z p q s).last-two
exchanged-last r m (Some x) (Some y) None p q s = refl
exchanged-last r m (Some x) None (Some z) p q s = refl
exchanged-last r m (Some x) None None p q s = refl
exchanged-last r m None f g p q s = refl

some_first : (e f g : Option Float) → is_not_in_all f e g ≡ is_not_in_all e f g
some_first e f g = go (is_some e) (is_some f) (is_some g)
  where
    go : (p q s : Bool) → ((q || p || s) && not (q && p && s)) ≡ ((p || q || s) && not (p && q && s))
    go true true s = refl
    go true false s = refl
    go false true s = refl
    go false false s = refl

some-last : (e f g : Option Float) → is_not_in_all e g f ≡ is_not_in_all e f g
some-last e f g = go (is_some e) (is_some f) (is_some g)
  where
    go : (p q s : Bool) → ((p || s || q) && not (p && s && q)) ≡ ((p || q || s) && not (p && q && s))
    go true true true = refl
    go true true false = refl
    go true false true = refl
    go true false false = refl
    go false true true = refl
    go false true false = refl
    go false false true = refl
    go false false false = refl

-- ---- the vote on all fields, where each field's is the same
module _ (a b c a' b' c' : Readings) where
  record SameVote (m : ℕ) : Type 0 where
    takes : (r : Readings) → with_middle r m (entry_of a' m) (entry_of b' m) (entry_of c' m) ≡ with_middle r m (entry_of a m) (entry_of b m) (entry_of c m)
    misses : is_not_in_all (entry_of a' m) (entry_of b' m) (entry_of c' m) ≡ is_not_in_all (entry_of a m) (entry_of b m) (entry_of c m)

  module _ (same : (m : ℕ) → m < meanings → SameVote m) where
    same-voted : (n : ℕ) → n ≤ meanings → voted_of n a' b' c' ≡ voted_of n a b c
    unfolding voted_of
    same-voted zero h = refl
    same-voted (suc n) h = (same n h).takes (voted_of n a' b' c') ∙ ap (λ (r : Readings). with_middle r n (entry_of a n) (entry_of b n) (entry_of c n)) (same-voted n (omega arith))

    same-missing : (n : ℕ) → n ≤ meanings → not_in_all_of n a' b' c' ≡ not_in_all_of n a b c
    unfolding not_in_all_of
    same-missing zero h = refl
    same-missing (suc n) h = ap₂ (λ (p q : Bool). p || q) (same-missing n (omega arith)) (same n h).misses

    same_outcome : voted_outcome a' b' c' ≡ voted_outcome a b c
    unfolding voted_outcome
    same_outcome = ap₂ (λ (t : Bool) (r : Readings). cond t (refused 21 []) (judged r)) (same-missing meanings (omega arith)) (same-voted meanings (omega arith))

pub exchange-first : (a b c : Readings) → Numbers a → Numbers b → Numbers c → voted_outcome b a c ≡ voted_outcome a b c
exchange-first a b c p q r =
    same_outcome a b c b a c (λ m h. record { takes = λ v. exchanged-first v m (entry_of a m) (entry_of b m) (entry_of c m) (p m h) (q m h) (r m h); misses = some_first (entry_of a m) (entry_of b m) (entry_of c m) })

pub exchange-last : (a b c : Readings) → Numbers a → Numbers b → Numbers c → voted_outcome a c b ≡ voted_outcome a b c
exchange-last a b c p q r =
    same_outcome a b c a c b (λ m h. record { takes = λ v. exchanged-last v m (entry_of a m) (entry_of b m) (entry_of c m) (p m h) (q m h) (r m h); misses = some-last (entry_of a m) (entry_of b m) (entry_of c m) })

-- ---- two equal readings outvote a third with the same fields
the-two : (e f : Option Float) → is_some e ≡ is_some f → middle_entry e e f ≡ e
the-two (Some x) (Some z) h = ap Some (two_equal x z)
the-two (Some x) None h = absurd (false≢true (sym h))
the-two None f h = refl

pub two_equal_values : (r q : Readings) → SameFields r q → (m : ℕ) → m < meanings → entry_of (voted r r q) m ≡ entry_of r m
two_equal_values r q same m h = voted-by-meaning r r q m h ∙ the-two (entry_of r m) (entry_of q m) (same m h)

none-missing : (r q : Readings) → SameFields r q → (n : ℕ) → n ≤ meanings → not_in_all_of n r r q ≡ false
unfolding not_in_all_of
none-missing r q same zero h = refl
none-missing r q same (suc n) h =
    ap₂ (λ (s t : Bool). s || t) (none-missing r q same n (omega arith))
    (ap (λ (t : Bool). (is_some (entry_of r n) || is_some (entry_of r n) || t) && not (is_some (entry_of r n) && is_some (entry_of r n) && t)) (sym (same n h)) ∙ go (is_some (entry_of r n)))
  where
    go : (p : Bool) → ((p || p || p) && not (p && p && p)) ≡ false
    go true = refl
    go false = refl

pub outvoted : (r q : Readings) → SameFields r q → voted_outcome r r q ≡ judged r
unfolding voted_outcome
outvoted r q same =
    ap (λ (t : Bool). cond t (refused 21 []) (judged (voted r r q))) (none-missing r q same meanings (omega arith))
    ∙ judged-by_entries (voted r r q) r (two_equal_values r q same)
