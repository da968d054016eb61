-- The voted readings by meaning: each meaning that is in all three has the middle, and no other is there. Assumes nothing.
use Rattle.vote.proofs.Kit.{◌≡◌, refl, sym, subst, Float, ◌∙◌, ◌≢◌, ◌⊎◌, inl, inr, ℕ, zero, suc, ◌≤◌, ◌<◌, eq-or-lt_of_le, le_of_suc-le-suc, arith, Option, None, Some, Readings, meanings, entry_of, middle, with_middle, voted_of, middle_entry, voted}
use Rattle.record.proofs.ByMeaning.{Whole, none-whole, with_whole, none-there, entry_set, entry-left}

-- ---- one meaning more
with_middle-whole : (r : Readings) (m : ℕ) (e f g : Option Float) → Whole r → Whole (with_middle r m e f g)
with_middle-whole r m (Some x) (Some y) (Some z) h = with_whole r m (middle x y z) h
with_middle-whole r m (Some x) (Some y) None h = h
with_middle-whole r m (Some x) None g h = h
with_middle-whole r m None f g h = h

here : (r : Readings) (m : ℕ) (e f g : Option Float) → Whole r → m < meanings → entry_of r m ≡ None → entry_of (with_middle r m e f g) m ≡ middle_entry e f g
here r m (Some x) (Some y) (Some z) h l none = entry_set r m (middle x y z) h l
here r m (Some x) (Some y) None h l none = none
here r m (Some x) None g h l none = none
here r m None f g h l none = none

elsewhere : (r : Readings) (m n : ℕ) (e f g : Option Float) → n ≢ m → entry_of (with_middle r m e f g) n ≡ entry_of r n
elsewhere r m n (Some x) (Some y) (Some z) other = entry-left r m n (middle x y z) other
elsewhere r m n (Some x) (Some y) None other = refl
elsewhere r m n (Some x) None g other = refl
elsewhere r m n None f g other = refl

-- ---- the first n meanings
module _ (a b c : Readings) where
  voted-whole : (n : ℕ) → Whole (voted_of n a b c)
  unfolding voted_of
  voted-whole zero = none-whole
  voted-whole (suc n) = with_middle-whole (voted_of n a b c) n (entry_of a n) (entry_of b n) (entry_of c n) (voted-whole n)

  not_yet : (n m : ℕ) → n ≤ m → entry_of (voted_of n a b c) m ≡ None
  unfolding voted_of
  not_yet zero m h = none-there m
  not_yet (suc n) m h = elsewhere (voted_of n a b c) n m (entry_of a n) (entry_of b n) (entry_of c n) (λ e. omega arith) ∙ not_yet n m (omega arith)

  done : (n m : ℕ) → m < n → n ≤ meanings → entry_of (voted_of n a b c) m ≡ middle_entry (entry_of a m) (entry_of b m) (entry_of c m)
  unfolding voted_of
  done zero m h k = absurd (omega arith)
  done (suc n) m h k = go (eq-or-lt_of_le (le_of_suc-le-suc h)) (λ l. done n m l (omega arith))
    where
      go : (m ≡ n) ⊎ (m < n) → (m < n → entry_of (voted_of n a b c) m ≡ middle_entry (entry_of a m) (entry_of b m) (entry_of c m))
          → entry_of (with_middle (voted_of n a b c) n (entry_of a n) (entry_of b n) (entry_of c n)) m ≡ middle_entry (entry_of a m) (entry_of b m) (entry_of c m)
      go (inl e) rest =
          subst (λ (i : ℕ). entry_of (with_middle (voted_of n a b c) n (entry_of a n) (entry_of b n) (entry_of c n)) i ≡ middle_entry (entry_of a i) (entry_of b i) (entry_of c i)) (sym e)
          (here (voted_of n a b c) n (entry_of a n) (entry_of b n) (entry_of c n) (voted-whole n) (omega arith) (not_yet n n (omega arith)))
      go (inr l) rest = elsewhere (voted_of n a b c) n m (entry_of a n) (entry_of b n) (entry_of c n) (λ e. omega arith) ∙ rest l

pub voted-by-meaning : (a b c : Readings) (m : ℕ) → m < meanings → entry_of (voted a b c) m ≡ middle_entry (entry_of a m) (entry_of b m) (entry_of c m)
voted-by-meaning a b c m h = done a b c meanings m h (omega arith)
