-- The entries of readings by meaning: what a new value sets and what it leaves, and that each value of a record that is read is a double. Assumes nothing.
use Rattle.std.specs.Prelude.{None, Some}
use Rattle.record.proofs.Kit.{◌≡◌, refl, sym, ap, subst, ◌∙◌, Bool, true, false, cond, ◌≢◌, ◌⊎◌, inl, inr, List, [], ◌∷◌, map, ℕ, zero, suc, ◌<◌, arith, T, Float, binary64, fits, of_bits-fits, length, get_or, set, replicate, length-set, get_or-set_same, get_or-set_other, exactly, Value, Option, Readings, meanings, double_of, is_count_tag, tag_of, value_of, field, heads, noted, read_rows, readings, no_readings, entry_for, entry_of, with_value, with_entry, accepted, read_record}
use mathlib.Core.List.{foldl}
use Rattle.thousandths.specs.Thousandths.{count_of}
use Rattle.thousandths.proofs.Laws.{thousandths-fits}
use Rattle.fields.specs.declared.fields.Value.TheVariants.{Double, Count}
use Rattle.fields.specs.Bytes.{number_at, double_at}
use Rattle.record.proofs.Stated.{HoldsDoubles}

-- ---- a slot for each meaning
abbrev pub Whole : Readings → Type 0
Whole r = length r.slots ≡ meanings

pub none-whole : Whole no_readings
none-whole = refl

pub with_whole : (r : Readings) (m : ℕ) (x : Float) → Whole r → Whole (with_entry r m x)
with_whole r m x all = length-set r.slots m (Some (Double x)) ∙ all

-- ---- the entries
all_alike : (n m : ℕ) (d : (Option Value)) → get_or (replicate n d) m d ≡ d
all_alike zero m d = refl
all_alike (suc n) zero d = refl
all_alike (suc n) (suc m) d = all_alike n m d

pub none-there : (m : ℕ) → entry_of no_readings m ≡ None
none-there m = ap entry_for (all_alike meanings m None)

pub entry_set : (r : Readings) (m : ℕ) (x : Float) → Whole r → m < meanings → entry_of (with_entry r m x) m ≡ Some x
entry_set r m x all h = ap entry_for (get_or-set_same r.slots m (Some (Double x)) None (omega arith))

pub entry-left : (r : Readings) (m n : ℕ) (x : Float) → n ≢ m → entry_of (with_entry r m x) n ≡ entry_of r n
entry-left r m n x other = ap entry_for (get_or-set_other r.slots m n (Some (Double x)) None other)

-- ---- doubles
either : (l : List (Option Value)) (i j : ℕ) (a d : (Option Value)) → (get_or (set l i a) j d ≡ a) ⊎ (get_or (set l i a) j d ≡ get_or l j d)
either [] i j a d = inr refl
either (e ∷ l) zero zero a d = inl refl
either (e ∷ l) zero (suc j) a d = inr refl
either (e ∷ l) (suc i) zero a d = inr refl
either (e ∷ l) (suc i) (suc j) a d = either l i j a d

with_double : (r : Readings) (m : ℕ) (v : Value) → T (fits binary64 (double_of v)) → HoldsDoubles r → HoldsDoubles (with_value r m v)
with_double r m v double held n y e =
    elim (either r.slots m n (Some v) None) [
      | inl new ↦
          let there : Some (double_of v) ≡ Some y = sym (ap entry_for new) ∙ e in
          let same : double_of v ≡ y = cc in
          subst (λ (z : Float). T (fits binary64 z)) same double
      | inr old ↦ held n y (sym (ap entry_for old) ∙ e)
    ]

-- the double of a field's value
value-double : (s : List ℕ) → T (fits binary64 (double_of (value_of s)))
value-double s = go (is_count_tag (tag_of s))
  where
    go : (b : Bool) → T (fits binary64 (double_of (cond b (Count (number_at s 3 4)) (Double (double_at s 3)))))
    go true = thousandths-fits (count_of (number_at s 3 4))
    go false = of_bits-fits binary64 (number_at s 3 8)

from : (r : Readings) (fs : List (List ℕ)) → HoldsDoubles r → HoldsDoubles (foldl noted r (map field fs))
unfolding field
from r [] held = held
from r (s ∷ fs) held = from (noted r (field s)) fs (with_double r (field s).meaning (field s).value (value-double s) held)

never : {x : Float} → None ≡ Some x → ⊥
never e = let z : ◌≡◌ {A = ℕ} 0 1 = cc in omega arith

pub reads-doubles : (s : List ℕ) (r : Readings) → read_record false s ≡ accepted r → HoldsDoubles r
reads-doubles s r e =
    subst HoldsDoubles ((exactly (readings s) (read_rows false s)).accepted_because e).1 (from no_readings (heads s) (λ m x h. absurd (never (sym (none-there m) ∙ h))))
