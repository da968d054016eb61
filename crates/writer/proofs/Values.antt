-- A value in the other form: it means the same double, and comes back. By the laws of counts, their words and their doubles. Assumes nothing.
use Rattle.writer.proofs.Kit.{◌≡◌, refl, sym, ap, subst, ◌∙◌, Bool, true, false, not, ℕ, arith, ℤ, T, Float, nan, inf, fin, is_nan, finite, Value, Double, Count, is_count, double_of, IsHeld, Err, NoCount, Refusal, Ok, Option, Some, None, counted_field, turned}
use Rattle.thousandths.specs.Thousandths.{count_of, twos_complement, thousandths, count_for}
use Rattle.thousandths.proofs.Words.{twos_complement_lem}
use Rattle.thousandths.proofs.Laws.{thousandths-fits, count_of-double, double_of-count}
use Rattle.writer.proofs.Stated.{NotNan}

pub record TurnedTo (counts : Bool) (v w : Value) : Type 0 where
  pub its_form : is_count w ≡ counts
  pub held : IsHeld w
  pub same : double_of w ≡ double_of v
  pub number : NotNan v
  pub back : turned (not counts) w ≡ Ok (Some v)

is_number : (x : Float) → T (finite x) → is_nan x ≡ false
unfolding is_nan
is_number nan h = absurd h
is_number (inf s) h = absurd h
is_number (fin s m e) h = refl

-- a double whose count is n, and a count's word
to-count : (x : Float) {n : ℤ} → IsHeld (Double x) → count_for x ≡ Some n → TurnedTo true (Double x) (Count (twos_complement n))
to-count x {n} held e =
    let gives = count_of-double.gives_the_double x n held e in
    let again = ap thousandths (twos_complement_lem.count_of_word n gives.0) ∙ gives.1 in
    record {
      its_form = refl;
      held = twos_complement_lem.word_in_range n gives.0;
      same = again;
      number = is_number x (subst (λ (y : Float). T (finite y)) gives.1 (double_of-count.is_finite n gives.0));
      back = ap (λ (y : Float). Ok (Some (Double y))) again;
    }

to-double : (word : ℕ) → IsHeld (Count word) → TurnedTo false (Count word) (Double (thousandths (count_of word)))
to-double word held = record {
  its_form = refl;
  held = thousandths-fits (count_of word);
  same = refl;
  number = tt;
  back = ap counted_field (double_of-count.finds_its_count (count_of word) (twos_complement_lem.count_in_range word held)) ∙ ap (λ (u : ℕ). Ok (Some (Count u))) (twos_complement_lem.word_of_count word held);
}

pub turned-to : (counts : Bool) (v : Value) {w : Value} → IsHeld v → turned counts v ≡ Ok (Some w) → TurnedTo counts v w
turned-to true (Double x) {w} held e = go (count_for x) refl e
  where
    go : (c : Option ℤ) → count_for x ≡ c → counted_field c ≡ Ok (Some w) → TurnedTo true (Double x) w
    go (Some k) is e =
        let u : Count (twos_complement k) ≡ w = cc in
        rw (sym u) (to-count x held is)
    go None is e = let z : ◌≡◌ {A = ℕ} 0 1 = cc in absurd (omega arith)
turned-to true (Count word) held e = let z : ◌≡◌ {A = ℕ} 0 1 = cc in absurd (omega arith)
turned-to false (Double x) held e = let z : ◌≡◌ {A = ℕ} 0 1 = cc in absurd (omega arith)
turned-to false (Count word) {w} held e =
    let u : Double (thousandths (count_of word)) ≡ w = cc in
    rw (sym u) (to-double word held)

-- what is kept is in the form already
pub kept-form : (counts : Bool) (v : Value) → turned counts v ≡ Ok None → is_count v ≡ counts
kept-form true (Double x) e = go (count_for x) e
  where
    go : (c : Option ℤ) → counted_field c ≡ Ok None → false ≡ true
    go (Some n) e = let z : ◌≡◌ {A = ℕ} 0 1 = cc in absurd (omega arith)
    go None e = let z : ◌≡◌ {A = ℕ} 0 1 = cc in absurd (omega arith)
kept-form true (Count word) e = refl
kept-form false (Double x) e = refl
kept-form false (Count word) e = let z : ◌≡◌ {A = ℕ} 0 1 = cc in absurd (omega arith)

-- what is refused has no count
pub only-no_count : (counts : Bool) (v : Value) {c : Refusal} → turned counts v ≡ Err c → c ≡ NoCount
only-no_count true (Double x) {c} e = go (count_for x) e
  where
    go : (n : Option ℤ) → counted_field n ≡ Err c → c ≡ NoCount
    go (Some n) e = let z : ◌≡◌ {A = ℕ} 0 1 = cc in absurd (omega arith)
    go None e = cc
only-no_count true (Count word) e = let z : ◌≡◌ {A = ℕ} 0 1 = cc in absurd (omega arith)
only-no_count false (Double x) e = let z : ◌≡◌ {A = ℕ} 0 1 = cc in absurd (omega arith)
only-no_count false (Count word) e = let z : ◌≡◌ {A = ℕ} 0 1 = cc in absurd (omega arith)
