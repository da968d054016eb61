-- A list whose first places are filled, one after the other, with the values of a function. Assumes nothing.
use Rattle.arithmetic.proofs.Kit.{ℕ, zero, suc, ◌+◌, ◌<◌, ◌≤◌, ◌≡◌, refl, sym, ap, ◌∙◌, List, [], ◌∷◌, ◌++◌, append_assoc, append-nil, add-one, arith, length, length-append, length-set, get_or, set, take, drop, drop-cons, take_at, length-take-le}
use lib.Seq.{drop-length, set_at}
use Rattle.pages.specs.Pages.{up_to, Holds}

pub length-up_to : (f : ℕ → ℕ) (n : ℕ) → length (up_to f n) ≡ n
unfolding up_to
length-up_to f zero = refl
length-up_to f (suc n) = rw (length-append, length-up_to f n) (omega arith)

-- l is e with the first i places filled
pub record Filled (f : ℕ → ℕ) (e : List ℕ) (i : ℕ) (l : List ℕ) : Type 0 where
  pub within : i ≤ length e
  pub sized : length l ≡ length e
  pub holds : l ≡ up_to f i ++ drop i e

module _ {f : ℕ → ℕ} {e : List ℕ} where
  pub none : Filled f e 0 e
  unfolding up_to
  none = record { within = omega arith; sized = refl; holds = refl }

  pub again : {i : ℕ} {l : List ℕ} {v : ℕ} → Filled f e i l → i < length e → v ≡ f i → Filled f e (i + 1) (set l i v)
  unfolding up_to
  again {i} {l} {v} filled h value = record {
    within = omega arith;
    sized = length-set l i v ∙ filled.sized;
    holds = rw (add-one, value, filled.holds, drop-cons e i 0 h)
        (set_at (up_to f i) (get_or e i 0) (drop (suc i) e) (f i) i (length-up_to f i) ∙ sym (append_assoc (up_to f i) (f i ∷ []) (drop (suc i) e)));
  }

  pub all_of : {i : ℕ} {l : List ℕ} → Filled f e i l → length e ≤ i → l ≡ up_to f (length e)
  all_of {i} filled h =
      let all : i ≡ length e = omega (arith, filled.within) in
      filled.holds ∙ rw (all, drop-length) (append-nil (up_to f (length e)))

  pub spelled : {i : ℕ} {l : List ℕ} → Filled f e i l → Holds (up_to f i) l i
  spelled {i} {l} filled =
      let within : i ≤ length l = omega (arith, filled.within, filled.sized) in
      record {
        text = ap (take i) filled.holds ∙ take_at (up_to f i) (drop i e) i (length-up_to f i);
        within = within;
        counted = sym (length-take-le i l within);
      }
