-- One number for each meaning, written one after another from the first place on. Assumes nothing.
use Rattle.std.specs.Prelude.{Option}
use Rattle.fields.specs.declared.fields.Value.{Value}
use Rattle.arithmetic.proofs.Kit.{◌≡◌, refl, sym, ap, ◌∙◌, ℕ, zero, suc, ◌+◌, ◌<◌, add-one, arith, List, [], ◌∷◌, ◌++◌, length, length-append, set}
use Rattle.record.specs.declared.entries.Readings.{Readings}
use Rattle.record.specs.Entries.{stored_of}
use Rattle.exports.specs.Lent.{handed_out}
use Rattle.exports.specs.Reads.{each}

-- one more is written behind those that are handed out
behind : {A : Type 0} (vs xs : List A) (v : A) → length vs < length xs → set (handed_out vs xs) (length vs) v ≡ handed_out (vs ++ (v ∷ [])) xs
behind [] [] v room = absurd (omega (arith, room))
behind [] (x ∷ xs) v room = refl
behind (w ∷ vs) [] v room = absurd (omega (arith, room))
behind {A} (w ∷ vs) (x ∷ xs) v room = ap (λ (l : List A). w ∷ l) (behind vs xs v (omega (arith, room)))

module _ {A : Type 0} (of : Option Value → A) (r : Readings) where
  pub as_many : (n : ℕ) → length (each of n r) ≡ n
  unfolding each
  as_many zero = refl
  as_many (suc m) = length-append (each of m r) (of (stored_of r m) ∷ []) ∙ ap (λ (k : ℕ). k + 1) (as_many m) ∙ add-one m

  pub one_more : (m : ℕ) (xs : List A) → m < length xs → set (handed_out (each of m r) xs) m (of (stored_of r m)) ≡ handed_out (each of (m + 1) r) xs
  unfolding each
  one_more m xs room =
      let v = of (stored_of r m) in
      rw add-one
      (ap (λ (k : ℕ). set (handed_out (each of m r) xs) k v) (sym (as_many m)) ∙ behind (each of m r) xs v (omega (arith, room, as_many m)))
