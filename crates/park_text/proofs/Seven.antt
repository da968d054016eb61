-- Words that are understood are seven at most, one for each meaning. Assumes nothing.
use Rattle.std.specs.Prelude.{Option, None, Some, is_some, Result, Ok, Err}
use Rattle.arithmetic.proofs.Kit.{◌≡◌, refl, ap, ◌∙◌, Bool, true, false, cond, List, [], ◌∷◌, ℕ, zero, suc, ◌+◌, ◌≤◌, ◌<◌, zero-le, arith, length, get_or, set, length-set}
use Rattle.fields.specs.declared.fields.Value.{Value}
use Rattle.fields.specs.Fields.{meanings}
use Rattle.record.specs.declared.entries.Readings.{Readings}
use Rattle.record.specs.Entries.{no_readings, entry_for, entry_of, with_value}
use Rattle.park_text.specs.declared.typed_word.Problem.{Problem}
use Rattle.park_text.specs.declared.typed_word.Problem.TheVariants.{RepeatedWord}
use Rattle.park_text.specs.declared.typed_word.TypedReading.{TypedReading}
use Rattle.park_text.specs.Word.{read_word}
use Rattle.park_text.specs.Understood.{value_of, problem, ◌⟫◌, with_typed, understand_from, understand}
use Rattle.park_text.proofs.OneWord.{spoken}

-- how many slots hold nothing
abbrev vacant : List (Option Value) → ℕ
vacant [] = 0
vacant (s ∷ l) = cond (is_some (entry_for s)) (vacant l) (suc (vacant l))

one_less : (l : List (Option Value)) (m : ℕ) (v : Value) → m < length l → is_some (entry_for (get_or l m None)) ≡ false
    → vacant l ≡ suc (vacant (set l m (Some v)))
one_less [] m v h e = absurd (omega arith)
one_less (s ∷ l) zero v h e = ap (λ (b : Bool). cond b (vacant l) (suc (vacant l))) e
one_less (s ∷ l) (suc m) v h e = go (is_some (entry_for s)) (one_less l m v (omega arith) e)
  where
    go : (b : Bool) → vacant l ≡ suc (vacant (set l m (Some v)))
        → cond b (vacant l) (suc (vacant l)) ≡ suc (cond b (vacant (set l m (Some v))) (suc (vacant (set l m (Some v)))))
    go true k = k
    go false k = ap suc k

few : (ws : List (List ℕ)) (i : ℕ) (r q : Readings) → length r.slots ≡ meanings → understand_from i r ws ≡ Ok q → length ws ≤ vacant r.slots
unfolding understand_from
few [] i r q all e = zero-le
few (w ∷ ws) i r q all e = by_word (read_word w) refl e (λ p whole h. few ws (i + 1) p q whole h)
  where
    Rest : Type 0
    Rest = (p : Readings) → length p.slots ≡ meanings → understand_from (i + 1) p ws ≡ Ok q → length ws ≤ vacant p.slots

    by_word : (o : Result TypedReading Problem) → read_word w ≡ o → (with_typed r i o ⟫ (λ p. understand_from (i + 1) p ws)) ≡ Ok q → Rest → suc (length ws) ≤ vacant r.slots
    by_word (Err p) is h next = absurd cc
    by_word (Ok t) is h next = by-entry (is_some (entry_of r t.meaning)) refl h
      where
        by-entry : (there : Bool) → is_some (entry_of r t.meaning) ≡ there
            → (cond there (problem RepeatedWord i) (Ok (with_value r t.meaning (value_of t.reading))) ⟫ (λ p. understand_from (i + 1) p ws)) ≡ Ok q → suc (length ws) ≤ vacant r.slots
        by-entry true new k = absurd cc
        by-entry false new k =
            omega (arith, one_less r.slots t.meaning (value_of t.reading) (omega (arith, (spoken w is).says.known, all)) new, next (with_value r t.meaning (value_of t.reading)) (length-set r.slots t.meaning (Some (value_of t.reading)) ∙ all) k)

pub at_most-seven : (ws : List (List ℕ)) (r : Readings) → understand ws ≡ Ok r → length ws ≤ 7
at_most-seven ws r e = few ws 0 no_readings r refl e
