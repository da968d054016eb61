-- Bytes that are copied to the start of their buffer. Assumes nothing.
use Rattle.arithmetic.proofs.Kit.{◌≡◌, refl, sym, ap, ap₂, ◌∙◌, List, [], ◌∷◌, ◌++◌, ℕ, zero, suc, ◌+◌, ◌-◌, ◌<◌, ◌≤◌, min, arith, length, get_or, take, length-take-le}
use lib.Seq.{take-suc}
use Rattle.pages.specs.Pages.{up_to, Holds}
use Rattle.ask_run.specs.Kept.{kept_of}

-- bytes that are f's values one by one
spelled : (f : ℕ → ℕ) (s : List ℕ) (n : ℕ) → n ≤ length s → ((k : ℕ) → k < n → get_or s k 0 ≡ f k) → take n s ≡ up_to f n
unfolding up_to
spelled f s zero h each = refl
spelled f s (suc n) h each =
    take-suc s n 0 (omega arith) ∙ ap₂ (λ (t : List ℕ) (b : ℕ). t ++ (b ∷ [])) (spelled f s n (omega arith) (λ k lt. each k (omega arith))) (each n (omega arith))

pub moved : (buffer last : List ℕ) (taken all : ℕ) {start count : ℕ} → start ≡ min taken (min all (length buffer)) → count ≡ min (min all (length buffer) - start) 4098
    → length last ≡ length buffer → ((k : ℕ) → k < count → get_or last k 0 ≡ get_or buffer (start + k) 0) → Holds (kept_of buffer taken all) last count
unfolding kept_of
moved buffer last taken all {start} {count} from many size each =
    let within : count ≤ length last = omega (arith, from, many, size) in
    let same : count ≡ min (min all (length buffer) - taken) 4098 = omega (arith, from, many) in
    record {
      text =
          spelled (λ (k : ℕ). get_or buffer (taken + k) 0) last count within
          (λ k lt. each k lt ∙ ap (λ (n : ℕ). get_or buffer n 0) {x = start + k} {y = taken + k} (omega (arith, from, many, lt)))
          ∙ ap (up_to (λ (k : ℕ). get_or buffer (taken + k) 0)) same;
      within = within;
      counted = sym (length-take-le count last within);
    }
