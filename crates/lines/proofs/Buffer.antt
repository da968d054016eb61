-- A record that is read into a buffer of 2,048 bytes. Assumes nothing.
use Rattle.arithmetic.proofs.Kit.{◌≡◌, ap, ◌∙◌, List, [], ℕ, length, get_or, take, replicate, length-replicate}
use Rattle.questions.specs.Digits.{bytes_in}
use Rattle.pages.specs.Pages.{Holds}
use Rattle.lines.specs.Answers.{record_argument}

pub read : (ws : List (List ℕ)) (i : ℕ) {last : List ℕ} {n : ℕ} → Holds (bytes_in (length (replicate {A = ℕ} 2048 0)) (get_or ws i [])) last n → take n last ≡ record_argument ws i
read ws i s = s.text ∙ ap (λ (room : ℕ). bytes_in room (get_or ws i [])) (length-replicate {A = ℕ} 2048 0)
