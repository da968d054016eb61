-- The first bytes of a buffer of 28 that a record of the load is written into are the record. Assumes nothing.
use Rattle.load_text.proofs.Kit.{◌≡◌, sym, ap, ◌∙◌, List, ◌++◌, ℕ, arith, le-ltb, length, take, drop, replicate, length-append, take_at, Outcome, load_record, length_taken}
use Rattle.pages.specs.Pages.{Holds}
use Rattle.writer.specs.Written.{length_written, overwritten}
use Rattle.writer.proofs.Room.{room}
use Rattle.load_text.proofs.Every.{short}

abbrev buffer : List ℕ
buffer = replicate 28 0

module _ (n : ℕ) {k : ℕ} {o : Outcome ℕ} {last : List ℕ} (counted : k ≡ length_taken o) (answered : o ≡ length_written (load_record n) buffer) (lent : last ≡ overwritten (load_record n) buffer) where
  is_length_lem : k ≡ length (load_record n)
  is_length_lem = counted ∙ ap (λ (p : Outcome ℕ). length_taken p) (answered ∙ sym (room (load_record n) buffer (short n)).0)

  is_last : last ≡ load_record n ++ drop (length (load_record n)) buffer
  is_last = lent ∙ simp (le-ltb (length buffer) (length (load_record n)) (short n))

  pub holds : Holds (load_record n) last k
  holds =
      let is : take k last ≡ load_record n = ap (take k) is_last ∙ take_at (load_record n) (drop (length (load_record n)) buffer) k (sym is_length_lem) in
      record { text = is; within = omega (arith, is_length_lem, ap length is_last, length-append (load_record n) (drop (length (load_record n)) buffer)); counted = is_length_lem ∙ sym (ap length is) }
