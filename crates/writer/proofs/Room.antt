-- Bytes at the start of a buffer, by whether they have room there. Assumes nothing.
use Rattle.writer.proofs.Kit.{◌≡◌, ◌∙◌, List, [], ℕ, ◌≤◌, ◌<◌, zero-add, arith, lt-ltb, le-ltb, length, sets, sets-eq, accepted, refused, length_written, overwritten}

module _ (s buffer : List ℕ) where
  pub no_room : length buffer < length s → (refused 18 [] ≡ length_written s buffer) × (buffer ≡ overwritten s buffer)
  no_room h = (simp (lt-ltb (length buffer) (length s) h), simp (lt-ltb (length buffer) (length s) h))

  pub room : length s ≤ length buffer → (accepted (length s) ≡ length_written s buffer) × (sets buffer 0 s ≡ overwritten s buffer)
  room h = (simp (le-ltb (length buffer) (length s) h), simp (le-ltb (length buffer) (length s) h) (sets-eq s buffer 0 (omega arith) ∙ simp zero-add))
