-- The writer has room for any record in 154 bytes. Assumes nothing.
use Rattle.arithmetic.proofs.Kit.{◌≡◌, ◌∙◌, false, List, ℕ, arith, le-ltb, ltb, length}
use Rattle.refusal.specs.declared.Refusal.{Refusal}
use Rattle.refusal.specs.Outcomes.{accepted, refusal}
use Rattle.record.specs.declared.entries.Readings.{Readings}
use Rattle.writer.specs.Records.{record_of}
use Rattle.writer.specs.Written.{length_written}
use Rattle.report.proofs.Short.{record_short}

module _ (r : Readings) (buffer : List ℕ) (long : length buffer ≡ 154) where
  room : ltb (length buffer) (length (record_of r)) ≡ false
  room = le-ltb (length buffer) (length (record_of r)) (omega (arith, record_short r))

  answered : length_written (record_of r) buffer ≡ accepted (length (record_of r))
  answered = simp room

  pub not_refused : (c : Refusal) → refusal c ≡ length_written (record_of r) buffer → ⊥
  not_refused c e =
      let wrong : refusal {A = ℕ} c ≡ accepted (length (record_of r)) = e ∙ answered in
      let z : ◌≡◌ {A = ℕ} 0 1 = cc in
      omega arith
