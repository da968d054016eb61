-- Each number of a writer has exactly its cause. Assumes nothing.
use Rattle.writer.proofs.Kit.{List, ℕ, length, exactly, room_rows}
use Rattle.writer.proofs.Stated.{Caused}

pub caused : (s buffer : List ℕ) → Caused s buffer
caused s buffer = exactly (length s) (room_rows s buffer)
