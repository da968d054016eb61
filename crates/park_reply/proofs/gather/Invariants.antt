-- The words so far are on the buffer, which keeps its length. Assumes nothing.
use Rattle.std.proofs.Common.{◌≡◌, length, ◌≤◌}
use Rattle.park_reply.proofs.gather.Given as goal

abbrev pub invariant-loop-i : goal.invariant-loop-i
invariant-loop-i g l = (l.at ≤ length l.words) × (length l.words ≡ length l.initial.words)
