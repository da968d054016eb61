-- A lent array that has room is taken. Assumes nothing.
use Rattle.arithmetic.proofs.Kit.{◌≡◌, refl, List, ◌≤◌, ℕ, le-ltb, length}
use Rattle.refusal.specs.Outcomes.{Outcome}
use Rattle.exports.specs.Lent.{with_room}

pub roomy : {A B : Type 0} (needed : ℕ) (lent : List B) → needed ≤ length lent → (o : Outcome A) → with_room needed lent o ≡ o
unfolding with_room
roomy needed lent room o = rw (le-ltb (length lent) needed room) refl
