-- The places of the changes are in their order. Assumes nothing.
use Rattle.trim.proofs.Kit.{ℕ, ◌<◌, arith, Quantity, Temperature, MeasuredPressure, Up, Down, change, place}
use Rattle.trim.proofs.Stated.{InTheirOrder}

up-before-down : (q : Quantity) (k : ℕ) → place (change q Up k) < place (change q Down k)
up-before-down Temperature k = omega arith
up-before-down MeasuredPressure k = omega arith

pub in_their_order : InTheirOrder
in_their_order = record { up-before-down = up-before-down; temperature-first = λ k. omega arith; smaller_first = λ k. omega arith }
