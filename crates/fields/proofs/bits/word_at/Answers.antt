use Rattle.fields.proofs.Kit.{◌+◌, refl, ℕ, ◌≤◌, ◌<◌, ◌^◌, pow-suc, pow-le-pow_right, arith, add-one, digits_lt, lit<}
use Rattle.fields.specs.Bytes.{number_at}
use Rattle.fields.proofs.bits.word_at.Goals as goal

-- a value of fewer than eight bytes has room for one more
room : {i value width : ℕ} → width ≤ 8 → i < width → value < 256 ^ i → value < 2 ^ 56
room {i} {value} w h v = omega (arith, pow-le-pow_right {n = 256} (lit< tt) {i = i} {j = 7} (omega arith), v)

-- what was read is a byte
byte : (c : goal.After-from) → c.from.result < 256
byte c = rw c.from.ensures (c.type_inv.bytes (c.args.at + c.loop-i.i)).fits

pub loop-i-init : goal.loop-i-init
unfolding number_at
loop-i-init c = record { read = refl; below = lit< tt }

pub overflow_mul-value : goal.overflow_mul-value
overflow_mul-value c = omega (arith, room c.requires.0 c.loop-i-test.true c.loop-i.invariant.below)

pub overflow_add-value : goal.overflow_add-value
overflow_add-value c = omega (arith, room c.requires.0 c.loop-i-test.true c.loop-i.invariant.below, byte c)

pub loop-i-preserved : goal.loop-i-preserved
unfolding number_at
loop-i-preserved c = record {
  read = rw (add-one, c.loop-i.invariant.read, c.from.ensures) refl;
  below = rw (add-one, pow-suc) (digits_lt c.loop-i.invariant.below (byte c));
}
