-- The text of a record of the load has 207 bytes at most, so that of as many records as have room has room. Assumes nothing.
use Rattle.load_text.proofs.Kit.{ℕ, zero, suc, ◌+◌, ◌*◌, ◌/◌, ◌≤◌, mul-suc, arith, length, length-append, judge, load_record, bytes_line, judged_text, load_record_text, records_text, records_in}
use native.Mathlib.Nat.{min-le_right}
use Rattle.arithmetic.specs.Ascii.{ascii}
use Rattle.pages.specs.Characters.{hex}
use Rattle.pages.proofs.Short.{Within, whole, both, hex-length}
use Rattle.text.proofs.Short.{answer-short}
use Rattle.load_text.proofs.Every.{short}

digits : (n : ℕ) → Within (hex (load_record n)) 56
digits n = record { bound = omega (arith, hex-length (load_record n), short n) }

one : (n : ℕ) → Within (load_record_text n) 207
unfolding load_record_text judged_text bytes_line
one n = both (both (digits n) (whole (ascii "\n"))) (answer-short (judge (load_record n)))

all : (n k : ℕ) → length (records_text n k) ≤ 207 * k
unfolding records_text
all n zero = omega arith
all n (suc k) = omega (arith, length-append (records_text n k) (load_record_text (n + k)), all n k, (one (n + k)).bound, mul-suc 207 k)

pub has_room : (n count size : ℕ) → length (records_text n (records_in count size)) ≤ size
has_room n count size = omega (arith, all n (records_in count size), min-le_right count (size / 207))
