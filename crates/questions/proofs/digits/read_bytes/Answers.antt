-- A byte more of two digits. Assumes nothing.
use Rattle.arithmetic.proofs.Kit.{◌≡◌, ap₂, subst, ℕ, ◌+◌, ◌*◌, ◌%◌, arith}
use Rattle.questions.specs.Digits.{byte_at, bytes_in}
use Rattle.pages.specs.Pages.{up_to, Holds}
use Rattle.pages.proofs.Filled.{none, again, spelled}
use Rattle.questions.proofs.digits.read_bytes.Goals as goal

pub loop-i-init : goal.loop-i-init
loop-i-init c = none

pub loop-i-preserved : goal.loop-i-preserved
loop-i-preserved c =
    again c.loop-i.invariant (omega (arith, c.min-count.ensures)) (ap₂ (λ (h l : ℕ). h % 16 * 16 + l % 16) c.digit.ensures c.digit-in-loop-i.ensures)

pub returns-clause-read : goal.returns-clause-read
unfolding bytes_in
returns-clause-read c =
    let all : c.loop-i.i ≡ c.min-count.result = omega arith in
    subst (λ (n : ℕ). Holds (up_to (byte_at c.args.text.now) n) c.loop-i.out c.min-count.result) c.min-count.ensures
    (subst (λ (n : ℕ). Holds (up_to (byte_at c.args.text.now) n) c.loop-i.out n) all (spelled c.loop-i.invariant))
