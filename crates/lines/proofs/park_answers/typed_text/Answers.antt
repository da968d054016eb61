-- A byte more of the line. Assumes nothing.
use Rattle.arithmetic.proofs.Kit.{◌≡◌, subst, ◌∙◌, ℕ, ◌+◌, ◌-◌, min, arith, length}
use Rattle.pages.specs.Scan.{index_of}
use Rattle.pages.specs.Pages.{up_to, Holds}
use Rattle.pages.proofs.Filled.{none, again, spelled}
use Rattle.questions.proofs.Found.{found}
use Rattle.lines.specs.Typed.{typed_at, typed_text}
use Rattle.lines.proofs.park_answers.typed_text.Goals as goal

pub loop-i-init : goal.loop-i-init
loop-i-init c = none

pub loop-i-preserved : goal.loop-i-preserved
loop-i-preserved c = again c.loop-i.invariant (omega (arith, c.min-count.ensures)) c.typed_at.ensures

pub returns : goal.returns
unfolding typed_text
returns c =
    let s = c.args.line.now in
    let here : c.find-blank.result ≡ index_of 32 s = found 32 s 0 c.find-blank.ensures.found ∙ omega arith in
    let all : c.loop-i.i ≡ c.min-count.result = omega arith in
    let held = subst (λ (n : ℕ). Holds (up_to (λ (k : ℕ). typed_at s (c.find-blank.result + 1 + k)) n) c.loop-i.out n) all (spelled c.loop-i.invariant) in
    subst (λ (b : ℕ). Holds (up_to (λ (k : ℕ). typed_at s (b + 1 + k)) (min (length s - b) (length c.args.out.now))) c.loop-i.out c.min-count.result) here
    (subst (λ (n : ℕ). Holds (up_to (λ (k : ℕ). typed_at s (c.find-blank.result + 1 + k)) n) c.loop-i.out c.min-count.result) c.min-count.ensures held)
