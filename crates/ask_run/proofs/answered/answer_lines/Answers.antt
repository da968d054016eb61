-- The line that is found, and then its answer, are one more of those that are passed. Assumes nothing.
use Rattle.arithmetic.proofs.Kit.{◌≡◌, refl, sym, ap, ◌∙◌, Bool, List, ℕ, ◌-◌, ◌≤◌, arith, length, take, drop, length-take, length-drop, take_all, rules}
use Rattle.std.specs.Borrow.{MutBor}
use Rattle.pages.specs.declared.Page.{Page}
use Rattle.pages.specs.Pages.{Appended, page_from, put}
use Rattle.pages.proofs.Putting.{put_nothing}
use Rattle.pages.proofs.Growing.{within}
use Rattle.pages.proofs.Growing as growing
use Rattle.std.specs.Prelude.{Some}
use Rattle.questions.specs.declared.line_ends.Line.{Line}
use Rattle.questions.specs.Lines.{found_line}
use Rattle.lines.specs.Answers.{answer_line}
use Rattle.ask_run.specs.Answered.{lines_after, answers_to, AreWhole}
use Rattle.ask_run.proofs.OneMore.{Taken, found, appended, rest-again, whole_again, text-again, room-again, progressed}
use Rattle.ask_run.proofs.answered.answer_lines.Goals as goal

-- what is lent from a place on is all that stands there
full : (s : List ℕ) (taken : ℕ) → take (length s - taken) (drop taken s) ≡ drop taken s
full s taken = take_all (length s - taken) (drop taken s) (rw length-drop (omega arith))

found_at : (ended : Bool) (s : List ℕ) (taken : ℕ) {r : Line} → Some r ≡ found_line ended (take (length s - taken) (drop taken s))
    → Taken ended (drop taken s) r.end r.next
found_at ended s taken e = found ended (drop taken s) (e ∙ ap (found_line ended) (full s taken))

-- the answers so far, in the page's bytes
module _ {b : MutBor (List ℕ)} {p q : Page} (text : List ℕ) (begun : p ≡ page_from b 0) (put_so : q ≡ put p text) where
  answered : Appended b.now 0 text q.bytes.now q.at
  answered = appended b (put_so ∙ ap (λ (r : Page). put r text) begun)

  in_room : q.at ≤ length b.now
  in_room = omega (arith, within answered (omega arith), growing.same_length answered)

pub loop-rest-init : goal.loop-rest-init
unfolding lines_after AreWhole answers_to
loop-rest-init c = (omega arith, omega arith, refl, tt, sym (put_nothing _), omega arith)

pub overflow_sub-room : goal.overflow_sub-room
overflow_sub-room c = omega (arith, c.position.ensures, in_room _ c.new-page.ensures c.loop-rest.invariant.4)

pub slice_bounds-put_line_answer-end : goal.slice_bounds-put_line_answer-end
slice_bounds-put_line_answer-end c =
    let s = c.args.input.now in
    let taken : ℕ = c.loop-rest.taken in
    let t = found_at c.args.ended s taken c.in-Some.ensures.answered in
    simp (length-take, length-drop) (omega (arith, t.end_in, length-drop taken s))

pub overflow_add-taken : goal.overflow_add-taken
overflow_add-taken c =
    let s = c.args.input.now in
    let taken : ℕ = c.loop-rest.taken in
    let t = found_at c.args.ended s taken c.in-Some.ensures.answered in
    omega (arith, t.next_in, length-drop taken s)

pub loop-rest-smaller : goal.loop-rest-smaller
loop-rest-smaller c =
    let s = c.args.input.now in
    let taken : ℕ = c.loop-rest.taken in
    let t = found_at c.args.ended s taken c.in-Some.ensures.answered in
    omega (arith, t.some, t.next_in, length-drop taken s)

pub loop-rest-preserved : goal.loop-rest-preserved
loop-rest-preserved c =
    let s = c.args.input.now in
    let ended = c.args.ended in
    let taken : ℕ = c.loop-rest.taken in
    let n : ℕ = c.loop-rest.lines in
    let kept = c.loop-rest.invariant in
    let rest = kept.2 in
    let t = found_at ended s taken c.in-Some.ensures.answered in
    let line = ap (λ (l : List ℕ). answer_line (take c.in-Some.line.end l)) (full s taken) in
    let text = answered _ c.new-page.ensures kept.4 in (
      omega (arith, t.next_in, length-drop taken s),
      omega (arith, t.some),
      rest-again ended s n taken rest t,
      whole_again ended s n taken rest t kept.3,
      text-again ended s n taken rest t _ kept.4 (c.put_line_answer.ensures.put ∙ ap (put c.loop-rest.page) line),
      room-again n s text kept.5 (omega (arith, growing.same_length text, c.position.ensures, in_room _ c.new-page.ensures kept.4)),
    )

pub returns-clause-answered : goal.returns-clause-answered
unfolding put
returns-clause-answered c =
    let kept = c.loop-rest.invariant in
    progressed kept.3 kept.2 kept.0 (search rules) kept.5
