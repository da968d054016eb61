-- A row more. Assumes nothing.
use Rattle.arithmetic.proofs.Kit.{◌≡◌, sym, ap, ap₂, ◌∙◌, ℕ, ◌+◌, ◌-◌, ◌*◌, ◌++◌, add-one, arith, take, drop}
use Rattle.pages.specs.declared.Page.{Page}
use Rattle.pages.specs.Pages.{put}
use Rattle.pages.proofs.Putting.{put_put, put_nothing}
use Rattle.trim.specs.Classes.{trim_class}
use Rattle.sheet_text.specs.Lines.{row_line, row_lines}
use Rattle.sheet_text.proofs.sheet_lines.put_rows.Goals as goal

pub loop-n-init : goal.loop-n-init
unfolding row_lines
loop-n-init c = sym (put_nothing c.args.page.now)

pub loop-n-preserved : goal.loop-n-preserved
unfolding row_lines
loop-n-preserved c =
    let n = c.loop-n.n in
    let size : 30 * n + 29 - 30 * n ≡ 29 = omega arith in
    let classed = c.trim_class-class.ensures ∙ ap trim_class c.density.ensures in
    rw (add-one n)
    (c.put_row.ensures
    ∙ ap₂ (λ (p : Page) (m : ℕ). put p (row_line (take m (drop (30 * n) c.args.rows.now)) c.trim_class-class.result)) c.loop-n.invariant size
    ∙ put_put _ _ _
    ∙ ap (λ (k : ℕ). put c.args.page.now (row_lines c.args.site c.args.rows.now n ++ row_line (take 29 (drop (30 * n) c.args.rows.now)) k)) classed)

pub returns : goal.returns
returns c =
    let all : c.loop-n.n ≡ 51 = omega (arith, c.loop-n.auto.n-end, c.loop-n-test.false) in
    c.loop-n.invariant ∙ ap (λ (n : ℕ). put c.args.page.now (row_lines c.args.site c.args.rows.now n)) all
