-- A row more, or its refusal.
use Rattle.sheet.proofs.Kit.{◌≡◌, refl, sym, ap, ◌∙◌, List, ℕ, suc, ◌+◌, ◌-◌, ◌<◌, add-one, arith, rules, Float, accepted, refused, outcome, then-accepted, bare, row_outcome, celsius_of_row, rows, line_rows, line_text, lines_text}
use Rattle.refusal.specs.Outcomes.{refusal}
use Rattle.pages.specs.declared.Page.{Page}
use Rattle.pages.specs.Pages.{put}
use Rattle.pages.proofs.Putting.{put_put, put_nothing}
use Rattle.sheet.specs.Over.{put_or_left}
use Rattle.sheet.proofs.Causes.{by-line}
use Rattle.sheet.proofs.Outcomes.{bare-accepted, bare-refused, next_row, stays}
use Rattle.sheet.proofs.page.write_rows.Goals as goal

pub loop-n-init : goal.loop-n-init
unfolding rows lines_text
loop-n-init c = record { good = refl; written = sym (put_nothing c.args.page.now) }

-- a row that is refused refuses all
refused_by : (h p u : Float) (n : ℕ) (t : Float) {k : ℕ} {vs : List Float} → n < 51 → rows h p u n ≡ accepted (lines_text h p u n) → t ≡ celsius_of_row n
    → refused k vs ≡ bare (row_outcome h p u t) → rows h p u 51 ≡ refused k vs
refused_by h p u n t less good temperature e =
    let rest : 51 ≡ suc n + (51 - suc n) = omega arith in
    let here = next_row h p u n (lines_text h p u n) good (ap (row_outcome h p u) (sym temperature) ∙ bare-refused (row_outcome h p u t) (sym e)) in
    ap (rows h p u) rest ∙ stays h p u (suc n) (51 - suc n) here

pub returns-in_err-write_row-clause-outcome : goal.returns-in_err-write_row-clause-outcome
returns-in_err-write_row-clause-outcome c =
    let a = c.args in
    let e : outcome c.from_residual.result ≡ refusal c.in_err-write_row.field-0.0 = search rules in
    e ∙ ap bare (sym (refused_by a.altitude_m a.pressure_hpa a.humidity_percent c.loop-n.n c.celsius.result (omega arith) c.loop-n.invariant.good c.celsius.ensures c.in_err-write_row.ensures.outcome))

pub returns-in_err-write_row-clause-written : goal.returns-in_err-write_row-clause-written
returns-in_err-write_row-clause-written c text good =
    let a = c.args in
    let bad = refused_by a.altitude_m a.pressure_hpa a.humidity_percent c.loop-n.n c.celsius.result (omega arith) c.loop-n.invariant.good c.celsius.ensures c.in_err-write_row.ensures.outcome in
    let z : ◌≡◌ {A = ℕ} 0 1 = cc in
    absurd (omega arith)

-- a row that is accepted
accepted_by : (h p u : Float) (n : ℕ) (t : Float) → t ≡ celsius_of_row n → accepted tt ≡ bare (row_outcome h p u t) → row_outcome h p u t ≡ accepted (line_text h p u (celsius_of_row n))
accepted_by h p u n t temperature e =
    let line = bare-accepted (row_outcome h p u t) (sym e) in
    line.1 ∙ sym (then-accepted (line_rows h p u t) (sym (by-line h p u t) ∙ line.1)).1 ∙ ap (λ (t : Float). accepted (line_text h p u t)) temperature

pub loop-n-preserved : goal.loop-n-preserved
unfolding lines_text
loop-n-preserved c =
    let a = c.args in
    let n = c.loop-n.n in
    let so_far = lines_text a.altitude_m a.pressure_hpa a.humidity_percent n in
    let line = line_text a.altitude_m a.pressure_hpa a.humidity_percent (celsius_of_row n) in
    let row = accepted_by a.altitude_m a.pressure_hpa a.humidity_percent n c.celsius.result c.celsius.ensures c.in_ok-write_row.ensures.outcome in
    record {
      good = rw add-one (next_row a.altitude_m a.pressure_hpa a.humidity_percent n so_far c.loop-n.invariant.good (ap (row_outcome a.altitude_m a.pressure_hpa a.humidity_percent) (sym c.celsius.ensures) ∙ row));
      written =
          rw add-one (c.write_row.ensures.written
          ∙ ap (put_or_left c.loop-n.page) row
          ∙ ap (λ (p : Page). put p line) c.loop-n.invariant.written
          ∙ put_put a.page.now so_far line);
    }
