-- The four cells are the row, where its texts are not too wide.
use Rattle.std.specs.Prelude.{Some, None}
use Rattle.sheet.proofs.Kit.{◌≡◌, refl, true, false, Bool, cond, sym, ap, ◌∙◌, arith, List, ◌++◌, ℕ, bare, is_too_wide, row_texts}
use Rattle.pages.specs.declared.Page.{Page}
use Rattle.pages.specs.Pages.{put}
use Rattle.pages.proofs.Putting.{put_put}
use Rattle.sheet.specs.Over.{put_or_left}
use Rattle.sheet.specs.declared.row.RowTexts.{RowTexts}
use Rattle.sheet.proofs.Cells.{narrow, cells_are}
use Rattle.sheet.proofs.Outcomes.{by_width}
use Rattle.sheet.proofs.row.write_figures.Goals as goal

too_wide : (b : Bool) (x : RowTexts) → None ≡ cond b None (Some x) → b ≡ true
too_wide true x e = refl
too_wide false x e = let z : ◌≡◌ {A = ℕ} 0 1 = cc in absurd (omega arith)

fits : (b : Bool) (x y : RowTexts) → Some y ≡ cond b None (Some x) → (b ≡ false) × (y ≡ x)
fits true x y e = let z : ◌≡◌ {A = ℕ} 0 1 = cc in absurd (omega arith)
fits false x y e = (refl, cc)

pub returns-in_default-clause-outcome : goal.returns-in_default-clause-outcome
returns-in_default-clause-outcome c =
    let a = c.args in
    ap bare (sym (by_width a.temperature_c a.figures (too_wide (is_too_wide a.temperature_c a.figures) (row_texts a.temperature_c a.figures) (sym c.in_default.is ∙ c.row_texts.ensures))))

pub returns-in_default-clause-written : goal.returns-in_default-clause-written
returns-in_default-clause-written c =
    let a = c.args in
    ap (put_or_left a.page.now) (sym (by_width a.temperature_c a.figures (too_wide (is_too_wide a.temperature_c a.figures) (row_texts a.temperature_c a.figures) (sym c.in_default.is ∙ c.row_texts.ensures))))

pub returns-clause-outcome : goal.returns-clause-outcome
returns-clause-outcome c =
    let a = c.args in
    ap bare (sym (by_width a.temperature_c a.figures (fits (is_too_wide a.temperature_c a.figures) (row_texts a.temperature_c a.figures) c.in-Some.texts (sym c.in-Some.is ∙ c.row_texts.ensures)).0))

four : (p : Page) {q r s t : Page} (a b d e : List ℕ) → q ≡ put p a → r ≡ put q b → s ≡ put r d → t ≡ put s e → t ≡ put p (a ++ b ++ d ++ e)
four p a b d e first second third fourth =
    fourth
    ∙ ap (λ (x : Page). put x e) (third ∙ ap (λ (x : Page). put x d) (second ∙ ap (λ (x : Page). put x b) first ∙ put_put p a b) ∙ put_put p (a ++ b) d)
    ∙ put_put p (a ++ b ++ d) e

pub returns-clause-written : goal.returns-clause-written
returns-clause-written c =
    let a = c.args in
    let one = fits (is_too_wide a.temperature_c a.figures) (row_texts a.temperature_c a.figures) c.in-Some.texts (sym c.in-Some.is ∙ c.row_texts.ensures) in
    four a.page.now _ _ _ _ c.put_cell.ensures c.put_cell-2.ensures c.put_cell-3.ensures c.put_cell-4.ensures
    ∙ ap (put a.page.now) (cells_are a.temperature_c a.figures (ap (λ (x : RowTexts). x.temperature) one.1) (ap (λ (x : RowTexts). x.density) one.1) (ap (λ (x : RowTexts). x.sound) one.1) (ap (λ (x : RowTexts). x.altitude) one.1) (narrow a.temperature_c a.figures one.0))
    ∙ ap (put_or_left a.page.now) (sym (by_width a.temperature_c a.figures one.0))
