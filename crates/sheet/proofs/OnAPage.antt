-- A text that fills a buffer from its start, and the buffer put at the start of a page. Assumes nothing.
use Rattle.sheet.proofs.Kit.{◌≡◌, ap, ◌∙◌, List, ◌++◌, ℕ, arith, length, sets-eq, over}
use Rattle.std.specs.Borrow.{MutBor}
use Rattle.arithmetic.proofs.Kit.{append-nil, drop_of_length-le}
use Rattle.pages.specs.declared.Page.{Page}
use Rattle.pages.specs.Pages.{placed, page_from, put}

pub fills : (text : List ℕ) {own : List ℕ} {b : MutBor (List ℕ)} {q : Page} → q ≡ page_from b 0 → length b.now ≡ length text → own ≡ placed b.now 0 text → own ≡ text
unfolding placed
fills text {own} {b} {q} begun size is =
    is ∙ sets-eq text b.now 0 (omega arith) ∙ ap (λ (l : List ℕ). text ++ l) (drop_of_length-le b.now (omega arith)) ∙ append-nil text

pub put_whole : (page text : List ℕ) {last : List ℕ} (own : List ℕ) (q : Page) {r : Page} → r ≡ put q own → own ≡ text → last ≡ placed page 0 own → last ≡ over page 0 text
put_whole page text own q done is e = e ∙ ap (placed page 0) is
