-- A text on a page piece by piece: two pieces are one after the other, and no bytes are nothing. Assumes nothing.
use Rattle.arithmetic.proofs.Kit.{◌≡◌, refl, sym, ap₂, List, [], ◌++◌, ℕ}
use Rattle.pages.specs.declared.Page.{Page}
use Rattle.pages.specs.Pages.{put, Appended}
use Rattle.pages.proofs.Growing.{and_then, no_more}

pub put_of : (p : Page) {text last : List ℕ} {next : ℕ} → Appended p.bytes.now p.at text last next
    → record p { bytes = record p.bytes { now = last }; at = next } ≡ put p text
unfolding put
put_of p a = ap₂ (λ (l : List ℕ) (n : ℕ). record p { bytes = record p.bytes { now = l }; at = n }) a.all a.end

pub put_put : (p : Page) (text more : List ℕ) → put (put p text) more ≡ put p (text ++ more)
unfolding put
put_put p text more = put_of p (and_then {page = p.bytes.now} {at = p.at} {text = text} (record { all = refl; end = refl }) (record { all = refl; end = refl }))

pub put_nothing : (p : Page) → put p [] ≡ p
put_nothing p = sym (put_of p (no_more p.bytes.now p.at))

pub ruleset puts = (put_put, put_nothing)
