-- The name ends at the first `=`, and the number stands after the sign's three bytes. Assumes nothing.
use Rattle.arithmetic.proofs.Kit.{◌≡◌, ap, ap₂, ◌∙◌, List, ℕ, ◌+◌, ◌++◌, zero-add, arith, rules, length, take, drop, take_all, drop-drop}
use Rattle.arithmetic.specs.Ascii.{ascii}
use Rattle.pages.specs.Scan.{index_of}
use Rattle.pages.specs.Pages.{put}
use Rattle.pages.proofs.Putting.{puts}
use Rattle.park_text.specs.ParkLines.{as_typed, minus_message}
use Rattle.park_text.proofs.park_lines.put_hyphened.Goals as goal

abbrev message : List ℕ → List ℕ → List ℕ
message name number = ascii ": a minus sign that is no hyphen, type " ++ as_typed name ++ ascii "=-" ++ as_typed number ++ ascii "\n"

pub returns : goal.returns
unfolding minus_message
returns c =
    let w = c.args.word.now in
    let at : c.find-mark.result ≡ index_of 61 w = c.find-mark.ensures.found ∙ zero-add (index_of 61 (take (length w) w)) ∙ ap (index_of 61) (take_all (length w) w (omega arith)) in
    let number : c.later_bytes-2.result.now ≡ drop (index_of 61 w + 4) w =
    c.later_bytes-2.ensures ∙ ap (drop 4) c.later_bytes.ensures ∙ drop-drop 4 c.find-mark.result w ∙ ap (λ (n : ℕ). drop (n + 4) w) at in
    let name : c.first_bytes.result.now ≡ take (index_of 61 w) w = c.first_bytes.ensures ∙ ap (λ (n : ℕ). take n w) at in
    let all : c.put-3.new.self ≡ put c.args.page.now (message c.first_bytes.result.now c.later_bytes-2.result.now) = search (rules, puts) in
    all ∙ ap₂ (λ (a b : List ℕ). put c.args.page.now (message a b)) name number
