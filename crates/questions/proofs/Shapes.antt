-- A shape letter by letter: the kinds that are said, and the arguments that are tried. Assumes nothing.
use Rattle.arithmetic.proofs.Kit.{◌≡◌, refl, sym, ap, ◌∙◌, ◌&&◌, List, [], ◌∷◌, ◌++◌, append_assoc, append-nil, ℕ, ◌+◌, ◌<◌, add-one, length, get_or, take, drop, drop-cons}
use lib.Seq.{take-suc}
use Rattle.pages.specs.declared.Page.{Page}
use Rattle.pages.specs.Pages.{put}
use Rattle.pages.proofs.Putting.{put_put}
use Rattle.questions.specs.Forms.{kind_text, kind_texts, is_of, are_from}

append : (s t : List ℕ) → kind_texts (s ++ t) ≡ kind_texts s ++ kind_texts t
unfolding kind_texts
append [] t = refl
append (b ∷ s) t = ap (λ (l : List ℕ). kind_text b ++ l) (append s t) ∙ sym (append_assoc (kind_text b) (kind_texts s) (kind_texts t))

pub one_more : (s : List ℕ) (i : ℕ) → i < length s → kind_texts (take (i + 1) s) ≡ kind_texts (take i s) ++ kind_text (get_or s i 0)
unfolding kind_texts
one_more s i h =
    let taken : take (i + 1) s ≡ take i s ++ (get_or s i 0 ∷ []) = rw add-one (take-suc s i 0 h) in
    ap kind_texts taken ∙ append (take i s) (get_or s i 0 ∷ []) ∙ ap (λ (l : List ℕ). kind_texts (take i s) ++ l) (append-nil (kind_text (get_or s i 0)))

pub no_kinds : kind_texts [] ≡ []
unfolding kind_texts
no_kinds = refl

pub passed : (ws : List (List ℕ)) (shape : List ℕ) (i : ℕ) → i < length shape
    → are_from ws (i + 1) (drop i shape) ≡ (is_of (get_or shape i 0) (get_or ws (i + 1) []) && are_from ws (i + 1 + 1) (drop (i + 1) shape))
unfolding are_from
passed ws shape i h = ap (are_from ws (i + 1)) (drop-cons shape i 0 h) ∙ ap (λ (n : ℕ). is_of (get_or shape i 0) (get_or ws (i + 1) []) && are_from ws (i + 1 + 1) (drop n shape)) (sym (add-one i))

-- four pieces on a page
pub four : (p : Page) (a b c d : List ℕ) → put (put (put (put p a) b) c) d ≡ put p (a ++ b ++ c ++ d)
four p a b c d = simp put_put
