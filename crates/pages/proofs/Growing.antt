-- A text that grows on a page: one piece after another, nothing more, a page that is full, and a text that has room. Assumes nothing.
use Rattle.arithmetic.proofs.Kit.{◌≡◌, refl, sym, ap, ap₂, subst, ◌∙◌, Bool, true, false, List, [], ◌∷◌, ◌++◌, append_assoc, ℕ, suc, ◌+◌, ◌-◌, ◌≤◌, min, add-zero, arith, leb-true, leb-false, leb, length, take, drop, set, take-append-drop, drop_of_length-le, length-append, length-take, sets, length-take-le, take_at, drop-drop}
use borrow.Rule.Slice.PartMut.{put_mid}
use lib.Seq.{length-sets, sets-eq, set_out}
use Rattle.pages.specs.Pages.{placed, after, Appended, Holds}

-- ---- a page keeps its length, and is left where the position is past it
pub same_length : {page last : List ℕ} {at next : ℕ} {more : List ℕ} → Appended page at more last next → length last ≡ length page
unfolding placed
same_length {page} {at = at} {more = more} a = ap length a.all ∙ length-sets page at more

pub within : {page last : List ℕ} {at next : ℕ} {more : List ℕ} → Appended page at more last next → at ≤ length page → next ≤ length last
unfolding after
within a h = omega (arith, a.end, same_length a)

sets_out : (page : List ℕ) (at : ℕ) (more : List ℕ) → length page ≤ at → sets page at more ≡ page
sets_out page at [] h = refl
sets_out page at (b ∷ more) h = ap (λ (l : List ℕ). sets l (suc at) more) (set_out page at b h) ∙ sets_out page (suc at) more (omega arith)

pub full : (page : List ℕ) (at : ℕ) (more : List ℕ) → length page ≤ at → Appended page at more page at
unfolding placed after
full page at more h = record { all = sym (sets_out page at more h); end = omega arith }

pub no_more : (page : List ℕ) (at : ℕ) → Appended page at [] page at
unfolding placed after
no_more page at = record { all = refl; end = omega arith }

-- ---- one piece after another
sets_append : (page : List ℕ) (at : ℕ) (text more : List ℕ) → sets page at (text ++ more) ≡ sets (sets page at text) (at + length text) more
sets_append page at [] more = ap (λ (n : ℕ). sets page n more) (sym (add-zero at))
sets_append page at (b ∷ text) more =
    let shifted : suc at + length text ≡ at + suc (length text) = omega arith in
    sets_append (set page at b) (suc at) text more ∙ ap (λ (n : ℕ). sets (sets (set page at b) (suc at) text) n more) shifted

-- the second piece begins after the first, or past the page as well
placed_on : (page : List ℕ) (at : ℕ) (text more : List ℕ) → sets (sets page at text) (after page at text) more ≡ sets page at (text ++ more)
unfolding after
placed_on page at text more = go (leb (at + length text) (length page)) refl ∙ sym (sets_append page at text more)
  where
    middle : List ℕ
    middle = sets page at text

    go : (b : Bool) → leb (at + length text) (length page) ≡ b → sets middle (at + min (length text) (length page - at)) more ≡ sets middle (at + length text) more
    go true e = let room = leb-true (at + length text) (length page) e in ap (λ (n : ℕ). sets middle n more) (omega arith)
    go false e =
        let past = leb-false (at + length text) (length page) e in
        let same = length-sets page at text in
        sets_out middle (at + min (length text) (length page - at)) more (omega arith) ∙ sym (sets_out middle (at + length text) more (omega arith))

pub and_then : {page middle last : List ℕ} {at next end : ℕ} {text more : List ℕ} → Appended page at text middle next → Appended middle next more last end
    → Appended page at (text ++ more) last end
unfolding placed after
and_then {page} {at = at} {text = text} {more = more} a b = record {
  all = b.all ∙ ap₂ (λ (l : List ℕ) (n : ℕ). sets l n more) a.all a.end ∙ placed_on page at text more;
  end = omega (arith, b.end, a.end, same_length a, length-append text more);
}

pub same_more : {page last : List ℕ} {at next : ℕ} {text more : List ℕ} → text ≡ more → Appended page at text last next → Appended page at more last next
same_more {page} {last} {at} {next} e a = subst (λ (t : List ℕ). Appended page at t last next) e a

-- ---- what fits of a piece, copied into the page from `at` on
module _ (page : List ℕ) (at : ℕ) (more : List ℕ) (h : at ≤ length page) where
  room : ℕ
  room = length page - at

  part : List ℕ
  part = take room more

  -- what is past the page is not placed
  cut : sets page at more ≡ sets page at part
  unfolding room part
  cut = ap (sets page at) (sym (take-append-drop room more)) ∙ sets_append page at part (drop room more) ∙ go (leb (length more) room) refl
    where
      go : (b : Bool) → leb (length more) room ≡ b → sets (sets page at part) (at + length part) (drop room more) ≡ sets page at part
      go true e = ap (sets (sets page at part) (at + length part)) (drop_of_length-le more {i = room} (leb-true (length more) room e))
      go false e =
          let long = leb-false (length more) room e in
          sets_out (sets page at part) (at + length part) (drop room more) (omega (arith, length-sets page at part, length-take room more))

  -- the part written over as many bytes
  pub put_part : {source last : List ℕ} → source ≡ take (length page - at) more → last ≡ source
      → Appended page at more (put_mid at (at + length source - at) page last) (at + length source)
  unfolding placed after room part
  put_part {source} {last} e l =
      let short : length part ≤ room = omega (arith, length-take room more) in
      let taken : at + length part - at ≡ length part = omega arith in
      record {
        all = ap₂ (λ (s t : List ℕ). put_mid at (at + length s - at) page t) e (l ∙ e)
            ∙ ap (λ (k : ℕ). take at page ++ (part ++ drop k (drop at page))) taken
            ∙ ap (λ (s : List ℕ). take at page ++ (part ++ s)) (drop-drop (length part) at page)
            ∙ sym (append_assoc (take at page) part (drop (at + length part) page))
            ∙ sym (cut ∙ sets-eq part page at (omega arith));
        end = omega (arith, ap length e, length-take room more);
      }

-- ---- a text on a page from its first byte on, which has room for it
module _ {page last : List ℕ} {next : ℕ} {text : List ℕ} (a : Appended page 0 text last next) (fits : length text ≤ length page) where
  pub held-length : next ≡ length text
  unfolding after
  held-length = omega (arith, a.end)

  pub held : take next last ≡ text
  unfolding placed
  held = ap₂ take held-length (a.all ∙ sets-eq text page 0 (omega arith)) ∙ take_at text (drop (0 + length text) page) (length text) refl

  pub holds : Holds text last next
  holds = let end = within a (omega arith) in record { text = held; within = end; counted = sym (length-take-le next last end) }
